-- The names that a block declares beside its variables (ISO 7185, 6.2.1). They too hide variables of the blocks around.
use Rattle.std.specs.Prelude.{ℕ, Bool, nat_eq, List, [], ◌∷◌, ◌++◌, map, flat_map, if◌then◌else◌}
use Rattle.px_base.specs.declared.place.Span.{Span}
use Rattle.pas_program.specs.Tables.{holds_of}
use Rattle.pas_tree.specs.declared.block.Block.{Block}
use Rattle.pas_tree.specs.declared.block.RoutineBody.TheViews.{out-Block}
use Rattle.pas_check.specs.declared.scope.Declaration.{Declaration}
use Rattle.pas_check.specs.Block.{const_name, routine_name, type_name}
use Rattle.pas_check.specs.Names.{Names, found_in, name_at, noted_all}

-- whether the name at a span is declared there, by the first places of names
abbrev pub is_declaring : List ℕ → Names → Span → Bool
is_declaring text first span = holds_of (λ (d : Declaration). nat_eq d.at span.start) (found_in (name_at text span) first)

abbrev pub if_declaring : List ℕ → Names → Span → List Span
if_declaring text first span = if is_declaring text first span then span ∷ [] else []

-- of headings with one name, the first declares it, and a later one is that of its body
abbrev pub declared_routines : List ℕ → List Span → List Span
declared_routines text names = flat_map (if_declaring text (noted_all text names [])) names

-- the constants, types and routines of a block, in the order of the text
abbrev pub other_names : List ℕ → Block → List Span
other_names text b = map const_name (out-Block b).consts ++ (map type_name (out-Block b).types ++ declared_routines text (map routine_name (out-Block b).routines))
