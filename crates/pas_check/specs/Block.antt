-- The names that a block declares (ISO 7185, 6.2.1), in the order in which they are noted before its walk begins; and how many
-- routines end in it.
use Rattle.std.specs.Prelude.{ℕ, suc, List, ◌++◌, map, flat_map}
use Rattle.std.specs.List.{sum}
use Rattle.px_base.specs.declared.place.Span.{Span}
use Rattle.pas_tree.specs.declared.block.Block.{Block}
use Rattle.pas_tree.specs.declared.block.ConstDecl.{ConstDecl}
use Rattle.pas_tree.specs.declared.block.Routine.{Routine}
use Rattle.pas_tree.specs.declared.block.Section.{Section}
use Rattle.pas_tree.specs.declared.block.TypeDecl.{TypeDecl}
use Rattle.pas_tree.specs.declared.block.VarDecl.{VarDecl}
use Rattle.pas_tree.specs.declared.block.RoutineBody.TheOpen.{Block-F, Routine-F, RoutineBody-F}
use Rattle.pas_tree.specs.declared.block.RoutineBody.TheFolds.{fold-Block, fold-Routine}
use Rattle.pas_tree.specs.declared.block.RoutineBody.TheViews.{out-Block, out-Routine}

abbrev pub const_name : ConstDecl → Span
const_name d = d.name

abbrev pub type_name : TypeDecl → Span
type_name d = d.name

abbrev pub var_names : VarDecl → List Span
var_names d = d.names

abbrev pub routine_name : Routine → Span
routine_name r = (out-Routine r).name

-- the names of a block
abbrev pub names_in : Block → List Span
names_in b = map const_name (out-Block b).consts ++ (map type_name (out-Block b).types ++ (flat_map var_names (out-Block b).vars ++ map routine_name (out-Block b).routines))

-- the names of formals
abbrev pub section_names : Section → List Span
section_names s = s.names

-- ---- statement parts

abbrev pub body_ends : RoutineBody-F ℕ ℕ ℕ → ℕ
body_ends (RoutineBody-F.Block inner) = suc inner
body_ends (RoutineBody-F.Word word) = 0

abbrev pub block_ends : Block-F ℕ ℕ ℕ → ℕ
block_ends b = sum b.routines

abbrev pub routine_ends : Routine-F ℕ ℕ ℕ → ℕ
routine_ends r = r.body

-- how many routines have their statement parts inside a block, without the block's own
unfoldable pub ends_inside : Block → ℕ
ends_inside = fold-Block ℕ ℕ ℕ body_ends block_ends routine_ends

-- the same with the routine's own, if it has a block
unfoldable pub ends_of : Routine → ℕ
ends_of = fold-Routine ℕ ℕ ℕ body_ends block_ends routine_ends
