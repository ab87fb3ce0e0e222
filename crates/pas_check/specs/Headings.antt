-- The heading of a routine (ISO 7185, 6.6.1 and 6.6.2): where the walk stands after it with what its block begins with, or the
-- fault of the first rule that it breaks.
use Rattle.std.specs.Prelude.{ℕ, ◌+◌, List, [], ◌∷◌, ◌++◌, length, flat_map, Option, Some, None, Ok}
use Rattle.std.specs.Option.{option_map}
use Rattle.px_base.specs.declared.place.Span.{Span}
use Rattle.pas_program.specs.declared.variable.VarKind.TheVariants as kind
use Rattle.pas_tree.specs.declared.block.Block.{Block}
use Rattle.pas_tree.specs.declared.block.Routine.{Routine}
use Rattle.pas_tree.specs.declared.block.RoutineBody.TheViews.{out-Routine}
use Rattle.pas_check.specs.declared.meaning.Meaning.TheVariants as means
use Rattle.pas_check.specs.declared.meaning.Variable.{Variable}
use Rattle.pas_check.specs.declared.heading.Function.{Function}
use Rattle.pas_check.specs.declared.heading.Opened.{Opened}
use Rattle.pas_check.specs.declared.heading.Owner.{Owner}
use Rattle.pas_check.specs.declared.built.Built.{Built}
use Rattle.pas_check.specs.Block.{names_in, section_names}
use Rattle.pas_check.specs.Built.{frame_of, variable_of, with_variable}
use Rattle.pas_check.specs.Declarations.{defined, led_by}
use Rattle.pas_check.specs.Expr.{claimed}
use Rattle.pas_check.specs.Formals.{Formed, section_declared}
use Rattle.pas_check.specs.Labels.{Labelled, unlabelled}
use Rattle.pas_check.specs.Names.{Names, noted_all}
use Rattle.pas_check.specs.Outcome.{Outcome, ◌>>=◌}
use Rattle.pas_check.specs.Routine.{heading_allowed, result_type}
use Rattle.pas_check.specs.Sight.{Heading, Sight, innermost}
use Rattle.pas_check.specs.Stage.{Stage}

-- ---- blocks inside one another

abbrev pub inside : Sight → Names → Labelled → Sight
inside v names l = record v { blocks = names ∷ v.blocks; labels = l ∷ v.labels }

abbrev pub around : {A : Type 0} → List A → List A
around [] = []
around (x ∷ xs) = xs

abbrev pub outside : Sight → Sight
outside v = record v { blocks = around v.blocks; labels = around v.labels }

-- ---- headings

-- the name of the routine is declared
unfoldable pub begun : Sight → Routine → Outcome Sight
begun v r = do
  free ← claimed v (out-Routine r).name
  low ← heading_allowed (out-Routine r) v.level
  Ok (defined v (out-Routine r).name (means.Routine (length v.headings) (out-Routine r).function))

-- the names of its block: its formals, and what the block declares, which may come later
abbrev pub later_names : Option Block → List Span
later_names None = []
later_names (Some b) = names_in b

abbrev pub own_names : Sight → Routine → Option Block → Names
own_names v r later = noted_all v.text (later_names later) (noted_all v.text (flat_map section_names (out-Routine r).formals) [])

-- the type of its result, where it has one
unfoldable pub result_read : Sight → Option Span → Outcome (Option ℕ)
result_read v None = Ok None
result_read v (Some name) = do
  t ← result_type v name
  Ok (Some t)

-- the variable for the result
abbrev pub result_of : ℕ → Span → ℕ → ℕ → Variable
result_of level name number t = record { number = number; at = name.start; level = level; kind = kind.Result; of_type = t }

-- the function that has a variable for its result, by its heading and the place of its name
abbrev pub function_of : ℕ → ℕ → Option Variable → Option Function
function_of head at None = None
function_of head at (Some x) = Some (record { head = head; at = at })

-- callers see the routine
abbrev pub headed : Sight → Heading → Sight
headed v h = record v { headings = v.headings ++ h ∷ [] }

-- the variable for the result, if there is one, with what is built after it
abbrev pub result_declared : Owner → Span → Option ℕ → Built → Option Variable × Built
result_declared owner name None b = (None, b)
result_declared owner name (Some t) b = (Some (result_of owner.level name (length b.vars) t), with_variable (variable_of name owner.routine kind.Result t) b)

abbrev pub number_of : Variable → ℕ
number_of x = x.number

abbrev pub type_of_variable : Variable → ℕ
type_of_variable x = x.of_type

-- What its block begins with: a frame for its variables, whether it is a function, what it declares, and the function whose
-- result it gives.
abbrev pub opened_with : Stage → Routine → Owner → Formed → Option Variable → Opened
opened_with s r owner f result = record {
  frame = frame_of (out-Routine r).name owner.routine (Some f.at.built.frame.routine) owner.level f.numbers (option_map number_of result);
  function = (out-Routine r).function;
  names = innermost f.at.seen.blocks;
  result = function_of (length s.seen.headings) (out-Routine r).name.start result;
}

abbrev pub headed_with : Stage → Routine → Owner → Formed → Option Variable × Built → Stage × Opened
headed_with s r owner f x =
    (record { seen = headed (outside f.at.seen) (record { routine = owner.routine; formals = f.formals; result = x.0 }); built = x.1 }, opened_with s r owner f x.0)

-- a routine by its number, in the block at hand
abbrev pub owner_in : Sight → ℕ → Owner
owner_in v number = record { routine = number; level = v.level + 1 }

-- before the formals, whose names belong to the routine's own block
abbrev pub unformed : Stage → Sight → Routine → ℕ → Option Block → Formed
unformed s u r number later = record { at = record s { seen = inside u (own_names u r later) (unlabelled number) }; formals = []; numbers = [] }

-- a heading that declares its name, of a routine by its number, with the block whose names belong to it
unfoldable pub heading_read : Stage → Routine → ℕ → Option Block → Outcome (Stage × Opened)
heading_read s r number later = do
  u ← begun s.seen r
  x ← led_by (section_declared (owner_in s.seen number)) (unformed s u r number later) (out-Routine r).formals
  t ← result_read (outside x.at.seen) (out-Routine r).result
  Ok (headed_with s r (owner_in s.seen number) x (result_declared (owner_in s.seen number) (out-Routine r).name t x.at.built))
