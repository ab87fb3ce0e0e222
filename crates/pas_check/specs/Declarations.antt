-- The parts of a block that declare labels, constants, types and variables (ISO 7185, 6.2 to 6.5): what is seen after them, or the
-- first rule that is broken.
use Rattle.std.specs.Prelude.{ℕ, ℤ, Bool, List, [], ◌∷◌, ◌++◌, length, Ok, slice_get}
use Rattle.px_base.specs.declared.place.Span.{Span}
use Rattle.pas_program.specs.declared.type_def.TypeDef.{TypeDef}
use Rattle.pas_program.specs.declared.type_def.TypeDef.TheVariants.{Scalar, Array}
use Rattle.pas_program.specs.declared.variable.VarKind.TheVariants as kind
use Rattle.pas_program.specs.Types.{count_values, layout}
use Rattle.pas_tree.specs.declared.block.ConstDecl.{ConstDecl}
use Rattle.pas_tree.specs.declared.block.TypeDecl.{TypeDecl}
use Rattle.pas_tree.specs.declared.block.VarDecl.{VarDecl}
use Rattle.pas_tree.specs.declared.constant.Constant.{Constant}
use Rattle.pas_tree.specs.declared.type_expr.TypeExpr.{TypeExpr}
use Rattle.pas_tree.specs.declared.type_expr.TypeExpr.TheOpen.{TypeExpr-F}
use Rattle.pas_tree.specs.declared.type_expr.TypeExpr.TheFolds.{fold-TypeExpr}
use Rattle.pas_check.specs.declared.fault.Rule.TheVariants as rule
use Rattle.pas_check.specs.declared.meaning.Meaning.{Meaning}
use Rattle.pas_check.specs.declared.meaning.Meaning.TheVariants as means
use Rattle.pas_check.specs.Built.{with_own}
use Rattle.pas_check.specs.Constant.{constant}
use Rattle.pas_check.specs.Expr.{claimed}
use Rattle.pas_check.specs.Names.{Names, ended, name_at}
use Rattle.pas_check.specs.Outcome.{Outcome, ◌>>=◌, needed, unless}
use Rattle.pas_check.specs.Rules.{has_too_many, is_empty_range, is_other_host}
use Rattle.pas_check.specs.Sight.{Sight, host_at}
use Rattle.pas_check.specs.Stage.{Stage}
use Rattle.pas_check.specs.TypeExpr.{named_type}

-- the innermost block, after a change of what it declares
abbrev pub in_innermost : (Names → Names) → List Names → List Names
in_innermost change [] = []
in_innermost change (block ∷ around) = change block ∷ around

-- the declaration of the name at a span has ended
unfoldable pub defined : Sight → Span → Meaning → Sight
defined v name m = record v { blocks = in_innermost (ended (name_at v.text name) name.start m) v.blocks }

-- declarations one after the other, each by what there is after those before
abbrev pub led_by : {S A : Type 0} → (S → A → Outcome S) → S → List A → Outcome S
led_by step v [] = Ok v
led_by step v (d ∷ rest) = do
  w ← step v d
  led_by step w rest

-- the same of declarations that break no rule
abbrev pub led : {S A : Type 0} → (S → A → S) → S → List A → S
led step v [] = v
led step v (d ∷ rest) = led step (step v d) rest

-- ---- constants

unfoldable pub const_declared : Sight → ConstDecl → Outcome Sight
const_declared v d = do
  done ← claimed v d.name
  x ← constant v d.value
  Ok (defined v d.name (means.Constant x))

-- ---- types

-- a type by its number among the types, and all of them
abbrev pub Read : Type 0
Read = ℕ × List TypeDef

-- a new type gets the next number
abbrev pub new_type : List TypeDef → TypeDef → Read
new_type types t = (length types, types ++ t ∷ [])

-- a subrange, whose first constant stands at a place
abbrev pub range_of : List TypeDef → Bool → ℤ → ℤ → ℕ → Outcome Read
range_of types boolean lo hi at = unless (is_empty_range lo hi) rule.Range at (Ok (new_type types (Scalar boolean lo hi)))

-- an array, whose word stands at a place
abbrev pub array_of : List TypeDef → ℕ → ℕ → ℕ → Outcome Read
array_of types index part at =
    unless (has_too_many (count_values (slice_get types index)) (layout types part).count) rule.Elements at (Ok (new_type types (Array index part)))

-- an array over index types, the innermost first: an array of arrays
abbrev pub arrays_of : List TypeDef → List ℕ → ℕ → ℕ → Outcome Read
arrays_of types [] part at = Ok (part, types)
arrays_of types (index ∷ outer) part at = do
  array ← array_of types index part at
  arrays_of array.1 outer array.0 at

-- what the types are at a sight
abbrev pub with_types : Sight → List TypeDef → Sight
with_types v types = record v { types = types }

-- the test of a type, by what is seen before it, and its first token
pub record TypeTest : Type 0 where
  pub first : ℕ
  pub read : Sight → Outcome Read

unfoldable pub subrange : Sight → Constant → Constant → Outcome Read
subrange v lo hi = do
  low ← constant v lo
  high ← constant v hi
  unless (is_other_host low.boolean high.boolean) rule.Type hi.span.start (range_of v.types low.boolean low.value high.value lo.span.start)

-- an index type is a scalar
unfoldable pub index_type : Sight → TypeTest → Outcome Read
index_type v t = do
  r ← t.read v
  host ← needed (host_at (with_types v r.1) r.0) rule.Type t.first
  Ok r

-- index types in their order, put before those that were read
abbrev pub index_types : Sight → List TypeTest → List ℕ → Outcome (List ℕ × List TypeDef)
index_types v [] before = Ok (before, v.types)
index_types v (t ∷ tests) before = do
  r ← index_type v t
  index_types (with_types v r.1) tests (r.0 ∷ before)

unfoldable pub array_read : Sight → List TypeTest → TypeTest → ℕ → Outcome Read
array_read v indexes part at = do
  is ← index_types v indexes []
  r ← part.read (with_types v is.1)
  arrays_of r.1 is.0 r.0 at

unfoldable pub name_read : Sight → Span → Outcome Read
name_read v name = do
  t ← named_type v name
  Ok (t, v.types)

abbrev pub type_step : TypeExpr-F TypeTest → TypeTest
type_step (TypeExpr-F.Name name) = record { first = name.start; read = λ v. name_read v name }
type_step (TypeExpr-F.Range lo hi span) = record { first = span.start; read = λ v. subrange v lo hi }
type_step (TypeExpr-F.Array indexes part span) = record { first = span.start; read = λ v. array_read v indexes part span.start }

unfoldable pub type_test : TypeExpr → TypeTest
type_test = fold-TypeExpr TypeTest type_step

unfoldable pub type_declared : Sight → TypeDecl → Outcome Sight
type_declared v d = do
  done ← claimed v d.name
  r ← (type_test d.of_type).read v
  Ok (defined (with_types v r.1) d.name (means.Type r.0))

-- ---- variables

-- a name whose type is still to be read
unfoldable pub name_claimed : Sight → Span → Outcome Sight
name_claimed v name = do
  done ← claimed v name
  Ok (defined v name means.Untyped)

-- a variable of the block, of a type, which gets the next number
unfoldable pub local_declared : ℕ → Stage → Span → Stage
local_declared t s name = record {
  seen = defined s.seen name (means.Variable (record { number = length s.built.vars; at = name.start; level = s.seen.level; kind = kind.Local; of_type = t }));
  built = with_own name kind.Local t s.built;
}

-- a section of a variable part
unfoldable pub var_declared : Stage → VarDecl → Outcome Stage
var_declared s d = do
  u ← led_by name_claimed s.seen d.names
  r ← (type_test d.of_type).read u
  Ok (led (local_declared r.0) (record s { seen = with_types u r.1 }) d.names)
