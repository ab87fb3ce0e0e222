-- What a test sees where the walk stands.
use Rattle.std.specs.Prelude.{ℕ, Bool, List, [], ◌∷◌, map, reverse, nat_eq, is_some, Option, Some, None, slice_get}
use Rattle.std.specs.HashMap.{HashMap}
use Rattle.std.specs.declared.hash.BuildHasherDefault.{BuildHasherDefault}
use Rattle.std.specs.declared.hash.FoldHasher.{FoldHasher}
use Rattle.px_base.specs.declared.place.Span.{Span}
use Rattle.pas_program.specs.declared.type_def.TypeDef.{TypeDef}
use Rattle.pas_program.specs.declared.type_def.TypeDef.TheVariants.{Scalar, Array}
use Rattle.indexmap.specs.IndexMap.{get}
use Rattle.pas_check.specs.declared.actual.Formal.{Formal}
use Rattle.pas_check.specs.declared.meaning.Variable.{Variable}
use Rattle.pas_check.specs.declared.heading.Head.{Head}
use Rattle.pas_check.specs.declared.scope.Declaration.{Declaration}
use Rattle.pas_check.specs.declared.scope.Scope.{Scope}
use Rattle.pas_check.specs.declared.seen.Seen.{Seen}
use Rattle.pas_check.specs.Labels.{Labelled, labelled}
use Rattle.pas_check.specs.Names.{Names, denoted, name_at}

-- a procedure or a function as its callers see it, by its number
pub record Heading : Type 0 where
  pub routine : ℕ
  pub formals : List Formal
  -- the variable for the result of a function
  pub result : Option Variable

pub record Sight : Type 0 where
  pub text : List ℕ
  -- what the blocks around declare, the innermost first
  pub blocks : List Names
  -- their labels
  pub labels : List Labelled
  -- the types that were read, by their numbers
  pub types : List TypeDef
  pub headings : List Heading
  -- how many routines are around
  pub level : ℕ
  -- whether it stands in an assertion
  pub asserting : Bool
  -- the control variables of the `for` statements around, by the places where they are declared
  pub looping : ℕ → Bool
  -- the variables that a routine inside their own threatens, by these places too, of the routines whose blocks have ended
  pub threatened : ℕ → Bool
  -- the functions whose names are assigned to, by their headings, in the statement parts that have ended
  pub assigned : ℕ → Bool

abbrev pub heading_of : Head → Heading
heading_of h = record { routine = h.routine; formals = h.formals.items; result = h.result }

abbrev pub names_around : List Scope → List Names
names_around scopes = map (λ (s : Scope). s.names) (reverse scopes)

-- whether a set of variables has the one of this number
abbrev pub has : HashMap ℕ (Unit {0}) (BuildHasherDefault FoldHasher) → ℕ → Bool
has set n = is_some (get nat_eq set n)

unfoldable pub sight : Seen → Sight
sight c = record {
  text = c.text.now;
  blocks = names_around c.scopes.items;
  labels = map labelled (reverse c.scopes.items);
  types = c.types.list.list;
  headings = map heading_of c.heads.items;
  level = c.level;
  asserting = c.asserting;
  looping = has c.looping;
  threatened = has c.threatened;
  assigned = has c.assigned;
}

-- what the name at a span denotes
abbrev pub denoted_at : Sight → Span → Option Declaration
denoted_at v name = denoted (name_at v.text name) v.blocks

abbrev pub innermost : List Names → Names
innermost [] = []
innermost (block ∷ around) = block

-- the host of a scalar type: whether it is Boolean
abbrev pub host_of : Option TypeDef → Option Bool
host_of (Some (Scalar boolean lo hi)) = Some boolean
host_of _ = None

abbrev pub host_at : Sight → ℕ → Option Bool
host_at v t = host_of (slice_get v.types t)

-- the index and the element type of an array type
abbrev pub parts_of : Option TypeDef → Option (ℕ × ℕ)
parts_of (Some (Array index element)) = Some (index, element)
parts_of _ = None

abbrev pub parts_at : Sight → ℕ → Option (ℕ × ℕ)
parts_at v t = parts_of (slice_get v.types t)
