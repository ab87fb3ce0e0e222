-- The formal parameters of a routine (ISO 7185, 6.6.3.1), or the first rule that is broken.
use Rattle.std.specs.Prelude.{ℕ, Bool, List, [], ◌∷◌, ◌++◌, length, Ok, if◌then◌else◌}
use Rattle.px_base.specs.declared.place.Span.{Span}
use Rattle.pas_program.specs.declared.variable.VarKind.{VarKind}
use Rattle.pas_program.specs.declared.variable.VarKind.TheVariants as kind
use Rattle.pas_tree.specs.declared.block.Section.{Section}
use Rattle.pas_check.specs.declared.actual.Formal.{Formal}
use Rattle.pas_check.specs.declared.heading.Formals.{Formals}
use Rattle.pas_check.specs.declared.heading.Owner.{Owner}
use Rattle.pas_check.specs.declared.meaning.Meaning.TheVariants as means
use Rattle.pas_check.specs.Built.{variable_of, with_variable}
use Rattle.pas_check.specs.Declarations.{defined, led, led_by, name_claimed}
use Rattle.pas_check.specs.Outcome.{Outcome, ◌>>=◌}
use Rattle.pas_check.specs.Stage.{Stage}
use Rattle.pas_check.specs.TypeExpr.{named_type}

abbrev pub kind_of : Bool → VarKind
kind_of by_var = if by_var then kind.Var else kind.Value

-- where the walk stands, the formals so far, and the numbers of their variables
pub record Formed : Type 0 where
  pub at : Stage
  pub formals : List Formal
  pub numbers : List ℕ

-- what the walk keeps of them
abbrev pub formed_by : Stage → Formals → Formed
formed_by s f = record { at = s; formals = f.list.items; numbers = f.numbers }

-- a formal of a routine, whose variable gets the next number
unfoldable pub formal_declared : Owner → Formal → Formed → Span → Formed
formal_declared owner formal s name = record {
  at = record {
    seen = defined s.at.seen name (means.Variable (record { number = length s.at.built.vars; at = name.start; level = owner.level; kind = kind_of formal.by_var; of_type = formal.of_type }));
    built = with_variable (variable_of name owner.routine (kind_of formal.by_var) formal.of_type) s.at.built;
  };
  formals = s.formals ++ formal ∷ [];
  numbers = s.numbers ++ length s.at.built.vars ∷ [];
}

-- a section of formals
unfoldable pub section_declared : Owner → Formed → Section → Outcome Formed
section_declared owner s d = do
  u ← led_by name_claimed s.at.seen d.names
  t ← named_type u d.of_type
  Ok (led (formal_declared owner (record { by_var = d.by_var; of_type = t })) (record s { at = record s.at { seen = u } }) d.names)
