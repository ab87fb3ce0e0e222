-- The control variable of a `for` (ISO 7185, 6.8.3.9).
use Rattle.std.specs.Prelude.{ℕ, Bool, ◌&&◌, ◌||◌, not, nat_eq, List, [], ◌∷◌, Option, Some, None, Ok, Err, if◌then◌else◌}
use Rattle.px_base.specs.declared.place.Span.{Span}
use Rattle.pas_check.specs.declared.fault.Fault.TheVariants.{Broken}
use Rattle.pas_check.specs.declared.fault.Rule.TheVariants as rule
use Rattle.pas_check.specs.declared.meaning.Meaning.{Meaning}
use Rattle.pas_check.specs.declared.meaning.Meaning.TheVariants as means
use Rattle.pas_check.specs.declared.meaning.Variable.{Variable}
use Rattle.pas_check.specs.Expr.{meant, result_inside}
use Rattle.pas_check.specs.Outcome.{Outcome, ◌>>=◌}
use Rattle.pas_check.specs.Rules.{is_no_control}
use Rattle.pas_check.specs.Sight.{Sight, host_at}

-- a variable of the variable part of the closest block, that no routine of the block threatens and no `for` around has
abbrev pub is_free : Sight → Variable → Bool
is_free v x = not (is_no_control v.level v.threatened x) && not (v.looping x.at)

abbrev pub control_host : Bool → Variable → ℕ → Option Bool → Outcome (Variable × Bool)
control_host free x at None = Err (Broken rule.Control at)
control_host free x at (Some host) = if free then Ok (x, host) else Err (Broken rule.Control at)

abbrev pub no_control : ℕ → Option Variable → Outcome (Variable × Bool)
no_control at None = Err (Broken rule.Kind at)
no_control at (Some x) = Err (Broken rule.Control at)

-- a function's name is no control variable inside its block, and a wrong kind of name outside
abbrev pub control_by : Sight → Meaning → ℕ → Outcome (Variable × Bool)
control_by v (means.Variable x) at = control_host (is_free v x) x at (host_at v x.of_type)
control_by v (means.Routine head function) at = no_control at (result_inside v head)
control_by v _ at = Err (Broken rule.Kind at)

-- the control variable at a name, with its host
abbrev pub controlled : Sight → Span → Outcome (Variable × Bool)
controlled v name = do
  m ← meant v name
  control_by v m name.start

-- a routine that is inside the one of a variable, by the place of its declaration, threatens it; so do several
abbrev pub threatens : Sight → ℕ → Sight
threatens v at = record v { threatened = λ n. nat_eq at n || v.threatened n }

abbrev pub all_threatened : Sight → List ℕ → Sight
all_threatened v [] = v
all_threatened v (at ∷ rest) = all_threatened (threatens v at) rest

-- the name of a function is assigned to, by its heading; so are several
abbrev pub assigned_to : Sight → ℕ → Sight
assigned_to v head = record v { assigned = λ n. nat_eq head n || v.assigned n }

abbrev pub all_assigned : Sight → List ℕ → Sight
all_assigned v [] = v
all_assigned v (head ∷ rest) = all_assigned (assigned_to v head) rest
