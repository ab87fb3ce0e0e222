-- Statements without statements in them, or the first rule that they break (ISO 7185, 6.8.2 and 6.9).
use Rattle.std.specs.Prelude.{ℕ, ℤ, Bool, false, not, List, [], ◌∷◌, Option, Some, None, Ok, Err}
use Rattle.px_base.specs.declared.place.Span.{Span}
use Rattle.pas_tree.specs.declared.constant.Constant.{Constant}
use Rattle.pas_check.specs.declared.fault.Fault.TheVariants.{Broken}
use Rattle.pas_check.specs.declared.fault.Rule.TheVariants as rule
use Rattle.pas_check.specs.declared.meaning.Meaning.{Meaning}
use Rattle.pas_check.specs.declared.meaning.Meaning.TheVariants as means
use Rattle.pas_check.specs.declared.meaning.Variable.{Variable}
use Rattle.pas_check.specs.Constant.{constant}
use Rattle.pas_check.specs.Expr.{Found, Given, called_with, callee_at, expression_by, fits, is_host, meant, no_width, reached, result_inside, threatened}
use Rattle.pas_check.specs.Outcome.{Outcome, ◌>>=◌, unless}
use Rattle.pas_check.specs.Rules.{is_double, is_other_host}
use Rattle.pas_check.specs.Sight.{Sight, host_at}

-- ---- assignment

abbrev pub result_target : ℕ → ℕ → Option Variable → Outcome (Variable × Option ℕ)
result_target head at None = Err (Broken rule.Kind at)
result_target head at (Some own) = Ok (own, Some head)

-- a variable, or inside a function's block its result
abbrev pub target_by : Sight → Meaning → ℕ → Outcome (Variable × Option ℕ)
target_by v (means.Variable x) at = Ok (x, None)
target_by v (means.Routine head function) at = result_target head at (result_inside v head)
target_by v _ at = Err (Broken rule.Kind at)

unfoldable pub value_assigned : Sight → ℕ → Found → Outcome (Unit {0})
value_assigned v t e = do
  own ← e.value
  unless (not (fits v own t)) rule.Type e.first (Ok tt)

-- an assignment, with the function whose result is assigned to
unfoldable pub assigned : Sight → Span → List Found → Found → Outcome (Option ℕ)
assigned v name subscripts value = do
  m ← meant v name
  target ← target_by v m name.start
  place ← reached v target.0 subscripts
  free ← threatened v place.itself name.start
  done ← value_assigned v place.of_type value
  Ok target.1

-- ---- `case`

-- a constant that the selector's host has and that stands not among those before
abbrev pub case_constant : Sight → List ℤ → Bool → Constant → Outcome ℤ
case_constant v before boolean c = do
  x ← constant v c
  unless (is_other_host boolean x.boolean) rule.Type c.span.start (unless (is_double x.value before) rule.CaseConstant c.span.start (Ok x.value))

-- ---- procedure calls

unfoldable pub procedure_call : Sight → ℕ → ℕ → List Given → Outcome (Unit {0})
procedure_call v head at actuals = called_with v head at actuals (callee_at v head)

-- a parameter of `read`: a variable of the host integer
unfoldable pub read_into : Sight → Given → Outcome (Unit {0})
read_into v a = do
  e ← expression_by a.value
  place ← e.variable
  unless (not (is_host (host_at v place.of_type) false)) rule.Type e.first
      (do free ← threatened v place.itself e.first; no_width a.width)

abbrev pub all_read : Sight → List Given → Outcome (Unit {0})
all_read v [] = Ok tt
all_read v (a ∷ actuals) = do
  done ← read_into v a
  all_read v actuals
