-- What labels, control variables, the constants of a `case` and assertions ask beyond types and scopes.
use Rattle.std.specs.Prelude.{◌≡◌, ℕ, ◌<◌, Bool, true, false, ◌&&◌, not, List, [], ◌∷◌, map, length, ℤ, nat_eq, Some, slice_get, count_by, if◌then◌else◌}
use Rattle.std.specs.List.{sum, list_any}
use Rattle.std.specs.Ordering.{int_eq}
use Rattle.pas_program.specs.declared.routine.Assert.{Assert}
use Rattle.pas_program.specs.declared.routine.Routine.{Routine}
use Rattle.pas_program.specs.declared.statement.Statement.{Statement}
use Rattle.pas_program.specs.declared.variable.VarKind.TheVariants as kind
use Rattle.pas_program.specs.Each.{Rule, each_expr, each_statement}
use Rattle.pas_program.specs.Scopes.{is_the}
use Rattle.pas_program.specs.Size.{sum_over}
use Rattle.pas_program.specs.Tables.{Tables, holds_of, is_own}
use Rattle.pas_program.specs.Typed.{type_of_var}
use Rattle.pas_program.specs.Types.{is_scalar}

-- asks nothing
abbrev pub free_rule : Rule
free_rule = record { variable = λ v. true; call = λ r slot. true; invoke = λ r. true; loop = λ control bound. true; jump = λ r label. true; assertion = λ a. true; sequence = λ n. true; choice = λ constants. true }

-- how many statements have the label
abbrev pub count_labelled : ℕ → Statement → ℕ
count_labelled n = sum_over (λ label asserts parts. if is_the n label then 1 else 0)

-- how often the assertion stands at a statement
abbrev pub count_asserted : ℕ → Statement → ℕ
count_asserted a = sum_over (λ label asserts parts. count_by (λ b. nat_eq a b) asserts)

-- exactly one statement of the routine's body has the label of a `goto`
abbrev pub label_rule : List Routine → Rule
label_rule routines = record free_rule { jump = λ r label. holds_of (λ d. nat_eq (count_labelled label d.body) 1) (slice_get routines r) }

pub record LabelsStand (routines : List Routine) : Type 0 where
  pub each : (r : ℕ) (d : Routine) → slice_get routines r ≡ Some d → each_statement (label_rule routines) d.body ≡ true

-- a control variable is a scalar `Local` of the routine in which its `for` stands (ISO 7185, 6.8.3.9)
abbrev pub control_rule : Tables → ℕ → Rule
control_rule t r = record free_rule { loop = λ control bound. is_own t r kind.Local control && is_scalar (type_of_var t control) }

pub record ControlsAreLocal (t : Tables) (routines : List Routine) : Type 0 where
  pub each : (r : ℕ) (d : Routine) → slice_get routines r ≡ Some d → each_statement (control_rule t r) d.body ≡ true

-- whether no constant stands twice
abbrev pub all_differ : List ℤ → Bool
all_differ [] = true
all_differ (z ∷ zs) = not (list_any (λ y. int_eq z y) zs) && all_differ zs

-- the constants of one `case` differ (ISO 7185, 6.8.3.5)
abbrev pub choice_rule : Rule
choice_rule = record free_rule { choice = all_differ }

pub record ConstantsDiffer (routines : List Routine) : Type 0 where
  pub each : (r : ℕ) (d : Routine) → slice_get routines r ≡ Some d → each_statement choice_rule d.body ≡ true

-- an assertion has no call
abbrev pub call_free_rule : Rule
call_free_rule = record free_rule { call = λ r slot. false }

-- the assertions at the statements of routine r are its own
abbrev pub assertion_rule : List Assert → ℕ → Rule
assertion_rule asserts r = record free_rule { assertion = λ a. holds_of (λ d. nat_eq d.routine r) (slice_get asserts a) }

-- each assertion stands at exactly one statement, which is of its routine
pub record AssertsStand (routines : List Routine) (asserts : List Assert) : Type 0 where
  pub once : (a : ℕ) → a < length asserts → sum (map (λ (d : Routine). count_asserted a d.body) routines) ≡ 1
  pub own : (a : ℕ) (d : Assert) (e : Routine) → slice_get asserts a ≡ Some d → slice_get routines d.routine ≡ Some e → count_asserted a e.body ≡ 1
  pub here : (r : ℕ) (d : Routine) → slice_get routines r ≡ Some d → each_statement (assertion_rule asserts r) d.body ≡ true
  pub call_free : (a : ℕ) (d : Assert) → slice_get asserts a ≡ Some d → each_expr call_free_rule d.cond ≡ true
