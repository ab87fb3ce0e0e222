-- What stands at the statements of routines, and how often: labels and assertions. And when the constants of a `case` differ
-- from one another and from those of a set.
use Rattle.std.specs.Prelude.{◌≡◌, ℕ, suc, Bool, true, false, ◌&&◌, not, if◌then◌else◌, List, ℤ, Some, count_by, nat_eq, nat_lt, slice_get}
use Rattle.std.specs.HashSet.{HashSet, contains}
use Rattle.std.specs.List.{list_all}
use Rattle.std.specs.Ordering.{int_eq}
use Rattle.std.specs.declared.hash.FoldHasher.{FoldHasher}
use Rattle.std.specs.declared.hash.BuildHasherDefault.{BuildHasherDefault}
use Rattle.pas_program.specs.declared.routine.Routine.{Routine}
use Rattle.pas_program.specs.declared.statement.Arm.{Arm}
use Rattle.pas_program.specs.declared.statement.Body.{Body}
use Rattle.pas_program.specs.declared.statement.Body.TheFolds.{fold-Arm, fold-Body}
use Rattle.pas_program.specs.Labels.{all_differ, count_labelled}
use Rattle.pas_program.specs.Scopes.{is_the}
use Rattle.pas_program.specs.Size.{Inner, Worth, body_sum_step, arm_sum_step, statement_sum_step}
use Rattle.pas_program.specs.Tables.{holds_of}

-- a set of labels, and a set of constants
abbrev pub Labels : Type 0
Labels = HashSet ℕ (BuildHasherDefault FoldHasher)

abbrev pub Values : Type 0
Values = HashSet ℤ (BuildHasherDefault FoldHasher)

abbrev pub one_if : Bool → ℕ
one_if b = if b then 1 else 0

-- ---- labels

-- once where the set has the label
abbrev pub label_count : Labels → ℕ → ℕ
label_count s n = one_if (contains nat_eq s n)

-- whether the set of routine r has the label
abbrev pub has_label : List Labels → ℕ → ℕ → Bool
has_label sets r n = holds_of (λ (s : Labels). contains nat_eq s n) (slice_get sets r)

-- one statement of the routine has each label of its set
pub record LabelsAre (routines : List Routine) (sets : List Labels) : Type 0 where
  pub each : (r n : ℕ) (d : Routine) → slice_get routines r ≡ Some d → has_label sets r n ≡ true → count_labelled n d.body ≡ 1

-- a statement counts once where it has the label n
abbrev pub label_worth : ℕ → Worth
label_worth n = λ label asserts parts. if is_the n label then 1 else 0

-- ---- assertions

-- Each assertion has a mark: 0 while it stands nowhere, and then one more than the number of the routine in which it stands.
-- Once where the mark of assertion a passes the test.
abbrev pub mark_count : (ℕ → Bool) → List ℕ → ℕ → ℕ
mark_count test marks a = one_if (holds_of test (slice_get marks a))

-- so often where the mark passes the test
abbrev pub counted_if : Bool → ℕ → ℕ
counted_if true n = n
counted_if false n = 0

-- it stands somewhere
abbrev pub is_marked : ℕ → Bool
is_marked m = nat_lt 0 m

-- it stands in routine r
abbrev pub is_mark_of : ℕ → ℕ → Bool
is_mark_of r m = nat_eq m (suc r)

-- a statement counts as often as assertion a stands at it
abbrev pub assert_worth : ℕ → Worth
assert_worth a = λ label asserts parts. count_by (λ b. nat_eq a b) asserts

-- ---- the statements in a body and in an arm

abbrev pub body_over : Worth → Body → ℕ
body_over worth b = (fold-Body Inner ℕ ℕ body_sum_step arm_sum_step (statement_sum_step worth) b).total

abbrev pub arm_over : Worth → Arm → ℕ
arm_over worth = fold-Arm Inner ℕ ℕ body_sum_step arm_sum_step (statement_sum_step worth)

-- ---- constants

-- none of the constants stands twice or is in the set
abbrev pub fresh : Values → List ℤ → Bool
fresh s zs = list_all (λ z. not (contains int_eq s z)) zs && all_differ zs
