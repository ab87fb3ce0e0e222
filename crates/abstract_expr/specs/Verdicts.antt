-- Whether a check cannot fail where an environment says what each cell may hold. It is judged on the environment at its point; the bounds of a
-- `for` are judged where it has a turn.
use Rattle.std.specs.Prelude.{◌≡◌, ℕ, zero, suc, ◌<◌, Bool, true, false, not, ◌&&◌, ◌||◌, List, [], ◌∷◌, map, length, Some, ℤ, pos, ◌+ℤ◌, ◌-ℤ◌, nat_abs, if◌then◌else◌}
use Rattle.std.specs.List.{list_all}
use Rattle.std.specs.Ordering.{int_eq}
use Rattle.px_base.specs.declared.operator.BinOp.{BinOp}
use Rattle.px_base.specs.declared.operator.BinOp.TheVariants as binary
use Rattle.pas_program.specs.declared.expr.Expr.{Expr}
use Rattle.interval.specs.declared.itv.Itv.{Itv}
use Rattle.interval.specs.Forward.{binary_answer, unary_answer}
use Rattle.interval.specs.Intervals.{is_empty, is_within}
use Rattle.environment.specs.Environments.{Environment, is_reachable, value_at}
use Rattle.alias_class.specs.Cells.{routine_of}
use Rattle.alias_class.specs.Outlines.{outline_of}
use Rattle.alias_class.specs.Tables.{Table}
use Rattle.control_points.specs.declared.flow.Flow.{Flow}
use Rattle.control_points.specs.Actions.{is_one_of}
use Rattle.control_points.specs.Fits.{routine_at}
use Rattle.control_points.specs.Flows.{chart_of}
use Rattle.control_points.specs.Judgements.{Judgement, Range, Subject, binary_operator, unary_operator, used_variable, typed_value, first_bound, last_bound, case_selector, read_number, read_value, write_width, function_result, asserted_condition, expr_judgements, constants_at, point_judgements}
use Rattle.abstract_expr.specs.declared.verdict.Verdict.{Verdict}
use Rattle.abstract_expr.specs.declared.verdict.Verdict.TheVariants.{Holds, MayFail}
use Rattle.abstract_expr.specs.Expressions.{Scope, Change, range_of, related, target, truth_of, value_in, widths}
use Rattle.abstract_expr.specs.Standing.{class_in, scope_in}

-- whether the n numbers from z on are constants of a `case`
abbrev pub are_constants : List ℤ → ℕ → ℤ → Bool
are_constants constants zero z = true
are_constants constants (suc n) z = is_one_of constants z && are_constants constants n (z +ℤ pos 1)

-- whether all numbers of an interval are
abbrev pub is_chosen : List ℤ → Itv → Bool
is_chosen constants x = is_empty x || are_constants constants (suc (nat_abs (x.hi -ℤ x.lo))) x.lo

-- how the bounds of a `for` lie where it has a turn
abbrev pub turn_relation : Bool → BinOp
turn_relation down = if down then binary.Ge else binary.Le

-- whether a value is true alone
abbrev pub is_true : Itv → Bool
is_true x = int_eq x.lo (pos 1) && int_eq x.hi (pos 1)

module _ (scope : Scope) where
  -- what is left where a `for` has a turn
  abbrev pub with_turn : Range → Change
  with_turn r = related scope (turn_relation r.down) r.first r.last (truth_of true)

  abbrev pub first_holds : Environment → Range → Bool
  first_holds env r = is_within (value_in scope.bind (with_turn r env) r.first) (range_of (scope.tables.type_at r.of_type))

  abbrev pub last_holds : Environment → Range → Bool
  last_holds env r = is_within (value_in scope.bind (with_turn r env) r.last) (range_of (scope.tables.type_at r.of_type))

  -- a check that judges no assertion cannot fail; `constants` are those of the `case` at its point
  abbrev pub part_holds : List ℤ → Environment → Subject → Bool
  part_holds constants env (binary_operator op left right) = (binary_answer op (value_in scope.bind env left) (value_in scope.bind env right)).holds
  part_holds constants env (unary_operator op operand) = (unary_answer op (value_in scope.bind env operand)).holds
  part_holds constants env (used_variable a) = not (value_at env (target scope.bind a).cell).undef
  part_holds constants env (typed_value n e) = is_within (value_in scope.bind env e) (range_of (scope.tables.type_at n))
  part_holds constants env (first_bound r) = first_holds env r
  part_holds constants env (last_bound r) = last_holds env r
  part_holds constants env (case_selector e) = is_chosen constants (value_in scope.bind env e)
  part_holds constants env (read_number a) = false
  part_holds constants env (read_value n a) = false
  part_holds constants env (write_width e) = is_within (value_in scope.bind env e) widths
  part_holds constants env (function_result v) = not (value_at env (scope.bind v).cell).undef
  part_holds constants env (asserted_condition e) = false

  -- the condition of an assertion is true alone, and none of the checks in it may fail
  abbrev pub condition_holds : Environment → Expr → Bool
  condition_holds env e =
      is_true (value_in scope.bind env e)
      && list_all (λ (j : Judgement). part_holds [] env j.subject) (expr_judgements scope.tables e)

  abbrev pub subject_holds : List ℤ → Environment → Subject → Bool
  subject_holds constants env (asserted_condition e) = condition_holds env e
  subject_holds constants env s = part_holds constants env s

  -- the check cannot fail
  abbrev pub check_holds : List ℤ → Environment → Judgement → Bool
  check_holds constants env j = not (is_reachable env) || subject_holds constants env j.subject

-- ---- the checks of a point

-- where the class of a number stands: in a routine of the program
pub record StandsAt (f : Flow) (t : Table) (class point : ℕ) : Type 0 where
  pub outline : t.outline ≡ outline_of f
  pub in_range : class < length t.classes
  pub routine : routine_at f.points point ≡ Some (routine_of t.outline (class_in t class))

-- whether each check of a point cannot fail, in order
abbrev pub holds_at : Flow → Table → ℕ → ℕ → Environment → List Bool
holds_at f t class point env =
    map (check_holds (scope_in f t class) (constants_at f.edges point) env) (point_judgements (chart_of f) point)

-- marks with those of the checks that may fail
abbrev pub marks_with : List Bool → List Bool → List Bool
marks_with (mark ∷ marks) (holds ∷ verdicts) = (mark || not holds) ∷ marks_with marks verdicts
marks_with marks _ = marks

abbrev pub verdict_of : Bool → Verdict
verdict_of holds = if holds then Holds else MayFail
