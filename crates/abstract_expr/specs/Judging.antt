-- What becomes of a tally where judgements are judged, one after the other.
use Rattle.std.specs.Prelude.{◌≡◌, ℕ, Bool, true, false, List, map, ℤ, slice_get}
use Rattle.std.specs.Option.{option_map}
use Rattle.px_base.specs.declared.operator.BinOp.{BinOp}
use Rattle.px_base.specs.declared.operator.BinOp.TheVariants as binary
use Rattle.px_base.specs.declared.operator.UnOp.{UnOp}
use Rattle.px_base.specs.declared.operator.UnOp.TheVariants as unary
use Rattle.pas_program.specs.declared.expr.Expr.{Expr}
use Rattle.pas_program.specs.declared.routine.Assert.{Assert}
use Rattle.pas_program.specs.Checked.{numbers_in, tables}
use Rattle.pas_program.specs.Each.{Rule, each_expr, true_if_some}
use Rattle.pas_program.specs.Tables.{Tables, holds_of}
use Rattle.interval.specs.declared.itv.Itv.{Itv}
use Rattle.interval.specs.Intervals.{is_within}
use Rattle.environment.specs.Environments.{Environment}
use Rattle.control_points.specs.declared.edge.Act.{Act}
use Rattle.control_points.specs.declared.edge.Act.TheVariants as act
use Rattle.control_points.specs.Acts.{act_types_fit, each_act}
use Rattle.control_points.specs.Checking.{is_narrow}
use Rattle.control_points.specs.Judgements.{Judgement, Judgements, Range, constants_at, expr_judgements, result_of}
use Rattle.abstract_expr.specs.declared.bounds.Bounds.{Bounds}
use Rattle.abstract_expr.specs.declared.judge.Judge.{Judge}
use Rattle.abstract_expr.specs.declared.scope.Scope as code
use Rattle.abstract_expr.specs.Expressions.{Scope, range_of}
use Rattle.abstract_expr.specs.Scopes.{program_of, scope_of, seen_of}
use Rattle.abstract_expr.specs.Tallies.{Tallied, after_verdict_if, after_verdicts}
use Rattle.abstract_expr.specs.Verdicts.{subject_holds}

-- after the verdicts on judgements in an environment, where a `case` has these constants
abbrev pub after_judging : Scope → List ℤ → Environment → Judgements → Tallied → Tallied
after_judging scope constants env js t = after_verdicts (map (λ (j : Judgement). subject_holds scope constants env j.subject) js) t

-- the same at a point, in a scope of the code
abbrev pub after_point : code.Scope → ℕ → Environment → Judgements → Tallied → Tallied
after_point s point env js t = after_judging (scope_of s) (constants_at s.flow.now.edges point) env js t

-- ---- of a judge

abbrev pub known : Judge → Tables
known j = tables (program_of j.scope)

abbrev pub seen_by : Judge → Rule
seen_by j = seen_of j.scope

abbrev pub after_parts : Judge → Judgements → Tallied → Tallied
after_parts j js t = after_point j.scope j.point j.env.now.env js t

-- an expression beside its judgements
abbrev pub beside : Tables → Expr → Expr × Judgements
beside t e = (e, expr_judgements t e)

-- after the verdict on a number for a variable of type n, where it has a check
abbrev pub after_typed : Tables → ℕ → Itv → Tallied → Tallied
after_typed t n x tally = after_verdict_if (is_narrow (t.type_at n)) tally (is_within x (range_of (t.type_at n)))

-- ---- which operators have a check

abbrev pub is_checked : BinOp → Bool
is_checked binary.Add = true
is_checked binary.Sub = true
is_checked binary.Mul = true
is_checked binary.Div = true
is_checked binary.Mod = true
is_checked _ = false

abbrev pub is_checked_alone : UnOp → Bool
is_checked_alone unary.Sqr = true
is_checked_alone unary.SuccInt = true
is_checked_alone unary.PredInt = true
is_checked_alone unary.SuccBool = true
is_checked_alone unary.PredBool = true
is_checked_alone _ = false

-- ---- what stands at a point

-- an action that is not the beginning of a `for`, and no return
abbrev pub is_plain : Act → Bool
is_plain (act.Enter control bound first down last) = false
is_plain (act.Bypass control bound first down last) = false
is_plain (act.Return call) = false
is_plain _ = true

-- an action of the program whose variables are seen
pub record ActStands (s : code.Scope) (a : Act) : Type 0 where
  pub numbers : each_act (numbers_in (program_of s)) a ≡ true
  pub types : act_types_fit (tables (program_of s)) a ≡ true
  pub seen : each_act (seen_of s) a ≡ true

-- an assertion of the program whose variables are seen
abbrev pub assertion_stands : code.Scope → ℕ → Bool
assertion_stands s a = holds_of (λ (d : Assert). each_expr (seen_of s) d.cond) (slice_get (program_of s).asserts a)

-- the variable for the result, if there is one, is seen
abbrev pub result_stands : code.Scope → ℕ → Bool
result_stands s routine = true_if_some (option_map (seen_of s).variable (result_of (tables (program_of s)) routine))

-- the bounds of a `for` of the code
abbrev pub turns_of : Bounds → Range
turns_of b = record { of_type = b.of_type; first = b.first.now; down = b.down; last = b.last.now }
