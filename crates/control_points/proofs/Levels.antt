-- What is folded over a statement, at the statement itself.
use Rattle.std.proofs.Common.{◌≡◌, ℕ, suc, Bool, [], ◌∷◌, ◌++◌, sym, ap, ◌∙◌}
use Rattle.pas_program.specs.declared.expr.Expr.{Expr}
use Rattle.pas_program.specs.declared.statement.Body.TheOpen.{Body-F}
use Rattle.pas_program.specs.declared.statement.Body.TheFolds.{fold-roll-Body, fold-roll-Statement}
use Rattle.pas_program.specs.declared.statement.Body.TheVariants as view
use Rattle.pas_program.specs.declared.statement.Body.TheViews.{out-Statement, roll-out-Statement}
use Rattle.pas_program.specs.declared.statement.Statement.{Statement}
use Rattle.control_points.specs.declared.point.PointKind.TheVariants as kind
use Rattle.control_points.specs.Called.{calls_of, own_calls}
use Rattle.control_points.specs.Calls.{Sites, expr_calls}
use Rattle.control_points.specs.Extents.{Extent, body_extent, body_extent_step, statement_extent, statement_extent_step}
use Rattle.control_points.specs.Marks.{Marks, before_mark, body_marks, body_marks_step, call_marks, mark, statement_marks, statement_marks_step}

pub marks_is : (r : ℕ) (s : Statement) → statement_marks r s ≡ before_mark r s.at s.asserts s.label ∷ body_marks r s.body s.at
marks_is r s = ap (statement_marks r) (sym (roll-out-Statement s)) ∙ fold-roll-Statement (ℕ → Marks) Marks Marks (body_marks_step r) (λ a. a.body) (statement_marks_step r) (out-Statement s)

pub extent_is : (s : Statement) → statement_extent s ≡ record { points = suc (body_extent s.body).points; sizes = suc (body_extent s.body).points ∷ (body_extent s.body).sizes }
extent_is s = ap statement_extent (sym (roll-out-Statement s)) ∙ fold-roll-Statement Extent Extent Extent body_extent_step (λ a. a.body) statement_extent_step (out-Statement s)

pub sizes_is : (s : Statement) → (statement_extent s).sizes ≡ suc (body_extent s.body).points ∷ (body_extent s.body).sizes
sizes_is s = ap (λ (x : Extent). x.sizes) (extent_is s)

pub points_is : (s : Statement) → (statement_extent s).points ≡ suc (body_extent s.body).points
points_is s = ap (λ (x : Extent). x.points) (extent_is s)

pub for_marks : (r at control bound : ℕ) (first : Expr) (down : Bool) (last : Expr) (body : Statement) → body_marks r (view.For control bound first down last body) at ≡ call_marks r (expr_calls first ++ expr_calls last) ++ (statement_marks r body ++ mark r kind.Step at ∷ [])
for_marks r at control bound first down last body =
    ap (λ b. body_marks r b at) (sym (view.rolls-For control bound first down last body))
    ∙ ap (λ f. f at) (fold-roll-Body (ℕ → Marks) Marks Marks (body_marks_step r) (λ a. a.body) (statement_marks_step r) (Body-F.For control bound first down last body))

pub for_calls : (control bound : ℕ) (first : Expr) (down : Bool) (last : Expr) (body : Statement) → own_calls (view.For control bound first down last body) ≡ expr_calls first ++ expr_calls last
for_calls control bound first down last body =
    ap own_calls (sym (view.rolls-For control bound first down last body))
    ∙ fold-roll-Body Sites (Unit {0}) (Unit {0}) calls_of (λ a. tt) (λ s. tt) (Body-F.For control bound first down last body)
