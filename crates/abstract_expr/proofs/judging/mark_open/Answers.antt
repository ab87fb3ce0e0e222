use Rattle.std.proofs.Common.{ℕ, ap, ◌∙◌}
use Rattle.control_points.specs.declared.flow.Flow.{Flow}
use Rattle.alias_class.specs.Tables.{Table}
use Rattle.abstract_expr.specs.Verdicts.{holds_at, marks_with}
use Rattle.abstract_expr.proofs.judging.mark_open.Goals as goal

pub returns-clause-marks : goal.returns-clause-marks
returns-clause-marks c =
    let s = c.scope_of-scope.result in
    let e = c.scope_of-scope.ensures in
    let env = c.args.env.now.env in
    let p = c.args.point in
    c.mark_from.ensures.marks
    ∙ ap (λ (h : Flow). marks_with c.args.marks.now (holds_at h s.names.classes.now s.names.class p env)) e.flow
    ∙ ap (λ (u : Table). marks_with c.args.marks.now (holds_at c.args.flow.now u s.names.class p env)) e.classes
    ∙ ap (λ (n : ℕ). marks_with c.args.marks.now (holds_at c.args.flow.now c.args.classes.now n p env)) e.class
