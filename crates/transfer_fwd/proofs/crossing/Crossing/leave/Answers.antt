use Rattle.std.proofs.Common.{ap, sym, subst, ◌∙◌}
use Rattle.control_points.specs.Checking.{formals_of}
use Rattle.abstract_expr.specs.Expressions.{Scope}
use Rattle.abstract_expr.specs.Scopes.{seen_of}
use Rattle.transfer_fwd.specs.Crossings.{actuals_refined}
use Rattle.transfer_fwd.specs.Standing.{ActualsStand}
use Rattle.transfer_fwd.proofs.crossing.Crossing.leave.Goals as goal

pub pass-requires-clause-stand : goal.pass-requires-clause-stand
pass-requires-clause-stand c =
    let x = c.args.self.now in
    subst (λ p. ActualsStand p (seen_of c.outside.result.scope) x.routine x.actuals.now) (sym c.outside.ensures.program)
    (subst (λ r. ActualsStand x.flow.now.program r x.routine x.actuals.now) (sym c.outside.ensures.seen) c.stands.ensures.actuals)

pub returns-clause-value : goal.returns-clause-value
returns-clause-value c =
    let x = c.args.self.now in
    c.pass.ensures.value ∙ ap (λ (s : Scope). actuals_refined s x.actuals.now (formals_of (s.tables.head_at x.routine)) c.args.env.now.env) c.outside.ensures.scope
