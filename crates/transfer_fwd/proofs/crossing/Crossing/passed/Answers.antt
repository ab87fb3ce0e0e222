use Rattle.std.proofs.Common.{ap, sym, subst, ◌∙◌}
use Rattle.pas_program.specs.declared.expr.Actual.TheViews.{out-Actual}
use Rattle.abstract_expr.specs.Expressions.{Scope}
use Rattle.abstract_expr.specs.Scopes.{seen_of}
use Rattle.transfer_fwd.specs.Crossings.{passed_value}
use Rattle.transfer_fwd.specs.Standing.{ActualStands}
use Rattle.transfer_fwd.proofs.crossing.Crossing.passed.Goals as goal

pub passed-requires-clause-stands : goal.passed-requires-clause-stands
passed-requires-clause-stands c =
    let x = c.args.self.now in
    subst (λ p. ActualStands p (seen_of c.outside.result.scope) c.args.actual.now) (sym c.outside.ensures.program)
    (subst (λ r. ActualStands x.flow.now.program r c.args.actual.now) (sym c.outside.ensures.seen) c.requires.stands)

pub returns : goal.returns
returns c = c.passed.ensures ∙ ap (λ (s : Scope). passed_value s c.args.left.now.env c.args.formal (out-Actual c.args.actual.now)) c.outside.ensures.scope
