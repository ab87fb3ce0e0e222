use Rattle.std.proofs.Common.{Some, ap, sym, ◌∙◌}
use Rattle.environment.specs.Environments.{value_at}
use Rattle.alias_class.specs.declared.bind.Bind.{Bind}
use Rattle.pas_program.specs.declared.expr.Actual.{Actual}
use Rattle.pas_program.specs.declared.expr.Actual.TheViews.{out-Actual}
use Rattle.abstract_expr.specs.Scopes.{scope_of}
use Rattle.transfer_fwd.specs.Actions.{value_for}
use Rattle.transfer_fwd.specs.Crossings.{passed_value}
use Rattle.transfer_fwd.proofs.action.Actions.passed.Goals as goal

pub returns-in-Value : goal.returns-in-Value
unfolding out-Actual denote.Hole.Carrier.out
returns-in-Value c =
    let s = scope_of c.args.self.now.scope in
    let left = c.args.left.now.env in
    ap Some (c.value_for.ensures ∙ ap (λ n. value_for s n c.in-Value.e left) c.var_type.ensures.value)
    ∙ ap (λ (a : Actual). passed_value s left c.args.formal (out-Actual a)) (sym c.in-Value.is)

pub returns-in-Whole : goal.returns-in-Whole
unfolding out-Actual denote.Hole.Carrier.out
returns-in-Whole c =
    let s = scope_of c.args.self.now.scope in
    let left = c.args.left.now.env in
    ap Some (c.get.ensures.value ∙ ap (λ (b : Bind). value_at left b.cell) c.target.ensures.value)
    ∙ ap (λ (a : Actual). passed_value s left c.args.formal (out-Actual a)) (sym c.in-Whole.is)
