use Rattle.std.proofs.Common.{ap, sym, ◌∙◌}
use Rattle.environment.specs.Environments.{Environment, value_at}
use Rattle.abstract_expr.specs.Expressions.{indexed, target}
use Rattle.abstract_expr.specs.Scopes.{scope_of}
use Rattle.transfer_fwd.specs.Actions.{stored}
use Rattle.transfer_fwd.proofs.Stored.{stored_unreached}
use Rattle.transfer_fwd.proofs.action.Actions.copy.Goals as goal

pub returns-then-reachable-clause-value : goal.returns-then-reachable-clause-value
returns-then-reachable-clause-value c =
    let s = scope_of c.args.self.now.scope in
    let b = target s.bind c.args.to.now in
    let source = target s.bind c.args.from.now in
    c.store.ensures.value
    ∙ ap (λ x. stored x c.get-v.result c.refine_subscripts-2.new.env.env) c.target-then-reachable.ensures.value
    ∙ ap (λ v. stored b v c.refine_subscripts-2.new.env.env) (c.get-v.ensures.value ∙ ap (λ x. value_at c.refine_subscripts-2.new.env.env x.cell) c.target.ensures.value)
    ∙ ap (λ (l : Environment). stored b (value_at l source.cell) l) (c.refine_subscripts-2.ensures.value ∙ ap (indexed s c.args.from.now) c.refine_subscripts.ensures.value)

pub returns-else-reachable-clause-value : goal.returns-else-reachable-clause-value
returns-else-reachable-clause-value c =
    let s = scope_of c.args.self.now.scope in
    let b = target s.bind c.args.to.now in
    let source = target s.bind c.args.from.now in
    let left = c.refine_subscripts-2.new.env.env in
    stored_unreached b (value_at left source.cell) left (sym c.reachable.ensures.value ∙ c.if-reachable.false)
    ∙ ap (λ (l : Environment). stored b (value_at l source.cell) l) (c.refine_subscripts-2.ensures.value ∙ ap (indexed s c.args.from.now) c.refine_subscripts.ensures.value)
