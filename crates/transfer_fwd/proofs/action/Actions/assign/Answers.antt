use Rattle.std.proofs.Common.{ap, ◌∙◌}
use Rattle.environment.specs.Environments.{Environment}
use Rattle.abstract_expr.specs.Expressions.{indexed, target}
use Rattle.abstract_expr.specs.Scopes.{scope_of}
use Rattle.transfer_fwd.specs.Actions.{in_type, stored, value_for}
use Rattle.transfer_fwd.proofs.action.Actions.assign.Goals as goal

pub returns-clause-value : goal.returns-clause-value
returns-clause-value c =
    let s = scope_of c.args.self.now.scope in
    let a = c.args.to.now in
    let e = c.args.value.now in
    let b = target s.bind a in
    let left = indexed s a c.args.env.now.env in
    let n = c.access_type-of_type.result in
    c.store.ensures.value
    ∙ ap (λ x. stored x c.value_for-v.result c.in_type.new.env.env) c.target.ensures.value
    ∙ ap (λ v. stored b v c.in_type.new.env.env) c.value_for-v.ensures
    ∙ ap (λ (l : Environment). stored b (value_for s n e l) l) (c.in_type.ensures.value ∙ ap (in_type s n e) c.refine_subscripts.ensures.value)
    ∙ ap (λ m. stored b (value_for s m e (in_type s m e left)) (in_type s m e left)) c.access_type-of_type.ensures.value
