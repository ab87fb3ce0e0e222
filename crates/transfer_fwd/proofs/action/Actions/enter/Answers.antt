use Rattle.std.proofs.Common.{◌≡◌, ℕ, true, ap, ◌∙◌}
use Rattle.environment.specs.Environments.{Environment}
use Rattle.abstract_expr.specs.Scopes.{scope_of}
use Rattle.transfer_fwd.specs.Actions.{entered_if, in_type, stored, value_for}
use Rattle.transfer_fwd.proofs.action.Actions.enter.Goals as goal

pub returns-clause-value : goal.returns-clause-value
returns-clause-value c =
    let s = scope_of c.args.self.now.scope in
    let first = c.args.range.now.first.now in
    let last = c.args.range.now.last.now in
    let control = s.bind c.args.control in
    let bound = s.bind c.args.bound in
    let env = entered_if s true first c.args.range.now.down last c.args.env.now.env in
    let n = c.var_type-of_type.result in
    let left = c.in_type-2.new.env.env in
    let refined : left ≡ in_type s n last (in_type s n first env) =
    c.in_type-2.ensures.value ∙ ap (in_type s n last) (c.in_type.ensures.value ∙ ap (in_type s n first) c.enter_if.ensures.value) in
    let both : ℕ → Environment → Environment = λ m l. stored bound (value_for s m last l) (stored control (value_for s m first l) l) in
    c.store-2.ensures.value
    ∙ ap (λ b. stored b c.value_for-last.result c.store.new.env.env) c.bind-2.ensures.value
    ∙ ap (λ v. stored bound v c.store.new.env.env) c.value_for-last.ensures
    ∙ ap (stored bound (value_for s n last left)) (c.store.ensures.value ∙ ap (λ b. stored b c.value_for-first.result left) c.bind.ensures.value ∙ ap (λ v. stored control v left) c.value_for-first.ensures)
    ∙ ap (both n) refined
    ∙ ap (λ m. both m (in_type s m last (in_type s m first env))) c.var_type-of_type.ensures.value
