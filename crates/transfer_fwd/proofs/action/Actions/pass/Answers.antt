use Rattle.std.proofs.Common.{◌≡◌, ◌⊎◌, length, sym, ◌∙◌, inl, inr}
use Rattle.abstract_expr.specs.Scopes.{scope_of}
use Rattle.transfer_fwd.proofs.Passed.{refined_none}
use Rattle.transfer_fwd.proofs.action.Actions.pass.Goals as goal

pub returns-clause-value : goal.returns-clause-value
returns-clause-value c =
    let actuals = c.loop-actual.actual-iterator.a.rest.now in
    let formals = c.loop-actual.actual-iterator.b.rest.now in
    let none : (length actuals ≡ 0) ⊎ (length formals ≡ 0) = elim c.in-None.ensures.steps [ inl h ↦ inl h.1.0 | inr h ↦ inr h.1.0 ] in
    sym (refined_none (scope_of c.args.self.now.scope) actuals formals c.loop-actual.env.env none) ∙ c.loop-actual.invariant.refined
