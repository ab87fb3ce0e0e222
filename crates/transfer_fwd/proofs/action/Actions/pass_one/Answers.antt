use Rattle.std.proofs.Common.{ap, sym, ◌∙◌, inl, inr}
use Rattle.pas_program.specs.declared.expr.Actual.{Actual}
use Rattle.pas_program.specs.declared.expr.Actual.TheViews.{out-Actual}
use Rattle.abstract_expr.specs.Scopes.{scope_of}
use Rattle.transfer_fwd.specs.Actions.{in_type}
use Rattle.transfer_fwd.specs.Crossings.{actual_refined}
use Rattle.transfer_fwd.proofs.action.Actions.pass_one.Goals as goal

pub returns-in-Value-clause-value : goal.returns-in-Value-clause-value
unfolding out-Actual denote.Hole.Carrier.out
returns-in-Value-clause-value c =
    let s = scope_of c.args.self.now.scope in
    let env = c.args.env.now.env in
    c.in_type.ensures.value
    ∙ ap (λ n. in_type s n c.in-Value.e env) c.var_type.ensures.value
    ∙ ap (λ (a : Actual). actual_refined s c.args.formal (out-Actual a) env) (sym c.in-Value.is)

pub returns-in-Whole-clause-value : goal.returns-in-Whole-clause-value
unfolding out-Actual denote.Hole.Carrier.out
returns-in-Whole-clause-value c =
    let s = scope_of c.args.self.now.scope in
    let env = c.args.env.now.env in
    elim c.in-Whole.is [
      | inl e ↦ c.refine_subscripts.ensures.value ∙ ap (λ (a : Actual). actual_refined s c.args.formal (out-Actual a) env) (sym e)
      | inr e ↦ c.refine_subscripts.ensures.value ∙ ap (λ (a : Actual). actual_refined s c.args.formal (out-Actual a) env) (sym e)
    ]
