use Rattle.std.proofs.Common.{ap, ◌∙◌}
use Rattle.abstract_expr.specs.Expressions.{related, truth_of}
use Rattle.abstract_expr.specs.Scopes.{scope_of}
use Rattle.transfer_fwd.specs.Actions.{in_host}
use Rattle.px_base.specs.declared.operator.BinOp.{BinOp}
use Rattle.transfer_fwd.proofs.action.Actions.enter_if.Goals as goal

pub returns-clause-value : goal.returns-clause-value
returns-clause-value c =
    let s = scope_of c.args.self.now.scope in
    let first = c.args.range.now.first.now in
    let last = c.args.range.now.last.now in
    let w = truth_of c.args.holds in
    c.refine_relation.ensures.value
    ∙ ap (λ (op : BinOp). related s op first last w c.in_host-2.new.env.env) c.bounds_relation.ensures
    ∙ ap (related s _ first last w) (c.in_host-2.ensures.value ∙ ap (in_host s last) c.in_host.ensures.value)
