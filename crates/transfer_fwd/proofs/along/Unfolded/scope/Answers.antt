use Rattle.std.proofs.Common.{ℕ, ap, ◌∙◌}
use Rattle.alias_class.specs.Tables.{Table}
use Rattle.abstract_expr.specs.Standing.{scope_in}
use Rattle.transfer_fwd.proofs.along.Unfolded.scope.Goals as goal

pub returns-clause-scope : goal.returns-clause-scope
returns-clause-scope c =
    c.over.ensures.scope ∙ ap (λ (t : Table). scope_in c.args.self.now.flow.now t c.class.result) c.classes.ensures
    ∙ ap (λ (i : ℕ). scope_in c.args.self.now.flow.now c.args.self.now.graph.now.table i) c.class.ensures.value
