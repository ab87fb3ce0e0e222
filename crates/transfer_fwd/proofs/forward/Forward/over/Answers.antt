use Rattle.std.proofs.Common.{map}
use Rattle.transfer_fwd.proofs.ForwardEquations.{forward_is_system}
use Rattle.transfer_fwd.proofs.Shapes.{KeepsCells}
use Rattle.transfer_fwd.proofs.forward.Forward.over.Goals as goal

pub invariant_of-result-2-clause-is_system : goal.invariant_of-result-2-clause-is_system
invariant_of-result-2-clause-is_system c =
    let less = c.refining_leaves_less.ensures in
    let keeps : KeepsCells = record { expr = less.expr_cells; access = less.access_cells; relation = less.relation_cells; names = less.name_cells } in
    forward_is_system c.args.flow.now c.args.graph.now c.requires.fits keeps (map (λ v. v.items) c.args.reads.now) c.requires.reads c.args.with_asserts c.args.origin
