use Rattle.std.proofs.Common.{arith, length}
use Rattle.report.proofs.ListedNodes.{first_long}
use Rattle.report.proofs.nodes.Nodes.of.Goals as goal

pub add_node-requires-clause-point : goal.add_node-requires-clause-point
add_node-requires-clause-point c =
    let long = first_long c.args.graph.now c.loop-node.node (length c.args.flow.now.points) c.loop-node.by_point.items c.loop-node.invariant in
    let at = c.requires.fits.nodes c.loop-node.node (omega (arith, c.loop-node-test.true, c.nodes-node-end.ensures)) in
    omega (arith, long, at.point)
