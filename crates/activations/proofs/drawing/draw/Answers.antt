use Rattle.std.proofs.Common.{length}
use Rattle.activations.specs.Arcs.{arcs}
use Rattle.activations.specs.Unfolding.{unfolding_of}
use Rattle.activations.proofs.ListedArcs.{incoming_long, outgoing_long}
use Rattle.activations.proofs.drawing.draw.Goals as goal

pub invariant_of-result : goal.invariant_of-result
invariant_of-result c =
    let u = unfolding_of c.args.flow.now c.args.found.classes.classes in
    record {
      numbered = c.in_ok-nodes.ensures.numbered;
      incoming = incoming_long (length c.in_ok-nodes.nodes.list.items) (arcs u) c.in_ok-arcs.arcs c.in_ok-arcs.ensures;
      outgoing = outgoing_long (length c.in_ok-nodes.nodes.list.items) (arcs u) c.in_ok-arcs.arcs c.in_ok-arcs.ensures;
    }
