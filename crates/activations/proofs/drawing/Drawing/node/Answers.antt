use Rattle.std.proofs.Common.{ℕ, List, length, get_or, ap, arith}
use Rattle.activations.proofs.DrawnNodes.{after_more, all_calls, all_edges, node_point, read_calls, read_inside, read_is, read_leaves, set_same}
use Rattle.activations.proofs.drawing.Drawing.node.Goals as goal

pub outgoing-edge-items-requires : goal.outgoing-edge-items-requires
outgoing-edge-items-requires c = node_point c.args.self.now.flow.now c.args.self.now.classes.now.classes c.args.node c.requires.next.number c.requires.next.is

pub edge-requires-clause-set : goal.edge-requires-clause-set
edge-requires-clause-set c = set_same c.args.self.now c.loop-edge.self c.requires.set c.loop-edge.invariant.same

pub edge-requires-clause-from : goal.edge-requires-clause-from
edge-requires-clause-from c =
    read_leaves c.args.self.now c.loop-edge.self c.args.node c.requires.next c.loop-edge.edge-index c.outgoing-edge-items.result.now c.outgoing-edge-items.ensures c.loop-edge-test.true c.loop-edge.invariant

pub edge-requires-clause-next : goal.edge-requires-clause-next
edge-requires-clause-next c =
    read_calls c.args.self.now c.loop-edge.self c.args.node c.requires.next c.loop-edge.edge-index c.outgoing-edge-items.result.now c.outgoing-edge-items.ensures c.loop-edge-test.true c.loop-edge.invariant

pub loop-edge-preserved : goal.loop-edge-preserved
loop-edge-preserved c =
    let listed = c.outgoing-edge-items.result.now in
    let j = c.loop-edge.edge-index in
    let inside = read_inside c.args.self.now c.loop-edge.self c.args.node c.requires.next j listed c.outgoing-edge-items.ensures c.loop-edge-test.true in
    let is = read_is c.args.self.now c.loop-edge.self c.args.node c.requires.next j listed c.outgoing-edge-items.ensures c.loop-edge-test.true in
    after_more c.args.self.now c.loop-edge.self c.edge.new.self c.args.node j (get_or listed j 0) c.loop-edge.invariant c.in_ok-edge.ensures.same inside is c.in_ok-edge.ensures.arcs c.in_ok-edge.ensures.drawn

pub returns-clause-arcs : goal.returns-clause-arcs
returns-clause-arcs c =
    all_edges c.args.self.now c.loop-edge.self c.args.node c.loop-edge.edge-index c.loop-edge.invariant (omega (arith, c.loop-edge-test.false, ap (λ (ks : List ℕ). length ks) c.outgoing-edge-items.ensures))

pub returns-clause-drawn : goal.returns-clause-drawn
returns-clause-drawn c =
    all_calls c.args.self.now c.loop-edge.self c.args.node c.loop-edge.edge-index c.loop-edge.invariant (omega (arith, c.loop-edge-test.false, ap (λ (ks : List ℕ). length ks) c.outgoing-edge-items.ensures))
