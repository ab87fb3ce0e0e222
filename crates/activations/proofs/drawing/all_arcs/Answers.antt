use Rattle.std.proofs.Common.{◌≡◌, ℕ, ◌<◌, ◌≤◌, List, Some, length, get_or, slice_get, sym, ap, subst, ◌∙◌, arith}
use Rattle.std.proofs.lemmas.Option.{slice_get-get_or}
use Rattle.activations.specs.declared.node.Node.{Node}
use Rattle.activations.specs.Arcs.{arcs}
use Rattle.activations.specs.Listed.{AreListed}
use Rattle.activations.specs.Unfolding.{Unfolding, nodes_of}
use Rattle.activations.specs.Walks.{drawn_of}
use Rattle.activations.proofs.DrawnNodes.{all_nodes, before_nodes, node_is_next, nodes_more, set_same}
use Rattle.activations.proofs.drawing.all_arcs.Goals as goal

pub loop-node-init : goal.loop-node-init
loop-node-init c = before_nodes c.in_ok-drawing.drawing c.in_ok-drawing.ensures.drawn

pub node-requires-clause-set : goal.node-requires-clause-set
node-requires-clause-set c = set_same c.in_ok-drawing.drawing c.loop-node.drawing c.in_ok-drawing.ensures.set c.loop-node.invariant.same

-- the node that is read next
abbrev first : Node
first = record { class = 0; point = 0 }

node_read : (listed nodes wanted : List Node) (n : ℕ) → listed ≡ nodes → nodes ≡ wanted → n < length listed → slice_get wanted n ≡ Some (get_or listed n first)
node_read listed nodes wanted n same is inside = subst (λ (xs : List Node). slice_get xs n ≡ Some (get_or listed n first)) (same ∙ is) (slice_get-get_or listed n first inside)

pub node-requires-clause-next : goal.node-requires-clause-next
node-requires-clause-next c =
    let old = c.in_ok-drawing.drawing in
    let wanted = c.requires.nodes.listed ∙ ap nodes_of (sym c.in_ok-drawing.ensures.unfolding) in
    let at = node_read c.deref-node-items.result.now c.args.nodes.now.list.items (nodes_of (drawn_of old)) c.loop-node.node-index c.deref-node-items.ensures.value wanted c.loop-node-test.true in
    node_is_next old c.loop-node.drawing (get_or c.deref-node-items.result.now c.loop-node.node-index first) c.loop-node.node-index c.loop-node.invariant at

pub loop-node-preserved : goal.loop-node-preserved
loop-node-preserved c =
    let old = c.in_ok-drawing.drawing in
    let wanted = c.requires.nodes.listed ∙ ap nodes_of (sym c.in_ok-drawing.ensures.unfolding) in
    let at = node_read c.deref-node-items.result.now c.args.nodes.now.list.items (nodes_of (drawn_of old)) c.loop-node.node-index c.deref-node-items.ensures.value wanted c.loop-node-test.true in
    nodes_more old c.loop-node.drawing c.node.new.self (get_or c.deref-node-items.result.now c.loop-node.node-index first) c.loop-node.node-index c.loop-node.invariant at c.in_ok-node.ensures.same c.in_ok-node.ensures.arcs c.in_ok-node.ensures.drawn

pub returns : goal.returns
returns c =
    let old = c.in_ok-drawing.drawing in
    let wanted = c.requires.nodes.listed ∙ ap nodes_of (sym c.in_ok-drawing.ensures.unfolding) in
    let all : length (nodes_of (drawn_of old)) ≤ c.loop-node.node-index = omega (arith, c.loop-node-test.false, ap (λ (xs : List Node). length xs) (c.deref-node-items.ensures.value ∙ wanted)) in
    subst (λ (w : Unfolding). AreListed (length c.args.nodes.now.list.items) (arcs w) c.loop-node.drawing.arcs) c.in_ok-drawing.ensures.unfolding
    (all_nodes old c.loop-node.drawing c.loop-node.node-index c.loop-node.invariant all (length c.args.nodes.now.list.items) c.in_ok-drawing.ensures.arcs)
