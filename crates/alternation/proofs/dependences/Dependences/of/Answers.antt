use Rattle.std.proofs.Common.{◌≡◌, ◌<◌, ℕ, List, Global, Vec, length, map, sym, ap, subst, ◌∙◌, arith}
use Rattle.std.proofs.lemmas.List.{length-map}
use Rattle.fixpoint.specs.Reversal.{IsReversal, list_at}
use Rattle.weak_order.specs.Edges.{Graph}
use Rattle.alternation.specs.Solved.{dependences}
use Rattle.alternation.proofs.Listing.{all_edges, is_listed, more_edges, reads_below}
use Rattle.alternation.proofs.dependences.Dependences.of.Goals as goal

pub loop-node-init : goal.loop-node-init
loop-node-init c = (
  ap (λ (g : Graph). g.nodes) c.in_ok-edges.ensures ∙ c.len.ensures ∙ sym c.deref-read-items.ensures.len,
  ap (λ (g : Graph). g.pairs) c.in_ok-edges.ensures,
)

pub add_reads-requires-clause-node : goal.add_reads-requires-clause-node
add_reads-requires-clause-node c = omega (arith, c.loop-node-test.true, c.loop-node.invariant.0)

pub add_reads-requires-clause-reads : goal.add_reads-requires-clause-reads
add_reads-requires-clause-reads c = λ r at.
    let vecs = c.deref-read-items.result.now in
    let nodes : length c.args.reads.items ≡ c.loop-node.edges.nodes
    = ap (λ (vs : List (Vec ℕ Global)). length vs) (sym c.deref-read-items.ensures.value) ∙ sym c.loop-node.invariant.0 in
    subst (λ (n : ℕ). r < n) nodes
    (reads_below vecs c.args.reads.items c.loop-node.node c.read-item.result c.deref.result.now r c.deref-read-items.ensures.value c.loop-node-test.true
    c.read-item.is c.deref.ensures.value c.requires.below at)

pub loop-node-preserved : goal.loop-node-preserved
loop-node-preserved c = (
  c.add_reads.ensures.nodes ∙ c.loop-node.invariant.0,
  more_edges c.deref-read-items.result.now c.loop-node.node c.read-item.result c.deref.result.now c.loop-node.edges.pairs c.add_reads.new.edges.pairs
      c.loop-node-test.true c.read-item.is c.deref.ensures.value c.in_ok-add_reads.ensures.pairs c.loop-node.invariant.1,
)

pub invariant_of-result : goal.invariant_of-result
invariant_of-result c =
    let items = λ (v : Vec ℕ Global). v.items in
    let vecs = c.args.reads.items in
    let reversed = map items c.in_ok-read_by.read_by.items in
    let graph : c.loop-node.edges ≡ dependences (map items vecs)
    = all_edges c.deref-read-items.result.now c.loop-node.node c.loop-node.edges c.loop-node-test.false c.loop-node.invariant.0 c.loop-node.invariant.1
    ∙ ap (λ (vs : List (Vec ℕ Global)). dependences (map items vs)) c.deref-read-items.ensures.value in
    let reversal : IsReversal (length vecs) (list_at (map items vecs)) reversed
    = subst (λ (vs : List (Vec ℕ Global)). IsReversal (length vs) (list_at (map items vs)) reversed) c.deref-2.ensures.value c.in_ok-read_by.ensures.reversal in
    is_listed (map items vecs) c.args.greatest_first c.loop-node.edges c.in_ok-order.order reversed graph
    (subst (λ (n : ℕ). IsReversal n (list_at (map items vecs)) reversed) (sym (length-map vecs items)) reversal) c.in_ok-order.ensures.order c.in_ok-order.ensures.weak
