use Rattle.std.proofs.Common.{◌<◌, ℕ, List, Global, Vec, length, map, sym, subst, ◌∙◌, arith}
use Rattle.std.specs.List.{Contains}
use Rattle.std.proofs.lemmas.List.{length-map}
use Rattle.std.proofs.lemmas.Result.{IfOk-weaker}
use Rattle.weak_order.specs.Edges.{HasEdge}
use Rattle.weak_order.specs.Order.{IsWeakOrder}
use Rattle.fixpoint.specs.System.{Reads}
use Rattle.fixpoint.specs.Worked.{system_of}
use Rattle.fixpoint.proofs.Worked.{edges_more, order_of_reads}
use Rattle.fixpoint.proofs.tests.order_of.Goals as goal

pub add_reads-requires-clause-reads : goal.add_reads-requires-clause-reads
add_reads-requires-clause-reads c = λ r at.
    let items = λ (v : Vec ℕ Global). v.items in
    let system = c.args.system.now in
    let node = c.loop-node.node in
    let inside : node < length system.equations.now = omega (arith, c.loop-node-test.true, c.nodes-node-end.ensures) in
    let listed = subst (λ (n : ℕ). node < n) (sym (length-map system.reads.now items ∙ system.as_many)) inside in
    subst (λ (n : ℕ). r < n) (sym c.loop-node.invariant.0)
    (system.in_range node r listed (subst (λ (nodes : List ℕ). Contains nodes r) c.reads.ensures at))

pub loop-node-preserved : goal.loop-node-preserved
loop-node-preserved c = (
  c.add_reads.ensures.nodes ∙ c.loop-node.invariant.0,
  edges_more (map (λ (v : Vec ℕ Global). v.items) c.args.system.now.reads.now) c.loop-node.node c.loop-node.edges.pairs c.add_reads.new.edges.pairs c.reads.result.now
      c.reads.ensures c.in_ok-add_reads.ensures.pairs c.loop-node.invariant.1,
)

pub returns : goal.returns
returns c =
    let rules = c.args.system.now.equations.now in
    let lists = map (λ (v : Vec ℕ Global). v.items) c.args.system.now.reads.now in
    let graph = c.loop-node.edges in
    IfOk-weaker c.order.result (IsWeakOrder (HasEdge graph) graph.nodes) (IsWeakOrder (Reads (system_of rules lists)) (length rules))
    (λ layout. order_of_reads rules lists graph layout c.loop-node.invariant.0
    (λ k r inside at. c.loop-node.invariant.1 k r (omega (arith, inside, c.loop-node-test.false, c.nodes-node-end.ensures)) at)) c.order.ensures.weak
