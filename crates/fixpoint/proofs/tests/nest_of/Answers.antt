use Rattle.std.proofs.Common.{◌≡◌, ℕ, Global, Vec, length, map, sym, subst, refl, ◌∙◌, arith}
use Rattle.std.proofs.lemmas.Result.{IfOk-weaker}
use Rattle.weak_order.specs.Order.{IsWeakOrder}
use Rattle.fixpoint.specs.System.{Reads}
use Rattle.fixpoint.specs.Worked.{system_of}
use Rattle.fixpoint.proofs.Worked.{nest}
use Rattle.fixpoint.proofs.tests.nest_of.Goals as goal

pub from_columns-requires-clause-layout : goal.from_columns-requires-clause-layout
from_columns-requires-clause-layout c =
    let way = c.loop-node.invariant in
    let last : c.loop-node.node ≡ c.nodes-count.result = omega (arith, c.loop-node-test.false, c.loop-node.auto.node-end) in
    nest (λ _ _. ⊥) (length c.loop-node.nodes.items) c.loop-node.nodes.items c.loop-node.ends.items refl (way.as_many ∙ sym way.all)
    (λ k below. way.own k (rw way.all at below)) (λ k below. way.last k (rw way.all at below) ∙ sym last ∙ sym way.all)

pub returns : goal.returns
returns c =
    let way = c.loop-node.invariant in
    let rules = c.args.system.now.equations.now in
    let Edges = Reads (system_of rules (map (λ (v : Vec ℕ Global). v.items) c.args.system.now.reads.now)) in
    let last : c.loop-node.node ≡ length rules = omega (arith, c.loop-node-test.false, c.loop-node.auto.node-end, c.nodes-count.ensures) in
    let all = way.all ∙ last in
    let nested = nest Edges (length rules) c.loop-node.nodes.items c.loop-node.ends.items all (way.as_many ∙ last)
    (λ k below. way.own k (rw (← last) at below)) (λ k below. way.last k (rw (← last) at below) ∙ c.nodes-count.ensures) in
    IfOk-weaker c.from_columns.result _ (IsWeakOrder Edges (length rules)) (λ layout is. subst (IsWeakOrder Edges (length rules)) (sym is) nested) c.from_columns.ensures
