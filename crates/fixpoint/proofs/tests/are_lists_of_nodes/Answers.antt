use Rattle.std.proofs.Common.{ℕ, Global, Vec, ◌<◌, length, map, subst, arith}
use Rattle.std.proofs.lemmas.List.{length-map}
use Rattle.fixpoint.proofs.Reversing.{list_read}
use Rattle.fixpoint.proofs.Worked.{lists_more}
use Rattle.fixpoint.proofs.tests.are_lists_of_nodes.Goals as goal

pub loop-list-preserved : goal.loop-list-preserved
loop-list-preserved c =
    let items = λ (v : Vec ℕ Global). v.items in
    let vecs = c.args.lists.now in
    let read = list_read vecs c.loop-list.list-index c.list-item.result c.deref.result.now c.loop-list-test.true c.list-item.is c.deref.ensures.value in
    lists_more c.args.nodes (map items vecs) c.loop-list.list-index c.deref.result.now read (c.are_nodes.ensures.0 c.if-not-are_nodes.false) c.loop-list.invariant

pub returns : goal.returns
returns c = λ _ k r inside at.
    let below : k < length c.args.lists.now = subst (λ (n : ℕ). k < n) (length-map c.args.lists.now (λ (v : Vec ℕ Global). v.items)) inside in
    c.loop-list.invariant k r (omega (arith, below, c.loop-list-test.false)) at
