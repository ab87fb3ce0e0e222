use Rattle.std.proofs.Common.{◌≡◌, ℕ, Global, Vec, [], map, length, sym, ap, ◌∙◌, arith}
use Rattle.std.proofs.lemmas.List.{get_or-map, length-map}
use Rattle.fixpoint.specs.Reversal.{list_at}
use Rattle.fixpoint.proofs.Reversing.{known_list, reversed_more, reversal_of}
use Rattle.fixpoint.proofs.reversal.reverse_lists.Goals as goal

pub loop-number-preserved : goal.loop-number-preserved
loop-number-preserved c =
    let items = λ (v : Vec ℕ Global). v.items in
    let vecs = c.args.lists.now in
    let met = c.loop-number.number in
    let here : c.deref-in-loop-number.result.now ≡ list_at (map items vecs) met =
    c.deref-in-loop-number.ensures.value ∙ ap items c.index-lists-number.is
    ∙ sym (get_or-map items vecs met c.index-lists-number.result [] c.loop-number-test.true) in
    let adds = rw (c.in-Ok.ensures.1, here) at c.in_ok-add_to_each.ensures in
    reversed_more (length vecs) met (list_at (map items vecs)) (map items c.loop-number.reversed.items) _ c.loop-number.invariant adds

pub returns-clause-reversal : goal.returns-clause-reversal
returns-clause-reversal c =
    let items = λ (v : Vec ℕ Global). v.items in
    let vecs = c.args.lists.now in
    reversal_of (length vecs) c.loop-number.number (list_at (map items vecs)) (map items c.loop-number.reversed.items)
    (omega (arith, c.loop-number-test.false)) (λ m n at. rw length-map at (known_list (map items vecs) m n at)) c.loop-number.invariant

pub returns-clause-rising : goal.returns-clause-rising
returns-clause-rising c k d inside =
    let items = λ (v : Vec ℕ Global). v.items in
    let vecs = c.loop-number.reversed.items in
    let rises = (c.loop-number.invariant.rising k (omega (arith, inside, length-map vecs items, c.loop-number.invariant.as_many))).rising in
    rw (get_or-map items vecs k d [] inside) at rises
