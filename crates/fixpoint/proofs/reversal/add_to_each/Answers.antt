use Rattle.std.proofs.Common.{◌≡◌, ◌<◌, ℕ, Global, Vec, [], map, length, get_or, sym, refl, subst, ap, ◌∙◌, arith}
use Rattle.std.proofs.lemmas.List.{get_or-map, length-map, map-set}
use Rattle.fixpoint.specs.Reversal.{AddsNumber, list_at}
use Rattle.fixpoint.proofs.Reversing.{each_more}
use Rattle.fixpoint.proofs.reversal.add_to_each.Goals as goal

pub loop-place-preserved : goal.loop-place-preserved
loop-place-preserved c =
    let items = λ (v : Vec ℕ Global). v.items in
    let vecs = c.loop-place.lists.items in
    let i = c.loop-place.place-index in
    let place = get_or c.args.places.now i 0 in
    let inside : i < length c.args.places.now = c.loop-place-test.true in
    let long : length (map items vecs) ≡ length (map items c.args.lists.now.items) = c.loop-place.invariant.as_many in
    let below = c.requires i 0 inside in
    let in_range : place < length vecs = omega (arith, below, long, length-map vecs items, length-map c.args.lists.now.items items, c.args.lists.now.ok.0) in
    let here : list_at (map items vecs) place ≡ items c.index_mut.result.now =
    get_or-map items vecs place c.index_mut.result.now [] in_range ∙ ap items (sym c.index_mut.ensures.value) in
    let adds = subst (λ xs. AddsNumber c.args.number xs c.add.new.list.items) (sym here) c.in_ok-add.ensures in
    rw map-set (each_more c.args.number i place c.args.places.now (map items c.args.lists.now.items) (map items vecs) c.add.new.list.items inside refl
    (rw length-map in_range) c.loop-place.invariant adds)
