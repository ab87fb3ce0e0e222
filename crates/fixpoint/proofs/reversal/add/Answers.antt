use Rattle.std.proofs.Common.{ℕ, List, [], ◌∷◌, ◌++◌, sym, subst}
use Rattle.std.proofs.lemmas.Bool.{both_ways}
use Rattle.std.proofs.lemmas.Bool.Decides.{Decides-eqb}
use Rattle.std.proofs.lemmas.Slice.Eq.{ends_is}
use Rattle.fixpoint.specs.Reversal.{AddsNumber}
use Rattle.fixpoint.proofs.Reversing.{number_added, number_kept}
use Rattle.fixpoint.proofs.reversal.add.Goals as goal

pub returns-then-ends_with : goal.returns-then-ends_with
returns-then-ends_with c =
    let list = c.deref.result.now in
    let is = (ends_is Decides-eqb list (c.args.number ∷ []) c.ends_with.result c.ends_with.ensures.value).0 c.if-ends_with.true in
    let kept = number_kept list _ c.args.number is in
    subst (λ (xs : List ℕ). AddsNumber c.args.number xs xs) c.deref.ensures.value kept

pub returns : goal.returns
returns c =
    let list = c.deref.result.now in
    let ends = (ends_is Decides-eqb list (c.args.number ∷ []) c.ends_with.result c.ends_with.ensures.value).1 in
    let added = number_added list c.args.number (λ front is. both_ways c.ends_with.result c.if-ends_with.false (ends front is)) in
    let P : List ℕ → Type 0 = λ xs. AddsNumber c.args.number xs (xs ++ c.args.number ∷ []) in
    subst (λ (ys : List ℕ). AddsNumber c.args.number c.args.list.now.items ys) (sym c.in_ok-push.ensures.items) (subst P c.deref.ensures.value added)
