use Rattle.std.proofs.Common.{◌≡◌, ℤ, ◌∷◌, ◌++◌, [], FitsSigned, ap, drop, int_le, sym, take, ◌∙◌, of_z, to_z, rules, w32}
use Rattle.std.proofs.lemmas.Int.{to_z-of_z}
use Rattle.std.specs.List.{position}
use Rattle.control_points.proofs.RisingSteps.{put_before, put_last, put_same}
use Rattle.control_points.proofs.widening.put_in.Goals as goal

pub returns-in_ok-push-in-None : goal.returns-in_ok-push-in-None
returns-in_ok-push-in-None c =
    let items = c.args.steps.now.items in
    let passed = to_z w32 (of_z w32 c.args.z) in
    let z : passed ≡ c.args.z = to_z-of_z w32 c.args.z c.ranges.z in
    let at =
    ap (λ (w : ℤ). position (λ (y : ℤ). int_le w y) items) (sym z) ∙ ap (position (λ (y : ℤ). int_le passed y)) (sym c.deref.ensures.value) ∙ sym c.place_of.ensures ∙ c.in-None.is in
    c.in_ok-push-in-None.ensures.items ∙ ap (λ (w : ℤ). items ++ w ∷ []) z ∙ sym (put_last items c.args.z at)

pub returns-in-Some : goal.returns-in-Some
returns-in-Some c =
    let items = c.args.steps.now.items in
    let r = c.index.result.now in
    let passed = to_z w32 (of_z w32 c.args.z) in
    let z : passed ≡ c.args.z = to_z-of_z w32 c.args.z c.ranges.z in
    let at =
    ap (λ (w : ℤ). position (λ (y : ℤ). int_le w y) items) (sym z) ∙ ap (position (λ (y : ℤ). int_le passed y)) (sym c.deref.ensures.value) ∙ sym c.place_of.ensures ∙ c.in-Some.is in
    let fits : FitsSigned w32 r = search rules in
    let same : r ≡ c.args.z = sym (to_z-of_z w32 r fits) ∙ ap (to_z w32) c.if-index-z.true ∙ z in
    sym (put_same items c.args.z r c.in-Some.place at (sym c.index.ensures ∙ same))

pub returns-in_ok-insert-in-Some-2 : goal.returns-in_ok-insert-in-Some-2
returns-in_ok-insert-in-Some-2 c =
    let items = c.args.steps.now.items in
    let k = c.in-Some.place in
    let passed = to_z w32 (of_z w32 c.args.z) in
    let z : passed ≡ c.args.z = to_z-of_z w32 c.args.z c.ranges.z in
    let at =
    ap (λ (w : ℤ). position (λ (y : ℤ). int_le w y) items) (sym z) ∙ ap (position (λ (y : ℤ). int_le passed y)) (sym c.deref.ensures.value) ∙ sym c.place_of.ensures ∙ c.in-Some.is in
    c.in_ok-insert-in-Some-2.ensures.items ∙ ap (λ (w : ℤ). take k items ++ w ∷ drop k items) z
    ∙ sym (put_before items c.args.z c.index.result.now k at (λ e. c.if-index-z.false (ap (of_z w32) (c.index.ensures ∙ e))))
