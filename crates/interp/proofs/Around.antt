-- The activation around one that is of a routine, step by step along the parents.
use Rattle.std.proofs.Common.{◌≡◌, ℕ, suc, ◌<◌, Bool, true, false, cond, [], ◌∷◌, length, refl, sym, ap, ◌∙◌, arith, Some, nat_eq}
use Rattle.std.specs.Option.{option_and_then}
use Rattle.std.proofs.lemmas.Bool.{eq-eqb, ne_eqb, eqb-true}
use Rattle.std.proofs.lemmas.Option.{none-some}
use Rattle.control_points.specs.Finding.{around, frame_at}
use Rattle.control_points.specs.States.{Activation, Stack}
use Rattle.interp.specs.Standing.{activation_at}
use Rattle.interp.proofs.Lists.{same_some}

-- where one of two places was chosen
below_by : (b a : Activation) (below : Stack) (d : ℕ) → (activation_at below d ≡ Some a → d < length below) → (c : Bool) → nat_eq d (length below) ≡ c → cond c (Some b) (activation_at below d) ≡ Some a → d < suc (length below)
below_by b a below d rest true f e = let g = eqb-true d (length below) f in omega arith
below_by b a below d rest false f e = let h = rest e in omega arith

pub activation_below : (stack : Stack) (d : ℕ) (a : Activation) → activation_at stack d ≡ Some a → d < length stack
activation_below [] d a e = absurd (none-some a e)
activation_below (b ∷ below) d a e = below_by b a below d (activation_below below d a) (nat_eq d (length below)) refl e

pub around_below : (b : Activation) (below : Stack) (d r : ℕ) → d < length below → around (b ∷ below) d r ≡ around below d r
around_below b below d r h =
    ap (λ c. cond c (cond (nat_eq b.frame.routine r) (Some d) (option_and_then (λ p. around below p r) b.frame.parent)) (around below d r)) (ne_eqb d (length below) (λ e. omega (arith, h, e)))

pub activation_kept : (b : Activation) (below : Stack) (d : ℕ) → d < length below → activation_at (b ∷ below) d ≡ activation_at below d
activation_kept b below d h = ap (λ c. cond c (Some b) (activation_at below d)) (ne_eqb d (length below) (λ e. omega (arith, h, e)))

pub activation_latest : (b : Activation) (below : Stack) (d : ℕ) → d ≡ length below → activation_at (b ∷ below) d ≡ Some b
activation_latest b below d h = ap (λ c. cond c (Some b) (activation_at below d)) (eq-eqb d (length below) h)

frame_by : (b a : Activation) (below : Stack) (d : ℕ) → (activation_at below d ≡ Some a → frame_at below d ≡ Some a.frame) → (c : Bool) → cond c (Some b) (activation_at below d) ≡ Some a → cond c (Some b.frame) (frame_at below d) ≡ Some a.frame
frame_by b a below d rest true e = ap (λ (x : Activation). Some x.frame) (same_some b a e)
frame_by b a below d rest false e = rest e

pub frame_is : (stack : Stack) (d : ℕ) (a : Activation) → activation_at stack d ≡ Some a → frame_at stack d ≡ Some a.frame
frame_is [] d a e = absurd (none-some a e)
frame_is (b ∷ below) d a e = frame_by b a below d (frame_is below d a) (nat_eq d (length below)) e

here_by : (b a : Activation) (below : Stack) (d r : ℕ) → a.frame.routine ≡ r → (activation_at below d ≡ Some a → around below d r ≡ Some d) → (c : Bool) → cond c (Some b) (activation_at below d) ≡ Some a
    → cond c (cond (nat_eq b.frame.routine r) (Some d) (option_and_then (λ p. around below p r) b.frame.parent)) (around below d r) ≡ Some d
here_by b a below d r h rest true e = ap (λ c. cond c (Some d) (option_and_then (λ p. around below p r) b.frame.parent)) (eq-eqb b.frame.routine r (ap (λ (x : Activation). x.frame.routine) (same_some b a e) ∙ h))
here_by b a below d r h rest false e = rest e

-- the activation itself
pub around_here : (stack : Stack) (d r : ℕ) (a : Activation) → activation_at stack d ≡ Some a → a.frame.routine ≡ r → around stack d r ≡ Some d
around_here [] d r a e h = absurd (none-some a e)
around_here (b ∷ below) d r a e h = here_by b a below d r h (λ f. around_here below d r a f h) (nat_eq d (length below)) e

on_by : (b a : Activation) (below : Stack) (d r p : ℕ) → (a.frame.routine ≡ r → ⊥) → a.frame.parent ≡ Some p → p < d → (activation_at below d ≡ Some a → around below d r ≡ around below p r)
    → (c : Bool) → nat_eq d (length below) ≡ c → cond c (Some b) (activation_at below d) ≡ Some a
    → cond c (cond (nat_eq b.frame.routine r) (Some d) (option_and_then (λ p. around below p r) b.frame.parent)) (around below d r) ≡ around (b ∷ below) p r
on_by b a below d r p n q h rest true f e =
    let s = same_some b a e in
    let l = eqb-true d (length below) f in
    ap (λ c. cond c (Some d) (option_and_then (λ p. around below p r) b.frame.parent)) (ne_eqb b.frame.routine r (λ k. n (sym (ap (λ (x : Activation). x.frame.routine) s) ∙ k)))
    ∙ ap (option_and_then (λ p. around below p r)) (ap (λ (x : Activation). x.frame.parent) s ∙ q)
    ∙ sym (around_below b below p r (omega (arith, h, l)))
on_by b a below d r p n q h rest false f e =
    let l = activation_below below d a e in
    rest e ∙ sym (around_below b below p r (omega (arith, h, l)))

-- the same as from its parent
pub around_on : (stack : Stack) (d r p : ℕ) (a : Activation) → activation_at stack d ≡ Some a → (a.frame.routine ≡ r → ⊥) → a.frame.parent ≡ Some p → p < d → around stack d r ≡ around stack p r
around_on [] d r p a e n q h = absurd (none-some a e)
around_on (b ∷ below) d r p a e n q h = on_by b a below d r p n q h (λ f. around_on below d r p a f n q h) (nat_eq d (length below)) refl e
