-- Values by names.
use Rattle.std.proofs.Common.{◌≡◌, ℕ, Bool, true, false, cond, not, true≢false, List, refl, sym, ap, ◌∙◌, Option, option_map, bytes_eq, Vec, Global}
use Rattle.std.proofs.lemmas.Slice.Eq.{bytes_eq-Decides}
use Rattle.std.specs.Bool.{beq}
use Rattle.std.specs.Map.{lookup, KeepsOthers}
use Rattle.pas_check.specs.Names.{Name}

apart : (a b c : List ℕ) → bytes_eq a b ≡ false → a ≡ c → bytes_eq b c ≡ false
apart a b c differs same = by (bytes_eq b c) refl
  where
    by : (r : Bool) → bytes_eq b c ≡ r → r ≡ false
    by true e = absurd (true≢false (sym ((bytes_eq-Decides a b).1 (same ∙ sym ((bytes_eq-Decides b c).0 e))) ∙ differs))
    by false e = refl

pub bytes_swap : (a b : List ℕ) → bytes_eq a b ≡ bytes_eq b a
bytes_swap a b = by (bytes_eq a b) (bytes_eq b a) refl refl
  where
    by : (r s : Bool) → bytes_eq a b ≡ r → bytes_eq b a ≡ s → r ≡ s
    by true true e f = refl
    by true false e f = absurd (true≢false (sym ((bytes_eq-Decides b a).1 (sym ((bytes_eq-Decides a b).0 e))) ∙ f))
    by false true e f = absurd (true≢false (sym ((bytes_eq-Decides a b).1 (sym ((bytes_eq-Decides b a).0 f))) ∙ e))
    by false false e f = refl

pub map_cond : {A B : Type 0} (f : A → B) (b : Bool) (x y : Option A) → option_map f (cond b x y) ≡ cond b (option_map f x) (option_map f y)
map_cond f true x y = refl
map_cond f false x y = refl

pub not_same : {A : Type 0} (a b : Bool) (x y : A) → not (beq b a) ≡ true → cond (beq a b) x y ≡ y
not_same true true x y e = absurd (true≢false (sym e))
not_same true false x y e = refl
not_same false true x y e = refl
not_same false false x y e = absurd (true≢false (sym e))

pub same : {A : Type 0} (a b : Bool) (x y : A) → not (beq b a) ≡ false → cond (beq a b) x y ≡ x
same true true x y e = refl
same true false x y e = absurd (true≢false e)
same false true x y e = absurd (true≢false e)
same false false x y e = refl

-- one name has another value
module _ {V : Type 0} (name : Name) (old new : List (Vec ℕ Global × V)) (w : Option V) (here : lookup (λ (k : Vec ℕ Global). bytes_eq name k.items) new ≡ w)
    (others : KeepsOthers (λ (x y : Vec ℕ Global). bytes_eq x.items y.items) (λ (k : Vec ℕ Global). bytes_eq name k.items) old new) (other : Name) where
  by_test : (b : Bool) → bytes_eq name other ≡ b → lookup (λ (k : Vec ℕ Global). bytes_eq other k.items) new ≡ cond b w (lookup (λ (k : Vec ℕ Global). bytes_eq other k.items) old)
  unfolding KeepsOthers
  by_test true e = ap (λ (n : Name). lookup (λ (k : Vec ℕ Global). bytes_eq n k.items) new) (sym ((bytes_eq-Decides name other).0 e)) ∙ here
  by_test false e =
      others (λ (k : Vec ℕ Global). bytes_eq other k.items) (λ x y same. ap (λ (n : Name). bytes_eq n y.items) ((bytes_eq-Decides other x.items).0 same))
      (λ k same. apart name other k.items e ((bytes_eq-Decides name k.items).0 same))

  pub changed_at : lookup (λ (k : Vec ℕ Global). bytes_eq other k.items) new ≡ cond (bytes_eq name other) w (lookup (λ (k : Vec ℕ Global). bytes_eq other k.items) old)
  changed_at = by_test (bytes_eq name other) refl
