-- A text that grows by pieces.
use Rattle.std.proofs.Common.{◌≡◌, ℕ, List, [], ◌∷◌, ◌++◌, refl, sym, ap, ◌∙◌, append_assoc, ◌⊎◌, ⊎_elim, Result, Ok, Err, OnOk}
use Rattle.std.specs.List.{flat_map, zip}
use Rattle.std.proofs.lemmas.List.{append-nil}

-- one more piece of what was to be written
pub written_more : (old piece rest new total : List ℕ) → new ≡ old ++ piece → old ++ (piece ++ rest) ≡ total → new ++ rest ≡ total
written_more old piece rest new total e h = ap (λ (t : List ℕ). t ++ rest) e ∙ append_assoc old piece rest ∙ h

module _ {K X : Type 0} (f : K × X → List ℕ) where
  -- one more pair
  pub pair_more : (xs rest : List K) (ys others : List X) (x : K) (y : X) → xs ≡ x ∷ rest → ys ≡ y ∷ others → flat_map f (zip xs ys) ≡ f (x, y) ++ flat_map f (zip rest others)
  pair_more xs rest ys others x y e h = ap (λ (ks : List K). flat_map f (zip ks ys)) e ∙ ap (λ (zs : List X). flat_map f (zip (x ∷ rest) zs)) h

  no_first : (xs : List K) (ys : List X) → xs ≡ [] → flat_map f (zip xs ys) ≡ []
  no_first xs ys e = ap (λ (ks : List K). flat_map f (zip ks ys)) e

  no_second_of : (xs : List K) → flat_map f (zip xs []) ≡ []
  no_second_of [] = refl
  no_second_of (x ∷ xs) = refl

  no_second : (xs : List K) (ys : List X) → ys ≡ [] → flat_map f (zip xs ys) ≡ []
  no_second xs ys e = ap (λ (zs : List X). flat_map f (zip xs zs)) e ∙ no_second_of xs

  -- no pair is left
  pub written_all : (xs : List K) (ys : List X) (text total : List ℕ) → (xs ≡ []) ⊎ (ys ≡ []) → text ++ flat_map f (zip xs ys) ≡ total → text ≡ total
  written_all xs ys text total ends h =
      let none : flat_map f (zip xs ys) ≡ [] = ⊎_elim (no_first xs ys) (no_second xs ys) ends in
      sym (append-nil text) ∙ ap (λ (t : List ℕ). text ++ t) (sym none) ∙ h

-- two pieces are one
pub glued : (old a b new newer : List ℕ) → new ≡ old ++ a → newer ≡ new ++ b → newer ≡ old ++ (a ++ b)
glued old a b new newer e h = h ∙ ap (λ (t : List ℕ). t ++ b) e ∙ append_assoc old a b

pub on_ok : {T E P Q : Type 0} (r : Result T E) → (P → Q) → OnOk r P → OnOk r Q
on_ok (Ok x) f h = f h
on_ok (Err e) f h = h
