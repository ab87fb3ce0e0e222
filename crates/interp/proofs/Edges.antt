-- The edges that leave a point.
use Rattle.std.proofs.Common.{◌≡◌, ℕ, zero, suc, ◌+◌, Bool, true, false, cond, List, [], ◌∷◌, refl, sym, subst, arith, Some, nat_eq}
use Rattle.std.specs.List.{slice_get}
use Rattle.std.proofs.lemmas.Bool.{eqb-true}
use Rattle.std.proofs.lemmas.Option.{none-some}
use Rattle.interp.proofs.Lists.{same_some}
use Rattle.control_points.specs.declared.edge.Edge.{Edge}
use Rattle.control_points.specs.Chart.{leaving, numbers_from}

-- a number in the list is that of an element which passes
pub record Numbered {A : Type 0} (n : ℕ) (test : A → Bool) (xs : List A) (k : ℕ) : Type 0 where
  pub place : ℕ
  pub element : A
  pub is : k ≡ n + place
  pub known : slice_get xs place ≡ Some element
  pub passes : test element ≡ true

numbered_on : {A : Type 0} (n : ℕ) (test : A → Bool) (x : A) (xs : List A) (k : ℕ) → Numbered (suc n) test xs k → Numbered n test (x ∷ xs) k
numbered_on n test x xs k w = record { place = suc w.place; element = w.element; is = let e = w.is in omega arith; known = w.known; passes = w.passes }

numbered_by : {A : Type 0} (n : ℕ) (test : A → Bool) (x : A) (xs : List A) (k : ℕ) → ((i : ℕ) → slice_get (numbers_from (suc n) test xs) i ≡ Some k → Numbered (suc n) test xs k)
    → (b : Bool) → test x ≡ b → (i : ℕ) → slice_get (cond b (n ∷ numbers_from (suc n) test xs) (numbers_from (suc n) test xs)) i ≡ Some k → Numbered n test (x ∷ xs) k
numbered_by n test x xs k rest true t zero e = let f : n ≡ k = same_some n k e in record { place = 0; element = x; is = omega arith; known = refl; passes = t }
numbered_by n test x xs k rest true t (suc i) e = numbered_on n test x xs k (rest i e)
numbered_by n test x xs k rest false t i e = numbered_on n test x xs k (rest i e)

pub numbered : {A : Type 0} (n : ℕ) (test : A → Bool) (xs : List A) (i k : ℕ) → slice_get (numbers_from n test xs) i ≡ Some k → Numbered n test xs k
numbered n test [] i k e = absurd (none-some k e)
numbered n test (x ∷ xs) i k e = numbered_by n test x xs k (λ j f. numbered (suc n) test xs j k f) (test x) refl i e

pub record Leaves (edges : List Edge) (p k : ℕ) : Type 0 where
  pub edge : Edge
  pub known : slice_get edges k ≡ Some edge
  pub source : edge.from ≡ p

pub leaves_at : (edges : List Edge) (p i k : ℕ) → slice_get (leaving edges p) i ≡ Some k → Leaves edges p k
leaves_at edges p i k e =
    let w = numbered 0 (λ (e : Edge). nat_eq e.from p) edges i k e in
    let f : k ≡ w.place = let g = w.is in omega arith in
    record { edge = w.element; known = subst (λ m. slice_get edges m ≡ Some w.element) (sym f) w.known; source = eqb-true w.element.from p w.passes }
