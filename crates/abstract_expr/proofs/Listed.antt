-- The edges that leave a point, and the point at a number.
use Rattle.std.proofs.Common.{◌≡◌, ℕ, zero, suc, ◌+◌, ◌<◌, Bool, true, false, cond, List, [], ◌∷◌, length, get_or, refl, sym, ap, subst, ◌∙◌, arith, Some}
use Rattle.std.specs.List.{slice_get}
use Rattle.std.specs.Prelude.{nat_eq}
use Rattle.std.proofs.lemmas.Bool.{eqb-true}
use Rattle.control_points.specs.declared.edge.Edge.{Edge}
use Rattle.control_points.specs.Chart.{leaving, numbers_from}

-- the item of a listed number
pub record IsListed (A : Type 0) (test : A → Bool) (xs : List A) (n k : ℕ) : Type 0 where
  pub place : ℕ
  pub item : A
  pub is : k ≡ n + place
  pub found : slice_get xs place ≡ Some item
  pub passes : test item ≡ true

behind : (A : Type 0) (test : A → Bool) (x : A) (xs : List A) (n k : ℕ) → IsListed A test xs (suc n) k → IsListed A test (x ∷ xs) n k
behind A test x xs n k l = record { place = suc l.place; item = l.item; is = omega (arith, l.is); found = l.found; passes = l.passes }

listed : (A : Type 0) (test : A → Bool) (xs : List A) (n i : ℕ) → i < length (numbers_from n test xs) → IsListed A test xs n (get_or (numbers_from n test xs) i 0)
listed A test [] n i h = absurd (omega arith)
listed A test (x ∷ xs) n i h = by (test x) i refl h (λ k l. behind A test x xs n _ (listed A test xs (suc n) k l))
  where
    rest : List ℕ
    rest = numbers_from (suc n) test xs

    by : (b : Bool) (i : ℕ) → test x ≡ b → i < length (cond b (n ∷ rest) rest) → ((k : ℕ) → k < length rest → IsListed A test (x ∷ xs) n (get_or rest k 0)) → IsListed A test (x ∷ xs) n (get_or (cond b (n ∷ rest) rest) i 0)
    by true zero e h later = record { place = 0; item = x; is = omega arith; found = refl; passes = e }
    by true (suc i) e h later = later i (omega arith)
    by false i e h later = later i h

-- an edge that leaves a point
pub record Leaves (edges : List Edge) (p k : ℕ) : Type 0 where
  pub edge : Edge
  pub found : slice_get edges k ≡ Some edge
  pub source : edge.from ≡ p

leaves_at : (edges : List Edge) (p i : ℕ) → i < length (leaving edges p) → Leaves edges p (get_or (leaving edges p) i 0)
leaves_at edges p i h =
    let l = listed Edge (λ (e : Edge). nat_eq e.from p) edges 0 i h in
    record { edge = l.item; found = ap (slice_get edges) (let s : get_or (leaving edges p) i 0 ≡ l.place = omega (arith, l.is) in s) ∙ l.found; source = eqb-true l.item.from p l.passes }

pub leaves_in : (edges : List Edge) (p i : ℕ) (out : List ℕ) → out ≡ leaving edges p → i < length out → Leaves edges p (get_or out i 0)
leaves_in edges p i out is h = subst (λ (ks : List ℕ). (i < length ks → Leaves edges p (get_or ks i 0))) (sym is) (leaves_at edges p i) h
