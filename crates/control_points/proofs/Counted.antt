-- Where a test that passes the first elements of a list alone stops passing, as many have passed.
use Rattle.std.proofs.Common.{◌≡◌, ℕ, zero, suc, ◌+◌, ◌<◌, ◌≤◌, Bool, true, false, cond, List, [], ◌∷◌, length, get_or, refl, sym, ap, ◌∙◌, count_by, arith}
use Rattle.std.proofs.lemmas.List.Sums.{sum_by-cons}
use Rattle.std.proofs.lemmas.Option.{slice_get-get_or}
use Rattle.std.specs.List.{AllWithin}
use Rattle.std.specs.List.Sorted.{IsNonDecreasingBy, IsPartitionPoint}
use Rattle.control_points.specs.declared.check.Check.{Check}
use Rattle.control_points.specs.declared.point.Point.{Point}
use Rattle.control_points.specs.Fits.{ChecksFit}

module _ {A : Type 0} (p : A → Bool) where
  first_counts : (x : A) (xs : List A) → count_by p (x ∷ xs) ≡ cond (p x) 1 0 + count_by p xs
  first_counts x xs = sum_by-cons (λ y. cond (p y) 1 0) x xs

  none_counts : (xs : List A) → AllWithin (λ y. p y ≡ false) xs 0 (length xs) → count_by p xs ≡ 0
  none_counts [] h = refl
  none_counts (x ∷ xs) h =
      first_counts x xs ∙ ap (λ b. cond b 1 0 + count_by p xs) (h 0 x (omega arith) (omega arith))
      ∙ ap (λ n. 0 + n) (none_counts xs (λ k d low high. h (suc k) d (omega arith) (omega arith)))

  pub counted : (xs : List A) (i : ℕ) → i ≤ length xs → IsPartitionPoint (λ y. p y ≡ true) (λ y. p y ≡ false) xs i → i ≡ count_by p xs
  counted [] zero le h = refl
  counted [] (suc i) le h = absurd (omega arith)
  counted (x ∷ xs) zero le h = sym (none_counts (x ∷ xs) h.1)
  counted (x ∷ xs) (suc i) le h =
      let rest = counted xs i (omega arith) (λ k d low high. h.0 (suc k) d (omega arith) (omega arith), λ k d low high. h.1 (suc k) d (omega arith) (omega arith)) in
      let n : suc i ≡ 1 + count_by p xs = omega (arith, rest) in
      n ∙ sym (first_counts x xs ∙ ap (λ b. cond b 1 0 + count_by p xs) (h.0 0 x (omega arith) (omega arith)))

-- checks stand in the order of their points
pub checks_rise : (points : List Point) (checks : List Check) → ChecksFit points checks → IsNonDecreasingBy (λ (d : Check). d.point) checks
checks_rise points checks fit i j d le within =
    let low : i < length checks = omega arith in
    let same = slice_get-get_or checks i d low in
    fit.order i j (get_or checks i d) (get_or checks j d) le same (slice_get-get_or checks j d within)
