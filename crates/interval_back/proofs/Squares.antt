-- The root of a number is the one whose square is at most that number while the next square is above it.
use Rattle.std.proofs.Common.{◌≡◌, inl, inr, ℕ, zero, suc, ◌+◌, ◌*◌, ◌<◌, ◌≤◌, nat_le, arith, ℤ, pos, negsuc, ◌≤ℤ◌}
use Rattle.std.proofs.Math.Nat.{mul-le-mul}
use Rattle.std.proofs.lemmas.Bool.{cond_both, leb-true, leb-false, cases_order, cases_lt}
use Rattle.std.proofs.lemmas.Int.{ints}
use Rattle.interval_back.specs.Roots.{root, root_below, root_above}

-- r is the whole root of n
abbrev pub IsRoot : ℕ → ℕ → Type 0
IsRoot n r = (r * r ≤ n) × (n < (r + 1) * (r + 1))

squares_apart : (r : ℕ) → (r + 1) * (r + 1) < (r + 1 + 1) * (r + 1 + 1)
squares_apart r =
    let up : (r + 1) * (r + 2) ≤ (r + 2) * (r + 2) = mul-le-mul (omega arith) (omega arith) in
    omega arith

pub root_squares : (n : ℕ) → IsRoot n (root n)
unfolding root
root_squares zero = (omega arith, omega arith)
root_squares (suc n) =
    let below : IsRoot n (root n) = root_squares n in
    cond_both (nat_le ((root n + 1) * (root n + 1)) (suc n)) _ _ (IsRoot (suc n))
    (λ e. (leb-true _ _ e, omega (arith, squares_apart (root n))))
    (λ e. (omega arith, leb-false _ _ e))

-- there is one
pub one_root : (n r s : ℕ) → IsRoot n r → IsRoot n s → r ≡ s
one_root n r s f g =
    elim (cases_order r s) [
      | inl same ↦ same
      | inr (inl less) ↦ let up : (r + 1) * (r + 1) ≤ s * s = mul-le-mul (omega arith) (omega arith) in absurd (omega arith)
      | inr (inr more) ↦ let up : (s + 1) * (s + 1) ≤ r * r = mul-le-mul (omega arith) (omega arith) in absurd (omega arith)
    ]

up_to_root : (n m : ℕ) → n * n ≤ m → n ≤ root m
up_to_root n m h =
    elim (cases_lt (root m) n) [
      | inl less ↦
          let squares : IsRoot m (root m) = root_squares m in
          let up : (root m + 1) * (root m + 1) ≤ n * n = mul-le-mul (omega arith) (omega arith) in
          absurd (omega arith)
      | inr more ↦ more
    ]

above_root : (n m : ℕ) → m < n * n → root m < n
above_root n m h =
    elim (cases_lt (root m) n) [
      | inl less ↦ less
      | inr more ↦
          let squares : IsRoot m (root m) = root_squares m in
          let up : n * n ≤ root m * root m = mul-le-mul more more in
          absurd (omega arith)
    ]

pub below_root_below : (n : ℕ) (z : ℤ) → pos (n * n) ≤ℤ z → pos n ≤ℤ root_below z
below_root_below n (pos m) h = let least : n ≤ root m = up_to_root n m (omega (arith, ints)) in omega (arith, ints)
below_root_below n (negsuc m) h = absurd (omega (arith, ints))

pub above_root_above : (n : ℕ) (z : ℤ) → z ≤ℤ pos (n * n) → root_above z ≤ℤ pos n
above_root_above n (pos zero) h = omega (arith, ints)
above_root_above n (pos (suc m)) h = let least : root m < n = above_root n m (omega (arith, ints)) in omega (arith, ints)
above_root_above n (negsuc m) h = omega (arith, ints)
