-- A function of two numbers that lies between its values at the ends of each operand lies between four of them.
use Rattle.std.proofs.Common.{ℕ, suc, ◌≤◌, ◌⊎◌, inl, inr, ℤ, pos, negsuc, ◌≤ℤ◌, ◌*ℤ◌, ◌+◌, arith}
use Rattle.std.proofs.lemmas.Int.{ints}
use Rattle.std.proofs.Math.Nat.{mul-le-mul_left}
use Rattle.std.proofs.Math.IntN.{*ℤ_comm}
use borrow.Author.Differences.{up, down}
use Rattle.std.specs.Int.{int_min, int_max}
use Rattle.interval.specs.Ends.{least_of, greatest_of}

-- z lies between u and v, in one order or the other
abbrev pub IsBetween : ℤ → ℤ → ℤ → Type 0
IsBetween u v z = ((u ≤ℤ z) × (z ≤ℤ v)) ⊎ ((v ≤ℤ z) × (z ≤ℤ u))

between_bounds : (u v z : ℤ) → IsBetween u v z → (int_min u v ≤ℤ z) × (z ≤ℤ int_max u v)
between_bounds u v z h = grind (arith, ints)

within_bounds : (l h u v z : ℤ) → l ≤ℤ u → l ≤ℤ v → u ≤ℤ h → v ≤ℤ h → IsBetween u v z → (l ≤ℤ z) × (z ≤ℤ h)
within_bounds l h u v z a b c d e = grind (arith, ints)

pub four_ends : (p q r s u v z : ℤ) → IsBetween u v z → IsBetween p q u → IsBetween r s v → (least_of p q r s ≤ℤ z) × (z ≤ℤ greatest_of p q r s)
four_ends p q r s u v z e f g =
    let a : (int_min p q ≤ℤ u) × (u ≤ℤ int_max p q) = between_bounds p q u f in
    let b : (int_min r s ≤ℤ v) × (v ≤ℤ int_max r s) = between_bounds r s v g in
    within_bounds (least_of p q r s) (greatest_of p q r s) u v z (grind (arith, ints)) (grind (arith, ints)) (grind (arith, ints)) (grind (arith, ints)) e

-- ---- products

pub product_up : (p a : ℤ) (b : ℕ) → p ≤ℤ a → (p *ℤ pos b) ≤ℤ (a *ℤ pos b)
product_up p a b h =
    let apart : up p + down a ≤ up a + down p = omega (arith, ints) in
    omega (arith, ints, mul-le-mul_left b apart)

product_down : (p a : ℤ) (b : ℕ) → p ≤ℤ a → (a *ℤ negsuc b) ≤ℤ (p *ℤ negsuc b)
product_down p a b h =
    let apart : up p + down a ≤ up a + down p = omega (arith, ints) in
    omega (arith, ints, mul-le-mul_left (suc b) apart)

-- a product lies between those at the ends of its left factor
pub product_between : (p q a b : ℤ) → p ≤ℤ a → a ≤ℤ q → IsBetween (p *ℤ b) (q *ℤ b) (a *ℤ b)
product_between p q a (pos b) h k = inl (product_up p a b h, product_up a q b k)
product_between p q a (negsuc b) h k = inr (product_down a q b k, product_down p a b h)

-- and at the ends of its right factor
pub product_between' : (p q a b : ℤ) → p ≤ℤ b → b ≤ℤ q → IsBetween (a *ℤ p) (a *ℤ q) (a *ℤ b)
product_between' p q a b h k = rw (*ℤ_comm a p, *ℤ_comm a q, *ℤ_comm a b) (product_between p q b a h k)
