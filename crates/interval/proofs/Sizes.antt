-- Products of two 32-bit numbers lie between -2^62 and 2^62.
use Rattle.std.proofs.Common.{◌≡◌, sym, subst, ◌≤◌, ◌<◌, ◌^◌, ◌*◌, arith, ◌≤ℤ◌, FitsSigned, w32, ℤ, pos, negsuc, ◌*ℤ◌, unsigned_abs}
use Rattle.std.proofs.Math.Nat.{mul-le-mul}
use Rattle.std.proofs.lemmas.Int.{ints, unsigned_abs-mul}
use Rattle.interval.specs.Ends.{IsProductSized, least_of, greatest_of}

size_of : (x : ℤ) → FitsSigned w32 x → unsigned_abs x ≤ 2147483648
size_of (pos n) f = let below : n < 2 ^ 31 = f.sfits in omega arith
size_of (negsuc n) f = let below : n < 2 ^ 31 = f.sfits in omega arith

sized : (z : ℤ) → unsigned_abs z ≤ 4611686018427387904 → IsProductSized z
sized (pos n) h = (omega (arith, ints), omega (arith, ints))
sized (negsuc n) h = (omega (arith, ints), omega (arith, ints))

pub product_sized : (x y : ℤ) → FitsSigned w32 x → FitsSigned w32 y → IsProductSized (x *ℤ y)
product_sized x y f g =
    let both : unsigned_abs x * unsigned_abs y ≤ 2147483648 * 2147483648 = mul-le-mul (size_of x f) (size_of y g) in
    sized (x *ℤ y) (omega (arith, unsigned_abs-mul x y))

module _ (p q r s : ℤ) (a : IsProductSized p) (b : IsProductSized q) (c : IsProductSized r) (d : IsProductSized s) where
  pub least_sized : IsProductSized (least_of p q r s)
  least_sized = (grind (arith, ints), grind (arith, ints))

  pub greatest_sized : IsProductSized (greatest_of p q r s)
  greatest_sized = (grind (arith, ints), grind (arith, ints))

pub same_sized : (p q : ℤ) → p ≡ q → IsProductSized q → IsProductSized p
same_sized p q e h = subst IsProductSized (sym e) h

pub same_between : (p q least greatest z : ℤ) → p ≡ least → q ≡ greatest → (least ≤ℤ z) × (z ≤ℤ greatest) → (p ≤ℤ z) × (z ≤ℤ q)
same_between p q least greatest z e f h = rw (e, f) h
