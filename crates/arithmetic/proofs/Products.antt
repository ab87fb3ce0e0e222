-- A product of two 32-bit numbers fits 64 bits.
use Rattle.std.proofs.Common.{◌^◌, ◌<◌, ◌≤◌, arith, FitsSigned, w32, w64, ℤ, pos, negsuc, ◌*ℤ◌, unsigned_abs}
use Rattle.std.proofs.lemmas.Int.{fits_signed_mul}

abs_bound : (x : ℤ) → FitsSigned w32 x → unsigned_abs x ≤ 2 ^ 31
abs_bound (pos n) f = let below : n < 2 ^ 31 = f.sfits in omega arith
abs_bound (negsuc n) f = let below : n < 2 ^ 31 = f.sfits in omega arith

pub product_fits : (x y : ℤ) → FitsSigned w32 x → FitsSigned w32 y → FitsSigned w64 (x *ℤ y)
product_fits x y f g = fits_signed_mul w64 x y (2 ^ 31) (2 ^ 31) (abs_bound x f) (abs_bound y g) (omega arith)
