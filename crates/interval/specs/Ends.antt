-- The least and the greatest of four numbers, as those that ends of intervals give.
use Rattle.std.specs.Prelude.{ℤ, pos, neg_ℤ, ◌≤ℤ◌}
use Rattle.std.specs.Int.{int_min, int_max}

abbrev pub least_of : ℤ → ℤ → ℤ → ℤ → ℤ
least_of p q r s = int_min (int_min p q) (int_min r s)

abbrev pub greatest_of : ℤ → ℤ → ℤ → ℤ → ℤ
greatest_of p q r s = int_max (int_max p q) (int_max r s)

-- z lies where products of two 32-bit numbers do, from -2^62 to 2^62
abbrev pub IsProductSized : ℤ → Type 0
IsProductSized z = (neg_ℤ (pos 4611686018427387904) ≤ℤ z) × (z ≤ℤ pos 4611686018427387904)
