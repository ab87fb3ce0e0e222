-- Whole square roots, rounded inward.
use Rattle.std.specs.Prelude.{ℕ, zero, suc, ◌+◌, ◌*◌, nat_le, if◌then◌else◌, ℤ, pos, negsuc}

-- the greatest number whose square is at most n
unfoldable pub root : ℕ → ℕ
root zero = 0
root (suc n) = if nat_le ((root n + 1) * (root n + 1)) (suc n) then root n + 1 else root n

-- the greatest number from 0 whose square is at most z, and 0 where there is none
abbrev pub root_below : ℤ → ℤ
root_below (pos n) = pos (root n)
root_below (negsuc n) = pos 0

-- the least number from 0 whose square is at least z
abbrev pub root_above : ℤ → ℤ
root_above (pos zero) = pos 0
root_above (pos (suc n)) = pos (root n + 1)
root_above (negsuc n) = pos 0
