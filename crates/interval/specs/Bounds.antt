-- What the two bounds of an interval keep.
use Rattle.std.specs.Prelude.{◌≡◌, ℤ, pos, ◌<ℤ◌}

-- the bounds of the one empty interval are 1 and 0
abbrev pub IsCanonical : ℤ → ℤ → Type 0
IsCanonical lo hi = hi <ℤ lo → (lo ≡ pos 1) × (hi ≡ pos 0)
