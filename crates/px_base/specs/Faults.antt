-- Counts of faults of the outside.
use Rattle.std.specs.Prelude.{ℕ, ◌+◌, ◌-◌, ◌^◌, ◌≤◌, ◌≡◌, min, Bool}
use Rattle.std.specs.Bool.{OnTrue, OnFalse}

-- The count rose, or stands at the end of a `u64`, where no count rises any more.
abbrev pub Rose : ℕ → ℕ → Type 0
Rose before now = min (before + 1) (2 ^ 64 - 1) ≤ now

-- What a call does to a count of faults: it never falls, a call that failed by a fault raised it, and any other call
-- leaves it as it was.
pub record HasCause (before now : ℕ) (failed : Bool) : Type 0 where
  pub later : before ≤ now
  pub rose : OnTrue failed (Rose before now)
  pub same : OnFalse failed (now ≡ before)
