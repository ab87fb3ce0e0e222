-- Answers of operators at intervals.
use Rattle.std.specs.Prelude.{true, ◌&&◌, ℤ, int_le}
use Rattle.std.specs.Int.{int_min, int_max}
use Rattle.interval.specs.declared.itv.Itv.{Itv}
use Rattle.interval.specs.declared.answer.Answer.{Answer}
use Rattle.interval.specs.Intervals.{interval}

-- the value of an operator that makes no error
abbrev pub always : Itv → Answer
always v = record { value = v; holds = true }

-- the part of lo..hi between the numbers low and high, and whether that is all of it
unfoldable pub clipped_between : ℤ → ℤ → ℤ → ℤ → Answer
clipped_between low high lo hi = record {
  value = interval (int_max lo low) (int_min hi high);
  holds = int_le low lo && int_le hi high;
}

-- the part of lo..hi in a range, and whether that is all of it
abbrev pub clipped : Itv → ℤ → ℤ → Answer
clipped range lo hi = clipped_between range.lo range.hi lo hi
