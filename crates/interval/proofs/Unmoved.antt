-- What a call leaves as it was.
use Rattle.std.proofs.Common.{◌≡◌, Bool, true, false, not, ◌&&◌, ◌||◌, IsTrue, refl}
use Rattle.interval.specs.declared.val.Val.{Val}
use Rattle.interval.specs.Intervals.{is_empty}
use Rattle.interval.specs.IntervalLaws.{narrow_stays}
use Rattle.interval.specs.Values.{val_narrow, narrowed_low, narrowed_high}
use Rattle.interval.specs.ValueLaws.{same_parts}

and_stays : (a b : Bool) → IsTrue (b || not a) → (a && b) ≡ a
and_stays false b h = refl
and_stays true true h = refl
and_stays true false h = h

pub val_narrow_stays : (v w l : Val) → narrowed_low v.itv w.itv l.itv ≡ v.itv.lo → narrowed_high v.itv w.itv l.itv ≡ v.itv.hi
    → IsTrue (w.undef || not v.undef) → is_empty w.itv ≡ false → val_narrow v w l ≡ v
val_narrow_stays v w l low high undef some =
    same_parts (val_narrow v w l) v (and_stays v.undef w.undef undef) (narrow_stays v.itv w.itv l.itv some low high)
