-- A wanted result is one of the part of the wanted interval among the results.
use Rattle.std.proofs.Common.{◌≡◌, sym, subst, IsTrue, ℤ}
use Rattle.interval.specs.declared.itv.Itv.{Itv}
use Rattle.interval.specs.Intervals.{IsIn, is_empty, meet}
use Rattle.interval.specs.IntervalLaws.{meet_has, empty_has_none}

pub possible : (wanted value : Itv) (z : ℤ) {w : Itv} → w ≡ meet wanted value → IsIn wanted z → IsIn value z → IsIn w z
possible wanted value z e k i = subst (λ v. IsIn v z) (sym e) (meet_has wanted value z k i)

pub impossible : (wanted value : Itv) (z : ℤ) {w : Itv} → w ≡ meet wanted value → IsTrue (is_empty w) → IsIn wanted z → IsIn value z → ⊥
impossible wanted value z {w} e none k i = empty_has_none w z none (possible wanted value z e k i)
