-- Equal bounds make equal parts of an interval.
use Rattle.std.proofs.Common.{◌≡◌, ℤ}
use Rattle.interval.specs.declared.itv.Itv.{Itv}
use Rattle.interval.specs.Intervals.{interval, join}
use Rattle.interval_back.specs.Backward.{within, of_either_sign}

pub same_interval : {p q r s : ℤ} → p ≡ r → q ≡ s → interval p q ≡ interval r s
same_interval e f = cc

pub same_within : {p q r s : ℤ} (x : Itv) → p ≡ r → q ≡ s → within p q x ≡ within r s x
same_within x e f = cc

pub same_join : (u v : Itv) {x y : Itv} → x ≡ u → y ≡ v → join x y ≡ join u v
same_join u v e f = cc

pub same_signs : {p q : ℤ} (r s : ℤ) (x : Itv) → p ≡ r → q ≡ s → of_either_sign p q x ≡ of_either_sign r s x
same_signs r s x e f = cc
