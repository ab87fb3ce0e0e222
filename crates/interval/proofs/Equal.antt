-- Equal bounds make equal intervals and answers.
use Rattle.std.proofs.Common.{◌≡◌, ℤ}
use Rattle.interval.specs.Intervals.{interval}
use Rattle.interval.specs.Answers.{clipped_between}

pub equal_intervals : {p q r s : ℤ} → p ≡ r → q ≡ s → interval p q ≡ interval r s
equal_intervals e f = cc

pub equal_answers : (low high : ℤ) {p q r s : ℤ} → p ≡ r → q ≡ s → clipped_between low high p q ≡ clipped_between low high r s
equal_answers low high e f = cc
