use Rattle.std.proofs.Common.{refl}
use Rattle.interval.specs.Intervals.{empty}
use Rattle.interval.specs.Same.{same_bounds}
use Rattle.interval.proofs.itv.Itv.none.Goals as goal

pub returns : goal.returns
returns c = same_bounds _ empty refl refl
