use Rattle.std.proofs.Common.{refl}
use Rattle.interval.specs.Intervals.{empty}
use Rattle.interval.specs.Same.{same_bounds}
use Rattle.interval.specs.ValueLaws.{same_parts}
use Rattle.environment.specs.Environments.{undefined}
use Rattle.transfer_fwd.proofs.entering.undefined.Goals as goal

pub returns : goal.returns
returns c = same_parts _ undefined refl (same_bounds _ empty refl refl)
