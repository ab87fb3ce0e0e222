use Rattle.std.proofs.Common.{sym, subst}
use Rattle.interval.specs.Intervals.{IsIn}
use Rattle.interval.specs.IntervalLaws.{meet_has}
use Rattle.interval.proofs.forward.clip.Goals as goal

pub returns-clause-sound : goal.returns-clause-sound
returns-clause-sound c z i j = subst (λ v. IsIn v z) (sym c.meet.ensures) (meet_has c.args.x c.args.range z i j)
