use Rattle.std.proofs.Common.{rules, to_z-of_z}
use Rattle.interval.specs.Answers.{clipped_between}
use Rattle.interval.proofs.answer.Answer.clipped.Goals as goal

pub returns-then-least-lo : goal.returns-then-least-lo
unfolding clipped_between
returns-then-least-lo c = search (rules, to_z-of_z, c.between.ensures, c.if-least-lo.true)

pub returns-else-least-lo : goal.returns-else-least-lo
unfolding clipped_between
returns-else-least-lo c = search (rules, to_z-of_z, c.between.ensures, c.if-least-lo.false)
