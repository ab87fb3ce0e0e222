use Rattle.std.proofs.Common.{arith, ◌∙◌}
use Rattle.std.proofs.lemmas.Int.{ints}
use Rattle.interval.proofs.Equal.{equal_intervals}
use Rattle.interval.proofs.tables.opposite.Goals as goal

pub returns : goal.returns
returns c = c.between.ensures ∙ equal_intervals (omega (arith, ints)) (omega (arith, ints))
