use Rattle.std.proofs.Common.{arith, ◌∙◌}
use Rattle.std.proofs.lemmas.Int.{ints}
use Rattle.interval.proofs.Equal.{equal_answers}
use Rattle.interval.proofs.tables.difference.Goals as goal

pub returns : goal.returns
returns c = c.clipped.ensures ∙ equal_answers _ _ (omega (arith, ints)) (omega (arith, ints))
