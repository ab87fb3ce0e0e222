use Rattle.std.proofs.Common.{arith, ◌∙◌}
use Rattle.std.proofs.lemmas.Int.{ints}
use Rattle.interval_back.proofs.Equal.{same_within}
use Rattle.interval_back.proofs.signs.opposites.Goals as goal

pub returns : goal.returns
returns c = c.within.ensures ∙ same_within _ (omega (arith, ints)) (omega (arith, ints))
