use Rattle.std.proofs.Common.{arith, refl, ◌∙◌}
use Rattle.std.proofs.lemmas.Int.{ints}
use Rattle.interval_back.proofs.Equal.{same_within}
use Rattle.interval_back.proofs.truth.less.Goals as goal

pub returns : goal.returns
returns c = c.within.ensures ∙ same_within _ refl (omega (arith, ints))
