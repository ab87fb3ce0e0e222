use Rattle.std.proofs.Common.{rules, to_z-of_z, refl, ◌∙◌}
use Rattle.interval_back.proofs.Equal.{same_within}
use Rattle.interval_back.proofs.numbers.moduli.Goals as goal

pub returns : goal.returns
returns c = c.within.ensures ∙ same_within _ (search (rules, to_z-of_z)) refl
