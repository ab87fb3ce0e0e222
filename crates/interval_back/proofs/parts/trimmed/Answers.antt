use Rattle.std.proofs.Common.{rules, to_z-of_z, ◌∙◌}
use Rattle.interval_back.specs.Backward.{trimmed}
use Rattle.interval_back.proofs.Equal.{same_interval}
use Rattle.interval_back.proofs.parts.trimmed.Goals as goal

pub returns : goal.returns
unfolding trimmed
returns c = c.between.ensures ∙ same_interval (search (rules, to_z-of_z)) (search (rules, to_z-of_z))
