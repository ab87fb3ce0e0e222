use Rattle.std.proofs.Common.{rules, to_z-of_z, ◌∙◌}
use Rattle.interval.proofs.Equal.{equal_intervals}
use Rattle.interval.proofs.tables.quotient_hull.Goals as goal

pub returns : goal.returns
returns c = c.between.ensures ∙ equal_intervals (search (rules, to_z-of_z)) (search (rules, to_z-of_z))
