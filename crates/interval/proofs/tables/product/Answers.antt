use Rattle.std.proofs.Common.{rules, to_z-of_z, ◌∙◌}
use Rattle.interval.proofs.Equal.{equal_answers}
use Rattle.interval.proofs.tables.product.Goals as goal

pub returns : goal.returns
returns c = c.clipped.ensures ∙ equal_answers _ _ (search (rules, to_z-of_z)) (search (rules, to_z-of_z))
