use Rattle.std.proofs.Common.{rules, to_z-of_z, ◌∙◌}
use Rattle.interval_back.specs.Roots.{root_above, root_below}
use Rattle.interval_back.proofs.Equal.{same_signs}
use Rattle.interval_back.proofs.signs.square_roots.Goals as goal

pub returns : goal.returns
returns c =
    c.of_either_sign.ensures
    ∙ same_signs (root_above c.args.w.lo) (root_below c.args.w.hi) c.args.x (search (rules, to_z-of_z)) (search (rules, to_z-of_z))
