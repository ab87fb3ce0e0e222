use Rattle.std.proofs.Common.{arith, ◌∙◌}
use Rattle.std.proofs.lemmas.Int.{ints}
use Rattle.interval_back.proofs.Equal.{same_signs}
use Rattle.interval_back.proofs.signs.of_magnitude.Goals as goal

pub returns : goal.returns
returns c =
    c.of_either_sign.ensures ∙ same_signs c.args.w.lo c.args.w.hi c.args.x (omega (arith, ints)) (omega (arith, ints))
