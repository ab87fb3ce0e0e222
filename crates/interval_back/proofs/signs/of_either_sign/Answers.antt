use Rattle.std.proofs.Common.{arith, ◌∙◌, neg_ℤ}
use Rattle.std.proofs.lemmas.Int.{ints}
use Rattle.interval_back.specs.Backward.{within}
use Rattle.interval_back.proofs.Equal.{same_within, same_join}
use Rattle.interval_back.proofs.signs.of_either_sign.Goals as goal

pub returns : goal.returns
returns c =
    c.join.ensures
    ∙ same_join (within c.args.lo c.args.hi c.args.x) (within (neg_ℤ c.args.hi) (neg_ℤ c.args.lo) c.args.x)
    (c.within.ensures ∙ same_within _ (omega (arith, ints)) (omega (arith, ints)))
    (c.within-2.ensures ∙ same_within _ (omega (arith, ints)) (omega (arith, ints)))
