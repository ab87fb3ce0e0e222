use Rattle.alias_class.proofs.Placing.{one_placed, none_placed}
use Rattle.std.proofs.Common.{◌<◌, get_or, length, arith}
use Rattle.alias_class.proofs.outline.put_ranks.Goals as goal

pub loop-rank-init : goal.loop-rank-init
loop-rank-init c = none_placed c.args.vars.now c.args.ranks.now

pub loop-rank-preserved : goal.loop-rank-preserved
loop-rank-preserved c =
    let below : get_or c.args.vars.now c.loop-rank.rank 0 < length c.loop-rank.ranks = omega (arith, c.requires.below c.loop-rank.rank 0, c.loop-rank.invariant.long) in
    one_placed c.args.vars.now c.loop-rank.rank c.args.ranks.now c.loop-rank.ranks c.requires.distinct c.loop-rank-test.true below c.loop-rank.invariant
