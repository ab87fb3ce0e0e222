use Rattle.std.proofs.Common.{arith}
use Rattle.std.proofs.lemmas.Grind.{common_steps}
use Rattle.std.proofs.lemmas.List.Sums.{fold_more}
use Rattle.transfer_fwd.proofs.testing.hull_of.Goals as goal

pub loop-z-preserved : goal.loop-z-preserved
loop-z-preserved c = record {
  least = grind (arith, common_steps, fold_more);
  greatest = grind (arith, common_steps, fold_more);
}
