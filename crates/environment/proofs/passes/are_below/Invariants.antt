use Rattle.std.proofs.Common.{◌≡◌, drop}
use Rattle.environment.specs.Pointwise.{each_below}
use Rattle.environment.proofs.passes.are_below.Given as goal

abbrev pub invariant-loop-i : goal.invariant-loop-i
invariant-loop-i l = each_below (drop l.i l.cells) (drop l.i l.others) ≡ each_below l.cells l.others
