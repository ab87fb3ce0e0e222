use Rattle.std.proofs.Common.{◌≡◌, take}
use Rattle.std.specs.List.{fold}
use Rattle.fixpoint.specs.Worked.{joined}
use Rattle.fixpoint.proofs.tests.Equation.value.Given as goal

abbrev pub invariant-loop-node : goal.invariant-loop-node
invariant-loop-node l = l.all ≡ fold (joined l.self l.table) l.self.start (take l.node-index l.reads)
