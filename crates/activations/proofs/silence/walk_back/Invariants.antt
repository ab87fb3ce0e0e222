use Rattle.std.proofs.Common.{◌≤◌, length}
use Rattle.activations.specs.Marks.{AreWalked}
use Rattle.activations.proofs.silence.walk_back.Given as goal

abbrev pub invariant-loop-left : goal.invariant-loop-left
invariant-loop-left l = record {
  within : l.left ≤ length l.calls;
  walked : AreWalked l.calls l.mark l.left l.changed l.initial.marks l.marks;
}

abbrev pub decreases-loop-left : goal.decreases-loop-left
decreases-loop-left l = l.left
