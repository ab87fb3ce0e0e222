use Rattle.std.proofs.Common.{◌≡◌, ◌+◌, false}
use Rattle.std.specs.Prelude.{if◌then◌else◌}
use Rattle.activations.specs.Marks.{AreClosedFrom, MarksSome, unmarked}
use Rattle.activations.proofs.silence.mark_callers.Given as goal

abbrev pub invariant-loop-changed : goal.invariant-loop-changed
invariant-loop-changed l = record {
  marks : MarksSome l.calls l.mark l.initial.marks l.marks;
  closed : l.changed ≡ false → AreClosedFrom 0 l.calls l.mark l.marks;
}

abbrev pub decreases-loop-changed : goal.decreases-loop-changed
decreases-loop-changed l = unmarked l.mark l.marks + (if l.changed then 1 else 0)
