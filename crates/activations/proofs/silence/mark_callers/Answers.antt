use Rattle.std.proofs.Common.{arith}
use Rattle.activations.proofs.SilenceMarks.{marks_more, marks_none}
use Rattle.activations.proofs.silence.mark_callers.Goals as goal

pub loop-changed-init : goal.loop-changed-init
loop-changed-init c = record { marks = marks_none c.args.calls.now c.args.mark c.args.marks.now; closed = λ h. absurd (grind (arith, h)) }

pub loop-changed-preserved : goal.loop-changed-preserved
loop-changed-preserved c = record {
  marks = marks_more c.args.calls.now c.args.mark c.args.marks.now c.loop-changed.marks c.walk_back-changed.new.marks c.loop-changed.invariant.marks c.walk_back-changed.ensures.marks;
  closed = c.walk_back-changed.ensures.closed;
}
