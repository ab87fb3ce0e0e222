use Rattle.std.proofs.Common.{◌≡◌}
use Rattle.pas_program.specs.Checked.{tables}
use Rattle.control_points.specs.Actions.{top_depth}
use Rattle.control_points.specs.Finding.{around}
use Rattle.interp.specs.Meant.{InState}
use Rattle.interp.proofs.Chains.{OnWay}
use Rattle.interp.proofs.machine.Machine.depth_of.Given as goal

-- the activation reached lies within one of the routine, which is that around the latest one
abbrev pub invariant-around : goal.invariant-around
invariant-around l = record {
  way : OnWay (tables l.self.flow.now.program) l.self.frames.items l.routine l.depth;
  same : InState l.self (λ s. around s.stack (top_depth s.stack) l.routine ≡ around s.stack l.depth l.routine);
}

abbrev pub decreases-around : goal.decreases-around
decreases-around l = l.depth
