use Rattle.std.proofs.Common.{◌≡◌, take}
use Rattle.environment.specs.Kept.{room_of}
use Rattle.transfer_fwd.specs.Systems.{environments}
use Rattle.report.proofs.MarkedChecks.{marks_of}
use Rattle.report.proofs.verdicts.open_at.Given as goal

abbrev pub invariant-loop-node : goal.invariant-loop-node
invariant-loop-node l = record {
  marks : l.marks.items ≡ marks_of l.nodes.flow.now l.nodes.graph.now (environments l.plain) l.point (take l.node-index l.node-items);
  room : room_of l.scratch ≡ room_of l.initial.scratch;
}
