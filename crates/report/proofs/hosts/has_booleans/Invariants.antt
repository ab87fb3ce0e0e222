use Rattle.std.proofs.Common.{◌≡◌, ◌<◌, length}
use Rattle.report.specs.Hosts.{has_booleans}
use Rattle.report.proofs.hosts.has_booleans.Given as goal

abbrev pub invariant-loop-boolean : goal.invariant-loop-boolean
invariant-loop-boolean l = record {
  in_range : l.current < length l.program.types;
  same : has_booleans l.program.types l.current ≡ has_booleans l.program.types l.fn.of_type;
}

abbrev pub decreases-loop-boolean : goal.decreases-loop-boolean
decreases-loop-boolean l = l.current
