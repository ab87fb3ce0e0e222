use Rattle.std.proofs.Common.{◌≡◌, ◌-◌, ◌≤◌, length, take}
use Rattle.px_base.specs.Bytes.{Adds}
use Rattle.px_base.proofs.writing.write_all.Given as goal

abbrev pub invariant-loop-written : goal.invariant-loop-written
invariant-loop-written g l = record {
  within : l.written ≤ length l.bytes;
  taken : Adds (g.W.Sink.taken l.initial.sink) (g.W.Sink.taken l.sink) (take l.written l.bytes);
  no_fault : g.W.Sink.faults l.sink ≡ g.W.Sink.faults l.initial.sink;
}

abbrev pub decreases-loop-written : goal.decreases-loop-written
decreases-loop-written g l = length l.bytes - l.written
