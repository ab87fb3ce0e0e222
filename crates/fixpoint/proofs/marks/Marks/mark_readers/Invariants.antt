use Rattle.std.proofs.Common.{◌≡◌, length, take}
use Rattle.fixpoint.specs.Marks.{AddsMarks}
use Rattle.fixpoint.proofs.marks.Marks.mark_readers.Given as goal

abbrev pub invariant-loop-reader : goal.invariant-loop-reader
invariant-loop-reader l = record {
  added : AddsMarks (take l.reader-index l.reader-items) l.fn.self.stale.now l.self.stale.now;
  size : length l.self.stale.now ≡ length l.fn.self.stale.now;
  name : l.self.stale.ghost_name ≡ l.fn.self.stale.ghost_name;
  read_by : l.self.read_by ≡ l.fn.self.read_by;
}
