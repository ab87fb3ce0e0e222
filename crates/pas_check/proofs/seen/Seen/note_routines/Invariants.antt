use Rattle.std.proofs.Common.{◌≡◌, drop, map}
use Rattle.pas_check.specs.Block.{routine_name}
use Rattle.pas_check.specs.Names.{noted_all}
use Rattle.pas_check.proofs.seen.Seen.note_routines.Given as goal

abbrev pub invariant-loop-routine : goal.invariant-loop-routine
invariant-loop-routine l = noted_all l.self.text.now (map routine_name l.routines) l.fn.declared ≡ noted_all l.self.text.now (map routine_name (drop l.routine-index l.routines)) l.declared
