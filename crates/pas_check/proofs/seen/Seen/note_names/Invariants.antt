use Rattle.std.proofs.Common.{◌≡◌, drop}
use Rattle.pas_check.specs.Names.{noted_all}
use Rattle.pas_check.proofs.seen.Seen.note_names.Given as goal

abbrev pub invariant-loop-name : goal.invariant-loop-name
invariant-loop-name l = noted_all l.self.text.now l.names l.fn.declared ≡ noted_all l.self.text.now (drop l.name-index l.names) l.declared
