use Rattle.std.proofs.Common.{◌≡◌, drop, map}
use Rattle.pas_check.specs.Block.{const_name}
use Rattle.pas_check.specs.Names.{noted_all}
use Rattle.pas_check.proofs.seen.Seen.note_consts.Given as goal

abbrev pub invariant-loop-decl : goal.invariant-loop-decl
invariant-loop-decl l = noted_all l.self.text.now (map const_name l.decls) l.fn.declared ≡ noted_all l.self.text.now (map const_name (drop l.decl-index l.decls)) l.declared
