use Rattle.std.proofs.Common.{◌≡◌, drop, map}
use Rattle.pas_check.specs.Block.{type_name}
use Rattle.pas_check.specs.Names.{noted_all}
use Rattle.pas_check.proofs.seen.Seen.note_types.Given as goal

abbrev pub invariant-loop-decl : goal.invariant-loop-decl
invariant-loop-decl l = noted_all l.self.text.now (map type_name l.decls) l.fn.declared ≡ noted_all l.self.text.now (map type_name (drop l.decl-index l.decls)) l.declared
