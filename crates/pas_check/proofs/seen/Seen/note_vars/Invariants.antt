use Rattle.std.proofs.Common.{◌≡◌, drop}
use Rattle.std.specs.Prelude.{flat_map}
use Rattle.pas_check.specs.Block.{var_names}
use Rattle.pas_check.specs.Names.{noted_all}
use Rattle.pas_check.proofs.seen.Seen.note_vars.Given as goal

abbrev pub invariant-loop-decl : goal.invariant-loop-decl
invariant-loop-decl l = noted_all l.self.text.now (flat_map var_names l.decls) l.fn.declared ≡ noted_all l.self.text.now (flat_map var_names (drop l.decl-index l.decls)) l.declared
