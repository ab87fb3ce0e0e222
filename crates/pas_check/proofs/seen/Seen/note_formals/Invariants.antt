use Rattle.std.proofs.Common.{◌≡◌, drop}
use Rattle.std.specs.Prelude.{flat_map}
use Rattle.pas_check.specs.Block.{section_names}
use Rattle.pas_check.specs.Names.{noted_all}
use Rattle.pas_check.proofs.seen.Seen.note_formals.Given as goal

abbrev pub invariant-loop-section : goal.invariant-loop-section
invariant-loop-section l = noted_all l.self.text.now (flat_map section_names l.sections) l.fn.declared ≡ noted_all l.self.text.now (flat_map section_names (drop l.section-index l.sections)) l.declared
