use Rattle.std.specs.Prelude.{flat_map}
use Rattle.pas_check.specs.Block.{section_names}
use Rattle.pas_check.specs.Names.{noted_all}
use Rattle.pas_check.proofs.Noted.{noted_more}
use Rattle.pas_check.proofs.seen.Seen.note_formals.Goals as goal

pub loop-section-preserved : goal.loop-section-preserved
loop-section-preserved c =
    noted_more section_names c.args.self.now.text.now (noted_all c.args.self.now.text.now (flat_map section_names c.args.sections.now) c.args.declared.now) c.loop-section.declared _ c.args.sections.now c.loop-section.section-index c.section-item.result c.as_slice.result.now
    c.loop-section.invariant c.loop-section-test.true c.section-item.is c.as_slice.ensures c.in_ok-note_names.ensures.names
