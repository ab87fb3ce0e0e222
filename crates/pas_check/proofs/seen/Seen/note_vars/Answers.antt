use Rattle.std.specs.Prelude.{flat_map}
use Rattle.pas_check.specs.Block.{var_names}
use Rattle.pas_check.specs.Names.{noted_all}
use Rattle.pas_check.proofs.Noted.{noted_more}
use Rattle.pas_check.proofs.seen.Seen.note_vars.Goals as goal

pub loop-decl-preserved : goal.loop-decl-preserved
loop-decl-preserved c =
    noted_more var_names c.args.self.now.text.now (noted_all c.args.self.now.text.now (flat_map var_names c.args.decls.now) c.args.declared.now) c.loop-decl.declared _ c.args.decls.now c.loop-decl.decl-index c.decl-item.result c.as_slice.result.now
    c.loop-decl.invariant c.loop-decl-test.true c.decl-item.is c.as_slice.ensures c.in_ok-note_names.ensures.names
