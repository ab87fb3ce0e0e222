use Rattle.std.proofs.Common.{◌∙◌, nat_eq}
use Rattle.indexmap.specs.IndexMap.{get}
use Rattle.pas_check.proofs.ReachingNotes.{own_next}
use Rattle.pas_check.proofs.label.note_members.Goals as goal

pub loop-statement-preserved : goal.loop-statement-preserved
loop-statement-preserved c = λ n.
    c.loop-statement.invariant n
    ∙ own_next c.args.body.now c.loop-statement.statement-index c.statement-item.result c.loop-statement-test.true c.statement-item.is c.args.from c.args.to c.args.outermost n
    (get nat_eq c.loop-statement.labels n) (get nat_eq c.note_label.new.labels n) (c.in_ok-note_label.ensures.noted n)
