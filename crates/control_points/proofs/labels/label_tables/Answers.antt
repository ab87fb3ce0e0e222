use Rattle.control_points.proofs.Labelling.{labels_more, many_more}
use Rattle.control_points.proofs.labels.label_tables.Goals as goal

pub loop-r-preserved : goal.loop-r-preserved
loop-r-preserved c = record {
  many = many_more c.loop-r.tables _ _ _ c.loop-r.invariant.many c.in_ok-push.ensures.ok;
  each = labels_more c.args.numbering.now.entries c.args.numbering.now.marks c.loop-r.tables _ _ _ c.loop-r.invariant.many c.in_ok-push.ensures.ok c.loop-r.invariant.each c.in_ok-labels_at.ensures;
}
