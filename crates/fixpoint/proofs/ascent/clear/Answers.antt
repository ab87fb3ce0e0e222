use Rattle.fixpoint.proofs.Tables.{cleared_more}
use Rattle.fixpoint.proofs.ascent.clear.Goals as goal

pub loop-element-preserved : goal.loop-element-preserved
loop-element-preserved g c =
    cleared_more g.L.Lattice.ops g.L.Lattice.value c.args.table.now c.loop-element.table c.loop-element.element-index c.element-item.result
    c.set_bottom.new.self (rw c.loop-element.auto.table c.loop-element-test.true) c.loop-element.auto.table c.element-item.is c.loop-element.invariant c.set_bottom.ensures.value
