use Rattle.pas_valid.proofs.Marks.{stood_first, stood_next, labels_are, once_all, own_all}
use Rattle.pas_valid.proofs.standing.all_labels.Goals as goal

pub loop-r-init : goal.loop-r-init
loop-r-init c = rw c.new-sets.ensures.items (stood_first _ _ c.requires)

pub loop-r-preserved : goal.loop-r-preserved
loop-r-preserved c =
    rw c.in_ok-push.ensures (stood_next _ _ _ _ _ _ _ c.loop-r-test.true c.index-routines-r.is c.in_ok-labels.ensures.labels c.in_ok-labels.ensures.asserts c.loop-r.invariant)

pub returns-clause-labels : goal.returns-clause-labels
returns-clause-labels c = labels_are _ _ _ _ c.loop-r-test.false c.loop-r.invariant

pub returns-clause-once : goal.returns-clause-once
returns-clause-once c = once_all _ _ _ _ c.loop-r-test.false c.loop-r.invariant

pub returns-clause-own : goal.returns-clause-own
returns-clause-own c = own_all _ _ _ _ c.loop-r-test.false c.loop-r.invariant
