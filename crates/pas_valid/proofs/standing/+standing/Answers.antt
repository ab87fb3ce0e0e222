use Rattle.pas_valid.proofs.Marks.{noted_first, noted_next, labels_last, asserts_last}
use Rattle.pas_valid.proofs.standing.+standing.Goals as goal

pub sequence-loop-s-init : goal.sequence-loop-s-init
sequence-loop-s-init t c = noted_first _ _ _ _ _ _

pub sequence-loop-s-preserved : goal.sequence-loop-s-preserved
sequence-loop-s-preserved t c =
    noted_next _ _ _ _ _ _ _ _ _ _ _ _ c.loop-s-test.true c.s-item.is c.in_ok-statement.ensures.labels c.in_ok-statement.ensures.asserts c.loop-s.invariant

pub sequence-returns-clause-labels : goal.sequence-returns-clause-labels
sequence-returns-clause-labels t c = labels_last _ _ _ _ _ _ _ _ _ c.loop-s-test.false c.loop-s.invariant

pub sequence-returns-clause-asserts : goal.sequence-returns-clause-asserts
sequence-returns-clause-asserts t c = asserts_last _ _ _ _ _ _ _ _ _ c.loop-s-test.false c.loop-s.invariant

pub all_arms-loop-arm-init : goal.all_arms-loop-arm-init
all_arms-loop-arm-init t c = noted_first _ _ _ _ _ _

pub all_arms-loop-arm-preserved : goal.all_arms-loop-arm-preserved
all_arms-loop-arm-preserved t c =
    noted_next _ _ _ _ _ _ _ _ _ _ _ _ c.loop-arm-test.true c.arm-item.is c.in_ok-in_arm.ensures.labels c.in_ok-in_arm.ensures.asserts c.loop-arm.invariant

pub all_arms-returns-clause-labels : goal.all_arms-returns-clause-labels
all_arms-returns-clause-labels t c = labels_last _ _ _ _ _ _ _ _ _ c.loop-arm-test.false c.loop-arm.invariant

pub all_arms-returns-clause-asserts : goal.all_arms-returns-clause-asserts
all_arms-returns-clause-asserts t c = asserts_last _ _ _ _ _ _ _ _ _ c.loop-arm-test.false c.loop-arm.invariant
