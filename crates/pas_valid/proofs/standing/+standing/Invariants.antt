use Rattle.pas_program.specs.Labels.{count_asserted, count_labelled}
use Rattle.pas_valid.specs.Standing.{arm_over, assert_worth, label_worth}
use Rattle.pas_valid.proofs.Marks.{Noted}
use Rattle.pas_valid.proofs.standing.+standing.Given as goal

abbrev pub invariant-sequence-loop-s : goal.invariant-sequence-loop-s
invariant-sequence-loop-s l = Noted count_labelled count_asserted l.list l.s-index l.mark l.initial.labels l.labels l.initial.marks l.marks

abbrev pub invariant-all_arms-loop-arm : goal.invariant-all_arms-loop-arm
invariant-all_arms-loop-arm l =
    Noted (λ n. arm_over (label_worth n)) (λ a. arm_over (assert_worth a)) l.list l.arm-index l.mark l.initial.labels l.labels l.initial.marks l.marks
