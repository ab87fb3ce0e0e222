use Rattle.std.proofs.Common.{◌≡◌, ◌∙◌, ℕ, nat_eq, subst}
use Rattle.std.specs.Prelude.{IfOk}
use Rattle.indexmap.specs.IndexMap.{get}
use Rattle.pas_check.specs.Placing.{outline}
use Rattle.pas_check.proofs.ReachingNotes.{arms_last, arms_next, both_branches, branch_alone, last_next, members_next, other_ends, sequence_is}
use Rattle.pas_check.proofs.label.+place.Goals as goal

pub place_members-loop-statement-preserved : goal.place_members-loop-statement-preserved
place_members-loop-statement-preserved t c = record {
  last = last_next c.args.body.now c.loop-statement.statement-index c.statement-item.result c.loop-statement-test.true c.statement-item.is c.loop-statement.to c.max-to.result c.in_ok-place_inner.field-0 c.max-to.ensures c.in_ok-place_inner.ensures.last
      ∙ c.loop-statement.invariant.last;
  noted = λ first last outermost n.
      c.loop-statement.invariant.noted first last outermost n
      ∙ members_next c.args.body.now c.loop-statement.statement-index c.statement-item.result c.loop-statement-test.true c.statement-item.is first last outermost n
      (get nat_eq c.loop-statement.labels n) (get nat_eq c.place_inner.new.labels n) (c.in_ok-place_inner.ensures.noted n);
}

pub place_arms-loop-arm-preserved : goal.place_arms-loop-arm-preserved
place_arms-loop-arm-preserved t c = record {
  last = arms_last c.args.arms.now c.loop-arm.arm-index c.arm-item.result c.loop-arm-test.true c.arm-item.is c.loop-arm.to c.max-to.result c.in_ok-place_branch.field-0 c.max-to.ensures c.in_ok-place_branch.ensures.last
      ∙ c.loop-arm.invariant.last;
  noted = λ n.
      c.loop-arm.invariant.noted n
      ∙ arms_next c.args.arms.now c.loop-arm.arm-index c.arm-item.result c.loop-arm-test.true c.arm-item.is n
      (get nat_eq c.loop-arm.labels n) (get nat_eq c.place_branch.new.labels n) (c.in_ok-place_branch.ensures.noted n);
}

pub place_branch-returns-clause-noted : goal.place_branch-returns-clause-noted
place_branch-returns-clause-noted t c = λ n.
    branch_alone c.args.statement.now n (get nat_eq c.args.labels.now n) c.in_ok-to.to (get nat_eq c.place_inner.new.labels n) (get nat_eq c.note_label.new.labels n)
    c.in_ok-to.ensures.last (c.in_ok-to.ensures.noted n) (c.in_ok-note_label.ensures.noted n)

pub place_sequence-returns-clause-noted : goal.place_sequence-returns-clause-noted
place_sequence-returns-clause-noted t c = λ n.
    let o = outline c.args.body.now in
    sequence_is o c.args.outermost c.first_place-from.result c.in_ok-to.to n (get nat_eq c.args.labels.now n) (get nat_eq c.place_members.new.labels n) (get nat_eq c.note_members.new.labels n)
    c.first_place-from.ensures c.in_ok-to.ensures.last (c.in_ok-to.ensures.noted _ _ c.args.outermost n) (c.in_ok-note_members.ensures.noted n)

pub place_body-returns-in_ok-second-in-If-clause-noted : goal.place_body-returns-in_ok-second-in-If-clause-noted
place_body-returns-in_ok-second-in-If-clause-noted t c = λ n.
    both_branches c.args.body.now _ c.in-If.yes c.get.result.now c.in-If.no c.in-If.is c.get.ensures n (get nat_eq c.args.labels.now n) (get nat_eq c.place_branch.new.labels n) (get nat_eq c.place_other.new.labels n)
    (c.in_ok-first-in-If.ensures.noted n) (c.in_ok-second-in-If.ensures.noted n)

pub place_other-returns-in-Some-clause-last : goal.place_other-returns-in-Some-clause-last
place_other-returns-in-Some-clause-last t c =
    subst (λ (n : ℕ). IfOk c.place_branch.result (λ to. to ≡ n)) (other_ends c.in-Some.statement c.get.result.now c.args.statement.now c.in-Some.is c.get.ensures) c.place_branch.ensures.last
