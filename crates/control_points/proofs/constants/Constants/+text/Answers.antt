use Rattle.std.proofs.Common.{◌≡◌, ◌≤◌, ◌++◌, [], cond, map, length, refl, sym, ap, ◌∙◌, leb-true}
use Rattle.std.proofs.lemmas.List.{append-nil}
use Rattle.pas_program.specs.Checked.{tables}
use Rattle.control_points.specs.declared.constants.Constants.{Constants}
use Rattle.control_points.specs.Marks.{joined}
use Rattle.control_points.specs.Thresholds.{arm_constants, expr_constants, first_different, most_constants, of_arm, statement_constants}
use Rattle.control_points.proofs.FirstDifferent.{found_full, found_more, found_none}
use Rattle.control_points.proofs.Walked.{all_by, more_by, ok_found, ok_found3, walked_all, walked_more}
use Rattle.control_points.proofs.WalkedStatements.{arm_found, assign_constants, case_constants, copy_constants, for_constants, if_constants, if_else_constants, repeat_constants, statement_constants_is, while_constants}
use Rattle.control_points.proofs.constants.Constants.+text.Goals as goal
use Rattle.control_points.proofs.constants.Constants.+text.Goals.{arms-then-not-boolean+in_ok-constants, arms-else-not-boolean}

pub arms-loop-arm-preserved : goal.arms-loop-arm-preserved
arms-loop-arm-preserved t c =
    let p = c.args.program.now in
    let b = c.args.boolean in
    let arm = c.arm-item.result in
    let old = c.loop-arm.self.values in
    let own : c.if-not-boolean.self.values ≡ first_different (old ++ cond b [] arm.consts) = elim c.if-not-boolean.branch [
      | arms-then-not-boolean+in_ok-constants w ↦ ap (λ (x : Constants). x.values) w.self-is ∙ (rw w.as_slice.ensures at w.in_ok-constants.ensures) ∙ ap (λ x. first_different (old ++ cond x [] arm.consts)) (sym w.if-not-boolean.true)
      | arms-else-not-boolean w ↦ ap (λ (x : Constants). x.values) w.self-is ∙ found_none old c.loop-arm.self.first ∙ ap (λ x. first_different (old ++ cond x [] arm.consts)) (sym w.if-not-boolean.false)
    ] in
    let more = arm_found (tables p) p.asserts b arm old c.if-not-boolean.self.values c.statement.new.self.values own c.in_ok-statement.ensures in
    more_by (λ ys. joined (map (of_arm b) (map (arm_constants (tables p) p.asserts) ys))) (λ a. of_arm b (arm_constants (tables p) p.asserts a)) c.args.arms.now (λ x ys. refl)
    c.loop-arm.arm-index arm old _ _ c.loop-arm-test.true c.arm-item.is more c.loop-arm.invariant

pub sequence-loop-s-preserved : goal.sequence-loop-s-preserved
sequence-loop-s-preserved t c =
    let p = c.args.program.now in
    walked_more (statement_constants (tables p) p.asserts) c.args.body.now c.loop-s.s-index c.s-item.result _ _ _ c.loop-s-test.true c.s-item.is c.in_ok-statement.ensures c.loop-s.invariant

pub arms-returns : goal.arms-returns
arms-returns t c =
    let p = c.args.program.now in
    let b = c.args.boolean in
    all_by (λ ys. joined (map (of_arm b) (map (arm_constants (tables p) p.asserts) ys))) (λ a. of_arm b (arm_constants (tables p) p.asserts a)) c.args.arms.now refl
    c.loop-arm.arm-index c.loop-arm.self.values _ c.loop-arm.self.first c.loop-arm-test.false c.loop-arm.invariant

pub sequence-returns : goal.sequence-returns
sequence-returns t c =
    let p = c.args.program.now in
    walked_all (statement_constants (tables p) p.asserts) c.args.body.now c.loop-s.s-index c.loop-s.self.values _ c.loop-s.self.first c.loop-s-test.false c.loop-s.invariant

pub body-returns-in_ok-access-in-Assign : goal.body-returns-in_ok-access-in-Assign
body-returns-in_ok-access-in-Assign t c = rw (c.in-Assign.is, assign_constants) (ok_found _ _ _ _ _ _ c.in_ok-access-in-Assign.ensures c.expr.ensures)

pub body-returns-in_ok-access-in-Copy : goal.body-returns-in_ok-access-in-Copy
body-returns-in_ok-access-in-Copy t c = rw (c.in-Copy.is, copy_constants) (ok_found _ _ _ _ _ _ c.in_ok-access-in-Copy.ensures c.access-in-Copy-2.ensures)

pub body-returns-in-None : goal.body-returns-in-None
body-returns-in-None t c =
    let inner = rw c.get.ensures at c.in_ok-statement-in-If.ensures in
    rw (c.in-If.is, c.in-None.is, if_constants)
    (inner ∙ found_more _ _ _ _ c.in_ok-expr-in-If.ensures ∙ ap (λ zs. first_different (c.args.self.now.values ++ (expr_constants c.in-If.cond ++ zs))) (sym (append-nil _)))

pub body-returns-in-Some : goal.body-returns-in-Some
body-returns-in-Some t c =
    let first = rw c.get.ensures at c.in_ok-statement-in-If.ensures in
    let second = rw c.get-in-Some.ensures at c.statement-in-Some.ensures in
    rw (c.in-If.is, c.in-Some.is, if_else_constants) (ok_found3 _ _ _ _ _ _ _ _ c.in_ok-expr-in-If.ensures first second)

pub body-returns-in_ok-expr-in-Case : goal.body-returns-in_ok-expr-in-Case
body-returns-in_ok-expr-in-Case t c =
    let inner = rw (c.is_boolean.ensures, c.as_slice-in-Case.ensures) at c.arms.ensures in
    rw (c.in-Case.is, case_constants) (ok_found _ _ _ _ _ _ c.in_ok-expr-in-Case.ensures inner)

pub body-returns-in_ok-expr-in-While : goal.body-returns-in_ok-expr-in-While
body-returns-in_ok-expr-in-While t c =
    let inner = rw c.get-in-While.ensures at c.statement-in-While.ensures in
    rw (c.in-While.is, while_constants) (ok_found _ _ _ _ _ _ c.in_ok-expr-in-While.ensures inner)

pub body-returns-in_ok-sequence-in-Repeat : goal.body-returns-in_ok-sequence-in-Repeat
body-returns-in_ok-sequence-in-Repeat t c =
    let inner = rw c.as_slice-in-Repeat.ensures at c.in_ok-sequence-in-Repeat.ensures in
    rw (c.in-Repeat.is, repeat_constants) (ok_found _ _ _ _ _ _ inner c.expr-in-Repeat.ensures)

pub body-returns-in_ok-expr-in-For-2 : goal.body-returns-in_ok-expr-in-For-2
body-returns-in_ok-expr-in-For-2 t c =
    let inner = rw c.get-in-For.ensures at c.statement-in-For.ensures in
    rw (c.in-For.is, for_constants) (ok_found3 _ _ _ _ _ _ _ _ c.in_ok-expr-in-For.ensures c.in_ok-expr-in-For-2.ensures inner)

pub statement-returns-then-is_full : goal.statement-returns-then-is_full
statement-returns-then-is_full t c =
    let v = c.args.self.now.values in
    let full : most_constants ≤ length v = leb-true most_constants (length v) (sym c.is_full.ensures ∙ c.if-is_full.true) in
    found_full v _ c.args.self.now.first full

pub statement-returns : goal.statement-returns
statement-returns t c =
    let p = c.args.program.now in
    let listed = rw c.as_slice.ensures at c.in_ok-assertions.ensures in
    rw (statement_constants_is (tables p) p.asserts c.args.s.now) (ok_found _ _ _ _ _ _ listed c.body.ensures)
