use Rattle.std.proofs.Common.{◌≡◌, [], ◌∷◌, ◌++◌, map, rules, ◌∙◌}
use Rattle.indexmap.specs.IndexMap.{keys}
use Rattle.pas_program.specs.declared.statement.Body.TheViews.{roll-Arm}
use Rattle.pas_check.specs.Sight.{sight}
use Rattle.pas_check.specs.StatementForms.{ArmForm, arm_form}
use Rattle.pas_check.specs.Statements.{arms_in_turn, stated_arm}
use Rattle.pas_check.specs.Writes.{Writing, arm_writes}
use Rattle.pas_check.proofs.InOrder.{shown_goes}
use Rattle.pas_check.proofs.Passing.{gives_wrong}
use Rattle.pas_check.proofs.StatementForms.{arm_form_is, case_form_is, statement_form_is}
use Rattle.pas_check.proofs.Statements.{arm_fails, arm_goes, asserts_fail, body_is, consts_fail, head_free, label_fails}
use Rattle.pas_check.proofs.Writes.{arm_writes_are, statement_writes_are, turn_goes}
use Rattle.pas_check.proofs.checker.Checker.+statement.Goals as goal

pub statement-returns-in_err-label-clause-value : goal.statement-returns-in_err-label-clause-value
statement-returns-in_err-label-clause-value t c =
    gives_wrong _ _ c.from_residual.result c.in_err-label.field-0.0 (search rules) (λ own. label_fails c.args.statement.now (sight c.args.self.now.seen) c.in_err-label.field-0.0 (c.in_err-label.ensures.value own))

pub statement-returns-in_err-asserts-clause-value : goal.statement-returns-in_err-asserts-clause-value
statement-returns-in_err-asserts-clause-value t c =
    gives_wrong _ _ c.from_residual-in_err-asserts.result c.in_err-asserts.field-0.0 (search rules) (λ own.
    asserts_fail c.args.statement.now (sight c.args.self.now.seen) c.as_slice.result.now c.in_err-asserts.field-0.0 c.in_ok-label.ensures.value c.as_slice.ensures (c.in_err-asserts.ensures.value own))

pub statement-returns-in_err-body-clause-value : goal.statement-returns-in_err-body-clause-value
statement-returns-in_err-body-clause-value t c =
    gives_wrong _ _ c.from_residual-in_err-body.result c.in_err-body.field-0.0 (search rules) (λ own.
    body_is c.args.statement.now (sight c.args.self.now.seen) c.as_slice.result.now _ _ c.in_ok-label.ensures.value c.as_slice.ensures c.in_ok-asserts.ensures.value c.in_ok-asserts.ensures.kept (c.in_err-body.ensures.value own))

pub statement-returns-clause-value : goal.statement-returns-clause-value
statement-returns-clause-value t c =
    body_is c.args.statement.now (sight c.args.self.now.seen) c.as_slice.result.now _ _ c.in_ok-label.ensures.value c.as_slice.ensures c.in_ok-asserts.ensures.value c.in_ok-asserts.ensures.kept c.in_ok-body.ensures.value

pub statement-returns-clause-writes : goal.statement-returns-clause-writes
statement-returns-clause-writes t c =
    statement_writes_are c.args.statement.now (sight c.args.self.now.seen) _ c.as_slice.result.now _ _ _ c.as_slice.ensures c.in_ok-asserts.ensures.writes c.in_ok-asserts.ensures.kept c.in_ok-body.ensures.writes

pub statement-returns-clause-form : goal.statement-returns-clause-form
statement-returns-clause-form t c =
    statement_form_is c.args.statement.now (sight c.args.self.now.seen) _ _ _ _ c.as_slice.result.now _ _ _ c.as_slice.ensures c.in_ok-label.ensures.form c.in_ok-asserts.ensures.form c.in_ok-asserts.ensures.kept c.in_ok-body.ensures.form

pub body-returns-in_ok-head-in-For-clause-kept : goal.body-returns-in_ok-head-in-For-clause-kept
body-returns-in_ok-head-in-For-clause-kept t c = c.for_statement.ensures.kept (head_free (sight c.args.self.now.seen) _ _ _ _ c.in_ok-head-in-For.ensures.value)

pub body-returns-in_ok-arms-in-Case-clause-form : goal.body-returns-in_ok-arms-in-Case-clause-form
body-returns-in_ok-arms-in-Case-clause-form t c =
    case_form_is _ _ _ (sight c.args.self.now.seen) _ _ _ _ _ c.as_slice-in-Case.result.now _ c.in-Case.is c.as_slice-in-Case.ensures c.in_ok-of-in-Case.ensures.form c.in_ok-arms-in-Case.ensures.form

pub arms-returns-in_err-consts-clause-value : goal.arms-returns-in_err-consts-clause-value
arms-returns-in_err-consts-clause-value t c =
    let v = sight c.args.self.now.seen in
    gives_wrong _ _ c.from_residual.result c.in_err-consts.field-0.0 (search rules) (λ own.
    consts_fail v c.args.boolean c.args.arms.now c.loop-arm.arm-index c.arm-item.result (arms_in_turn v c.args.boolean [] (map stated_arm c.args.arms.now)) (keys c.loop-arm.before) (sight c.loop-arm.self.seen) c.as_slice.result.now
    c.loop-arm.invariant.kept c.loop-arm-test.true c.arm-item.is c.loop-arm.invariant.rest c.as_slice.ensures c.in_err-consts.field-0.0 (c.in_err-consts.ensures.value own))

pub arms-returns-in_err-body-clause-value : goal.arms-returns-in_err-body-clause-value
arms-returns-in_err-body-clause-value t c =
    let v = sight c.args.self.now.seen in
    gives_wrong _ _ c.from_residual-in_err-body.result c.in_err-body.field-0.0 (search rules) (λ own.
    arm_fails v c.args.boolean c.args.arms.now c.loop-arm.arm-index c.arm-item.result (arms_in_turn v c.args.boolean [] (map stated_arm c.args.arms.now)) (keys c.loop-arm.before) (sight c.loop-arm.self.seen) c.as_slice.result.now
    c.loop-arm.invariant.kept c.loop-arm-test.true c.arm-item.is c.loop-arm.invariant.rest c.as_slice.ensures _ c.in_err-body.field-0.0 c.in_ok-consts.ensures.value (c.in_err-body.ensures.value own))

pub arms-loop-arm-preserved : goal.arms-loop-arm-preserved
arms-loop-arm-preserved t c =
    let v = sight c.args.self.now.seen in
    let pushed : c.push.new.self ≡ c.loop-arm.list ++ roll-Arm (record { consts = c.in_ok-consts.consts; body = c.in_ok-body.body }) ∷ [] = search rules in
    record {
      kept = c.in_ok-body.ensures.kept ∙ c.loop-arm.invariant.kept;
      rest = arm_goes v c.args.boolean c.args.arms.now c.loop-arm.arm-index c.arm-item.result (arms_in_turn v c.args.boolean [] (map stated_arm c.args.arms.now)) (keys c.loop-arm.before) (sight c.loop-arm.self.seen) c.as_slice.result.now
          c.loop-arm.invariant.kept c.loop-arm-test.true c.arm-item.is c.loop-arm.invariant.rest c.as_slice.ensures _ c.in_ok-consts.ensures.value c.in_ok-body.ensures.value;
      writes = turn_goes (λ (s : Writing). s v) arm_writes c.args.arms.now c.loop-arm.arm-index c.arm-item.result _ _ _ c.loop-arm-test.true c.arm-item.is c.loop-arm.invariant.writes
          (arm_writes_are c.arm-item.result v (sight c.loop-arm.self.seen) _ _ _ c.loop-arm.invariant.kept c.in_ok-consts.ensures.writes c.in_ok-body.ensures.writes);
      form = shown_goes (λ (a : ArmForm). a v) arm_form _ c.loop-arm.list c.args.arms.now c.loop-arm.arm-index c.arm-item.result _ _ _ _ c.loop-arm.invariant.form c.loop-arm-test.true c.arm-item.is
          (arm_form_is c.arm-item.result v _ _ _ (sight c.loop-arm.self.seen) c.as_slice.result.now _ _ c.as_slice.ensures c.loop-arm.invariant.kept c.in_ok-consts.ensures.kept c.in_ok-consts.ensures.form c.in_ok-body.ensures.form) pushed;
    }
