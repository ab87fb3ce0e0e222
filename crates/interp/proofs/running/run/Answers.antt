use Rattle.std.proofs.Common.{◌≡◌, length, take, ap, sym, ◌∙◌, subst, arith, Ok}
use Rattle.std.specs.declared.alloc.AllocError.{AllocError}
use Rattle.control_points.specs.Flows.{chart_of}
use Rattle.control_points.specs.Steps.{next}
use Rattle.interp.specs.declared.machine.Progress.TheVariants as progress
use Rattle.interp.specs.Meant.{IsStep}
use Rattle.interp.proofs.ValuingOutput.{front_is}
use Rattle.interp.proofs.ValuingRuns.{ending_of, ends_so, output_begins, output_stays, reaches_next, run_ends}
use Rattle.interp.proofs.running.run.Goals.{in-Moved-2, in-Halted-2, in-Error-2}
use Rattle.interp.proofs.running.run.Goals as goal

pub loop-steps-preserved : goal.loop-steps-preserved
loop-steps-preserved c =
    let m = c.loop-steps.machine in
    let w = c.loop-steps.invariant.reaches in
    let x = next (chart_of m.flow.now) w.state in
    let a = subst (λ p. IsStep {E = AllocError} x w.state c.step.new.self (Ok p)) c.in-Moved.is (c.in_ok-step.ensures.exact w.state w.stands) in
    record { reaches = reaches_next c.args.flow.now c.args.items.now c.loop-steps.steps m c.step.new.self w c.in_ok-step.ensures.flow a.0 a.1 a.2 }

pub returns-in-Halted-clause-ended : goal.returns-in-Halted-clause-ended
returns-in-Halted-clause-ended c =
    let m = c.loop-steps.machine in
    let n = c.loop-steps.steps in
    let w = c.loop-steps.invariant.reaches in
    let x = next (chart_of m.flow.now) w.state in
    let a = c.in_ok-step.ensures.exact w.state w.stands in
    let k : c.in_ok-step.field-0 ≡ progress.Moved → ⊥ = λ h. cc (h, c.in-Halted.is) in
    run_ends c.args.flow.now c.args.items.now c.args.limit n m w c.stopped.result c.stopped.ensures.steps (omega arith)
    (ap (λ v. v.items) c.stopped.ensures.output ∙ output_stays AllocError x w.state c.step.new.self c.in_ok-step.field-0 a k)
    (ends_so AllocError x w.state c.step.new.self c.args.limit n c.in_ok-step.field-0 c.stopped.result.ending a (λ h. absurd (k h)) (c.stopped.ensures.ending ∙ ap ending_of (sym c.in-Halted.is)))

pub returns-in-Error-clause-ended : goal.returns-in-Error-clause-ended
returns-in-Error-clause-ended c =
    let m = c.loop-steps.machine in
    let n = c.loop-steps.steps in
    let w = c.loop-steps.invariant.reaches in
    let x = next (chart_of m.flow.now) w.state in
    let a = c.in_ok-step.ensures.exact w.state w.stands in
    let k : c.in_ok-step.field-0 ≡ progress.Moved → ⊥ = λ h. cc (h, c.in-Error.is) in
    run_ends c.args.flow.now c.args.items.now c.args.limit n m w c.stopped-in-Error.result c.stopped-in-Error.ensures.steps (omega arith)
    (ap (λ v. v.items) c.stopped-in-Error.ensures.output ∙ output_stays AllocError x w.state c.step.new.self c.in_ok-step.field-0 a k)
    (ends_so AllocError x w.state c.step.new.self c.args.limit n c.in_ok-step.field-0 c.stopped-in-Error.result.ending a (λ h. absurd (k h)) (c.stopped-in-Error.ensures.ending ∙ ap ending_of (sym c.in-Error.is)))

pub returns-clause-ended : goal.returns-clause-ended
returns-clause-ended c =
    let m = c.loop-steps.machine in
    let n = c.loop-steps.steps in
    let w = c.loop-steps.invariant.reaches in
    let x = next (chart_of m.flow.now) w.state in
    let a = c.in_ok-step-2.ensures.exact w.state w.stands in
    let e : c.match-branch-5.ending ≡ ending_of c.in_ok-step-2.field-0 = elim c.match-branch-5.branch [
      | in-Moved-2 v ↦ v.ending-is ∙ ap ending_of (sym v.in-Moved-2.is)
      | in-Halted-2 v ↦ v.ending-is ∙ ap ending_of (sym v.in-Halted-2.is)
      | in-Error-2 v ↦ v.ending-is ∙ ap ending_of (sym v.in-Error-2.is)
    ] in
    let last : n ≡ c.args.limit = omega arith in
    let kept : c.truncate.new.self.items ≡ w.state.output =
    c.truncate.ensures.items
    ∙ ap (λ v. take (length c.output-before.result.now) v.items) c.stopped-ended.ensures.output
    ∙ ap (λ xs. take (length xs) c.step-2.new.self.output.items) (c.output-before.ensures ∙ sym w.stands.output)
    ∙ front_is w.state.output c.step-2.new.self.output.items (output_begins AllocError (chart_of m.flow.now) w.state c.step-2.new.self c.in_ok-step-2.field-0 a) in
    run_ends c.args.flow.now c.args.items.now c.args.limit n m w (record { ending = c.stopped-ended.result.ending; steps = c.stopped-ended.result.steps; output = c.truncate.new.self }) (c.stopped-ended.ensures.steps ∙ sym last) (omega arith)
    kept
    (ends_so AllocError x w.state c.step-2.new.self c.args.limit n c.in_ok-step-2.field-0 c.stopped-ended.result.ending a (λ h. last) (c.stopped-ended.ensures.ending ∙ e))
