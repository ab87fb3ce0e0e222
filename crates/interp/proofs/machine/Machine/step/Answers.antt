use Rattle.std.proofs.Common.{ap, sym, ◌∙◌, subst, refl, Ok}
use Rattle.std.specs.declared.alloc.AllocError.{AllocError}
use Rattle.control_points.specs.Chart.{leaving}
use Rattle.control_points.specs.Flows.{chart_of}
use Rattle.control_points.specs.Steps.{fails, next, progress, selector_of}
use Rattle.interp.specs.Machines.{top_point}
use Rattle.interp.specs.Meant.{IsFirst, IsStep, after_edge}
use Rattle.interp.proofs.ValuingSteps.{next_goes_on, next_halts, point_same, step_after, step_fails}
use Rattle.interp.proofs.machine.Machine.step.Goals as goal

pub returns-then-is_halted-clause-exact : goal.returns-then-is_halted-clause-exact
returns-then-is_halted-clause-exact c = λ s h. (next_halts (chart_of c.args.self.now.flow.now) s (c.is_halted.ensures.exact s h ∙ c.if-is_halted.true), h)

pub returns-in-Err-clause-exact : goal.returns-in-Err-clause-exact
returns-in-Err-clause-exact c = λ s h.
    let m = c.args.self.now in
    let chart = chart_of m.flow.now in
    let n = next_goes_on chart s (top_point m.frames.items) (c.is_halted.ensures.exact s h ∙ c.if-is_halted.false) (point_same m.flow.now.program m.frames.items m.links.items s.stack h.stack m.framed.some) in
    step_fails AllocError (next chart s) c.in-Err.fault s m c.error.result c.error.ensures (n ∙ ap (progress (selector_of chart (leaving chart.edges (top_point m.frames.items)))) (c.in-Err.ensures.exact s h)) h

pub returns-in-Ok-None-clause-exact : goal.returns-in-Ok-None-clause-exact
returns-in-Ok-None-clause-exact c = λ s h.
    let m = c.args.self.now in
    let chart = chart_of m.flow.now in
    let n = next_goes_on chart s (top_point m.frames.items) (c.is_halted.ensures.exact s h ∙ c.if-is_halted.false) (point_same m.flow.now.program m.frames.items m.links.items s.stack h.stack m.framed.some) in
    let ks = leaving chart.edges (top_point m.frames.items) in
    let w = subst (λ x. IsFirst m s ks (Ok x)) c.in-Ok-None.field-0-is (c.in-Ok-None.ensures.exact s h) in
    step_fails AllocError (next chart s) c.no_case_label.result s m c.error-in-Ok-None.result c.error-in-Ok-None.ensures (n ∙ ap (progress (selector_of chart ks)) w ∙ ap fails (sym (c.no_case_label.ensures chart refl))) h

pub returns-in-Ok-Some-clause-exact : goal.returns-in-Ok-Some-clause-exact
returns-in-Ok-Some-clause-exact c = λ s h.
    let m = c.args.self.now in
    let chart = chart_of m.flow.now in
    let ks = leaving chart.edges (top_point m.frames.items) in
    let n = next_goes_on chart s (top_point m.frames.items) (c.is_halted.ensures.exact s h ∙ c.if-is_halted.false) (point_same m.flow.now.program m.frames.items m.links.items s.stack h.stack m.framed.some) in
    let w = subst (λ x. IsFirst m s ks (Ok x)) c.in-Ok-Some.field-0-is (c.in-Ok-Some.ensures.exact s h) in
    subst (λ x. IsStep x s c.follow.new.self c.follow.result) (sym (n ∙ ap (progress (selector_of chart ks)) w.first))
    (step_after (selector_of chart ks) (after_edge m s c.in-Ok-Some.edge w.outcome) s c.follow.new.self c.follow.result (c.follow.ensures.exact s h w.outcome w.done))
