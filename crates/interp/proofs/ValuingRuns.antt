-- A machine in the states of a run, one after another.
use Rattle.std.proofs.Common.{◌≡◌, ℕ, suc, ◌+◌, ◌≤◌, List, refl, sym, ap, ◌∙◌, subst, arith, Some, Ok}
use Rattle.control_points.specs.declared.flow.Flow.{Flow}
use Rattle.control_points.specs.declared.item.Item.{Item}
use Rattle.control_points.specs.Chart.{Chart}
use Rattle.control_points.specs.Flows.{chart_of}
use Rattle.control_points.specs.Runs.{at, moved, step_from}
use Rattle.control_points.specs.States.{State}
use Rattle.control_points.specs.Steps as steps
use Rattle.control_points.specs.Steps.{moves, next}
use Rattle.interp.specs.declared.machine.Machine.{Machine}
use Rattle.interp.specs.declared.machine.Progress.{Progress}
use Rattle.interp.specs.declared.machine.Progress.TheVariants as progress
use Rattle.interp.specs.declared.running.Ended.{Ended}
use Rattle.interp.specs.declared.running.Ending.{Ending}
use Rattle.interp.specs.declared.running.Ending.TheVariants as ending
use Rattle.interp.specs.Meant.{IsStep}
use Rattle.interp.specs.RunText.{Ends, IsEnd}
use Rattle.interp.specs.Standing.{StandsFor}
use Rattle.interp.proofs.ValuingOutput.{Begins, begins_same, next_grows}

-- the machine runs this flow, and is in the state after n steps
pub record Reaches (flow : Flow) (items : List Item) (n : ℕ) (m : Machine) : Type 0 where
  pub same : m.flow.now ≡ flow
  pub state : State
  pub reached : at (chart_of flow) items n ≡ Some state
  pub stands : StandsFor m state

-- the next one
pub reaches_next : (flow : Flow) (items : List Item) (n : ℕ) (m new : Machine) (w : Reaches flow items n m) → new.flow.now ≡ m.flow.now → (t : State) → next (chart_of m.flow.now) w.state ≡ moves t → StandsFor new t → Reaches flow items (n + 1) new
reaches_next flow items n m new w f t e s = record {
  same = f ∙ w.same;
  state = t;
  reached =
      let one : suc n ≡ n + 1 = omega arith in
      ap (at (chart_of flow) items) (sym one) ∙ ap (step_from (chart_of flow)) w.reached ∙ ap (λ f. moved (next (chart_of f) w.state)) (sym w.same) ∙ ap moved e;
  stands = s;
}

-- how a run ends after this answer to a step, where no further one is allowed
abbrev pub ending_of : Progress → Ending
ending_of progress.Moved = ending.OutOfSteps
ending_of progress.Halted = ending.Halted
ending_of (progress.Error kind at) = ending.Error (record { kind = kind; at = at })

module _ (E : Type 0) (x : steps.Progress) (s : State) (new : Machine) where
  pub ends_so : (limit n : ℕ) (p : Progress) (e : Ending) → IsStep {E = E} x s new (Ok p) → (p ≡ progress.Moved → n ≡ limit) → e ≡ ending_of p → Ends x limit n e
  ends_so limit n progress.Moved e h l is = subst (Ends x limit n) (sym is) (l refl, h.0, h.1)
  ends_so limit n progress.Halted e h l is = subst (Ends x limit n) (sym is) h.0
  ends_so limit n (progress.Error kind at) e h l is = subst (Ends x limit n) (sym is) h.0

  -- where no step is made, the output stays
  pub output_stays : (p : Progress) → IsStep {E = E} x s new (Ok p) → (p ≡ progress.Moved → ⊥) → new.output.items ≡ s.output
  output_stays progress.Moved h n = absurd (n refl)
  output_stays progress.Halted h n = sym h.1.output
  output_stays (progress.Error kind at) h n = sym h.1.output

-- and else it begins with what was written
pub output_begins : (E : Type 0) (c : Chart) (s : State) (new : Machine) (p : Progress) → IsStep {E = E} (next c s) s new (Ok p) → Begins s.output new.output.items
output_begins E c s new progress.Moved h = subst (Begins s.output) h.2.output (next_grows c s h.0 h.1)
output_begins E c s new progress.Halted h = subst (Begins s.output) h.1.output (begins_same s.output)
output_begins E c s new (progress.Error kind at) h = subst (Begins s.output) h.1.output (begins_same s.output)

-- a run that ends where the machine is
pub run_ends : (flow : Flow) (items : List Item) (limit n : ℕ) (m : Machine) (w : Reaches flow items n m) (e : Ended) → e.steps ≡ n → n ≤ limit → e.output.items ≡ w.state.output
    → Ends (next (chart_of m.flow.now) w.state) limit n e.ending → IsEnd (chart_of flow) items limit e
run_ends flow items limit n m w e k l o h = record {
  state = w.state;
  reached = ap (at (chart_of flow) items) k ∙ w.reached;
  within = omega arith;
  output = o;
  ends = subst (λ f. Ends (next (chart_of f) w.state) limit e.steps e.ending) w.same (subst (λ i. Ends (next (chart_of m.flow.now) w.state) limit i e.ending) (sym k) h);
}
