-- The state after a call.
use Rattle.std.proofs.Common.{◌≡◌, ℕ, ◌+◌, List, [], ◌∷◌, ◌++◌, refl, sym, ap, ◌∙◌, subst, ℤ, Option, Some, Ok, Err}
use Rattle.std.specs.List.{slice_get}
use Rattle.pas_program.specs.declared.expr.Actual.{Actual}
use Rattle.control_points.specs.declared.fault.Fault.{Fault}
use Rattle.control_points.specs.declared.flow.Flow.{Flow}
use Rattle.control_points.specs.Actions.{Effect, Outcome, Passing, anew, call, formals_of, frame_of_call, pass}
use Rattle.control_points.specs.Chart.{Chart}
use Rattle.control_points.specs.Evaluation.{Answer, then_with}
use Rattle.control_points.specs.Finding.{bound_to}
use Rattle.control_points.specs.Flows.{chart_of}
use Rattle.control_points.specs.States.{Activation, State}
use Rattle.interp.specs.declared.frame.Extent.{Extent}
use Rattle.interp.specs.declared.frame.Frame.{Frame}
use Rattle.interp.specs.Calls.{IsCallOf, IsParent}
use Rattle.interp.specs.Deeds.{target_of}
use Rattle.interp.specs.Layouts.{extent_before}
use Rattle.interp.specs.Machines.{AreFrames, end_of}
use Rattle.interp.specs.Passed.{AreAllPassed, HasPassed}
use Rattle.interp.specs.Standing.{StackIs}
use Rattle.interp.proofs.Called.{called, new_frame}
use Rattle.interp.proofs.Landing.{lies_depth}
use Rattle.interp.proofs.LandingCalls.{pushed_stack}

-- ---- by the meaning

abbrev pub effect_of_call : Chart → State → ℕ → ℕ → Passing → Effect
effect_of_call c s k routine given = record { onward = anew (frame_of_call c s k routine (c.tables.head_at routine) given.bindings); changes = given.changes; items = s.items; output = s.output }

pub called_with : (c : Chart) (s : State) (k routine : ℕ) (actuals : List Actual) (given : Passing) → pass c s actuals (formals_of c s (c.tables.head_at routine)) ≡ Ok given → call c s k routine actuals ≡ Ok (Some (effect_of_call c s k routine given))
called_with c s k routine actuals given e = ap (λ (x : Answer Passing). then_with x (λ p. let y : Outcome = Ok (Some (effect_of_call c s k routine p)) in y)) e

pub called_fault : (c : Chart) (s : State) (k routine : ℕ) (actuals : List Actual) (f : Fault) → pass c s actuals (formals_of c s (c.tables.head_at routine)) ≡ Err f → call c s k routine actuals ≡ Err f
called_fault c s k routine actuals f e = ap (λ (x : Answer Passing). then_with x (λ p. let y : Outcome = Ok (Some (effect_of_call c s k routine p)) in y)) e

-- what an answer that was given says
pub passing_done : (answer : Answer Passing) (P : Passing → Type 0) → AreAllPassed answer P (Ok tt) → (given : Passing) × (answer ≡ Ok given) × P given
passing_done (Ok given) P h = (given, refl, h)
passing_done (Err f) P h = absurd h

pub passing_fault : (answer : Answer Passing) (P : Passing → Type 0) (f : Fault) → AreAllPassed answer P (Err f) → answer ≡ Err f
passing_fault (Ok given) P f h = absurd h
passing_fault (Err g) P f h = ap (λ (g : Fault). let y : Answer Passing = Err g in y) h

-- the same by the chart of a flow that was kept
pub meant_by : (f g : Flow) (s : State) (routine : ℕ) (actuals : List Actual) (x : Answer Passing) → g ≡ f → pass (chart_of g) s actuals (formals_of (chart_of g) s ((chart_of g).tables.head_at routine)) ≡ x
    → pass (chart_of f) s actuals (formals_of (chart_of f) s ((chart_of f).tables.head_at routine)) ≡ x
meant_by f g s routine actuals x e h = subst (λ (g : Flow). pass (chart_of g) s actuals (formals_of (chart_of g) s ((chart_of g).tables.head_at routine)) ≡ x) e h

-- ---- in the machine

pub called_at : (flow : Flow) (frames : List Frame) → AreFrames flow frames → (k routine point : ℕ) (actuals : List Actual) (parent : Option ℕ) (base : Extent) → IsCallOf flow frames k routine actuals → target_of flow.edges k ≡ Some point → IsParent flow frames routine parent
    → end_of flow.program frames ≡ base → AreFrames flow (frames ++ new_frame routine k parent point base ∷ [])
called_at flow frames h k routine point actuals parent base c t q e =
    subst (λ (x : Extent). AreFrames flow (frames ++ new_frame routine k parent point x ∷ [])) e (called flow frames h k routine point actuals parent c t q)

pub passed_kept : (f g : Flow) (xs ys : List Frame) (routine : ℕ) (links : List ℕ) (scalars : List (Option ℤ)) (s : State) (given : Passing) → g ≡ f → ys ≡ xs → HasPassed f xs routine links scalars s given → HasPassed g ys routine links scalars s given
passed_kept f g xs ys routine links scalars s given e h l =
    subst (λ (g : Flow). HasPassed g ys routine links scalars s given) (sym e) (subst (λ (ys : List Frame). HasPassed f ys routine links scalars s given) (sym h) l)

-- the new activation stands on the others
pub made_stack : (flow : Flow) (frames : List Frame) (g : Frame) (links : List ℕ) (scalars : List (Option ℤ)) (s : State) (given : Passing) (a : Activation) → StackIs flow.program frames links s.stack → HasPassed flow frames g.routine links scalars s given
    → g.base ≡ end_of flow.program frames → a.frame.routine ≡ g.routine → a.frame.call ≡ g.call → a.frame.parent ≡ g.parent → a.point ≡ g.point → a.frame.bindings ≡ given.bindings → StackIs flow.program (frames ++ g ∷ []) links (a ∷ s.stack)
made_stack flow frames g links scalars s given a t h base routine call parent point bindings =
    pushed_stack frames g flow.program links s.stack a t (record {
      known = routine;
      call = call;
      parent = parent;
      point = point;
      bound = λ v x e o i.
          let b = h.linked v x e o i in
          record {
            place = b.place;
            address = b.address;
            bound = ap (bound_to v) bindings ∙ b.bound;
            below = lies_depth flow.program frames b.place b.address x.of_type b.lies;
            link = ap (λ (y : Extent). slice_get links (y.links + (extent_before flow.program x.routine v).links)) base ∙ b.link;
            lies = b.lies;
          };
    })
