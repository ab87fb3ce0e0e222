-- The first edge whose action is to be done, as the edges are gone over one after another.
use Rattle.std.proofs.Common.{◌≡◌, ℕ, suc, ◌+◌, ◌<◌, List, ◌∷◌, length, get_or, drop, refl, sym, ap, ◌∙◌, subst, Option, Some, None, Result, Ok, Err, add-one}
use Rattle.std.specs.List.{slice_get}
use Rattle.std.proofs.lemmas.Option.{get_or_from_slice_get, slice_get-get_or}
use Rattle.std.proofs.Math.Seq.{drop-cons}
use Rattle.control_points.specs.declared.edge.Edge.{Edge}
use Rattle.control_points.specs.declared.fault.Fault.{Fault}
use Rattle.control_points.specs.declared.flow.Flow.{Flow}
use Rattle.control_points.specs.Actions as meaning
use Rattle.control_points.specs.Actions.{Outcome, Passing, effect_of, formals_of, frame_of_call, anew, pass}
use Rattle.control_points.specs.Chart.{Chart, place_of_point}
use Rattle.control_points.specs.Evaluation.{Answer, then_with}
use Rattle.control_points.specs.Flows.{chart_of}
use Rattle.control_points.specs.States.{State}
use Rattle.control_points.specs.Steps.{edge_effect, first_done, or_else}
use Rattle.interp.specs.declared.decide.Deed.{Deed}
use Rattle.interp.specs.declared.decide.Deed.TheVariants as deed
use Rattle.interp.specs.declared.frame.Frame.{Frame}
use Rattle.interp.specs.declared.machine.Machine.{Machine}
use Rattle.interp.specs.Deeds.{AreOnward}
use Rattle.interp.specs.Machines.{AreFrames, top_point}
use Rattle.interp.specs.Meant.{IsDone, IsFirst, IsFirstDone}
use Rattle.interp.proofs.Asking.{Onward, onward}
use Rattle.interp.proofs.Storage.{map_found}

-- the edge at a place of the list, and those after it
pub first_at : (c : Chart) (s : State) (ks : List ℕ) (i k : ℕ) (e : Edge) → i < length ks → get_or ks i 0 ≡ k → slice_get c.edges k ≡ Some e
    → first_done c s (drop i ks) ≡ or_else c s k (effect_of c s k (place_of_point c.points e.from) e.act) (first_done c s (drop (i + 1) ks))
first_at c s ks i k e h g known =
    ap (first_done c s) (drop-cons ks i 0 h ∙ ap (λ k. k ∷ drop (suc i) ks) g)
    ∙ ap (λ o. or_else c s k (edge_effect c s k o) (first_done c s (drop (suc i) ks))) known
    ∙ ap (λ n. or_else c s k (effect_of c s k (place_of_point c.points e.from) e.act) (first_done c s (drop n ks))) (sym (add-one i))

-- an action that is to be done leaves the others aside
made_else : (c : Chart) (s : State) (k : ℕ) (r : Answer Passing) (f : Passing → meaning.Effect) (x y : Answer (Option State)) → or_else c s k (then_with r (λ p. Ok (Some (f p)))) x ≡ or_else c s k (then_with r (λ p. Ok (Some (f p)))) y
made_else c s k (Ok p) f x y = refl
made_else c s k (Err e) f x y = refl

done_else : (m : Machine) (s : State) (k : ℕ) (outcome : Outcome) (d : Deed) (x y : Answer (Option State)) → IsDone m s k outcome d → or_else (chart_of m.flow.now) s k outcome x ≡ or_else (chart_of m.flow.now) s k outcome y
done_else m s k outcome (deed.Lands e) x y h = ap (λ o. or_else (chart_of m.flow.now) s k o x) h.1 ∙ sym (ap (λ o. or_else (chart_of m.flow.now) s k o y) h.1)
done_else m s k outcome (deed.Calls routine actuals) x y h =
    let c = chart_of m.flow.now in
    let head = c.tables.head_at routine in
    ap (λ o. or_else c s k o x) h
    ∙ made_else c s k (pass c s actuals.now (formals_of c s head)) (λ p. record { onward = anew (frame_of_call c s k routine head p.bindings); changes = p.changes; items = s.items; output = s.output }) x y
    ∙ sym (ap (λ o. or_else c s k o y) h)

pub first_is : (m : Machine) (s : State) (ks : List ℕ) (k : ℕ) (outcome : Outcome) (d : Deed) (rest : Answer (Option State)) → first_done (chart_of m.flow.now) s ks ≡ or_else (chart_of m.flow.now) s k outcome rest → IsDone m s k outcome d → IsFirstDone m s ks k d
first_is m s ks k outcome d rest e h = record { outcome = outcome; first = e ∙ done_else m s k outcome d rest (Ok None) h; done = h }

-- edges of which the first to be done is the same
pub first_same : (m : Machine) (s : State) (ks js : List ℕ) (result : Result (Option (ℕ × Deed)) Fault) → first_done (chart_of m.flow.now) s ks ≡ first_done (chart_of m.flow.now) s js → IsFirst m s js result → IsFirst m s ks result
first_same m s ks js (Ok None) e h = e ∙ h
first_same m s ks js (Ok (Some (k, d))) e h = record { outcome = h.outcome; first = e ∙ h.first; done = h.done }
first_same m s ks js (Err f) e h = e ∙ h

pub first_error : (c : Chart) (s : State) (k : ℕ) (outcome : Outcome) (f : Fault) (rest : Answer (Option State)) → outcome ≡ Err f → or_else c s k outcome rest ≡ Err f
first_error c s k outcome f rest e = ap (λ o. or_else c s k o rest) e

pub first_wrong : (m : Machine) (s : State) (ks : List ℕ) (result : Result (Option (ℕ × Deed)) Fault) (f : Fault) → result ≡ Err f → first_done (chart_of m.flow.now) s ks ≡ Err f → IsFirst m s ks result
first_wrong m s ks result f e h = subst (IsFirst m s ks) (sym e) h

pub others : (c : Chart) (s : State) (k : ℕ) (outcome : Outcome) (rest : Answer (Option State)) → outcome ≡ Ok None → or_else c s k outcome rest ≡ rest
others c s k outcome rest e = ap (λ o. or_else c s k o rest) e

-- ---- an edge that leaves the point of the latest activation

-- the edge e is the k-th of the flow
pub record Met (flow : Flow) (frames : List Frame) (k : ℕ) (e : Edge) : Type 0 where
  pub known : slice_get flow.edges k ≡ Some e
  pub leaves : e.from ≡ top_point frames
  pub onward : Onward flow frames e

pub edge_met : (flow : Flow) (frames : List Frame) → AreFrames flow frames → (ks : List ℕ) → AreOnward flow.edges (top_point frames) ks → (edges : List Edge) (i : ℕ) (e : Edge) → edges ≡ flow.edges → i < length ks → e ≡ get_or edges (get_or ks i 0) e
    → Met flow frames (get_or ks i 0) e
edge_met flow frames h ks out edges i e es within is =
    let k = get_or ks i 0 in
    let w = map_found (λ (e : Edge). e.from) (slice_get flow.edges k) (top_point frames) (out i k (slice_get-get_or ks i 0 within)) in
    let same : e ≡ w.0 = is ∙ ap (λ es. get_or es k e) es ∙ get_or_from_slice_get flow.edges k w.0 e w.1 in
    let known = w.1 ∙ ap Some (sym same) in
    let leaves = ap (λ (e : Edge). e.from) same ∙ w.2 in
    record { known = known; leaves = leaves; onward = onward flow frames h k e known leaves }
