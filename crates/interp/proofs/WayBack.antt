-- At the exit of a routine the return of the latest activation's call is the one action to be done.
use Rattle.std.proofs.Common.{◌≡◌, ℕ, zero, suc, ◌+◌, inl, inr, Bool, true, false, List, [], ◌∷◌, refl, sym, ap, ◌∙◌, subst, arith, Option, Some, None, Ok, Err, nat_eq, add-zero}
use Rattle.std.specs.List.{slice_get}
use Rattle.std.specs.Option.{option_map}
use Rattle.std.proofs.lemmas.Bool.{cases_Bool, cond-true, cond-false, true≢false, eqb-true, eq-eqb}
use Rattle.std.proofs.lemmas.Option.{none-some}
use Rattle.control_points.specs.declared.edge.Act.{Act}
use Rattle.control_points.specs.declared.edge.Act.TheVariants as act
use Rattle.control_points.specs.declared.edge.Edge.{Edge}
use Rattle.control_points.specs.declared.flow.Flow.{Flow}
use Rattle.control_points.specs.declared.point.PointKind.TheVariants as kind
use Rattle.control_points.specs.Actions as meaning
use Rattle.control_points.specs.Actions.{Outcome, effect_of, give_back, slot_at, was_made_by}
use Rattle.control_points.specs.Chart.{Chart, leaving, numbers_from, place_of_point}
use Rattle.control_points.specs.Evaluation.{Answer}
use Rattle.control_points.specs.Fits.{act_at, is_return_of, kind_at, routine_at}
use Rattle.control_points.specs.Flows.{chart_of}
use Rattle.control_points.specs.Leading.{is_return}
use Rattle.control_points.specs.States.{State}
use Rattle.control_points.specs.Steps.{edge_effect, first_done, or_else}
use Rattle.control_points.proofs.Exits.{flow_pairs}
use Rattle.interp.specs.declared.frame.Frame.{Frame}
use Rattle.interp.specs.declared.machine.Machine.{Machine}
use Rattle.interp.specs.Deeds.{IsWayBack, source_of, top_call}
use Rattle.interp.specs.Machines.{AreFrames, top_of, top_point, top_routine}
use Rattle.interp.specs.Standing.{StandsFor}
use Rattle.interp.proofs.Asking.{made_by, top_is}
use Rattle.interp.proofs.Chains.{holds_some}
use Rattle.interp.proofs.Choosing.{others}
use Rattle.interp.proofs.Edges.{leaves_at}
use Rattle.interp.proofs.Lists.{same_some}
use Rattle.interp.proofs.Returning.{latest_call}
use Rattle.interp.proofs.Storage.{map_found}

-- ---- one of several edges, of which no other is to be done

twice : (c : Chart) (s : State) (k : ℕ) (o : Outcome) (rest : Answer (Option State)) → or_else c s k o (or_else c s k o rest) ≡ or_else c s k o rest
twice c s k (Ok (Some e)) rest = refl
twice c s k (Ok None) rest = refl
twice c s k (Err f) rest = refl

module _ (c : Chart) (s : State) (k : ℕ) where
  -- no action of these edges but that of k is to be done
  abbrev IsAlone : List ℕ → Type 0
  IsAlone ks = (i j : ℕ) → slice_get ks i ≡ Some j → nat_eq j k ≡ false → edge_effect c s j (slice_get c.edges j) ≡ Ok None

  alone_after : (j : ℕ) (ks : List ℕ) → IsAlone (j ∷ ks) → IsAlone ks
  alone_after j ks h = λ i n e. h (suc i) n e

  then_none : (ks : List ℕ) → IsAlone ks → first_done c s (k ∷ ks) ≡ first_done c s (k ∷ [])
  then_none [] h = refl
  then_none (j ∷ ks) h =
      let o = edge_effect c s k (slice_get c.edges k) in
      let rest = then_none ks (alone_after j ks h) in
      elim (cases_Bool (nat_eq j k)) [
        | inl e ↦ subst (λ n. first_done c s (k ∷ n ∷ ks) ≡ first_done c s (k ∷ [])) (sym (eqb-true j k e)) (twice c s k o (first_done c s ks) ∙ rest)
        | inr e ↦ ap (or_else c s k o) (others c s j (edge_effect c s j (slice_get c.edges j)) (first_done c s ks) (h 0 j refl e)) ∙ rest
      ]

  only_one : (ks : List ℕ) → IsAlone ks → (i : ℕ) → slice_get ks i ≡ Some k → first_done c s ks ≡ first_done c s (k ∷ [])
  only_one [] h i e = absurd (none-some k e)
  only_one (j ∷ ks) h zero e = subst (λ n. first_done c s (n ∷ ks) ≡ first_done c s (k ∷ [])) (sym (same_some j k e)) (then_none ks (alone_after j ks h))
  only_one (j ∷ ks) h (suc i) e =
      let rest = only_one ks (alone_after j ks h) i e in
      elim (cases_Bool (nat_eq j k)) [
        | inl f ↦ subst (λ n. first_done c s (n ∷ ks) ≡ first_done c s (k ∷ [])) (sym (eqb-true j k f)) (then_none ks (alone_after j ks h))
        | inr f ↦ others c s j (edge_effect c s j (slice_get c.edges j)) (first_done c s ks) (h 0 j refl f) ∙ rest
      ]

-- ---- an edge is among those that leave its point

number_on : (n k : ℕ) → suc n + k ≡ n + suc k
number_on n k = omega arith

has_number : {A : Type 0} (n : ℕ) (test : A → Bool) (xs : List A) (k : ℕ) (x : A) → slice_get xs k ≡ Some x → test x ≡ true → (i : ℕ) × (slice_get (numbers_from n test xs) i ≡ Some (n + k))
has_number n test [] k x e t = absurd (none-some x e)
has_number n test (y ∷ xs) zero x e t =
    let more = numbers_from (suc n) test xs in
    (0, ap (λ ks. slice_get ks 0) (cond-true (test y) (n ∷ more) more (ap test (same_some y x e) ∙ t)) ∙ ap Some (sym (add-zero n)))
has_number n test (y ∷ xs) (suc k) x e t =
    let more = numbers_from (suc n) test xs in
    let w = has_number (suc n) test xs k x e t in
    let there = w.1 ∙ ap Some (number_on n k) in
    elim (cases_Bool (test y)) [
      | inl f ↦ (suc w.0, ap (λ ks. slice_get ks (suc w.0)) (cond-true (test y) (n ∷ more) more f) ∙ there)
      | inr f ↦ (w.0, ap (λ ks. slice_get ks w.0) (cond-false (test y) (n ∷ more) more f) ∙ there)
    ]

is_among : (edges : List Edge) (p k : ℕ) (e : Edge) → slice_get edges k ≡ Some e → e.from ≡ p → (i : ℕ) × (slice_get (leaving edges p) i ≡ Some k)
is_among edges p k e known from =
    let w = has_number 0 (λ (e : Edge). nat_eq e.from p) edges k e known (eq-eqb e.from p from) in
    (w.0, w.1 ∙ ap Some (omega arith))

-- ---- returns

return_is : (k : ℕ) (a : Act) → is_return_of k a ≡ true → is_return a ≡ true
return_is k (act.Return j) h = refl
return_is k _ h = absurd (true≢false (sym h))

-- a return of another call than that of the latest activation is not to be done
other_return : (c : Chart) (s : State) (k at call : ℕ) (a : Act) → is_return a ≡ true → meaning.top_call s.stack ≡ Some call → ((j : ℕ) → a ≡ act.Return j → nat_eq call j ≡ false) → effect_of c s k at a ≡ Ok None
other_return c s k at call (act.Return j) h made other = cond-false (was_made_by j (meaning.top_call s.stack)) (give_back c s at (slot_at c.edges j)) (Ok None) (ap (was_made_by j) made ∙ other j refl)
other_return c s k at call _ h made other = absurd (true≢false (sym h))

differ : (call j n k : ℕ) → n ≡ suc j → k ≡ suc call → nat_eq n k ≡ false → nat_eq call j ≡ false
differ call j n k e f h =
    elim (cases_Bool (nat_eq call j)) [
      | inl g ↦ absurd (true≢false (sym (eq-eqb n k (e ∙ ap suc (sym (eqb-true call j g)) ∙ sym f)) ∙ h))
      | inr g ↦ g
    ]

-- the latest activation stands at an exit, which the edge of its way back leaves
stands_at_exit : (flow : Flow) (frames : List Frame) → AreFrames flow frames → (k : ℕ) → IsWayBack flow.edges frames k → kind_at flow.points (top_point frames) ≡ Some kind.Exit
stands_at_exit flow frames h k w =
    let m = made_by flow frames h w.call w.made in
    let f = map_found (λ (e : Edge). e.from) (slice_get flow.edges k) (top_point frames) w.leaves in
    let r = holds_some (is_return_of w.call) (act_at flow.edges (suc w.call)) (flow.calls_return.return w.call _ m.site m.known m.callee) in
    let g = map_found (λ (e : Edge). e.act) (slice_get flow.edges (suc w.call)) r.0 r.1 in
    let same : f.0 ≡ g.0 = same_some f.0 g.0 (sym f.1 ∙ ap (slice_get flow.edges) w.after ∙ g.1) in
    let back = flow.exits_return.back k f.0 f.1 (ap (λ (e : Edge). is_return e.act) same ∙ ap is_return g.2 ∙ return_is w.call r.0 r.2) in
    ap (kind_at flow.points) (sym f.2) ∙ back

-- at an exit the return of the latest activation's call leaves its point, since a routine has one exit
pub returns_here : (flow : Flow) (frames : List Frame) → AreFrames flow frames → (call : ℕ) → top_call frames ≡ Some call → kind_at flow.points (top_point frames) ≡ Some kind.Exit → source_of flow.edges (suc call) ≡ Some (top_point frames)
returns_here flow frames h call made exit =
    let r = top_routine frames in
    let t = top_is flow frames h in
    let m = made_by flow frames h call made in
    let w = holds_some (is_return_of call) (act_at flow.edges (suc call)) (flow.calls_return.return call r m.site m.known m.callee) in
    let g = map_found (λ (e : Edge). e.act) (slice_get flow.edges (suc call)) w.0 w.1 in
    let stands = ap (routine_at flow.points) t.point ∙ h.stands (top_of frames) t.frame t.known ∙ ap Some (sym t.routine) in
    let same = (flow_pairs flow).exit_once g.0.from (top_point frames) r (flow.calls_return.exit call r m.site g.0 m.known g.1 m.callee) exit (flow.calls_return.exited call r m.site g.0 m.known g.1 m.callee) stands in
    ap (option_map (λ (e : Edge). e.from)) g.1 ∙ ap Some same

-- of the edges that leave the point of the latest activation its way back is the only one whose action may be to be done
pub way_back_first : (m : Machine) (s : State) → StandsFor m s → (k : ℕ) → IsWayBack m.flow.now.edges m.frames.items k
    → first_done (chart_of m.flow.now) s (leaving m.flow.now.edges (top_point m.frames.items)) ≡ first_done (chart_of m.flow.now) s (k ∷ [])
way_back_first m s st k w =
    let flow = m.flow.now in
    let c = chart_of flow in
    let p = top_point m.frames.items in
    let exit = stands_at_exit flow m.frames.items m.framed k w in
    let made = latest_call m s st ∙ w.made in
    let f = map_found (λ (e : Edge). e.from) (slice_get flow.edges k) p w.leaves in
    let here = is_among flow.edges p k f.0 f.1 f.2 in
    only_one c s k (leaving flow.edges p) (λ i j e n.
    let v = leaves_at flow.edges p i j e in
    let returns = flow.exits_return.only j v.edge v.known (ap (kind_at flow.points) v.source ∙ exit) in
    ap (edge_effect c s j) v.known ∙ other_return c s j (place_of_point c.points v.edge.from) w.call v.edge.act returns made (λ l is. differ w.call l j k (flow.calls_return.called j l v.edge v.known is) w.after n)
    ) here.0 here.1
