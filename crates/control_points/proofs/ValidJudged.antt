-- What an action may get wrong is judged at the point that its edge leaves.
use Rattle.std.proofs.Common.{◌≡◌, ℕ, zero, suc, ◌<◌, true, false, All, Contains, List, [], ◌∷◌, ◌++◌, map, length, get_or, refl, sym, ap, subst, ◌∙◌, Some, None, option_and_then, option_map, unwrap_or, slice_get, nat_eq, eqb-true, zero-add, arith}
use Rattle.std.proofs.lemmas.Bool.{and_parts, true≢false}
use Rattle.std.proofs.lemmas.List.{map-append}
use Rattle.std.proofs.lemmas.List.Elements.{All-head, Contains-append_right}
use Rattle.std.proofs.lemmas.Option.{none-some, same_Some}
use Rattle.px_base.specs.declared.kind.Kind.TheVariants.{NoResult}
use Rattle.pas_program.specs.declared.variable.VarDef.{VarDef}
use Rattle.pas_program.specs.Tables.{Head, Tables, holds_of}
use Rattle.pas_program.specs.Typed.{are_passed_to, function_fits, passed}
use Rattle.control_points.specs.declared.edge.Act.{Act}
use Rattle.control_points.specs.declared.edge.Act.TheVariants as act
use Rattle.control_points.specs.declared.edge.Edge.{Edge}
use Rattle.control_points.specs.declared.fault.Fault.{Fault}
use Rattle.control_points.specs.declared.point.Point.{Point}
use Rattle.control_points.specs.declared.point.PointKind.{PointKind}
use Rattle.control_points.specs.declared.point.PointKind.TheVariants as kind
use Rattle.control_points.specs.Actions.{slot_of}
use Rattle.control_points.specs.Acts.{act_types_fit}
use Rattle.control_points.specs.Chart.{Chart, leaving, place_of_point}
use Rattle.control_points.specs.Fits.{callee_of, kind_at, routine_at}
use Rattle.control_points.specs.Foreseen.{IsJudgedError, act_checks}
use Rattle.control_points.specs.Judgements.{Judgement, Judgements, act_judgements, assert_judgements, edge_judgements, fault_of, faults_of, first_judgements, function_result, judgements_at, leaving_judgements, one, own_judgements, point_judgements, result_judgements, result_of}
use Rattle.control_points.specs.Leading.{is_exit, is_return}
use Rattle.control_points.specs.Runs.{standing_at}
use Rattle.control_points.specs.States.{State}
use Rattle.control_points.specs.Steps.{point_of}
use Rattle.control_points.specs.WellFormed.{IsWellFormed}
use Rattle.control_points.proofs.JudgedParts.{act_faults}
use Rattle.control_points.proofs.Listed.{same_some}
use Rattle.control_points.proofs.ValidBasics.{holds_found, map_found}
use Rattle.control_points.proofs.ValidErrors.{listed_one}
use Rattle.control_points.proofs.ValidSteps.{IsNumbered, numbers_found}

-- ---- a fault among those of judgements is that of one of them

record OfOne (js : Judgements) (f : Fault) : Type 0 where
  number : ℕ
  judgement : Judgement
  known : slice_get js number ≡ Some judgement
  same : fault_of judgement ≡ f

of_one : (js : Judgements) (f : Fault) (k : ℕ) → k < length (faults_of js) → get_or (faults_of js) k f ≡ f → OfOne js f
of_one [] f k h e = absurd (omega arith)
of_one (j ∷ js) f zero h e = record { number = zero; judgement = j; known = refl; same = e }
of_one (j ∷ js) f (suc k) h e =
    let x = of_one js f k (omega arith) e in
    record { number = suc x.number; judgement = x.judgement; known = x.known; same = x.same }

pub judged_error : (c : Chart) (s : State) (p : ℕ) (f : Fault) → p ≡ point_of s.stack → Contains (faults_of (own_judgements c p)) f → IsJudgedError c s f
judged_error c s p f at h =
    let asserted = assert_judgements c.asserts (standing_at c p) in
    let own = own_judgements c p in
    let all : Contains (faults_of (asserted ++ own)) f =
    subst (λ fs. Contains fs f) (sym (map-append fault_of asserted own)) (Contains-append_right (faults_of asserted) (faults_of own) f h) in
    let x = of_one (asserted ++ own) f all.0 all.1 all.2 in
    record { number = x.number; judgement = x.judgement; known = ap (λ n. slice_get (point_judgements c n) x.number) (sym at) ∙ x.known; same = x.same }

-- ---- actions other than returns

module _ (c : Chart) where
  -- only a return judges by the point's place
  placeless : (a : Act) (at : ℕ) → is_return a ≡ false → act_judgements c at a ≡ act_judgements c 0 a
  placeless (act.Return k) at h = absurd (true≢false h)
  placeless act.Skip at h = refl
  placeless (act.Assign target e) at h = refl
  placeless (act.Copy target source) at h = refl
  placeless (act.Call routine actuals slot name) at h = refl
  placeless (act.Goto routine) at h = refl
  placeless (act.Test e wanted) at h = refl
  placeless (act.Arm selector constants) at h = refl
  placeless (act.Enter control bound first down last) at h = refl
  placeless (act.Bypass control bound first down last) at h = refl
  placeless (act.Next control bound down) at h = refl
  placeless (act.Finish control bound down) at h = refl
  placeless (act.Read target) at h = refl
  placeless act.DropLine at h = refl
  placeless (act.Write item) at h = refl
  placeless act.EndLine at h = refl

  leaving_inner : (p : ℕ) (q : Point) (k : PointKind) → is_exit k ≡ false → leaving_judgements c p q k ≡ first_judgements c (leaving c.edges p)
  leaving_inner p q kind.Exit h = absurd (true≢false h)
  leaving_inner p q kind.Entry h = refl
  leaving_inner p q kind.Before h = refl
  leaving_inner p q kind.AfterCall h = refl
  leaving_inner p q kind.AfterRead h = refl
  leaving_inner p q kind.AfterWrite h = refl
  leaving_inner p q kind.Until h = refl
  leaving_inner p q kind.Step h = refl

module _ (c : Chart) (w : IsWellFormed c) (k : ℕ) (e : Edge) (known : slice_get c.edges k ≡ Some e) where
  abbrev Leaves : ℕ → Type 0
  Leaves = IsNumbered c.edges (λ (d : Edge). nat_eq d.from e.from) 0

  -- the first edge that leaves the point judges as this one does
  first_alike : is_return e.act ≡ false → (q : Point) → slice_get c.points e.from ≡ Some q → is_exit q.kind ≡ false → (ks : List ℕ) → All Leaves ks → 0 < length ks → first_judgements c ks ≡ act_judgements c 0 e.act
  first_alike on q at inner [] every some = absurd (omega arith)
  first_alike on q at inner (j ∷ js) every some =
      let x = All-head Leaves j js every in
      let there : slice_get c.edges j ≡ Some x.item = ap (slice_get c.edges) (sym x.number ∙ zero-add x.index) ∙ x.known in
      let from = eqb-true (x.item).from e.from x.passes in
      let goes : is_return (x.item).act ≡ false = w.pairs.returns j x.item q there (ap (slice_get c.points) from ∙ at) ∙ inner in
      ap (edge_judgements c) there ∙ placeless c (x.item).act (place_of_point c.points (x.item).from) goes ∙ w.alike.alike j k x.item e there known from goes on

  pub edge_listed : (r : ℕ) → routine_at c.points e.from ≡ Some r → is_return e.act ≡ false → (at : ℕ) (f : Fault) → Contains (act_checks c at e.act) f → Contains (faults_of (own_judgements c e.from)) f
  edge_listed r stands on at f listed =
      let q = map_found (λ (x : Point). x.routine) (slice_get c.points e.from) r stands in
      let inner : is_exit (q.0).kind ≡ false = sym (w.pairs.returns k e q.0 known q.1) ∙ on in
      let own : own_judgements c e.from ≡ act_judgements c 0 e.act =
      ap (judgements_at c e.from) q.1 ∙ leaving_inner c e.from q.0 (q.0).kind inner
      ∙ first_alike on q.0 q.1 inner (leaving c.edges e.from) (numbers_found c.edges (λ (d : Edge). nat_eq d.from e.from) 0) (w.pairs.goes_on e.from q.0 q.1 inner) in
      subst (λ js. Contains (faults_of js) f) (sym own) (subst (λ fs. Contains fs f) (act_faults c at e.act ∙ ap faults_of (placeless c e.act at on)) listed)

-- ---- returns

-- a function that is called with a slot has a result
callee_result : (t : Tables) (a : Act) (callee slot : ℕ) → slot_of a ≡ Some slot → callee_of a ≡ Some callee → act_types_fit t a ≡ true → (v : ℕ) × (result_of t callee ≡ Some v)
callee_result t (act.Call routine actuals None name) callee slot is calls types = absurd (none-some slot is)
callee_result t (act.Call routine actuals (Some u) name) callee slot is calls types =
    let h = holds_found (function_fits t (map (passed t) actuals) u) (t.head_at routine) types in
    let result = holds_found (λ v. holds_of (λ (d : VarDef). holds_of (λ (s : VarDef). nat_eq s.of_type d.of_type) (t.var_at u)) (t.var_at v)) (h.0).result (and_parts (are_passed_to t (map (passed t) actuals) (h.0).formals) _ h.2).1 in
    (result.0, ap (result_of t) (sym (same_Some routine callee calls)) ∙ ap (option_and_then (λ (x : Head). x.result)) h.1 ∙ result.1)
callee_result t _ callee slot is calls types = absurd (none-some slot is)

-- the return of the call at the edge j leaves the exit of the function, where its result is judged
pub exit_listed : (c : Chart) → IsWellFormed c → (j k : ℕ) (site e : Edge) (callee slot : ℕ) → slice_get c.edges j ≡ Some site → callee_of site.act ≡ Some callee → slot_of site.act ≡ Some slot
    → slice_get c.edges k ≡ Some e → e.act ≡ act.Return j → (f : Fault) → ◌≡◌ {A = Fault} (record { kind = NoResult; at = place_of_point c.points e.from }) f → Contains (faults_of (own_judgements c e.from)) f
exit_listed c w j k site e callee slot there calls is known back f same =
    let next : slice_get c.edges (suc j) ≡ Some e = ap (slice_get c.edges) (sym (w.calls.called k j e known back)) ∙ known in
    let ends : kind_at c.points e.from ≡ Some kind.Exit = w.calls.exit j callee site e there next calls in
    let q = map_found (λ (x : Point). x.routine) (slice_get c.points e.from) callee (w.calls.exited j callee site e there next calls) in
    let exit : (q.0).kind ≡ kind.Exit = same_some (sym (ap (option_map (λ (x : Point). x.kind)) q.1) ∙ ends) in
    let v = callee_result c.tables site.act callee slot is calls (w.types j site there) in
    let own : own_judgements c e.from ≡ one NoResult (q.0).at (function_result v.0) =
    ap (judgements_at c e.from) q.1 ∙ ap (leaving_judgements c e.from q.0) exit
    ∙ ap (λ r. result_judgements (result_of c.tables r) (q.0).at) q.2 ∙ ap (λ o. result_judgements o (q.0).at) v.1 in
    let place : place_of_point c.points e.from ≡ (q.0).at = ap (λ o. unwrap_or (option_map (λ (x : Point). x.at) o) 0) q.1 in
    subst (λ js. Contains (faults_of js) f) (sym own) (listed_one NoResult (q.0).at f (ap (λ n. record { kind = NoResult; at = n }) (sym place) ∙ same))
