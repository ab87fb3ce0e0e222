-- The latest activation of a state, its call and its result, as the frames have them.
use Rattle.std.proofs.Common.{◌≡◌, ℕ, suc, true, List, [], ◌∷◌, length, map, refl, sym, ap, ◌∙◌, arith, ℤ, Option, Some, None, Ok, Err, nat_eq}
use Rattle.std.specs.List.{slice_get}
use Rattle.std.specs.Option.{option_and_then, option_map, unwrap_or}
use Rattle.std.proofs.lemmas.Bool.{and_parts, eqb-true}
use Rattle.std.proofs.lemmas.Option.{none-some}
use Rattle.px_base.specs.declared.kind.Kind.TheVariants.{NoResult}
use Rattle.pas_program.specs.declared.program.Program.{Program}
use Rattle.pas_program.specs.declared.routine.Routine.{Routine}
use Rattle.pas_program.specs.declared.variable.VarDef.{VarDef}
use Rattle.pas_program.specs.Checked.{tables}
use Rattle.pas_program.specs.Each.{true_if_some}
use Rattle.pas_program.specs.Tables.{Head, head_of, holds_of}
use Rattle.pas_program.specs.Typed.{function_fits, passed, type_of_var}
use Rattle.pas_program.specs.Types.{is_scalar}
use Rattle.control_points.specs.declared.edge.Edge.{Edge}
use Rattle.control_points.specs.declared.fault.Fault.{Fault}
use Rattle.control_points.specs.declared.flow.Flow.{Flow}
use Rattle.control_points.specs.Actions.{result_of, result_value, slot_at, slot_of}
use Rattle.control_points.specs.Actions as meaning
use Rattle.control_points.specs.Acts.{act_types_fit}
use Rattle.control_points.specs.Evaluation.{Answer, defined}
use Rattle.control_points.specs.Fits.{callee_of}
use Rattle.control_points.specs.Flows.{chart_of}
use Rattle.control_points.specs.States.{Activation, Stack, State}
use Rattle.interp.specs.declared.frame.Frame.{Frame}
use Rattle.interp.specs.declared.machine.Machine.{Machine}
use Rattle.interp.specs.Deeds.{result_in, top_call}
use Rattle.interp.specs.Machines.{AreFrames, top_of, top_routine}
use Rattle.interp.specs.Standing.{IsKept, StandsFor, activation_at}
use Rattle.interp.proofs.Around.{activation_latest}
use Rattle.interp.proofs.Asking.{made_by, top_is}
use Rattle.interp.proofs.Chains.{holds_some}
use Rattle.interp.proofs.Lists.{same_some}
use Rattle.interp.proofs.Targets.{slot_act}

-- ---- the latest activation

latest_is : (stack : Stack) (d : ℕ) (a : Activation) → length stack ≡ suc d → activation_at stack d ≡ Some a → (below : Stack) × (stack ≡ a ∷ below)
latest_is [] d a h e = absurd (omega arith)
latest_is (b ∷ below) d a h e = (below, ap (λ x. x ∷ below) (same_some b a (sym (activation_latest b below d (omega arith)) ∙ e)))

pub record Latest (m : Machine) (s : State) : Type 0 where
  pub frame : Frame
  pub known : slice_get m.frames.items (top_of m.frames.items) ≡ Some frame
  pub activation : Activation
  pub below : Stack
  pub is : s.stack ≡ activation ∷ below
  pub kept : IsKept m.flow.now.program m.frames.items m.links.items (top_of m.frames.items) frame activation

pub latest : (m : Machine) (s : State) → StandsFor m s → Latest m s
latest m s h =
    let t = top_is m.flow.now m.frames.items m.framed in
    let w = h.stack.each (top_of m.frames.items) t.frame t.known in
    let v = latest_is s.stack (top_of m.frames.items) w.0 (h.stack.height ∙ (let n = m.framed.some in omega arith)) w.1 in
    record { frame = t.frame; known = t.known; activation = w.0; below = v.0; is = v.1; kept = w.2 }

pub latest_call : (m : Machine) (s : State) → StandsFor m s → meaning.top_call s.stack ≡ top_call m.frames.items
latest_call m s h =
    let l = latest m s h in
    ap meaning.top_call l.is ∙ l.kept.call ∙ sym (ap (option_and_then (λ (g : Frame). g.call)) l.known)

pub latest_result : (m : Machine) (s : State) → StandsFor m s → result_of (chart_of m.flow.now) s.stack ≡ unwrap_or (result_in (tables m.flow.now.program) (top_routine m.frames.items)) 0
latest_result m s h =
    let l = latest m s h in
    let t = top_is m.flow.now m.frames.items m.framed in
    let f = same_some l.frame t.frame (sym l.known ∙ t.known) in
    ap (result_of (chart_of m.flow.now)) l.is
    ∙ ap (λ r. unwrap_or (result_in (tables m.flow.now.program) r) 0) (l.kept.known ∙ ap (λ (g : Frame). g.routine) f ∙ sym t.routine)

-- ---- results

-- a result is a scalar
pub result_scalar : (p : Program) (r v : ℕ) → result_in (tables p) r ≡ Some v → is_scalar (type_of_var (tables p) v) ≡ true
result_scalar p r v h = by_routine (slice_get p.routines r) refl
  where
    by_routine : (o : Option Routine) → slice_get p.routines r ≡ o → is_scalar (type_of_var (tables p) v) ≡ true
    by_routine None e = absurd (none-some v (sym (ap (λ o. option_and_then (λ (h : Head). h.result) (option_map head_of o)) e) ∙ h))
    by_routine (Some d) e =
        let is : d.result ≡ Some v = sym (ap (λ o. option_and_then (λ (h : Head). h.result) (option_map head_of o)) e) ∙ h in
        sym (ap (λ o. true_if_some (option_map (λ v. is_scalar (type_of_var (tables p) v)) o)) is) ∙ p.well_typed.result r d e

pub result_known : (at : ℕ) (o : Option ℤ) (z : ℤ) → ◌≡◌ {A = Answer ℤ} (Ok z) (defined at o) → result_value at o ≡ Ok z
result_known at (Some x) z h = sym h
result_known at None z h = absurd (cc)

pub result_unknown : (at : ℕ) (o : Option ℤ) (e : Fault) → ◌≡◌ {A = Answer ℤ} (Err e) (defined at o) → result_value at o ≡ Err (record { kind = NoResult; at = at })
result_unknown at (Some x) e h = absurd (cc)
result_unknown at None e h = refl

-- ---- slots

-- a call with a slot is one of a function, whose result has the slot's type
pub record Gives (p : Program) (r slot : ℕ) : Type 0 where
  pub result : ℕ
  pub is : result_in (tables p) r ≡ Some result
  pub same : type_of_var (tables p) slot ≡ type_of_var (tables p) result

gives : (flow : Flow) (frames : List Frame) → AreFrames flow frames → (j slot : ℕ) → top_call frames ≡ Some j → slot_at flow.edges j ≡ Some slot → Gives flow.program (top_routine frames) slot
gives flow frames h j slot c e =
    let t = tables flow.program in
    let m = made_by flow frames h j c in
    let w = slot_act m.site.act slot (sym (ap (option_and_then (λ (e : Edge). slot_of e.act)) m.known) ∙ e) in
    let r : w.0 ≡ top_routine frames = same_some w.0 (top_routine frames) (sym (ap callee_of w.3) ∙ m.callee) in
    let f = holds_some (function_fits t (map (passed t) w.1) slot) (t.head_at w.0) (sym (ap (act_types_fit t) w.3) ∙ flow.edges_fit.types j m.site m.known) in
    let v = holds_some (λ v. holds_of (λ (d : VarDef). holds_of (λ (s : VarDef). nat_eq s.of_type d.of_type) (t.var_at slot)) (t.var_at v)) f.0.result (and_parts _ _ f.2).1 in
    let d = holds_some (λ (d : VarDef). holds_of (λ (s : VarDef). nat_eq s.of_type d.of_type) (t.var_at slot)) (t.var_at v.0) v.2 in
    let s = holds_some (λ (s : VarDef). nat_eq s.of_type d.0.of_type) (t.var_at slot) d.2 in
    record {
      result = v.0;
      is = sym (ap (result_in t) r) ∙ ap (option_and_then (λ (h : Head). h.result)) f.1 ∙ v.1;
      same = ap (option_and_then (λ (d : VarDef). t.type_at d.of_type)) s.1 ∙ ap t.type_at (eqb-true s.0.of_type d.0.of_type s.2) ∙ sym (ap (option_and_then (λ (d : VarDef). t.type_at d.of_type)) d.1);
    }

pub slot_result : (flow : Flow) (frames : List Frame) → AreFrames flow frames → (j slot : ℕ) → top_call frames ≡ Some j → slot_at flow.edges j ≡ Some slot → (v : ℕ) × (result_in (tables flow.program) (top_routine frames) ≡ Some v)
slot_result flow frames h j slot c e = let g = gives flow frames h j slot c e in (g.result, g.is)

pub slot_scalar : (flow : Flow) (frames : List Frame) → AreFrames flow frames → (j slot : ℕ) → top_call frames ≡ Some j → slot_at flow.edges j ≡ Some slot → is_scalar (type_of_var (tables flow.program) slot) ≡ true
slot_scalar flow frames h j slot c e = let g = gives flow frames h j slot c e in ap is_scalar g.same ∙ result_scalar flow.program (top_routine frames) g.result g.is
