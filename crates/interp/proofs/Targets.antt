-- What an action may rely on of the places that it writes.
use Rattle.std.proofs.Common.{◌≡◌, ℕ, zero, suc, ◌-◌, ◌<◌, Bool, true, ◌&&◌, ◌||◌, List, [], ◌∷◌, length, refl, sym, ap, ◌∙◌, subst, arith, Option, Some, None, nat_eq, nat_lt}
use Rattle.std.specs.List.{slice_get}
use Rattle.std.specs.Option.{option_map, option_and_then, unwrap_or}
use Rattle.std.specs.Prelude.{IfSome}
use Rattle.std.proofs.lemmas.Bool.{true≢false, and_parts, ltb-true, eqb-true, eq-eqb}
use Rattle.std.proofs.lemmas.Option.{none-some}
use Rattle.arithmetic.specs.Numbers.{IsNumber}
use Rattle.pas_program.specs.declared.expr.Actual.{Actual}
use Rattle.pas_program.specs.declared.program.Program.{Program}
use Rattle.pas_program.specs.declared.routine.Routine.{Routine}
use Rattle.pas_program.specs.declared.type_def.TypeDef.{TypeDef}
use Rattle.pas_program.specs.declared.type_def.TypeDef.TheVariants.{Scalar, Array}
use Rattle.pas_program.specs.declared.variable.VarDef.{VarDef}
use Rattle.pas_program.specs.declared.variable.VarKind.{VarKind}
use Rattle.pas_program.specs.declared.variable.VarKind.TheVariants as kind
use Rattle.pas_program.specs.Checked.{numbers_in, scope_in, tables}
use Rattle.pas_program.specs.Each.{true_if_some}
use Rattle.pas_program.specs.Scopes.{is_the}
use Rattle.pas_program.specs.Tables.{Head, head_of, holds_of, is_around, is_kind, is_own, is_visible, leads_within}
use Rattle.pas_program.specs.Typed.{Reached, hosted_by, is_target}
use Rattle.pas_program.specs.Types.{has_host, is_scalar}
use Rattle.pas_program.proofs.Layouts.{layout_some}
use Rattle.control_points.specs.Acts.{each_act}
use Rattle.control_points.specs.declared.edge.Act.{Act}
use Rattle.control_points.specs.declared.edge.Act.TheVariants as act
use Rattle.control_points.specs.declared.edge.Edge.{Edge}
use Rattle.control_points.specs.declared.flow.Flow.{Flow}
use Rattle.control_points.specs.declared.item.Item.{Item}
use Rattle.control_points.specs.declared.item.Item.TheVariants.{Number, LineEnd, Junk}
use Rattle.control_points.specs.Actions.{slot_at, slot_of}
use Rattle.control_points.specs.Evaluation.{var_type}
use Rattle.control_points.specs.Input.{Taken, after_line, next_number}
use Rattle.interp.specs.declared.frame.Frame.{Frame}
use Rattle.interp.specs.Deeds.{HasRoom, IsOwn, top_call}
use Rattle.interp.specs.Layouts.{count_of}
use Rattle.interp.specs.Machines.{AreFrames, AreItems, end_of, top_of, top_point, top_routine}
use Rattle.interp.proofs.Addresses.{owned, result_not_var, slot_not_var, var_type_is}
use Rattle.interp.proofs.Asking.{made_by, top_is}
use Rattle.interp.proofs.Lists.{same_some, some_at}
use Rattle.interp.proofs.Lying.{type_in_range}
use Rattle.interp.proofs.Parts.{scalar_count}
use Rattle.interp.proofs.Storage.{frame_stands}

-- ---- scalars

pub host_scalar : (b : Bool) (d : Option TypeDef) → has_host b d ≡ true → is_scalar d ≡ true
host_scalar b None h = absurd (true≢false (sym h))
host_scalar b (Some (Scalar boolean lo hi)) h = refl
host_scalar b (Some (Array index element)) h = absurd (true≢false (sym h))

pub hosted_scalar : (d : Option TypeDef) → (hosted_by d).fits ≡ true → is_scalar d ≡ true
hosted_scalar None h = absurd (true≢false (sym h))
hosted_scalar (Some (Scalar boolean lo hi)) h = refl
hosted_scalar (Some (Array index element)) h = absurd (true≢false (sym h))

pub scalar_place : (p : Program) (frames : List Frame) (t a : ℕ) → is_scalar (slice_get p.types t) ≡ true → HasRoom p frames t a → a < (end_of p frames).scalars
scalar_place p frames t a s h = let e = scalar_count p t s in omega (arith, h, e)

pub target_place : (p : Program) (frames : List Frame) (b : Bool) (r : Reached) (a : ℕ) → is_target (tables p) b r ≡ true → HasRoom p frames r.of_type a → a < (end_of p frames).scalars
target_place p frames b r a t h = scalar_place p frames r.of_type a (host_scalar b (slice_get p.types r.of_type) (and_parts r.fits _ t).1) h

-- a place with room for a value is one
pub room_place : (p : Program) (frames : List Frame) (v a : ℕ) (x : VarDef) → slice_get p.vars v ≡ Some x → HasRoom p frames (var_type (tables p) v) a → a < (end_of p frames).scalars
room_place p frames v a x e h =
    let s = layout_some p.types x.of_type p.types_fit (type_in_range p v x e) in
    let t = ap (count_of p) (var_type_is p v x e) in
    omega (arith, h, s, t)

-- ---- results and slots

pub top_point_is : (frames : List Frame) (g : Frame) → slice_get frames (top_of frames) ≡ Some g → top_point frames ≡ g.point
top_point_is frames g e = ap (λ o. unwrap_or (option_map (λ (g : Frame). g.point) o) 0) e

pub result_own : (flow : Flow) (frames : List Frame) (g : Frame) (d : Routine) → slice_get frames (top_of frames) ≡ Some g → slice_get flow.program.routines g.routine ≡ Some d → IfSome d.result (IsOwn flow.program frames (top_of frames))
result_own flow frames g d e f = by_result d.result refl
  where
    by_result : (o : Option ℕ) → d.result ≡ o → IfSome o (IsOwn flow.program frames (top_of frames))
    by_result None s = tt
    by_result (Some v) s =
        let n = (and_parts _ _ (and_parts _ _ (flow.program.in_range.routine g.routine d f)).0).1 in
        let l : v < length flow.program.vars = ltb-true v _ (sym (ap (λ o. true_if_some (option_map (λ v. nat_lt v (length flow.program.vars)) o)) s) ∙ n) in
        let x = some_at flow.program.vars v l in
        let only = (flow.program.in_scope.lists g.routine d f).result_only v x.0 x.1 in
        let both = and_parts (nat_eq x.0.routine g.routine) (is_kind kind.Result x.0.kind) (sym only ∙ ap (is_the v) s ∙ eq-eqb v v refl) in
        record { frame = g; var = x.0; activation = e; known = x.1; own = eqb-true x.0.routine g.routine both.0; no_link = result_not_var x.0.kind both.1 }

-- the slot of the call that made the latest activation
pub record SlotFacts (flow : Flow) (frames : List Frame) (slot : ℕ) : Type 0 where
  pub in_range : slot < length flow.program.vars
  pub own : IsOwn flow.program frames (top_of frames - 1) slot

pub slot_act : (a : Act) (slot : ℕ) → slot_of a ≡ Some slot → (routine : ℕ) × (actuals : List Actual) × (at : ℕ) × (a ≡ act.Call routine actuals (Some slot) at)
slot_act (act.Call routine actuals s at) slot h = (routine, actuals, at, ap (λ o. act.Call routine actuals o at) h)
slot_act act.Skip slot h = absurd (none-some slot h)
slot_act (act.Assign target value) slot h = absurd (none-some slot h)
slot_act (act.Copy target source) slot h = absurd (none-some slot h)
slot_act (act.Return call) slot h = absurd (none-some slot h)
slot_act (act.Goto routine) slot h = absurd (none-some slot h)
slot_act (act.Test cond wanted) slot h = absurd (none-some slot h)
slot_act (act.Arm selector constants) slot h = absurd (none-some slot h)
slot_act (act.Enter control bound first down last) slot h = absurd (none-some slot h)
slot_act (act.Bypass control bound first down last) slot h = absurd (none-some slot h)
slot_act (act.Next control bound down) slot h = absurd (none-some slot h)
slot_act (act.Finish control bound down) slot h = absurd (none-some slot h)
slot_act (act.Read target) slot h = absurd (none-some slot h)
slot_act act.DropLine slot h = absurd (none-some slot h)
slot_act (act.Write item) slot h = absurd (none-some slot h)
slot_act act.EndLine slot h = absurd (none-some slot h)

pub slot_facts : (flow : Flow) (frames : List Frame) → AreFrames flow frames → (j slot : ℕ) → top_call frames ≡ Some j → slot_at flow.edges j ≡ Some slot → SlotFacts flow frames slot
slot_facts flow frames h j slot c e =
    let m = made_by flow frames h j c in
    let w = slot_act m.site.act slot (sym (ap (option_and_then (λ (e : Edge). slot_of e.act)) m.known) ∙ e) in
    let s = frame_stands flow frames h (top_of frames - 1) m.caller m.below in
    let n = and_parts _ _ (and_parts _ _ (sym (ap (each_act (numbers_in flow.program)) w.3) ∙ flow.edges_fit.numbers j m.site m.known)).0 in
    let p : slice_get flow.points m.site.from ≡ Some s.point = ap (slice_get flow.points) m.waits ∙ s.known in
    let o = and_parts _ _ (and_parts _ _ (sym (ap (each_act (scope_in flow.program s.point.routine)) w.3) ∙ flow.edges_fit.scopes j m.site s.point m.known p)).0 in
    let v = owned (tables flow.program) s.point.routine slot kind.Slot o.1 in
    record {
      in_range = ltb-true slot _ n.1;
      own = record { frame = m.caller; var = v.var; activation = m.below; known = v.known; own = v.own ∙ s.same; no_link = slot_not_var v.var.kind v.of_kind };
    }

-- ---- visible

pub own_visible : (p : Program) (r v : ℕ) (k : VarKind) → r < length p.routines → is_own (tables p) r k v ≡ true → is_visible (tables p) r v ≡ true
own_visible p r v k l h =
    let o = owned (tables p) r v k h in
    let d = some_at p.routines r l in
    ap (holds_of (λ (x : VarDef). is_around (tables p) r x.routine)) o.known
    ∙ ap (is_around (tables p) r) o.own
    ∙ ap (λ o. holds_of (λ (h : Head). leads_within h.level (tables p) r r) (option_map head_of o)) d.1
    ∙ leads_here d.0.level
  where
    leads_here : (n : ℕ) → leads_within n (tables p) r r ≡ true
    leads_here zero = eq-eqb r r refl
    leads_here (suc n) = ap (λ b. b || holds_of (λ (h : Head). holds_of (λ q. leads_within n (tables p) q r) h.parent) ((tables p).head_at r)) (eq-eqb r r refl)

-- the hidden variable of a `for`
pub loop_visible : (flow : Flow) (frames : List Frame) → AreFrames flow frames → (control bound : ℕ) → (is_visible (tables flow.program) (top_routine frames) control && is_own (tables flow.program) (top_routine frames) kind.Bound bound) ≡ true
    → is_visible (tables flow.program) (top_routine frames) bound ≡ true
loop_visible flow frames h control bound e =
    let t = top_is flow frames h in
    own_visible flow.program (top_routine frames) bound kind.Bound (let r = t.stands.routine_in_range in let s = t.routine in omega arith) (and_parts _ _ e).1

-- ---- input

tail_items : (item : Item) (items : List Item) → AreItems (item ∷ items) → AreItems items
tail_items item items h = record { numbers = λ k z e. h.numbers (suc k) z e }

pub line_items_fit : (items : List Item) → AreItems items → AreItems (after_line items)
line_items_fit [] h = h
line_items_fit (LineEnd ∷ items) h = tail_items LineEnd items h
line_items_fit (Number z ∷ items) h = line_items_fit items (tail_items (Number z) items h)
line_items_fit (Junk ∷ items) h = line_items_fit items (tail_items Junk items h)

pub record TakenFits (t : Taken) : Type 0 where
  pub number : IsNumber t.number
  pub rest : AreItems t.rest

pub taken_fits : (items : List Item) (t : Taken) → AreItems items → next_number items ≡ Some t → TakenFits t
taken_fits [] t h e = absurd (none-some t e)
taken_fits (LineEnd ∷ items) t h e = taken_fits items t (tail_items LineEnd items h) e
taken_fits (Number z ∷ items) t h e =
    let s = same_some _ t e in
    record { number = subst (λ (t : Taken). IsNumber t.number) s (h.numbers 0 z refl); rest = subst (λ (t : Taken). AreItems t.rest) s (tail_items (Number z) items h) }
taken_fits (Junk ∷ items) t h e = absurd (none-some t e)
