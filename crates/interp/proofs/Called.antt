-- The activations after a call.
use Rattle.std.proofs.Common.{◌≡◌, ℕ, suc, ◌+◌, ◌<◌, Bool, true, false, ◌&&◌, ◌||◌, List, [], ◌∷◌, ◌++◌, map, length, refl, sym, ap, ◌∙◌, subst, arith, ℤ, Option, Some, None, inl, inr, nat_eq}
use Rattle.std.specs.List.{slice_get}
use Rattle.std.specs.Option.{option_map}
use Rattle.std.proofs.lemmas.Bool.{true≢false, and_parts, eq-eqb}
use Rattle.std.proofs.lemmas.Bool.Decides.{eqb_tells}
use Rattle.std.proofs.lemmas.List.Sums.{sum_by_push}
use Rattle.std.proofs.lemmas.Option.{none-some, slice_get_within}
use Rattle.pas_program.specs.declared.expr.Actual.{Actual}
use Rattle.pas_program.specs.declared.program.Program.{Program}
use Rattle.pas_program.specs.declared.routine.Routine.{Routine}
use Rattle.pas_program.specs.Checked.{numbers_in, scope_in, tables}
use Rattle.pas_program.specs.Each.{all_true, each_actual}
use Rattle.pas_program.specs.Scopes.{contains, is_the}
use Rattle.pas_program.specs.Tables.{Head, Tables, head_of, holds_of, is_around, is_callable}
use Rattle.pas_program.specs.Typed.{function_fits, passed, procedure_fits}
use Rattle.control_points.specs.Acts.{callee_fits, callee_passes, each_act, act_types_fit}
use Rattle.control_points.specs.declared.edge.Edge.{Edge}
use Rattle.control_points.specs.declared.flow.Flow.{Flow}
use Rattle.control_points.specs.Fits.{callee_of, routine_at}
use Rattle.interp.specs.declared.frame.Extent.{Extent}
use Rattle.interp.specs.declared.frame.Frame.{Frame}
use Rattle.interp.specs.Calls.{AreLinked, HasNew, IsCallOf, IsParent, are_passed}
use Rattle.interp.specs.Deeds.{target_of}
use Rattle.interp.specs.Layouts.{extent_of, extent_before}
use Rattle.interp.specs.Machines.{AreFrames, AreLinks, AreScalars, end_of, is_call_from, routine_of, top_of, top_routine}
use Rattle.interp.proofs.Addresses.{within_frames}
use Rattle.interp.proofs.Asking.{onward, top_is}
use Rattle.interp.proofs.Chains.{holds_some}
use Rattle.interp.proofs.Frames.{all_below, with_next}
use Rattle.interp.proofs.Lists.{same_some, slice_get-snoc}

-- what a call may rely on
pub record CallFacts (flow : Flow) (frames : List Frame) (routine : ℕ) (actuals : List Actual) : Type 0 where
  pub in_range : routine < length flow.program.routines
  pub callable : is_callable (tables flow.program) (top_routine frames) routine ≡ true
  pub numbers : all_true (map (each_actual (numbers_in flow.program)) actuals) ≡ true
  pub scopes : all_true (map (each_actual (scope_in flow.program (top_routine frames))) actuals) ≡ true
  pub fits : holds_of (are_passed (tables flow.program) actuals) ((tables flow.program).head_at routine) ≡ true

holds_weaker : {A : Type 0} (p q : A → Bool) (o : Option A) → ((x : A) → p x ≡ true → q x ≡ true) → holds_of p o ≡ true → holds_of q o ≡ true
holds_weaker p q None h e = e
holds_weaker p q (Some x) h e = h x e

head_found : (flow : Flow) (routine : ℕ) (p : Head → Bool) → holds_of p ((tables flow.program).head_at routine) ≡ true → routine < length flow.program.routines
head_found flow routine p h = by_routine (slice_get flow.program.routines routine) refl
  where
    by_routine : (o : Option Routine) → slice_get flow.program.routines routine ≡ o → routine < length flow.program.routines
    by_routine None e = absurd (true≢false (sym h ∙ ap (λ o. holds_of p (option_map head_of o)) e))
    by_routine (Some d) e = slice_get_within flow.program.routines routine d e

passes_callable : (flow : Flow) (r routine : ℕ) (slot : Option ℕ) → callee_passes (scope_in flow.program r) routine slot ≡ true → is_callable (tables flow.program) r routine ≡ true
passes_callable flow r routine None h = h
passes_callable flow r routine (Some slot) h = (and_parts _ _ h).0

callee_are_passed : (t : Tables) (routine : ℕ) (actuals : List Actual) (slot : Option ℕ) → callee_fits t routine (map (passed t) actuals) slot ≡ true → holds_of (are_passed t actuals) (t.head_at routine) ≡ true
callee_are_passed t routine actuals None h = holds_weaker (procedure_fits t (map (passed t) actuals)) (are_passed t actuals) (t.head_at routine) (λ x e. (and_parts _ _ e).0) h
callee_are_passed t routine actuals (Some slot) h = holds_weaker (function_fits t (map (passed t) actuals) slot) (are_passed t actuals) (t.head_at routine) (λ x e. (and_parts _ _ e).0) h

pub call_facts : (flow : Flow) (frames : List Frame) → AreFrames flow frames → (k routine : ℕ) (actuals : List Actual) → IsCallOf flow frames k routine actuals → CallFacts flow frames routine actuals
call_facts flow frames h k routine actuals c =
    let o = onward flow frames h k c.edge c.known c.leaves in
    let n = and_parts _ _ (sym (ap (each_act (numbers_in flow.program)) c.is) ∙ o.numbers) in
    let s = and_parts _ _ (sym (ap (each_act (scope_in flow.program (top_routine frames))) c.is) ∙ o.scopes) in
    let f = callee_are_passed (tables flow.program) routine actuals c.slot (sym (ap (act_types_fit (tables flow.program)) c.is) ∙ o.types) in
    record {
      in_range = head_found flow routine (are_passed (tables flow.program) actuals) f;
      callable = passes_callable flow (top_routine frames) routine c.slot s.0;
      numbers = n.1;
      scopes = s.1;
      fits = f;
    }

-- the routine around a callee is seen
pub parent_around : (p : Program) (r routine q : ℕ) (d : Routine) → slice_get p.routines routine ≡ Some d → is_callable (tables p) r routine ≡ true → d.parent ≡ Some q → is_around (tables p) r q ≡ true
parent_around p r routine q d e c f =
    let w = holds_some (λ (h : Head). holds_of (λ q. is_around (tables p) r q) h.parent) ((tables p).head_at routine) c in
    let s = same_some (head_of d) w.0 (sym (ap (option_map head_of) e) ∙ w.1) in
    let v = holds_some (λ q. is_around (tables p) r q) w.0.parent w.2 in
    let g = same_some q v.0 (sym f ∙ ap (λ (h : Head). h.parent) s ∙ v.1) in
    subst (λ q. is_around (tables p) r q ≡ true) (sym g) v.2

-- ---- the new activation

abbrev pub new_frame : ℕ → ℕ → Option ℕ → ℕ → Extent → Frame
new_frame routine k parent point base = record { routine = routine; call = Some k; parent = parent; point = point; base = base }

target_edge : (edges : List Edge) (k p : ℕ) (e : Edge) → target_of edges k ≡ Some p → slice_get edges k ≡ Some e → e.to ≡ p
target_edge edges k p e t h = same_some e.to p (sym (ap (option_map (λ (e : Edge). e.to)) h) ∙ t)

pub called : (flow : Flow) (frames : List Frame) → AreFrames flow frames → (k routine point : ℕ) (actuals : List Actual) (parent : Option ℕ) → IsCallOf flow frames k routine actuals → target_of flow.edges k ≡ Some point → IsParent flow frames routine parent
    → AreFrames flow (frames ++ new_frame routine k parent point (end_of flow.program frames) ∷ [])
called flow frames h k routine point actuals parent c t q =
    let callee : callee_of c.edge.act ≡ Some routine = ap callee_of c.is in
    let to = target_edge flow.edges k point c.edge t c.known in
    let top = top_is flow frames h in
    with_next flow frames _ (all_below flow frames h) (record {
      base = refl;
      stands = ap (routine_at flow.points) (sym to) ∙ flow.calls_return.entered k routine c.edge c.known callee;
      parent = q.is;
      parent_below = q.below;
      first = λ z. absurd (let s = h.some in omega arith);
      made = λ d x e l.
          let n : d ≡ top_of frames = omega arith in
          let s : x ≡ top.frame = same_some x top.frame (sym e ∙ ap (slice_get frames) n ∙ top.known) in
          let from : c.edge.from ≡ x.point = c.leaves ∙ top.point ∙ ap (λ (g : Frame). g.point) (sym s) in
          ap (holds_of (is_call_from x.point routine)) c.known
          ∙ both (nat_eq c.edge.from x.point) (is_the routine (callee_of c.edge.act)) (eq-eqb c.edge.from x.point from) (ap (is_the routine) callee ∙ eq-eqb routine routine refl);
    })
  where
    both : (a b : Bool) → a ≡ true → b ≡ true → (a && b) ≡ true
    both a b h g = ap (λ c. c && b) h ∙ g

pub called_links : (flow : Flow) (frames : List Frame) → AreFrames flow frames → (k routine point : ℕ) (parent : Option ℕ) (links : List ℕ) (scalars : List (Option ℤ))
    → HasNew flow.program frames routine links scalars → AreLinks flow.program frames links → AreLinked flow.program frames routine links
    → AreLinks flow.program (frames ++ new_frame routine k parent point (end_of flow.program frames) ∷ []) links
called_links flow frames h k routine point parent links scalars r l n = record {
  room = let s = sum_by_push (λ (g : Frame). (extent_of flow.program g.routine).links) frames (new_frame routine k parent point (end_of flow.program frames)) in let m = r.links_room in omega arith;
  below = λ d v a g x e f o i m. elim (slice_get-snoc frames _ d g e) [
    | inl w ↦ l.below d v a g x w.1 f o i m
    | inr w ↦
        let o : x.routine ≡ routine = o ∙ ap (λ (g : Frame). g.routine) w.1 in
        let b = ap (λ (g : Frame). g.base) w.1 in
        let q = n v a x f o i (ap (λ (y : Extent). slice_get links (y.links + (extent_before flow.program routine v).links)) (sym b) ∙ ap (λ r. slice_get links (g.base.links + (extent_before flow.program r v).links)) (sym o) ∙ m) in
        omega (arith, q, ap (λ (y : Extent). y.scalars) b)
  ];
}

pub called_scalars : (flow : Flow) (frames : List Frame) (k routine point : ℕ) (parent : Option ℕ) (links : List ℕ) (scalars : List (Option ℤ))
    → HasNew flow.program frames routine links scalars → AreScalars flow.program frames scalars → AreScalars flow.program (frames ++ new_frame routine k parent point (end_of flow.program frames) ∷ []) scalars
called_scalars flow frames k routine point parent links scalars r s = record {
  room = let q = sum_by_push (λ (g : Frame). (extent_of flow.program g.routine).scalars) frames (new_frame routine k parent point (end_of flow.program frames)) in let m = r.scalars_room in omega arith;
  numbers = s.numbers;
}

-- ---- formals

-- a number that a list contains stands at some place of it
pub contained : (v : ℕ) (ns : List ℕ) → contains v ns ≡ true → (j : ℕ) × (slice_get ns j ≡ Some v)
contained v [] h = absurd (true≢false (sym h))
contained v (n ∷ ns) h = elim (eqb_tells v n) [
  | inl w ↦ (0, ap Some (sym w.1))
  | inr w ↦ let q = contained v ns (or_rest (nat_eq v n) (contains v ns) h w.0) in (suc q.0, q.1)
]
  where
    or_rest : (a b : Bool) → (a || b) ≡ true → a ≡ false → b ≡ true
    or_rest true b h e = absurd (true≢false e)
    or_rest false b h e = h

-- ---- the same after a change that keeps flow and activations

pub moved_call : (f g : Flow) (xs ys : List Frame) (k routine : ℕ) (actuals : List Actual) → g ≡ f → ys ≡ xs → IsCallOf f xs k routine actuals → IsCallOf g ys k routine actuals
moved_call f g xs ys k routine actuals e h c = subst (λ g. IsCallOf g ys k routine actuals) (sym e) (subst (λ ys. IsCallOf f ys k routine actuals) (sym h) c)

pub moved_parent : (f g : Flow) (xs ys : List Frame) (routine : ℕ) (parent : Option ℕ) → g ≡ f → ys ≡ xs → IsParent f xs routine parent → IsParent g ys routine parent
moved_parent f g xs ys routine parent e h c = subst (λ g. IsParent g ys routine parent) (sym e) (subst (λ ys. IsParent f ys routine parent) (sym h) c)

pub moved_linked : (f g : Flow) (xs ys : List Frame) (routine : ℕ) (links : List ℕ) → g ≡ f → ys ≡ xs → AreLinked f.program xs routine links → AreLinked g.program ys routine links
moved_linked f g xs ys routine links e h c = subst (λ (g : Flow). AreLinked g.program ys routine links) (sym e) (subst (λ ys. AreLinked f.program ys routine links) (sym h) c)

pub no_parent : (flow : Flow) (frames : List Frame) (routine : ℕ) (d : Routine) → slice_get flow.program.routines routine ≡ Some d → d.parent ≡ None → IsParent flow frames routine None
no_parent flow frames routine d e f = record {
  is = λ h k. sym f ∙ ap (λ (h : Head). h.parent) (same_some (head_of d) h (sym (ap (option_map head_of) e) ∙ k));
  below = λ p k. absurd (none-some p k);
}

pub found_parent : (flow : Flow) (frames : List Frame) (routine q n : ℕ) (d : Routine) → slice_get flow.program.routines routine ≡ Some d → d.parent ≡ Some q → routine_of frames n ≡ Some q → IsParent flow frames routine (Some n)
found_parent flow frames routine q n d e f g = record {
  is = λ h k. g ∙ sym f ∙ ap (λ (h : Head). h.parent) (same_some (head_of d) h (sym (ap (option_map head_of) e) ∙ k));
  below = λ p k. subst (λ p. p < length frames) (same_some n p k) (within_frames frames n q g);
}

pub moved_facts : (f g : Flow) (xs ys : List Frame) (routine : ℕ) (actuals : List Actual) → g ≡ f → ys ≡ xs → CallFacts f xs routine actuals → CallFacts g ys routine actuals
moved_facts f g xs ys routine actuals e h c = subst (λ g. CallFacts g ys routine actuals) (sym e) (subst (λ ys. CallFacts f ys routine actuals) (sym h) c)
