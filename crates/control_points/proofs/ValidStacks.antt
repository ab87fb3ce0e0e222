-- Stacks of activations: what is found in one, in one with a new activation, and in one that some have left.
use Rattle.std.proofs.Common.{◌≡◌, ℕ, zero, suc, ◌<◌, true, false, List, [], ◌∷◌, length, refl, sym, ap, subst, ◌∙◌, inl, inr, Some, None, option_and_then, nat_eq, arith, eqb-true, eq-eqb, ne_eqb}
use Rattle.std.proofs.lemmas.Bool.{eqb-false, or_cases, cases_Bool, cond-true, cond-false, true≢false}
use Rattle.std.proofs.lemmas.Option.{none-some}
use Rattle.pas_program.specs.Tables.{Head, holds_of, leads_within, is_own}
use Rattle.pas_program.specs.declared.variable.VarKind.TheVariants as kind
use Rattle.control_points.specs.Actions.{top_depth}
use Rattle.control_points.specs.Chart.{Chart}
use Rattle.control_points.specs.Finding.{around, frame_at}
use Rattle.control_points.specs.Fits.{routine_at}
use Rattle.control_points.specs.States.{Binding, Frame, Activation, Stack}
use Rattle.control_points.specs.Steps.{down_to, point_of}
use Rattle.control_points.specs.Storage.{Place}
use Rattle.control_points.specs.ValidStates.{Exists, IsOf, IsBound, IsCallee, IsStack}
use Rattle.control_points.specs.WellFormed.{TablesFit}
use Rattle.control_points.proofs.ValidBasics.{holds_found, found_once}

-- ---- the frame at a depth

pub frame_below : (stack : Stack) (d : ℕ) (f : Frame) → frame_at stack d ≡ Some f → d < length stack
frame_below [] d f h = absurd (none-some f h)
frame_below (a ∷ below) d f h =
    elim (cases_Bool (nat_eq d (length below))) [
      | inl e ↦ let same = eqb-true d (length below) e in omega arith
      | inr e ↦ let under = frame_below below d f (sym (cond-false (nat_eq d (length below)) (Some a.frame) (frame_at below d) e) ∙ h) in omega arith
    ]

-- a new activation changes none of those below it
pub frame_kept : (a : Activation) (below : Stack) (d : ℕ) → d < length below → frame_at (a ∷ below) d ≡ frame_at below d
frame_kept a below d h = cond-false (nat_eq d (length below)) (Some a.frame) (frame_at below d) (ne_eqb d (length below) (λ e. absurd (omega arith)))

pub frame_of_latest : (a : Activation) (below : Stack) (d : ℕ) → d ≡ length below → frame_at (a ∷ below) d ≡ Some a.frame
frame_of_latest a below d h = cond-true (nat_eq d (length below)) (Some a.frame) (frame_at below d) (eq-eqb d (length below) h)

pub top_is : (a : Activation) (below : Stack) → top_depth (a ∷ below) ≡ length below
top_is a below = omega arith

pub around_kept : (a : Activation) (below : Stack) (d r : ℕ) → d < length below → around (a ∷ below) d r ≡ around below d r
around_kept a below d r h = cond-false (nat_eq d (length below)) _ (around below d r) (ne_eqb d (length below) (λ e. absurd (omega arith)))

-- ---- what exists goes on to exist where the frames stay

pub exists_moved : (c : Chart) (old new : Stack) (p : Place) → frame_at new p.depth ≡ frame_at old p.depth → Exists c old p → Exists c new p
exists_moved c old new p same x = record {
  frame = x.frame;
  variable = x.variable;
  of_type = x.of_type;
  activation = same ∙ x.activation;
  known = x.known;
  own = x.own;
  stored = x.stored;
  typed = x.typed;
}

pub exists_above : (c : Chart) (a : Activation) (below : Stack) (p : Place) → Exists c below p → Exists c (a ∷ below) p
exists_above c a below p x = exists_moved c below (a ∷ below) p (frame_kept a below p.depth (frame_below below p.depth x.frame x.activation)) x

pub is_of_above : (a : Activation) (below : Stack) (d r : ℕ) → IsOf below d r → IsOf (a ∷ below) d r
is_of_above a below d r x = record {
  frame = x.frame;
  activation = frame_kept a below d (frame_below below d x.frame x.activation) ∙ x.activation;
  routine = x.routine;
}

pub bound_above : (c : Chart) (a : Activation) (below : Stack) (v : ℕ) (bindings : List Binding) → IsBound c below v bindings → IsBound c (a ∷ below) v bindings
bound_above c a below v bindings x = record { place = x.place; known = x.known; exists = exists_above c a below x.place x.exists; typed = x.typed }

-- ---- what is known of the activation at a depth

-- the routine r around an activation at depth d is found
pub record IsFound (stack : Stack) (d r : ℕ) : Type 0 where
  pub depth : ℕ
  pub found : around stack d r ≡ Some depth
  pub is_of : IsOf stack depth r

module _ (c : Chart) (fits : TablesFit c.tables c.main) where
  -- what a variable parameter of an activation of the stack stands for
  pub bound_in : (stack : Stack) → IsStack c stack → (d : ℕ) (f : Frame) → frame_at stack d ≡ Some f → (v : ℕ) → is_own c.tables f.routine kind.Var v ≡ true → IsBound c stack v f.bindings
  bound_in [] s d f h v own = absurd s
  bound_in (a ∷ []) s d f h v own =
      elim (cases_Bool (nat_eq d 0)) [
        | inl e ↦
            let same = found_once _ f a.frame h (cond-true (nat_eq d 0) (Some a.frame) None e) in
            absurd (fits.no_formals v (subst (λ r. is_own c.tables r kind.Var v ≡ true) (ap (λ (g : Frame). g.routine) same ∙ s.routine) own))
        | inr e ↦ absurd (none-some f (sym (cond-false (nat_eq d 0) (Some a.frame) None e) ∙ h))
      ]
  bound_in (a ∷ b ∷ below) s d f h v own =
      elim (cases_Bool (nat_eq d (length (b ∷ below)))) [
        | inl e ↦
            let same = found_once _ f a.frame h (cond-true (nat_eq d (length (b ∷ below))) (Some a.frame) (frame_at (b ∷ below) d) e) in
            bound_above c a (b ∷ below) v f.bindings
            (subst (λ (g : Frame). IsBound c (b ∷ below) v g.bindings) (sym same) (s.0.bound v (subst (λ (g : Frame). is_own c.tables g.routine kind.Var v ≡ true) same own)))
        | inr e ↦
            bound_above c a (b ∷ below) v f.bindings
            (bound_in (b ∷ below) s.1 d f (sym (cond-false (nat_eq d (length (b ∷ below))) (Some a.frame) (frame_at (b ∷ below) d) e) ∙ h) v own)
      ]

  -- the latest activation is of the routine
  at_latest : (a : Activation) (below : Stack) (d s : ℕ) → d ≡ length below → a.frame.routine ≡ s → IsFound (a ∷ below) d s
  at_latest a below d s e is = record {
    depth = d;
    found =
        cond-true (nat_eq d (length below)) _ (around below d s) (eq-eqb d (length below) e)
        ∙ cond-true (nat_eq a.frame.routine s) (Some d) _ (eq-eqb a.frame.routine s is);
    is_of = record { frame = a.frame; activation = frame_of_latest a below d e; routine = is };
  }

  -- the routine lies around that of the latest activation, and is found from the one that this lies within
  from_outer : (a : Activation) (below : Stack) (d depth s : ℕ) → d ≡ length below → nat_eq a.frame.routine s ≡ false → a.frame.parent ≡ Some depth → IsFound below depth s → IsFound (a ∷ below) d s
  from_outer a below d depth s e is_not parent x = record {
    depth = x.depth;
    found =
        cond-true (nat_eq d (length below)) _ (around below d s) (eq-eqb d (length below) e)
        ∙ cond-false (nat_eq a.frame.routine s) (Some d) _ is_not
        ∙ ap (option_and_then (λ p. around below p s)) parent
        ∙ x.found;
    is_of = is_of_above a below x.depth s x.is_of;
  }

  from_below : (a : Activation) (below : Stack) (d s : ℕ) → d < length below → IsFound below d s → IsFound (a ∷ below) d s
  from_below a below d s h x = record {
    depth = x.depth;
    found = around_kept a below d s h ∙ x.found;
    is_of = is_of_above a below x.depth s x.is_of;
  }

  -- what leads from a routine to another that it isn't goes by the routine that declares the first
  leads_by_parent : (n r s : ℕ) → nat_eq r s ≡ false → leads_within n c.tables r s ≡ true → (m : ℕ) × (h : Head) × (p : ℕ) × (c.tables.head_at r ≡ Some h) × (h.parent ≡ Some p) × (leads_within m c.tables p s ≡ true)
  leads_by_parent zero r s is_not leads = absurd (true≢false (sym leads ∙ is_not))
  leads_by_parent (suc n) r s is_not leads =
      elim (or_cases (nat_eq r s) _ leads) [
        | inl e ↦ absurd (true≢false (sym e ∙ is_not))
        | inr e ↦
            let x = holds_found (λ (h : Head). holds_of (λ p. leads_within n c.tables p s) h.parent) (c.tables.head_at r) e in
            let y = holds_found (λ p. leads_within n c.tables p s) (x.0).parent x.2 in
            (n, x.0, y.0, x.1, y.1, y.2)
      ]

  -- a routine around that of an activation of the stack is found
  pub around_found : (stack : Stack) → IsStack c stack → (d : ℕ) (f : Frame) → frame_at stack d ≡ Some f → (n s : ℕ) → leads_within n c.tables f.routine s ≡ true → IsFound stack d s
  around_found [] is d f h n s leads = absurd is
  around_found (a ∷ []) is d f h n s leads =
      elim (cases_Bool (nat_eq d 0)) [
        | inl e ↦
            let same = found_once _ f a.frame h (cond-true (nat_eq d 0) (Some a.frame) None e) in
            let routine : f.routine ≡ a.frame.routine = ap (λ (g : Frame). g.routine) same in
            elim (cases_Bool (nat_eq a.frame.routine s)) [
              | inl here ↦ at_latest a [] d s (eqb-true d 0 e) (eqb-true a.frame.routine s here)
              | inr there ↦
                  let x = leads_by_parent n a.frame.routine s there (subst (λ r. leads_within n c.tables r s ≡ true) routine leads) in
                  absurd (none-some _ (sym (fits.outermost (x.1) (subst (λ r. c.tables.head_at r ≡ Some (x.1)) is.routine x.3)) ∙ x.4))
            ]
        | inr e ↦ absurd (none-some f (sym (cond-false (nat_eq d 0) (Some a.frame) None e) ∙ h))
      ]
  around_found (a ∷ b ∷ below) is d f h n s leads =
      elim (cases_Bool (nat_eq d (length (b ∷ below)))) [
        | inl e ↦
            let same = found_once _ f a.frame h (cond-true (nat_eq d (length (b ∷ below))) (Some a.frame) (frame_at (b ∷ below) d) e) in
            let routine : f.routine ≡ a.frame.routine = ap (λ (g : Frame). g.routine) same in
            let top = eqb-true d (length (b ∷ below)) e in
            elim (cases_Bool (nat_eq a.frame.routine s)) [
              | inl here ↦ at_latest a (b ∷ below) d s top (eqb-true a.frame.routine s here)
              | inr there ↦
                  let x = leads_by_parent n a.frame.routine s there (subst (λ r. leads_within n c.tables r s ≡ true) routine leads) in
                  let head = found_once _ (x.1) is.0.head x.3 is.0.declared in
                  let outer = found_once _ x.2 is.0.outer x.4 (ap (λ (g : Head). g.parent) head ∙ is.0.declares) in
                  from_outer a (b ∷ below) d is.0.depth s top there is.0.parent
                  (around_found (b ∷ below) is.1 is.0.depth is.0.within.frame is.0.within.activation x.0 s (subst (λ r. leads_within (x.0) c.tables r s ≡ true) (outer ∙ sym is.0.within.routine) x.5))
            ]
        | inr e ↦
            let lower = sym (cond-false (nat_eq d (length (b ∷ below))) (Some a.frame) (frame_at (b ∷ below) d) e) ∙ h in
            from_below a (b ∷ below) d s (frame_below (b ∷ below) d f lower) (around_found (b ∷ below) is.1 d f lower n s leads)
      ]

-- ---- the latest activation

-- a stack that stands rightly has an activation
pub latest_found : (c : Chart) (stack : Stack) → IsStack c stack → (r : ℕ) → routine_at c.points (point_of stack) ≡ Some r → IsOf stack (top_depth stack) r
latest_found c [] is r at = absurd is
latest_found c (a ∷ []) is r at = record {
  frame = a.frame;
  activation = frame_of_latest a [] (top_depth (a ∷ [])) (top_is a []);
  routine = is.routine ∙ found_once _ c.main r is.stands at;
}
latest_found c (a ∷ b ∷ below) is r at = record {
  frame = a.frame;
  activation = frame_of_latest a (b ∷ below) (top_depth (a ∷ b ∷ below)) (top_is a (b ∷ below));
  routine = found_once _ a.frame.routine r is.0.stands at;
}

-- the routine of the point at which a stack stands
pub standing_routine : (c : Chart) (stack : Stack) → IsStack c stack → (r : ℕ) × (routine_at c.points (point_of stack) ≡ Some r)
standing_routine c [] is = absurd is
standing_routine c (a ∷ []) is = (c.main, is.stands)
standing_routine c (a ∷ b ∷ below) is = (a.frame.routine, is.0.stands)

-- ---- the stack in which the activation at depth d is the latest, and stands at the point p

pub down_is_stack : (c : Chart) (stack : Stack) → IsStack c stack → (d p r : ℕ) → IsOf stack d r → routine_at c.points p ≡ Some r → IsStack c (down_to stack d p)
down_is_stack c [] is d p r of at = absurd is
down_is_stack c (a ∷ []) is d p r of at =
    elim (cases_Bool (nat_eq d 0)) [
      | inl e ↦
          let same = found_once _ of.frame a.frame of.activation (cond-true (nat_eq d 0) (Some a.frame) None e) in
          let routine : c.main ≡ r = sym is.routine ∙ ap (λ (g : Frame). g.routine) (sym same) ∙ of.routine in
          subst (IsStack c) (sym (cond-true (nat_eq d 0) (record a { point = p } ∷ []) [] e))
          (record { routine = is.routine; call = is.call; parent = is.parent; bindings = is.bindings; stands = at ∙ ap Some (sym routine) })
      | inr e ↦ absurd (none-some of.frame (sym (cond-false (nat_eq d 0) (Some a.frame) None e) ∙ of.activation))
    ]
down_is_stack c (a ∷ b ∷ below) is d p r of at =
    elim (cases_Bool (nat_eq d (length (b ∷ below)))) [
      | inl e ↦
          let same = found_once _ of.frame a.frame of.activation (cond-true (nat_eq d (length (b ∷ below))) (Some a.frame) (frame_at (b ∷ below) d) e) in
          let routine : a.frame.routine ≡ r = ap (λ (g : Frame). g.routine) (sym same) ∙ of.routine in
          subst (IsStack c) (sym (cond-true (nat_eq d (length (b ∷ below))) (record a { point = p } ∷ b ∷ below) (down_to (b ∷ below) d p) e))
          (moved a (b ∷ below) is.0 (at ∙ ap Some (sym routine)), is.1)
      | inr e ↦
          subst (IsStack c) (sym (cond-false (nat_eq d (length (b ∷ below))) (record a { point = p } ∷ b ∷ below) (down_to (b ∷ below) d p) e))
          (down_is_stack c (b ∷ below) is.1 d p r (record { frame = of.frame; activation = sym (cond-false (nat_eq d (length (b ∷ below))) (Some a.frame) (frame_at (b ∷ below) d) e) ∙ of.activation; routine = of.routine }) at)
    ]
  where
    moved : (a : Activation) (below : Stack) → IsCallee c a below → routine_at c.points p ≡ Some a.frame.routine → IsCallee c (record a { point = p }) below
    moved a below is at = record {
      edge = is.edge;
      site = is.site;
      head = is.head;
      outer = is.outer;
      depth = is.depth;
      made = is.made;
      known = is.known;
      callee = is.callee;
      waits = is.waits;
      declared = is.declared;
      declares = is.declares;
      parent = is.parent;
      found = is.found;
      within = is.within;
      bindings = is.bindings;
      bound = is.bound;
      stands = at;
    }

-- the frames up to that depth stay
pub down_frames : (stack : Stack) (d p q : ℕ) → d < length stack → q < suc d → frame_at (down_to stack d p) q ≡ frame_at stack q
down_frames [] d p q h k = refl
down_frames (a ∷ below) d p q h k =
    elim (cases_Bool (nat_eq d (length below))) [
      | inl e ↦ ap (λ (s : Stack). frame_at s q) (cond-true (nat_eq d (length below)) (record a { point = p } ∷ below) (down_to below d p) e)
      | inr e ↦
          let apart : d ≡ length below → ⊥ = eqb-false d (length below) e in
          let lower : d < length below = omega arith in
          ap (λ (s : Stack). frame_at s q) (cond-false (nat_eq d (length below)) (record a { point = p } ∷ below) (down_to below d p) e)
          ∙ down_frames below d p q lower k
          ∙ sym (frame_kept a below q (omega arith))
    ]
