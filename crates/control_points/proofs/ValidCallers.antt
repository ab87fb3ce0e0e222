-- Each activation of a run but the first was made by a call of the run, and those below it wait until it ends.
use Rattle.std.proofs.Common.{◌≡◌, ℕ, zero, suc, ◌<◌, ◌≤◌, ◌⊎◌, cond, List, [], ◌∷◌, length, refl, sym, ap, subst, ◌∙◌, inl, inr, Option, Some, None, nat_eq, eqb-true, ne_eqb, le_refl, arith}
use Rattle.std.proofs.lemmas.Bool.{cases_Bool, cond-true, cond-false}
use Rattle.std.proofs.lemmas.Option.{none-some, same_Some}
use Rattle.control_points.specs.declared.item.Item.{Item}
use Rattle.control_points.specs.Actions.{Onward, at_depth, anew}
use Rattle.control_points.specs.Chart.{Chart}
use Rattle.control_points.specs.Finding.{frame_at}
use Rattle.control_points.specs.Matching.{IsStep, IsMadeAt, StandsOn, below_depth}
use Rattle.control_points.specs.Runs.{start, at, step_from}
use Rattle.control_points.specs.States.{Frame, Activation, Stack, State}
use Rattle.control_points.specs.Steps.{down_to, next, onward_stack}
use Rattle.control_points.proofs.ValidBasics.{found_once}
use Rattle.control_points.proofs.ValidStacks.{frame_below, frame_kept}
use Rattle.control_points.proofs.ValidSteps.{moved_is, step_found}

-- ---- what stands in a stack stood in the one before a step, or is the new activation

below_kept : (a : Activation) (below : Stack) (d : ℕ) → d < length below → below_depth (a ∷ below) d ≡ below_depth below d
below_kept a below d h = cond-false (nat_eq d (length below)) below (below_depth below d) (ne_eqb d (length below) (λ e. absurd (omega arith)))

stands_above : (a : Activation) (below : Stack) (d : ℕ) (f : Frame) (lower : Stack) → StandsOn below d f lower → StandsOn (a ∷ below) d f lower
stands_above a below d f lower x =
    let h = frame_below below d f x.frame in
    record { frame = frame_kept a below d h ∙ x.frame; below = below_kept a below d h ∙ x.below }

-- what stands where the activation at a depth went on, stood there before
stood_before : (stack : Stack) (e p d : ℕ) (f : Frame) (lower : Stack) → StandsOn (down_to stack e p) d f lower → StandsOn stack d f lower
stood_before [] e p d f lower x = x
stood_before (a ∷ below) e p d f lower x =
    elim (cases_Bool (nat_eq e (length below))) [
      | inl here ↦
          let y = subst (λ (s : Stack). StandsOn s d f lower) (cond-true (nat_eq e (length below)) (record a { point = p } ∷ below) (down_to below e p) here) x in
          record { frame = y.frame; below = y.below }
      | inr there ↦
          stands_above a below d f lower
          (stood_before below e p d f lower (subst (λ (s : Stack). StandsOn s d f lower) (cond-false (nat_eq e (length below)) (record a { point = p } ∷ below) (down_to below e p) there) x))
    ]

-- a frame stands on those below it
stands : (stack : Stack) (d : ℕ) (f : Frame) → frame_at stack d ≡ Some f → StandsOn stack d f (below_depth stack d)
stands stack d f h = record { frame = h; below = refl }

-- it is the new activation's, or it stood there before
new_or_old : (stack : Stack) (p : ℕ) (o : Onward) (d : ℕ) (f : Frame) (lower : Stack) → StandsOn (onward_stack stack p o) d f lower → ((d ≡ length stack) × (lower ≡ stack)) ⊎ StandsOn stack d f lower
new_or_old stack p (at_depth e) d f lower x = inr (stood_before stack e p d f lower x)
new_or_old stack p (anew g) d f lower x =
    elim (cases_Bool (nat_eq d (length stack))) [
      | inl e ↦ inl (eqb-true d (length stack) e, sym x.below ∙ cond-true (nat_eq d (length stack)) stack (below_depth stack d) e)
      | inr e ↦
          inr (record {
            frame = sym (cond-false (nat_eq d (length stack)) (Some g) (frame_at stack d) e) ∙ x.frame;
            below = sym (cond-false (nat_eq d (length stack)) stack (below_depth stack d) e) ∙ x.below;
          })
    ]

-- ---- along a run

-- up to the next step: the same state, or an earlier one
earlier_or_last : (m i : ℕ) → m ≤ suc i → (m ≤ i) ⊎ (m ≡ suc i)
earlier_or_last m i h = grind arith

after_itself : (j m : ℕ) → j < m → m ≤ suc j → m ≡ suc j
after_itself j m h k = omega arith

module _ (c : Chart) (items : List Item) where
  -- in the state after the next step it stands as it did
  made_later : (i d j : ℕ) (f : Frame) (s : State) → at c items (suc i) ≡ Some s → (x : IsMadeAt c items i d j f) → StandsOn s.stack d f x.caller.stack → IsMadeAt c items (suc i) d j f
  made_later i d j f s reached x y = record {
    caller = x.caller;
    before = longer j i x.before;
    reached = x.reached;
    height = x.height;
    stays = λ m t h k there. elim (earlier_or_last m i k) [
      | inl early ↦ x.stays m t h early there
      | inr last ↦ subst (λ (u : State). StandsOn u.stack d f x.caller.stack) (found_once _ s t reached (ap (at c items) (sym last) ∙ there)) y
    ];
  }
    where
      longer : (j i : ℕ) → j < i → j < suc i
      longer j i h = omega arith

  -- the step made it
  made_now : (i d : ℕ) (f : Frame) (s t : State) → at c items i ≡ Some s → at c items (suc i) ≡ Some t → d ≡ length s.stack → StandsOn t.stack d f s.stack → IsMadeAt c items (suc i) d i f
  made_now i d f s t reached next_reached height y = record {
    caller = s;
    before = now i;
    reached = reached;
    height = sym height;
    stays = λ m u h k there. subst (λ (w : State). StandsOn w.stack d f s.stack) (found_once _ t u next_reached (ap (at c items) (sym (after_itself i m h k)) ∙ there)) y;
  }
    where
      now : (i : ℕ) → i < suc i
      now i = omega arith

  -- before some step there is a state
  state_before : (o : Option State) (t : State) → step_from c o ≡ Some t → (s : State) × (o ≡ Some s) × IsStep c s t
  state_before None t h = absurd (none-some t h)
  state_before (Some s) t h = (s, refl, step_found c s t (moved_is (next c s) t h))

  alone : (g : Frame) (d : ℕ) (f : Frame) → 0 < d → cond (nat_eq d 0) (Some g) None ≡ Some f → ⊥
  alone g d f h e = none-some f (sym (cond-false (nat_eq d 0) (Some g) None (ne_eqb d 0 (λ z. absurd (omega arith)))) ∙ e)

  pub made_in_run : (i : ℕ) (s : State) → at c items i ≡ Some s → (d : ℕ) (f : Frame) → 0 < d → frame_at s.stack d ≡ Some f → (j : ℕ) × IsMadeAt c items i d j f
  made_in_run zero s reached d f h e =
      absurd (alone _ d f h (ap (λ (u : State). frame_at u.stack d) (same_Some (start c items) s reached) ∙ e))
  made_in_run (suc i) t reached d f h e =
      let x = state_before (at c items i) t reached in
      let s = x.0 in
      let y = subst (λ (u : State). StandsOn u.stack d f (below_depth t.stack d)) x.2.leads (stands t.stack d f e) in
      elim (new_or_old s.stack x.2.edge.to x.2.effect.onward d f (below_depth t.stack d) y) [
        | inl new ↦ (i, made_now i d f s t x.1 reached new.0 (record { frame = e; below = new.1 }))
        | inr old ↦ made_before i t reached d f h e s x.1 old (made_in_run i s x.1 d f h old.frame)
      ]
    where
      made_before : (i : ℕ) (t : State) → at c items (suc i) ≡ Some t → (d : ℕ) (f : Frame) → 0 < d → frame_at t.stack d ≡ Some f
          → (s : State) → at c items i ≡ Some s → StandsOn s.stack d f (below_depth t.stack d) → (j : ℕ) × IsMadeAt c items i d j f → (j : ℕ) × IsMadeAt c items (suc i) d j f
      made_before i t reached d f h e s there old m =
          let z = m.1.stays i s m.1.before (le_refl i) there in
          (m.0, made_later i d m.0 f t reached m.1 (record { frame = e; below = sym old.below ∙ z.below }))
