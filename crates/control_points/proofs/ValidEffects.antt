-- The state after an effect is valid, where the effect lands on a stack that stands rightly and changes what exists there.
use Rattle.std.proofs.Common.{◌≡◌, ℕ, suc, ◌-◌, ◌<◌, List, [], ◌∷◌, length, sym, ap, subst, Ok, Some, arith}
use Rattle.std.proofs.lemmas.Option.{none-some, same_Some}
use Rattle.std.proofs.lemmas.List.Elements.{All-tail}
use Rattle.control_points.specs.declared.item.Item.{Item}
use Rattle.control_points.specs.declared.item.Item.TheVariants.{Number, LineEnd, Junk}
use Rattle.control_points.specs.Actions.{Change, at_depth, Effect, does, top_depth}
use Rattle.control_points.specs.Chart.{Chart}
use Rattle.control_points.specs.Finding.{frame_at}
use Rattle.control_points.specs.Fits.{routine_at}
use Rattle.control_points.specs.Input.{Taken, next_number, after_line}
use Rattle.control_points.specs.Runs.{IsInput, IsInputItem}
use Rattle.control_points.specs.States.{State}
use Rattle.control_points.specs.Steps.{onward_stack, kept_height, after, down_to}
use Rattle.control_points.specs.ValidStates.{IsOf, IsStack, IsValid}
use Rattle.control_points.proofs.ValidBasics.{same_effect}
use Rattle.control_points.proofs.ValidStacks.{down_is_stack, down_frames, frame_below}
use Rattle.control_points.proofs.ValidStores.{ChangesFit, kept_fits, changes_fit, changes_moved}

pub record EffectFits (c : Chart) (s : State) (p : ℕ) (e : Effect) : Type 0 where
  pub stack : IsStack c (onward_stack s.stack p e.onward)
  pub frames : (d : ℕ) → d < kept_height s.stack e.onward → frame_at (onward_stack s.stack p e.onward) d ≡ frame_at s.stack d
  pub changes : ChangesFit c (onward_stack s.stack p e.onward) e.changes
  pub items : IsInput e.items

pub after_is_valid : (c : Chart) (s : State) (p : ℕ) (e : Effect) → IsValid c s → EffectFits c s p e → IsValid c (after s p e)
after_is_valid c s p e v x = record {
  stack = x.stack;
  stored =
      changes_fit c (onward_stack s.stack p e.onward) e.changes _
      (kept_fits c s.stack (onward_stack s.stack p e.onward) (kept_height s.stack e.onward) x.frames s.store v.stored) x.changes;
  items = x.items;
}

-- the activation at depth d goes on, at a point of its routine
pub lands : (c : Chart) (s : State) → IsValid c s → (d p r : ℕ) → IsOf s.stack d r → routine_at c.points p ≡ Some r
    → (changes : List Change) → ChangesFit c (down_to s.stack d p) changes → (items : List Item) → IsInput items → (output : List ℕ)
    → EffectFits c s p (record { onward = at_depth d; changes = changes; items = items; output = output })
lands c s v d p r of at changes fit items input output = record {
  stack = down_is_stack c s.stack v.stack d p r of at;
  frames = λ q h. down_frames s.stack d p q (frame_below s.stack d of.frame of.activation) h;
  changes = fit;
  items = input;
}

height_is : (n d : ℕ) → d < n → suc (n - 1) ≡ n
height_is n d h = omega arith

-- the latest activation goes on, with changes of what exists
pub stays : (c : Chart) (s : State) → IsValid c s → (p r : ℕ) → IsOf s.stack (top_depth s.stack) r → routine_at c.points p ≡ Some r
    → (changes : List Change) → ChangesFit c s.stack changes → (items : List Item) → IsInput items → (output : List ℕ)
    → EffectFits c s p (record { onward = at_depth (top_depth s.stack); changes = changes; items = items; output = output })
stays c s v p r of at changes fit items input output =
    let top = top_depth s.stack in
    let below = frame_below s.stack top of.frame of.activation in
    let height = height_is (length s.stack) top below in
    lands c s v top p r of at changes
    (changes_moved c s.stack (down_to s.stack top p) (λ q h. down_frames s.stack top p q below (subst (λ n. q < n) (sym height) h)) changes fit)
    items input output

-- the same, as an answer
pub does_fit : (c : Chart) (s : State) → IsValid c s → (p r : ℕ) → IsOf s.stack (top_depth s.stack) r → routine_at c.points p ≡ Some r
    → (changes : List Change) → ChangesFit c s.stack changes → (e : Effect) → does c s changes ≡ Ok (Some e) → EffectFits c s p e
does_fit c s v p r of at changes fit e h = subst (EffectFits c s p) (same_effect _ e h) (stays c s v p r of at changes fit s.items v.items s.output)

-- ---- input

pub line_is_input : (items : List Item) → IsInput items → IsInput (after_line items)
line_is_input [] h = h
line_is_input (LineEnd ∷ items) h = All-tail IsInputItem LineEnd items h
line_is_input (Number z ∷ items) h = line_is_input items (All-tail IsInputItem (Number z) items h)
line_is_input (Junk ∷ items) h = line_is_input items (All-tail IsInputItem Junk items h)

pub rest_is_input : (items : List Item) → IsInput items → (x : Taken) → next_number items ≡ Some x → IsInput x.rest
rest_is_input [] h x e = absurd (none-some x e)
rest_is_input (LineEnd ∷ items) h x e = rest_is_input items (All-tail IsInputItem LineEnd items h) x e
rest_is_input (Number z ∷ items) h x e = subst IsInput (ap (λ (y : Taken). y.rest) (same_Some _ x e)) (All-tail IsInputItem (Number z) items h)
rest_is_input (Junk ∷ items) h x e = absurd (none-some x e)
