-- Activations with a new latest one: after a call, or where an earlier one goes on.
use Rattle.std.proofs.Common.{◌≡◌, ℕ, zero, suc, ◌<◌, ◌≤◌, true, List, [], ◌∷◌, ◌++◌, length, take, refl, sym, ap, ◌∙◌, subst, arith, Option, Some, None, inl, inr}
use Rattle.std.specs.List.{slice_get}
use Rattle.std.specs.Option.{option_map, option_and_then}
use Rattle.std.proofs.lemmas.List.{take-append-le, take_all, take-take}
use Rattle.std.proofs.lemmas.Option.{none-some}
use Rattle.std.proofs.Common.{length-append}
use Rattle.pas_program.specs.Checked.{tables}
use Rattle.pas_program.specs.Tables.{Head}
use Rattle.control_points.specs.declared.flow.Flow.{Flow}
use Rattle.control_points.specs.Fits.{routine_at}
use Rattle.interp.specs.declared.frame.Frame.{Frame}
use Rattle.interp.specs.Machines.{AreFrames, end_of, routine_of, is_made_at}
use Rattle.interp.proofs.Lists.{slice_get-take, slice_get-front, slice_get-snoc}

-- the activations below some depth
pub record AreBelow (flow : Flow) (frames : List Frame) : Type 0 where
  pub base : (d : ℕ) (g : Frame) → slice_get frames d ≡ Some g → g.base ≡ end_of flow.program (take d frames)
  pub stands : (d : ℕ) (g : Frame) → slice_get frames d ≡ Some g → routine_at flow.points g.point ≡ Some g.routine
  pub parent : (d : ℕ) (g : Frame) (h : Head) → slice_get frames d ≡ Some g → (tables flow.program).head_at g.routine ≡ Some h → option_and_then (routine_of frames) g.parent ≡ h.parent
  pub parent_below : (d p : ℕ) (g : Frame) → slice_get frames d ≡ Some g → g.parent ≡ Some p → p < d
  pub first : (g : Frame) → slice_get frames 0 ≡ Some g → g.call ≡ None
  pub made : (d : ℕ) (g h : Frame) → slice_get frames d ≡ Some g → slice_get frames (suc d) ≡ Some h → is_made_at flow.edges g.point h.routine h.call ≡ true

-- what the routines of the parents are depends on what is below alone
pub parents_same : (xs ys : List Frame) (o : Option ℕ) → ((p : ℕ) → o ≡ Some p → slice_get ys p ≡ slice_get xs p) → option_and_then (routine_of ys) o ≡ option_and_then (routine_of xs) o
parents_same xs ys None h = refl
parents_same xs ys (Some p) h = ap (option_map (λ (g : Frame). g.routine)) (h p refl)

pub all_below : (flow : Flow) (frames : List Frame) → AreFrames flow frames → AreBelow flow frames
all_below flow frames h = record { base = h.base; stands = h.stands; parent = h.parent; parent_below = h.parent_below; first = h.first; made = h.made }

-- an element of a prefix
pub in_prefix : {A : Type 0} (xs : List A) (n k : ℕ) (x : A) → slice_get (take n xs) k ≡ Some x → (k < n) × (slice_get xs k ≡ Some x)
in_prefix xs zero k x e = absurd (none-some x e)
in_prefix [] (suc n) k x e = absurd (none-some x e)
in_prefix (y ∷ xs) (suc n) zero x e = (omega arith, e)
in_prefix (y ∷ xs) (suc n) (suc k) x e = let w = in_prefix xs n k x e in (let h = w.0 in omega arith, w.1)

pub some_below : (flow : Flow) (frames : List Frame) (n : ℕ) → AreBelow flow frames → AreBelow flow (take n frames)
some_below flow frames n h = record {
  base = λ d g e. let w = in_prefix frames n d g e in h.base d g w.1 ∙ ap (end_of flow.program) (sym (take-take d n frames (let l = w.0 in omega arith)));
  stands = λ d g e. h.stands d g (in_prefix frames n d g e).1;
  parent = λ d g x e k. let w = in_prefix frames n d g e in
      parents_same frames (take n frames) g.parent (λ p l. slice_get-take frames n p (let b = h.parent_below d p g w.1 l in let u = w.0 in omega arith)) ∙ h.parent d g x w.1 k;
  parent_below = λ d p g e. h.parent_below d p g (in_prefix frames n d g e).1;
  first = λ g e. h.first g (in_prefix frames n 0 g e).1;
  made = λ d g x e k. h.made d g x (in_prefix frames n d g e).1 (in_prefix frames n (suc d) x k).1;
}

-- one more activation
pub record IsNext (flow : Flow) (frames : List Frame) (g : Frame) : Type 0 where
  pub base : g.base ≡ end_of flow.program frames
  pub stands : routine_at flow.points g.point ≡ Some g.routine
  pub parent : (h : Head) → (tables flow.program).head_at g.routine ≡ Some h → option_and_then (routine_of frames) g.parent ≡ h.parent
  pub parent_below : (p : ℕ) → g.parent ≡ Some p → p < length frames
  pub first : length frames ≡ 0 → g.call ≡ None
  pub made : (d : ℕ) (h : Frame) → slice_get frames d ≡ Some h → suc d ≡ length frames → is_made_at flow.edges h.point g.routine g.call ≡ true

take_front : {A : Type 0} (xs : List A) (y : A) (d : ℕ) → d ≤ length xs → take d (xs ++ y ∷ []) ≡ take d xs
take_front xs y d h = take-append-le d xs (y ∷ []) h

pub with_next : (flow : Flow) (frames : List Frame) (g : Frame) → AreBelow flow frames → IsNext flow frames g → AreFrames flow (frames ++ g ∷ [])
with_next flow frames g h n = record {
  some = omega (arith, length-append frames (g ∷ []));
  base = λ d x e. elim (slice_get-snoc frames g d x e) [
    | inl w ↦ h.base d x w.1 ∙ ap (end_of flow.program) (sym (take_front frames g d (let l = w.0 in omega arith)))
    | inr w ↦ ap (λ (x : Frame). x.base) w.1 ∙ n.base ∙ ap (end_of flow.program) (sym (take_front frames g d (let l = w.0 in omega arith) ∙ take_all d frames (let l = w.0 in omega arith)))
  ];
  stands = λ d x e. elim (slice_get-snoc frames g d x e) [
    | inl w ↦ h.stands d x w.1
    | inr w ↦ subst (λ (x : Frame). routine_at flow.points x.point ≡ Some x.routine) (sym w.1) n.stands
  ];
  parent = λ d x y e k. elim (slice_get-snoc frames g d x e) [
    | inl w ↦ parents_same frames (frames ++ g ∷ []) x.parent (λ p l. slice_get-front frames (g ∷ []) p (let b = h.parent_below d p x w.1 l in let u = w.0 in omega arith)) ∙ h.parent d x y w.1 k
    | inr w ↦ parents_same frames (frames ++ g ∷ []) x.parent (λ p l. slice_get-front frames (g ∷ []) p (n.parent_below p (sym (ap (λ (x : Frame). x.parent) w.1) ∙ l)))
        ∙ ap (λ (x : Frame). option_and_then (routine_of frames) x.parent) w.1 ∙ n.parent y (sym (ap (λ (x : Frame). (tables flow.program).head_at x.routine) w.1) ∙ k)
  ];
  parent_below = λ d p x e k. elim (slice_get-snoc frames g d x e) [
    | inl w ↦ h.parent_below d p x w.1 k
    | inr w ↦ let b = n.parent_below p (sym (ap (λ (x : Frame). x.parent) w.1) ∙ k) in let l = w.0 in omega arith
  ];
  first = λ x e. elim (slice_get-snoc frames g 0 x e) [
    | inl w ↦ h.first x w.1
    | inr w ↦ ap (λ (x : Frame). x.call) w.1 ∙ n.first (sym w.0)
  ];
  made = λ d x y e k. elim (slice_get-snoc frames g (suc d) y k) [
    | inl w ↦ elim (slice_get-snoc frames g d x e) [
      | inl v ↦ h.made d x y v.1 w.1
      | inr v ↦ absurd (let l = w.0 in let m = v.0 in omega arith)
    ]
    | inr w ↦ elim (slice_get-snoc frames g d x e) [
      | inl v ↦ subst (λ (y : Frame). is_made_at flow.edges x.point y.routine y.call ≡ true) (sym w.1) (n.made d x v.1 w.0)
      | inr v ↦ absurd (let l = w.0 in let m = v.0 in omega arith)
    ]
  ];
}
