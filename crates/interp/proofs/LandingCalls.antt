-- The state of a machine in which only storage behind all activations changed, and that in which one more activation begins.
use Rattle.std.proofs.Common.{◌≡◌, ℕ, zero, suc, ◌<◌, ◌≤◌, List, [], ◌∷◌, ◌++◌, length, take, replicate, refl, sym, ap, ◌∙◌, subst, arith, ℤ, Option, None, inl, inr}
use Rattle.std.proofs.Common.{length-append, length-take}
use Rattle.std.specs.List.{slice_get}
use Rattle.std.specs.Prelude.{Err, Ok, OnOk, Result}
use Rattle.pas_program.specs.declared.program.Program.{Program}
use Rattle.control_points.specs.declared.flow.Flow.{Flow}
use Rattle.control_points.specs.States.{Activation, Stack, State}
use Rattle.control_points.specs.Storage.{Store}
use Rattle.interp.specs.declared.frame.Frame.{Frame}
use Rattle.interp.specs.declared.machine.Machine.{Machine}
use Rattle.interp.specs.Machines.{AreFrames, end_of}
use Rattle.interp.specs.Passed.{AreUndefined}
use Rattle.interp.specs.Same.{SameActivations}
use Rattle.interp.specs.Standing.{content, IsKept, StackIs, StandsFor, StoreIs}
use Rattle.interp.proofs.Around.{activation_kept, activation_latest}
use Rattle.interp.proofs.Landing.{AreSameBelow, kept_moved}
use Rattle.interp.proofs.LandingStores.{store_below}
use Rattle.interp.proofs.Lists.{slice_get-front, slice_get-snoc, slice_get-take}
use Rattle.interp.proofs.Lying.{lies_in}
use Rattle.interp.proofs.Numbers.{link_place, resized_same}
use Rattle.interp.proofs.Parts.{scalar_count}

-- ---- storage behind all activations

abbrev pub AreSameTo : {A : Type 0} → ℕ → List A → List A → Type 0
AreSameTo n old new = (i : ℕ) → i < n → slice_get new i ≡ slice_get old i

module _ (flow : Flow) (frames : List Frame) (h : AreFrames flow frames) where
  pub stack_behind : (old new : List ℕ) (stack : Stack) → AreSameTo (end_of flow.program frames).links old new → StackIs flow.program frames old stack → StackIs flow.program frames new stack
  stack_behind old new stack same s = record {
    height = s.height;
    each = λ d g e.
        let w = s.each d g e in
        let k = w.2 in (
          w.0,
          w.1,
          record {
            known = k.known;
            call = k.call;
            parent = k.parent;
            point = k.point;
            bound = λ v x f o i.
                let b = k.bound v x f o i in
                record { place = b.place; address = b.address; bound = b.bound; below = b.below; link = same _ (link_place flow frames h d v g x e f o i) ∙ b.link; lies = b.lies };
          },
        );
  }

  pub store_behind : (old new : List (Option ℤ)) (store : Store) → AreSameTo (end_of flow.program frames).scalars old new → StoreIs flow.program frames old store → StoreIs flow.program frames new store
  store_behind old new store same s =
      store_below flow.program frames (end_of flow.program frames).scalars old new store
      (λ q a t l k. let r = (lies_in flow frames h q a t l).room in let one = scalar_count flow.program t k in omega arith) same s

-- the machine stays in its state
pub stands_behind : (old new : Machine) (s : State) → SameActivations old new → AreSameTo (end_of old.flow.now.program old.frames.items).links old.links.items new.links.items
    → AreSameTo (end_of old.flow.now.program old.frames.items).scalars old.scalars.items new.scalars.items → StandsFor old s → StandsFor new s
stands_behind old new s k links scalars t = record {
  stack = subst (λ (g : Flow). StackIs g.program new.frames.items new.links.items s.stack) (sym k.flow)
      (subst (λ (xs : List Frame). StackIs old.flow.now.program xs new.links.items s.stack) (sym k.frames) (stack_behind old.flow.now old.frames.items old.framed old.links.items new.links.items s.stack links t.stack));
  store = subst (λ (g : Flow). StoreIs g.program new.frames.items new.scalars.items s.store) (sym k.flow)
      (subst (λ (xs : List Frame). StoreIs old.flow.now.program xs new.scalars.items s.store) (sym k.frames) (store_behind old.flow.now old.frames.items old.framed old.scalars.items new.scalars.items s.store scalars t.store));
  items = t.items ∙ sym k.items;
  output = t.output ∙ sym k.output;
}

-- ---- one more activation

module _ (frames : List Frame) (g : Frame) where
  pub pushed_height : length (frames ++ g ∷ []) ≡ suc (length frames)
  pushed_height = omega (arith, length-append frames (g ∷ []))

  pub pushed_same : AreSameBelow frames (frames ++ g ∷ []) (length frames)
  pushed_same d x h k = record { frame = x; known = slice_get-front frames (g ∷ []) d h ∙ k; base = refl; routine = refl }

  pub pushed_back : AreSameBelow (frames ++ g ∷ []) frames (length frames)
  pushed_back d x h k = record { frame = x; known = sym (slice_get-front frames (g ∷ []) d h) ∙ k; base = refl; routine = refl }

  pub pushed_stack : (p : Program) (links : List ℕ) (stack : Stack) (a : Activation) → StackIs p frames links stack → IsKept p frames links (length frames) g a → StackIs p (frames ++ g ∷ []) links (a ∷ stack)
  pushed_stack p links stack a s k = record {
    height = let e = s.height in ap suc e ∙ sym pushed_height;
    each = λ d x e. elim (slice_get-snoc frames g d x e) [
      | inl w ↦
          let b = s.each d x w.1 in
          let l = w.0 in
          let n = s.height in
          (b.0, activation_kept a stack d (omega arith) ∙ b.1, kept_moved p frames (frames ++ g ∷ []) links (length frames) pushed_same d x x b.0 b.0 (omega arith) refl refl refl refl refl (λ y. y) b.2)
      | inr w ↦ (
        a,
        activation_latest a stack d (w.0 ∙ sym s.height),
        subst (λ d. IsKept p (frames ++ g ∷ []) links d x a) (sym w.0)
            (subst (λ x. IsKept p (frames ++ g ∷ []) links (length frames) x a) (sym w.1)
            (kept_moved p frames (frames ++ g ∷ []) links (length frames) pushed_same (length frames) g g a a (omega arith) refl refl refl refl refl (λ y. y) k)),
      )
    ];
  }

-- ---- room for one more activation

pub cut_same : {A : Type 0} (n : ℕ) (xs new : List A) → new ≡ take n xs → AreSameTo n xs new
cut_same n xs new e i h = ap (λ ys. slice_get ys i) e ∙ slice_get-take xs n i h

pub resized_to : {A : Type 0} (n m k : ℕ) (xs new : List A) (y : A) → n ≤ length xs → n ≤ m → new ≡ take m xs ++ replicate k y → AreSameTo n xs new
resized_to n m k xs new y l r e i h = ap (λ ys. slice_get ys i) e ∙ resized_same xs m k i y (omega arith) (omega arith)

pub same_twice : {A : Type 0} (n : ℕ) (xs ys zs : List A) → AreSameTo n xs ys → AreSameTo n ys zs → AreSameTo n xs zs
same_twice n xs ys zs e f i h = f i h ∙ e i h

none_in : (k a : ℕ) → content (replicate k None) a ≡ None
none_in zero a = refl
none_in (suc k) zero = refl
none_in (suc k) (suc a) = none_in k a

none_behind : (xs : List (Option ℤ)) (k a : ℕ) → length xs ≤ a → content (xs ++ replicate k None) a ≡ None
none_behind [] k a h = none_in k a
none_behind (x ∷ xs) k zero h = absurd (omega arith)
none_behind (x ∷ xs) k (suc a) h = none_behind xs k a (omega arith)

pub always_ok : {A E : Type 0} (r : Result A E) (P : Type 0) → P → OnOk r P
always_ok (Ok x) P h = h
always_ok (Err e) P h = tt

-- what is new is undefined
pub fresh_behind : (n m k : ℕ) (xs cut new : List (Option ℤ)) → cut ≡ take n xs → new ≡ take m cut ++ replicate k None → AreUndefined n new
fresh_behind n m k xs cut new e f a h =
    ap (λ ys. content ys a) f ∙ none_behind (take m cut) k a (let x = ap length e in let y = length-take n xs in let z = length-take m cut in omega arith)
