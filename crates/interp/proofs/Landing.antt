-- Places and activations where the later activations end, or one more begins.
use Rattle.std.proofs.Common.{◌≡◌, ℕ, suc, ◌+◌, ◌<◌, ◌≤◌, List, [], ◌∷◌, ◌++◌, length, take, refl, sym, ap, ◌∙◌, subst, arith, Some, inl, inr, nat_eq, set, get_or}
use Rattle.std.specs.List.{slice_get}
use Rattle.std.proofs.lemmas.Bool.{cases_Bool, cond-true, cond-false, eqb-false, eqb-true}
use Rattle.std.proofs.Common.{length-append}
use Rattle.std.proofs.lemmas.Bool.Decides.{eqb_tells}
use Rattle.std.proofs.lemmas.List.{length-take-le}
use Rattle.std.proofs.lemmas.Option.{get_or_from_slice_get, none-some, slice_get_within}
use Rattle.pas_program.specs.declared.program.Program.{Program}
use Rattle.pas_program.specs.declared.variable.VarDef.{VarDef}
use Rattle.control_points.specs.States as States
use Rattle.control_points.specs.States.{Activation, Stack}
use Rattle.control_points.specs.Finding.{bound_to}
use Rattle.control_points.specs.Steps.{down_to}
use Rattle.control_points.specs.Storage.{Place}
use Rattle.interp.specs.declared.frame.Extent.{Extent}
use Rattle.interp.specs.declared.frame.Frame.{Frame}
use Rattle.interp.specs.Layouts.{extent_before}
use Rattle.interp.specs.Places.{Lies, Part, part_of}
use Rattle.interp.specs.Standing.{activation_at, IsBound, IsKept, StackIs}
use Rattle.interp.proofs.Around.{activation_kept, activation_latest}
use Rattle.interp.proofs.Frames.{in_prefix}
use Rattle.interp.proofs.Landed.{moved_to, set_last}
use Rattle.interp.proofs.Lists.{same_some, slice_get-front, slice_get-last, slice_get-snoc, slice_get-take}

-- ---- places

-- a place has one address and one type
pub lies_once : (p : Program) (frames : List Frame) (q : Place) (a t b k : ℕ) → Lies p frames q a t → Lies p frames q b k → (a ≡ b) × (t ≡ k)
lies_once p frames q a t b k l m =
    let fs : l.frame ≡ m.frame = same_some l.frame m.frame (sym l.activation ∙ m.activation) in
    let xs : l.var ≡ m.var = same_some l.var m.var (sym l.known ∙ m.known) in
    let ws : ◌≡◌ {A = Part} (record { offset = l.offset; of_type = t }) (record { offset = m.offset; of_type = k }) =
    same_some _ _ (sym l.part ∙ ap (λ (x : VarDef). part_of p x.of_type q.subscripts) xs ∙ m.part) in
    let o : l.offset ≡ m.offset = ap (λ (w : Part). w.offset) ws in
    let bs : l.frame.base.scalars ≡ m.frame.base.scalars = ap (λ (g : Frame). g.base.scalars) fs in
    let es : (extent_before p l.var.routine q.var).scalars ≡ (extent_before p m.var.routine q.var).scalars = ap (λ (x : VarDef). (extent_before p x.routine q.var).scalars) xs in
    let x = l.address in
    let y = m.address in
    (omega arith, ap (λ (w : Part). w.of_type) ws)

-- the activation at a depth has the same routine and the same storage in another list
pub record SameAt (old new : List Frame) (d : ℕ) (g : Frame) : Type 0 where
  pub frame : Frame
  pub known : slice_get new d ≡ Some frame
  pub base : frame.base ≡ g.base
  pub routine : frame.routine ≡ g.routine

abbrev pub AreSameBelow : List Frame → List Frame → ℕ → Type 0
AreSameBelow old new n = (d : ℕ) (g : Frame) → d < n → slice_get old d ≡ Some g → SameAt old new d g

-- what lies in such an activation lies there in the other list
pub lies_moved : (p : Program) (old new : List Frame) (n : ℕ) → AreSameBelow old new n → (q : Place) (a t : ℕ) → q.depth < n → Lies p old q a t → Lies p new q a t
lies_moved p old new n same q a t h l =
    let w = same q.depth l.frame h l.activation in
    record {
      frame = w.frame;
      var = l.var;
      offset = l.offset;
      activation = w.known;
      known = l.known;
      own = l.own ∙ sym w.routine;
      no_link = l.no_link;
      part = l.part;
      address = l.address ∙ ap (λ (x : Extent). x.scalars + (extent_before p l.var.routine q.var).scalars + l.offset) (sym w.base);
    }

pub lies_depth : (p : Program) (frames : List Frame) (q : Place) (a t : ℕ) → Lies p frames q a t → q.depth < length frames
lies_depth p frames q a t l = slice_get_within frames q.depth l.frame l.activation

-- ---- the stack in which an earlier activation is the latest

pub down_height : (stack : Stack) (d p : ℕ) → d < length stack → length (down_to stack d p) ≡ suc d
down_height [] d p h = absurd (omega arith)
down_height (a ∷ below) d p h =
    elim (cases_Bool (nat_eq d (length below))) [
      | inl e ↦ ap length (cond-true (nat_eq d (length below)) (record a { point = p } ∷ below) (down_to below d p) e) ∙ ap suc (sym (eqb-true d (length below) e))
      | inr e ↦
          let apart : d ≡ length below → ⊥ = eqb-false d (length below) e in
          ap length (cond-false (nat_eq d (length below)) (record a { point = p } ∷ below) (down_to below d p) e) ∙ down_height below d p (omega arith)
    ]

pub down_below : (stack : Stack) (d p k : ℕ) → d < length stack → k < d → activation_at (down_to stack d p) k ≡ activation_at stack k
down_below [] d p k h l = absurd (omega arith)
down_below (a ∷ below) d p k h l =
    elim (cases_Bool (nat_eq d (length below))) [
      | inl e ↦
          let same = eqb-true d (length below) e in
          ap (λ (s : Stack). activation_at s k) (cond-true (nat_eq d (length below)) (record a { point = p } ∷ below) (down_to below d p) e)
          ∙ activation_kept (record a { point = p }) below k (omega arith) ∙ sym (activation_kept a below k (omega arith))
      | inr e ↦
          let apart : d ≡ length below → ⊥ = eqb-false d (length below) e in
          ap (λ (s : Stack). activation_at s k) (cond-false (nat_eq d (length below)) (record a { point = p } ∷ below) (down_to below d p) e)
          ∙ down_below below d p k (omega arith) l ∙ sym (activation_kept a below k (omega arith))
    ]

pub down_at : (stack : Stack) (d p : ℕ) (a : Activation) → activation_at stack d ≡ Some a → activation_at (down_to stack d p) d ≡ Some (record a { point = p })
down_at [] d p a h = absurd (none-some a h)
down_at (b ∷ below) d p a h =
    elim (cases_Bool (nat_eq d (length below))) [
      | inl e ↦
          let same = eqb-true d (length below) e in
          let is : b ≡ a = same_some b a (sym (cond-true (nat_eq d (length below)) (Some b) (activation_at below d) e) ∙ h) in
          ap (λ (s : Stack). activation_at s d) (cond-true (nat_eq d (length below)) (record b { point = p } ∷ below) (down_to below d p) e)
          ∙ activation_latest (record b { point = p }) below d same ∙ ap (λ (x : Activation). let y : Activation = record x { point = p } in Some y) is
      | inr e ↦
          ap (λ (s : Stack). activation_at s d) (cond-false (nat_eq d (length below)) (record b { point = p } ∷ below) (down_to below d p) e)
          ∙ down_at below d p a (sym (cond-false (nat_eq d (length below)) (Some b) (activation_at below d) e) ∙ h)
    ]

-- what a variable parameter stands for stays, where the activations below stay
pub bound_moved : (p : Program) (old new : List Frame) (links : List ℕ) (n : ℕ) → AreSameBelow old new n → (d : ℕ) (g h : Frame) (a b : Activation) (v : ℕ) (x : VarDef) → d ≤ n → h.base ≡ g.base → b.frame ≡ a.frame
    → IsBound p old links d g a v x → IsBound p new links d h b v x
bound_moved p old new links n same d g h a b v x l e f i = record {
  place = i.place;
  address = i.address;
  bound = ap (λ (y : States.Frame). bound_to v y.bindings) f ∙ i.bound;
  below = i.below;
  link = ap (λ (y : Extent). slice_get links (y.links + (extent_before p x.routine v).links)) e ∙ i.link;
  lies = lies_moved p old new n same i.place i.address x.of_type (let k = i.below in omega arith) i.lies;
}

-- the frame keeps the activation where both are the same but for the point
pub kept_moved : (p : Program) (old new : List Frame) (links : List ℕ) (n : ℕ) → AreSameBelow old new n → (d : ℕ) (g h : Frame) (a b : Activation) → d ≤ n → h.base ≡ g.base → h.routine ≡ g.routine → h.call ≡ g.call → h.parent ≡ g.parent
    → b.frame ≡ a.frame → (a.point ≡ g.point → b.point ≡ h.point) → IsKept p old links d g a → IsKept p new links d h b
kept_moved p old new links n same d g h a b l base routine call parent f point k = record {
  known = ap (λ (y : States.Frame). y.routine) f ∙ k.known ∙ sym routine;
  call = ap (λ (y : States.Frame). y.call) f ∙ k.call ∙ sym call;
  parent = ap (λ (y : States.Frame). y.parent) f ∙ k.parent ∙ sym parent;
  point = point k.point;
  bound = λ v x e o i. bound_moved p old new links n same d g h a b v x l base f (k.bound v x e (o ∙ routine) i);
}

-- ---- the activations that go on

module _ (frames : List Frame) (n p : ℕ) (g : Frame) (e : slice_get frames n ≡ Some g) where
  landed_long : length (take n frames) ≡ n
  landed_long = let l = slice_get_within frames n g e in length-take-le n frames (omega arith)

  pub landed_height : length (take n frames ++ moved_to g p ∷ []) ≡ suc n
  landed_height = let l = landed_long in omega (arith, length-append (take n frames) (moved_to g p ∷ []))

  landed_last : slice_get (take n frames ++ moved_to g p ∷ []) n ≡ Some (moved_to g p)
  landed_last = ap (slice_get (take n frames ++ moved_to g p ∷ [])) (sym landed_long) ∙ slice_get-last (take n frames) (moved_to g p)

  landed_front : (d : ℕ) → d < n → slice_get (take n frames ++ moved_to g p ∷ []) d ≡ slice_get frames d
  landed_front d h = slice_get-front (take n frames) (moved_to g p ∷ []) d (let l = landed_long in omega arith) ∙ slice_get-take frames n d h

  pub landed_same : AreSameBelow frames (take n frames ++ moved_to g p ∷ []) (suc n)
  landed_same d x h k =
      elim (eqb_tells d n) [
        | inl w ↦
            let s : x ≡ g = same_some x g (sym k ∙ ap (slice_get frames) w.1 ∙ e) in
            record { frame = moved_to g p; known = ap (slice_get (take n frames ++ moved_to g p ∷ [])) w.1 ∙ landed_last; base = ap (λ (y : Frame). y.base) (sym s); routine = ap (λ (y : Frame). y.routine) (sym s) }
        | inr w ↦ let b : d < n = (let c = w.1 in omega arith) in record { frame = x; known = landed_front d b ∙ k; base = refl; routine = refl }
      ]

  pub landed_back : AreSameBelow (take n frames ++ moved_to g p ∷ []) frames (suc n)
  landed_back d x h k =
      elim (eqb_tells d n) [
        | inl w ↦
            let s : x ≡ moved_to g p = same_some x (moved_to g p) (sym k ∙ ap (slice_get (take n frames ++ moved_to g p ∷ [])) w.1 ∙ landed_last) in
            record { frame = g; known = ap (slice_get frames) w.1 ∙ e; base = ap (λ (y : Frame). y.base) (sym s); routine = ap (λ (y : Frame). y.routine) (sym s) }
        | inr w ↦ let b : d < n = (let c = w.1 in omega arith) in record { frame = x; known = sym (landed_front d b) ∙ k; base = refl; routine = refl }
      ]

  pub landed_stack : (q : Program) (links : List ℕ) (stack : Stack) → StackIs q frames links stack → StackIs q (take n frames ++ moved_to g p ∷ []) links (down_to stack n p)
  landed_stack q links stack s =
      let l = slice_get_within frames n g e in
      let h = s.height in
      record {
        height = down_height stack n p (omega arith) ∙ sym landed_height;
        each = λ d x k. elim (slice_get-snoc (take n frames) (moved_to g p) d x k) [
          | inl w ↦
              let v = in_prefix frames n d x w.1 in
              let a = s.each d x v.1 in
              let b = v.0 in
              (a.0, down_below stack n p d (omega arith) b ∙ a.1, kept_moved q frames _ links (suc n) landed_same d x x a.0 a.0 (omega arith) refl refl refl refl refl (λ y. y) a.2)
          | inr w ↦
              let a = s.each n g e in
              let at : d ≡ n = w.0 ∙ landed_long in
              let b : Activation = record (a.0) { point = p } in (
                b,
                ap (activation_at (down_to stack n p)) at ∙ down_at stack n p a.0 a.1,
                kept_moved q frames _ links (suc n) landed_same d g x a.0 b (omega arith) (ap (λ (y : Frame). y.base) w.1) (ap (λ (y : Frame). y.routine) w.1) (ap (λ (y : Frame). y.call) w.1) (ap (λ (y : Frame). y.parent) w.1) refl (λ y. ap (λ (y : Frame). y.point) (sym w.1)) (subst (λ d. IsKept q frames links d g a.0) (sym at) a.2),
              )
        ];
      }

-- the list of activations that results, where the one at the depth n is read, moved and written back
pub landed_items : (frames cut : List Frame) (n p : ℕ) (g now : Frame) → slice_get frames n ≡ Some g → cut ≡ take (n + 1) frames → now ≡ get_or cut n now → set cut n (moved_to now p) ≡ take n frames ++ moved_to g p ∷ []
landed_items frames cut n p g now e c r =
    let read : now ≡ g = r ∙ get_or_from_slice_get cut n g now (ap (λ xs. slice_get xs n) c ∙ slice_get-take frames (n + 1) n (omega arith) ∙ e) in
    ap (λ (x : Frame). set cut n (moved_to x p)) read ∙ ap (λ xs. set xs n (moved_to g p)) c ∙ set_last frames n (moved_to g p) (slice_get_within frames n g e)
