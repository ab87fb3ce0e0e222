-- The program's block at its entry.
use Rattle.std.proofs.Common.{◌≡◌, ℕ, zero, suc, ◌+◌, ◌-◌, ◌<◌, ◌≤◌, Bool, true, false, ◌&&◌, cond, List, [], ◌∷◌, ◌++◌, length, get_or, take, replicate, refl, sym, ap, ◌∙◌, subst, arith, ℤ, Option, Some, None, nat_eq, nat_lt, inl, inr}
use Rattle.std.specs.List.{slice_get, position}
use Rattle.std.specs.Option.{option_map, unwrap_or}
use Rattle.std.proofs.lemmas.Bool.{true≢false, and_parts, eqb-true, eq-eqb, ltb-true, lt-ltb, le-ltb}
use Rattle.std.proofs.lemmas.Bool.Decides.{eqb_tells}
use Rattle.std.proofs.lemmas.List.{length-replicate}
use Rattle.std.proofs.lemmas.List.Sums.{position_or_len_is, sum_by_push}
use Rattle.std.proofs.lemmas.Option.{none-some, slice_get_within, slice_get-get_or, get_or_from_slice_get}
use Rattle.pas_program.specs.declared.program.Program.{Program}
use Rattle.pas_program.specs.declared.routine.Routine.{Routine}
use Rattle.pas_program.specs.declared.variable.VarDef.{VarDef}
use Rattle.pas_program.specs.declared.variable.VarKind.{VarKind}
use Rattle.pas_program.specs.declared.variable.VarKind.TheVariants as kind
use Rattle.pas_program.specs.Scopes.{contains, parent_fits, is_formal}
use Rattle.pas_program.specs.Tables.{Head, head_of, is_kind}
use Rattle.control_points.specs.declared.flow.Flow.{Flow}
use Rattle.control_points.specs.declared.item.Item.{Item}
use Rattle.control_points.specs.declared.item.Item.TheVariants.{Number, LineEnd}
use Rattle.control_points.specs.declared.point.Point.{Point}
use Rattle.control_points.specs.declared.point.PointKind.TheVariants as point_kind
use Rattle.control_points.specs.Chart.{entry_of, is_entry}
use Rattle.control_points.specs.Fits.{routine_at}
use Rattle.control_points.specs.Runs.{IsInput, IsInputItem}
use Rattle.interp.specs.declared.frame.Frame.{Frame}
use Rattle.interp.specs.Layouts.{extent_of}
use Rattle.interp.specs.Machines.{AreFrames, AreItems, AreLinks, AreScalars}
use Rattle.interp.proofs.Chains.{holds_some}
use Rattle.interp.proofs.Frames.{AreBelow, with_next}
use Rattle.interp.proofs.Lists.{same_some}
use Rattle.interp.proofs.Numbers.{AreNumbers, numbers_none}

-- ---- the first element that passes

pub position_at : {A : Type 0} (p : A → Bool) (xs : List A) (i : ℕ) (x : A) → slice_get xs i ≡ Some x → p x ≡ true → ((k : ℕ) (y : A) → k < i → slice_get xs k ≡ Some y → p y ≡ false) → position p xs ≡ Some i
position_at p xs i x e t h =
    let l = slice_get_within xs i x e in
    let n = position_or_len_is p xs i x (omega arith) (λ k b. h k (get_or xs k x) b (slice_get-get_or xs k x (omega arith))) (λ b. ap p (get_or_from_slice_get xs i x x e) ∙ t) in
    ap (λ m. cond (nat_lt m (length xs)) (Some m) None) n ∙ ap (λ b. cond b (Some i) None) (lt-ltb i (length xs) l)

pub position_none : {A : Type 0} (p : A → Bool) (xs : List A) (d : A) → ((k : ℕ) (y : A) → k < length xs → slice_get xs k ≡ Some y → p y ≡ false) → position p xs ≡ None
position_none p xs d h =
    let n = position_or_len_is p xs (length xs) d (omega arith) (λ k b. h k (get_or xs k d) b (slice_get-get_or xs k d b)) (λ b. absurd (omega arith)) in
    ap (λ m. cond (nat_lt m (length xs)) (Some m) None) n ∙ ap (λ b. cond b (Some (length xs)) None) (le-ltb (length xs) (length xs) (omega arith))

abbrev pub is_entry_of : ℕ → Point → Bool
is_entry_of r p = is_entry p.kind && nat_eq p.routine r

-- ---- the program's block

pub record Outermost (p : Program) (d : Routine) : Type 0 where
  pub parent : d.parent ≡ None
  pub formals : d.formals ≡ []

no_length : (xs : List ℕ) → nat_eq (length xs) 0 ≡ true → xs ≡ []
no_length [] h = refl
no_length (x ∷ xs) h = absurd (let e = eqb-true (length (x ∷ xs)) 0 h in omega arith)

pub outermost : (p : Program) (r : ℕ) (d : Routine) → suc r ≡ length p.routines → slice_get p.routines r ≡ Some d → Outermost p d
outermost p r d n e = by_parent d.parent refl (p.in_scope.parent r d e)
  where
    by_parent : (o : Option ℕ) → d.parent ≡ o → parent_fits p.routines r d o ≡ true → Outermost p d
    by_parent None f h = record { parent = f; formals = no_length d.formals (and_parts _ _ (and_parts _ _ h).1).0 }
    by_parent (Some q) f h =
        let w = and_parts (nat_lt r q) _ h in
        let l = ltb-true r q w.0 in
        let v = holds_some _ (slice_get p.routines q) w.1 in
        absurd (let b = slice_get_within p.routines q v.0 v.1 in omega arith)

pub no_links : (p : Program) (r v : ℕ) (d : Routine) (x : VarDef) → suc r ≡ length p.routines → slice_get p.routines r ≡ Some d → slice_get p.vars v ≡ Some x → x.routine ≡ r → is_kind kind.Var x.kind ≡ true → ⊥
no_links p r v d x n e f o k =
    let all = (p.in_scope.lists r d e).formals_all v x f in
    let empty : contains v d.formals ≡ false = ap (contains v) (outermost p r d n e).formals in
    let formal : (nat_eq x.routine r && is_formal x.kind) ≡ true = both (nat_eq x.routine r) (is_formal x.kind) (eq-eqb x.routine r o) (formal_kind x.kind k) in
    true≢false (sym formal ∙ sym all ∙ empty)
  where
    both : (a b : Bool) → a ≡ true → b ≡ true → (a && b) ≡ true
    both a b h g = ap (λ c. c && b) h ∙ g

    formal_kind : (k : VarKind) → is_kind kind.Var k ≡ true → is_formal k ≡ true
    formal_kind kind.Local h = absurd (true≢false (sym h))
    formal_kind kind.Value h = refl
    formal_kind kind.Var h = refl
    formal_kind kind.Result h = absurd (true≢false (sym h))
    formal_kind kind.Slot h = absurd (true≢false (sym h))
    formal_kind kind.Bound h = absurd (true≢false (sym h))

abbrev pub first_frame : ℕ → ℕ → Frame
first_frame r p = record { routine = r; call = None; parent = None; point = p; base = record { scalars = 0; links = 0 } }

none_below : (flow : Flow) → AreBelow flow []
none_below flow = record {
  base = λ d g e. absurd (none-some g e);
  stands = λ d g e. absurd (none-some g e);
  parent = λ d g h e k. absurd (none-some g e);
  parent_below = λ d p g e k. absurd (none-some g e);
  first = λ g e. absurd (none-some g e);
  made = λ d g h e k. absurd (none-some g e);
}

pub first_frames : (flow : Flow) (r p : ℕ) (d : Routine) → suc r ≡ length flow.program.routines → slice_get flow.program.routines r ≡ Some d → routine_at flow.points p ≡ Some r → AreFrames flow (first_frame r p ∷ [])
first_frames flow r p d n e s = with_next flow [] (first_frame r p) (none_below flow) (record {
  base = refl;
  stands = s;
  parent = λ h k. sym (outermost flow.program r d n e).parent ∙ ap (λ (h : Head). h.parent) (same_some (head_of d) h (sym (ap (option_map head_of) e) ∙ k));
  parent_below = λ q k. absurd (none-some q k);
  first = λ z. refl;
  made = λ q h k l. absurd (none-some h k);
})

-- ---- input

pub input_items : (items : List Item) → IsInput items → AreItems items
input_items items h = record { numbers = λ k z e. subst IsInputItem (get_or_from_slice_get items k (Number z) LineEnd e) (h k LineEnd (slice_get_within items k (Number z) e)) }

-- ---- the storage

only : {A : Type 0} (x : A) (k : ℕ) (y : A) → slice_get (x ∷ []) k ≡ Some y → x ≡ y
only x zero y e = same_some x y e
only x (suc k) y e = absurd (none-some y e)

pub first_links : (flow : Flow) (r p : ℕ) (d : Routine) → suc r ≡ length flow.program.routines → slice_get flow.program.routines r ≡ Some d → (links : List ℕ) → (extent_of flow.program r).links ≤ length links → AreLinks flow.program (first_frame r p ∷ []) links
first_links flow r p d n e links h = record {
  room = omega (arith, h, sum_by_push (λ (g : Frame). (extent_of flow.program g.routine).links) [] (first_frame r p));
  below = λ k v a g x f o i m l. absurd (no_links flow.program r v d x n e o (i ∙ ap (λ (g : Frame). g.routine) (sym (only (first_frame r p) k g f))) m);
}

take_none : {A : Type 0} (n : ℕ) → ◌≡◌ {A = List A} (take n []) []
take_none zero = refl
take_none (suc n) = refl

pub first_scalars : (p : Program) (r q : ℕ) (xs scalars : List (Option ℤ)) (n l : ℕ) → xs ≡ [] → l ≡ 0 → scalars ≡ take n xs ++ replicate (n - l) None → (extent_of p r).scalars ≤ n → AreScalars p (first_frame r q ∷ []) scalars
first_scalars p r q xs scalars n l s z e h =
    let zero_long : n - l ≡ n = omega (arith, z) in
    let is : scalars ≡ replicate n None = e ∙ ap (λ ys. take n ys ++ replicate (n - l) None) s ∙ ap (λ ys. ys ++ replicate (n - l) None) (take_none n) ∙ ap (λ k. replicate k None) zero_long in
    record {
      room = let l = ap length is in let o : Option ℤ = None in let k = length-replicate n o in omega (arith, l, k, h, sum_by_push (λ (g : Frame). (extent_of p g.routine).scalars) [] (first_frame r q));
      numbers = subst AreNumbers (sym is) (numbers_none n);
    }

-- ---- the entry of a routine

both_true : (a b : Bool) → a ≡ true → b ≡ true → (a && b) ≡ true
both_true a b h g = ap (λ c. c && b) h ∙ g

pub not_both : (a b : Bool) → b ≡ false → (a && b) ≡ false
not_both true b h = h
not_both false b h = refl

pub not_first : (a b : Bool) → a ≡ false → (a && b) ≡ false
not_first a b h = ap (λ a. a && b) h

pub entry_at : (points ps : List Point) (r n : ℕ) (d : Point) → ps ≡ points → n < length ps → true ≡ is_entry (get_or ps n d).kind → (get_or ps n d).routine ≡ r
    → ((k : ℕ) (q : Point) → k < n → slice_get points k ≡ Some q → is_entry_of r q ≡ false) → n ≡ entry_of points r
entry_at points ps r n d same l k o h =
    let e : slice_get points n ≡ Some (get_or ps n d) = sym (ap (λ xs. slice_get xs n) same) ∙ slice_get-get_or ps n d l in
    sym (ap (λ o. unwrap_or o 0) (position_at (is_entry_of r) points n (get_or ps n d) e (both_true _ _ (sym k) (eq-eqb _ r o)) h))

pub entry_not : (points ps : List Point) (r n : ℕ) (d : Point) → ps ≡ points → n < length ps → is_entry_of r (get_or ps n d) ≡ false
    → ((k : ℕ) (q : Point) → k < n → slice_get points k ≡ Some q → is_entry_of r q ≡ false) → (k : ℕ) (q : Point) → k < n + 1 → slice_get points k ≡ Some q → is_entry_of r q ≡ false
entry_not points ps r n d same l f h k q b e = elim (eqb_tells k n) [
  | inl w ↦
      let there : slice_get points n ≡ Some (get_or ps n d) = sym (ap (λ xs. slice_get xs n) same) ∙ slice_get-get_or ps n d l in
      ap (is_entry_of r) (same_some q (get_or ps n d) (sym e ∙ ap (slice_get points) w.1 ∙ there)) ∙ f
  | inr w ↦ h k q (omega (arith, w.1, b)) e
]

pub entry_none : (points ps : List Point) (r n : ℕ) → ps ≡ points → length ps ≤ n → ((k : ℕ) (q : Point) → k < n → slice_get points k ≡ Some q → is_entry_of r q ≡ false) → 0 ≡ entry_of points r
entry_none points ps r n same l h =
    let m = ap length same in
    sym (ap (λ o. unwrap_or o 0) (position_none (is_entry_of r) points (record { routine = 0; kind = point_kind.Entry; at = 0 }) (λ k q b e. h k q (omega (arith, b, l, m)) e)))
