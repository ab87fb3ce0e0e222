-- The store that the scalars keep: where activations end, after a write, and after a copy.
use Rattle.std.proofs.Common.{◌≡◌, ℕ, zero, suc, ◌+◌, ◌*◌, ◌<◌, ◌≤◌, Bool, true, false, ◌&&◌, List, [], ◌∷◌, ◌++◌, length, take, drop, set, refl, sym, ap, ◌∙◌, subst, arith, ℤ, Option, Some, None, inl, inr, nat_eq, nat_lt, int_eq, unwrap_or}
use Rattle.std.proofs.Common.{◌-◌, length-drop}
use Rattle.std.specs.List.{slice_get}
use Rattle.std.proofs.lemmas.Bool.{true≢false, cases_Bool, cond-true, cond-false, eq-eqb, ltb-true, ltb-false, lt-ltb}
use Rattle.std.proofs.lemmas.Bool.Decides.{eqb_tells, Decides-int_eq}
use Rattle.std.proofs.lemmas.List.{append-nil, length-take-le}
use Rattle.std.proofs.lemmas.Option.{none-some}
use Rattle.pas_program.specs.declared.program.Program.{Program}
use Rattle.pas_program.specs.declared.variable.VarDef.{VarDef}
use Rattle.pas_program.specs.Types.{is_scalar}
use Rattle.control_points.proofs.ValidStores.{place_same, within_is}
use Rattle.control_points.specs.declared.flow.Flow.{Flow}
use Rattle.control_points.specs.Storage.{Place, Store, part, same_subscripts, same_variable, same_place, subscripts_after, within, copied, put, put_copy, keep_below}
use Rattle.interp.specs.declared.frame.Frame.{Frame}
use Rattle.interp.specs.Layouts.{count_of, extent_before}
use Rattle.interp.specs.Machines.{AreFrames}
use Rattle.interp.specs.Places.{Lies, Part, ordinal, part_of}
use Rattle.interp.specs.Standing.{content, StoreIs}
use Rattle.interp.proofs.Landing.{AreSameBelow, lies_depth, lies_moved, lies_once}
use Rattle.interp.proofs.Laying.{slice_get-set_same, slice_get-set_other}
use Rattle.interp.proofs.Lists.{same_some, slice_get-front, slice_get-take}
use Rattle.interp.proofs.Lying.{lies_part, lies_within, type_in_range}
use Rattle.interp.proofs.Parts.{in_part, part_inside, same_array, scalar_count}

-- ---- activations that end

pub store_kept : (p : Program) (old new : List Frame) (n : ℕ) → AreSameBelow old new n → AreSameBelow new old n → length new ≡ n → (scalars : List (Option ℤ)) (store : Store) → StoreIs p old scalars store → StoreIs p new scalars (keep_below n store)
store_kept p old new n there back long scalars store s = record {
  held = λ q a t l k.
      let d = lies_depth p new q a t l in
      let b : q.depth < n = omega arith in
      cond-true (nat_lt q.depth n) (store q) None (lt-ltb q.depth n b) ∙ s.held q a t (lies_moved p new old n back q a t b l) k;
  nothing_else = λ q z e. elim (cases_Bool (nat_lt q.depth n)) [
    | inl h ↦
        let w = s.nothing_else q z (sym (cond-true (nat_lt q.depth n) (store q) None h) ∙ e) in
        (w.0, w.1, lies_moved p old new n there q w.0 w.1 (ltb-true q.depth n h) w.2, w.3)
    | inr h ↦ absurd (none-some z (sym (cond-false (nat_lt q.depth n) (store q) None h) ∙ e))
  ];
}

-- what the scalars hold up to the end of all activations counts alone
pub store_below : (p : Program) (frames : List Frame) (n : ℕ) (old new : List (Option ℤ)) (store : Store) → ((q : Place) (a t : ℕ) → Lies p frames q a t → is_scalar (slice_get p.types t) ≡ true → a < n)
    → ((a : ℕ) → a < n → slice_get new a ≡ slice_get old a) → StoreIs p frames old store → StoreIs p frames new store
store_below p frames n old new store low same s = record {
  held = λ q a t l k. s.held q a t l k ∙ ap (λ o. unwrap_or o None) (sym (same a (low q a t l k)));
  nothing_else = s.nothing_else;
}

-- ---- places

same_int : (x : ℤ) → int_eq x x ≡ true
same_int x = (Decides-int_eq x x).1 refl

same_list : (xs : List ℤ) → same_subscripts xs xs ≡ true
same_list [] = refl
same_list (x ∷ xs) = ap (λ b. b && same_subscripts xs xs) (same_int x) ∙ same_list xs

same_var : (q : Place) → same_variable q q ≡ true
same_var q = ap (λ b. b && nat_eq q.var q.var) (eq-eqb q.depth q.depth refl) ∙ eq-eqb q.var q.var refl

pub place_itself : (q : Place) → same_place q q ≡ true
place_itself q = ap (λ b. b && same_subscripts q.subscripts q.subscripts) (same_var q) ∙ same_list q.subscripts

after_first : (xs zs : List ℤ) → subscripts_after xs (xs ++ zs) ≡ Some zs
after_first [] zs = refl
after_first (x ∷ xs) zs = cond-true (int_eq x x) (subscripts_after xs (xs ++ zs)) None (same_int x) ∙ after_first xs zs

pub within_part : (q : Place) (zs : List ℤ) → within q (part q zs) ≡ Some zs
within_part q zs = cond-true (same_variable q q) (subscripts_after q.subscripts (q.subscripts ++ zs)) None (same_var q) ∙ after_first q.subscripts zs

-- ---- one write

module _ (flow : Flow) (frames : List Frame) (h : AreFrames flow frames) (scalars : List (Option ℤ)) (store : Store) where
  -- a scalar has no parts
  no_part : (t k o : ℕ) (zs : List ℤ) → is_scalar (slice_get flow.program.types t) ≡ true → part_of flow.program t zs ≡ Some (record { offset = o; of_type = k }) → zs ≡ []
  no_part t k o [] s e = refl
  no_part t k o (z ∷ zs) s e =
      let i = in_part flow.program z (λ e. part_of flow.program e zs) (slice_get flow.program.types t) _ e in
      absurd (true≢false (sym s ∙ ap is_scalar i.array))

  -- two scalars at one address are one place
  pub one_place : (q r : Place) (a t k : ℕ) → Lies flow.program frames q a t → Lies flow.program frames r a k → is_scalar (slice_get flow.program.types t) ≡ true → is_scalar (slice_get flow.program.types k) ≡ true → r ≡ q
  one_place q r a t k l m s c =
      let one = scalar_count flow.program t s in
      let w = lies_within flow frames h q r a t a k l m c (omega arith) (omega arith) in
      w.is ∙ ap (part q) (no_part t k w.offset w.subscripts s w.part) ∙ ap (λ zs. let x : Place = record q { subscripts = zs } in x) (append-nil q.subscripts)

  pub store_set : (q : Place) (a t : ℕ) (v : Option ℤ) → a < length scalars → Lies flow.program frames q a t → is_scalar (slice_get flow.program.types t) ≡ true
      → StoreIs flow.program frames scalars store → StoreIs flow.program frames (set scalars a v) (put store q v)
  store_set q a t v room l s i = record {
    held = λ r b k m c. elim (eqb_tells b a) [
      | inl w ↦
          let m : Lies flow.program frames r a k = subst (λ b. Lies flow.program frames r b k) w.1 m in
          let is = one_place q r a t k l m s c in
          cond-true (same_place q r) v (store r) (ap (same_place q) is ∙ place_itself q)
          ∙ ap (λ o. unwrap_or o None) (sym (slice_get-set_same scalars a v room) ∙ ap (slice_get (set scalars a v)) (sym w.1))
      | inr w ↦
          let other : same_place q r ≡ false = not_true (same_place q r) (λ e. w.1 (sym (lies_once flow.program frames q a t b k l (subst (λ x. Lies flow.program frames x b k) (sym (place_same q r e)) m)).0)) in
          cond-false (same_place q r) v (store r) other ∙ i.held r b k m c ∙ ap (λ o. unwrap_or o None) (sym (slice_get-set_other scalars a b v w.1))
    ];
    nothing_else = λ r z e. elim (cases_Bool (same_place q r)) [
      | inl w ↦ (a, t, subst (λ x. Lies flow.program frames x a t) (place_same q r w) l, s)
      | inr w ↦ i.nothing_else r z (sym (cond-false (same_place q r) v (store r) w) ∙ e)
    ];
  }
    where
      not_true : (b : Bool) → (b ≡ true → ⊥) → b ≡ false
      not_true true h = absurd (h refl)
      not_true false h = refl

-- ---- lists of which a part was copied

slice_get-back : {A : Type 0} (xs ys : List A) (k j : ℕ) → j ≡ length xs + k → slice_get (xs ++ ys) j ≡ slice_get ys k
slice_get-back [] ys k j e = ap (slice_get ys) (let f : j ≡ k = omega arith in f)
slice_get-back (x ∷ xs) ys k zero e = absurd (omega arith)
slice_get-back (x ∷ xs) ys k (suc j) e = slice_get-back xs ys k j (omega arith)

slice_get-drop : {A : Type 0} (xs : List A) (n k j : ℕ) → j ≡ n + k → slice_get (drop n xs) k ≡ slice_get xs j
slice_get-drop xs zero k j e = ap (slice_get xs) (let f : k ≡ j = omega arith in f)
slice_get-drop [] (suc n) k j e = refl
slice_get-drop (x ∷ xs) (suc n) k zero e = absurd (omega arith)
slice_get-drop (x ∷ xs) (suc n) k (suc j) e = slice_get-drop xs n k j (omega arith)

abbrev pub pasted : {A : Type 0} → List A → ℕ → ℕ → ℕ → List A
pasted xs a b n = take a xs ++ (take n (drop b xs) ++ drop (a + n) xs)

module _ {A : Type 0} (xs : List A) (a b n : ℕ) (to : a + n ≤ length xs) (from : b + n ≤ length xs) where
  first_long : length (take a xs) ≡ a
  first_long = length-take-le a xs (omega arith)

  second_long : length (take n (drop b xs)) ≡ n
  second_long = let e = length-drop b xs in length-take-le n (drop b xs) (omega arith)

  pub pasted_before : (k : ℕ) → k < a → slice_get (pasted xs a b n) k ≡ slice_get xs k
  pasted_before k h = slice_get-front (take a xs) _ k (let e = first_long in omega arith) ∙ slice_get-take xs a k h

  pub pasted_in : (k : ℕ) → k < n → slice_get (pasted xs a b n) (a + k) ≡ slice_get xs (b + k)
  pasted_in k h =
      let f = first_long in
      let g = second_long in
      slice_get-back (take a xs) _ k (a + k) (omega arith)
      ∙ slice_get-front (take n (drop b xs)) _ k (omega arith)
      ∙ slice_get-take (drop b xs) n k h
      ∙ slice_get-drop xs b k (b + k) refl

  pub pasted_behind : (k : ℕ) → a + n ≤ k → slice_get (pasted xs a b n) k ≡ slice_get xs k
  pasted_behind k h =
      let f = first_long in
      let g = second_long in
      slice_get-back (take a xs) _ (n + (k - (a + n))) k (omega arith)
      ∙ slice_get-back (take n (drop b xs)) _ (k - (a + n)) (n + (k - (a + n))) (omega arith)
      ∙ slice_get-drop xs (a + n) (k - (a + n)) k (omega arith)

-- ---- parts of parts

same_part : (o u m k : ℕ) → ◌≡◌ {A = Option Part} (Some (record { offset = o; of_type = m })) (Some (record { offset = u; of_type = k })) → (o ≡ u) × (m ≡ k)
same_part o u m k e =
    let q : ◌≡◌ {A = Part} (record { offset = o; of_type = m }) (record { offset = u; of_type = k }) = same_some _ _ e in
    (ap (λ (w : Part). w.offset) q, ap (λ (w : Part). w.of_type) q)

-- the second part of the way to a part
pub part_split : (p : Program) (n : ℕ) (xs ys : List ℤ) (o m u k : ℕ) → part_of p n xs ≡ Some (record { offset = o; of_type = m }) → part_of p n (xs ++ ys) ≡ Some (record { offset = u; of_type = k })
    → (w : ℕ) × (part_of p m ys ≡ Some (record { offset = w; of_type = k })) × (u ≡ o + w)
part_split p n [] ys o m u k e f =
    let s = same_part 0 o n m e in
    (u, subst (λ m. part_of p m ys ≡ Some (record { offset = u; of_type = k })) s.1 f, (let z = s.0 in omega arith))
part_split p n (x ∷ xs) ys o m u k e f =
    let i = in_part p x (λ e. part_of p e xs) (slice_get p.types n) _ e in
    let j = in_part p x (λ e. part_of p e (xs ++ ys)) (slice_get p.types n) _ f in
    let a = same_array (slice_get p.types n) i.index i.element j.index j.element i.array j.array in
    let mi : m ≡ i.inner.of_type = ap (λ (q : Part). q.of_type) i.is in
    let kj : k ≡ j.inner.of_type = ap (λ (q : Part). q.of_type) j.is in
    let c = ordinal (slice_get p.types i.index) x * count_of p i.element in
    let oi : o ≡ c + i.inner.offset = ap (λ (q : Part). q.offset) i.is in
    let uj : u ≡ c + j.inner.offset =
    ap (λ (q : Part). q.offset) j.is
    ∙ ap (λ v. ordinal (slice_get p.types v) x * count_of p j.element + j.inner.offset) (sym a.0)
    ∙ ap (λ e. ordinal (slice_get p.types i.index) x * count_of p e + j.inner.offset) (sym a.1) in
    let first : part_of p i.element xs ≡ Some (record { offset = i.inner.offset; of_type = m }) = i.leads ∙ ap (λ t. let q : Part = record { offset = i.inner.offset; of_type = t } in Some q) (sym mi) in
    let second : part_of p i.element (xs ++ ys) ≡ Some (record { offset = j.inner.offset; of_type = k }) =
    ap (λ e. part_of p e (xs ++ ys)) a.1 ∙ j.leads ∙ ap (λ t. let q : Part = record { offset = j.inner.offset; of_type = t } in Some q) (sym kj) in
    let r = part_split p i.element xs ys i.inner.offset m j.inner.offset k first second in
    (r.0, r.1, (let z = r.2 in omega arith))

-- a part of what lies somewhere begins within it
pub record PartAt (p : Program) (q : Place) (zs : List ℤ) (a t b k : ℕ) : Type 0 where
  pub offset : ℕ
  pub part : part_of p t zs ≡ Some (record { offset = offset; of_type = k })
  pub address : b ≡ a + offset
  pub room : offset + count_of p k ≤ count_of p t

pub lies_split : (p : Program) (frames : List Frame) (q : Place) (zs : List ℤ) (a t b k : ℕ) → Lies p frames q a t → Lies p frames (part q zs) b k → t < length p.types → PartAt p q zs a t b k
lies_split p frames q zs a t b k l m h =
    let fs : l.frame ≡ m.frame = same_some l.frame m.frame (sym l.activation ∙ m.activation) in
    let xs : l.var ≡ m.var = same_some l.var m.var (sym l.known ∙ m.known) in
    let bs : l.frame.base.scalars ≡ m.frame.base.scalars = ap (λ (g : Frame). g.base.scalars) fs in
    let es : (extent_before p l.var.routine q.var).scalars ≡ (extent_before p m.var.routine q.var).scalars = ap (λ (x : VarDef). (extent_before p x.routine q.var).scalars) xs in
    let w = part_split p l.var.of_type q.subscripts zs l.offset t m.offset k l.part (ap (λ (x : VarDef). part_of p x.of_type (q.subscripts ++ zs)) xs ∙ m.part) in
    let la = l.address in
    let ma = m.address in
    let o = w.2 in
    record { offset = w.0; part = w.1; address = omega arith; room = (part_inside p t zs _ h w.1).room }

-- ---- a copy

module _ (flow : Flow) (frames : List Frame) (h : AreFrames flow frames) (scalars : List (Option ℤ)) (store : Store) (q r : Place) (a b t n : ℕ)
    (l : Lies flow.program frames q a t) (m : Lies flow.program frames r b t) (count : n ≡ count_of flow.program t) (to : a + n ≤ length scalars) (from : b + n ≤ length scalars) (s : StoreIs flow.program frames scalars store) where
  in_range : t < length flow.program.types
  in_range = (part_inside flow.program l.var.of_type q.subscripts _ (type_in_range flow.program q.var l.var l.known) l.part).in_range

  copied_held : (w : Place) (c k : ℕ) → Lies flow.program frames w c k → is_scalar (slice_get flow.program.types k) ≡ true → (o : Option (List ℤ)) → within q w ≡ o → copied store r w o ≡ content (pasted scalars a b n) c
  copied_held w c k x y None e =
      s.held w c k x y ∙ ap (λ o. unwrap_or o None) (sym (outside c (λ g i.
      let v = lies_within flow frames h q w a t c k l x y g (omega (arith, i, count)) in
      none-some v.subscripts (sym e ∙ ap (within q) v.is ∙ within_part q v.subscripts))))
    where
      outside : (c : ℕ) → (a ≤ c → c < a + n → ⊥) → slice_get (pasted scalars a b n) c ≡ slice_get scalars c
      outside c f = elim (cases_Bool (nat_lt c a)) [
        | inl g ↦ pasted_before scalars a b n to from c (ltb-true c a g)
        | inr g ↦ let i = ltb-false c a g in pasted_behind scalars a b n to from c (omega (arith, f i))
      ]
  copied_held w c k x y (Some zs) e =
      let is = within_is q w zs e in
      let v = lies_split flow.program frames q zs a t c k l (subst (λ w. Lies flow.program frames w c k) is x) in_range in
      let one = scalar_count flow.program k y in
      let room = v.room in
      s.held (part r zs) (b + v.offset) k (lies_part flow.program frames r b t zs _ m v.part) y
      ∙ ap (λ o. unwrap_or o None) (sym (pasted_in scalars a b n to from v.offset (omega arith)) ∙ ap (slice_get (pasted scalars a b n)) (sym v.address))

  copied_only : (w : Place) (z : ℤ) (o : Option (List ℤ)) → within q w ≡ o → copied store r w o ≡ Some z → (c k : ℕ) × Lies flow.program frames w c k × (is_scalar (slice_get flow.program.types k) ≡ true)
  copied_only w z None e f = s.nothing_else w z f
  copied_only w z (Some zs) e f =
      let x = s.nothing_else (part r zs) z f in
      let v = lies_split flow.program frames r zs b t x.0 x.1 m x.2 in_range in
      (a + v.offset, x.1, subst (λ w. Lies flow.program frames w (a + v.offset) x.1) (sym (within_is q w zs e)) (lies_part flow.program frames q a t zs _ l v.part), x.3)

  pub store_copy : StoreIs flow.program frames (pasted scalars a b n) (put_copy store q r)
  store_copy = record {
    held = λ w c k x y. copied_held w c k x y (within q w) refl;
    nothing_else = λ w z e. copied_only w z (within q w) refl e;
  }
