-- The parts of a variable: they lie within it, and what lies within one is reached by further subscripts.
use Rattle.std.proofs.Common.{◌≡◌, ℕ, suc, ◌+◌, ◌*◌, ◌<◌, ◌≤◌, Bool, true, false, cond, List, [], ◌∷◌, ◌++◌, length, refl, sym, ap, ◌∙◌, subst, arith, ℤ, Option, Some, None}
use Rattle.std.specs.List.{slice_get}
use Rattle.std.specs.Option.{option_map}
use Rattle.std.specs.Prelude.{int_le}
use Rattle.std.proofs.Math.Nat.{mul-le-mul_left}
use Rattle.std.proofs.lemmas.Bool.{true≢false, and_parts}
use Rattle.std.proofs.lemmas.Int.{ints}
use Rattle.std.proofs.lemmas.Option.{none-some}
use Rattle.pas_program.specs.declared.program.Program.{Program}
use Rattle.pas_program.specs.declared.type_def.TypeDef.{TypeDef}
use Rattle.pas_program.specs.declared.type_def.TypeDef.TheVariants.{Scalar, Array}
use Rattle.pas_program.specs.Types.{count_values, is_scalar}
use Rattle.pas_program.proofs.Layouts.{array_fits, layout-Array, layout-Scalar}
use Rattle.control_points.specs.Evaluation.{is_value_of}
use Rattle.interp.specs.Layouts.{count_of}
use Rattle.interp.specs.Places.{Part, ordinal, further, part_in, part_of}

-- ---- values of index types

pub ordinal_below : (d : Option TypeDef) (z : ℤ) → is_value_of d z ≡ true → ordinal d z < count_values d
ordinal_below None z h = absurd (true≢false (sym h))
ordinal_below (Some (Scalar boolean lo hi)) z h =
    let l : int_le lo z ≡ true = (and_parts (int_le lo z) (int_le z hi) h).0 in
    let k : int_le z hi ≡ true = (and_parts (int_le lo z) (int_le z hi) h).1 in
    omega (arith, ints)
ordinal_below (Some (Array index element)) z h = absurd (true≢false (sym h))

pub ordinal_once : (d : Option TypeDef) (x y : ℤ) → is_value_of d x ≡ true → is_value_of d y ≡ true → ordinal d x ≡ ordinal d y → x ≡ y
ordinal_once None x y h k e = absurd (true≢false (sym h))
ordinal_once (Some (Scalar boolean lo hi)) x y h k e =
    let l : int_le lo x ≡ true = (and_parts (int_le lo x) (int_le x hi) h).0 in
    let m : int_le lo y ≡ true = (and_parts (int_le lo y) (int_le y hi) k).0 in
    omega (arith, ints)
ordinal_once (Some (Array index element)) x y h k e = absurd (true≢false (sym h))

-- ---- one subscript

-- a part that a first subscript leads into
pub record InPart (p : Program) (z : ℤ) (rest : ℕ → Option Part) (d : Option TypeDef) (part : Part) : Type 0 where
  pub index : ℕ
  pub element : ℕ
  pub inner : Part
  pub array : d ≡ Some (Array index element)
  pub value : is_value_of (slice_get p.types index) z ≡ true
  pub leads : rest element ≡ Some inner
  pub is : part ≡ further (ordinal (slice_get p.types index) z * count_of p element) inner

map_some : {A B : Type 0} (f : A → B) (o : Option A) (y : B) → option_map f o ≡ Some y → (x : A) × (o ≡ Some x) × (y ≡ f x)
map_some f None y h = absurd (none-some y h)
map_some f (Some x) y h = (x, refl, cc)

cond_some : {A : Type 0} (b : Bool) (o : Option A) (x : A) → cond b o None ≡ Some x → (b ≡ true) × (o ≡ Some x)
cond_some true o x h = (refl, h)
cond_some false o x h = absurd (none-some x h)

pub in_part : (p : Program) (z : ℤ) (rest : ℕ → Option Part) (d : Option TypeDef) (part : Part) → part_in p z rest d ≡ Some part → InPart p z rest d part
in_part p z rest None part h = absurd (none-some part h)
in_part p z rest (Some (Scalar boolean lo hi)) part h = absurd (none-some part h)
in_part p z rest (Some (Array index element)) part h =
    let c = cond_some (is_value_of (slice_get p.types index) z) _ part h in
    let m = map_some _ (rest element) part c.1 in
    record { index = index; element = element; inner = m.0; array = refl; value = c.0; leads = m.1; is = m.2 }

pub into_part : (p : Program) (z : ℤ) (rest : ℕ → Option Part) (d : Option TypeDef) (index element : ℕ) (inner : Part)
    → d ≡ Some (Array index element) → is_value_of (slice_get p.types index) z ≡ true → rest element ≡ Some inner
    → part_in p z rest d ≡ Some (further (ordinal (slice_get p.types index) z * count_of p element) inner)
into_part p z rest d index element inner a v l =
    ap (part_in p z rest) a
    ∙ ap (λ b. cond b (option_map (further (ordinal (slice_get p.types index) z * count_of p element)) (rest element)) None) v
    ∙ ap (option_map (further (ordinal (slice_get p.types index) z * count_of p element))) l

-- ---- more subscripts

further_nothing : (part : Part) → further 0 part ≡ part
further_nothing part = let e : 0 + part.offset ≡ part.offset = omega arith in ap (λ n. let q : Part = record { offset = n; of_type = part.of_type } in q) e

further_twice : (m n : ℕ) (part : Part) → further (m + n) part ≡ further m (further n part)
further_twice m n part = let e : m + n + part.offset ≡ m + (n + part.offset) = omega arith in ap (λ k. let q : Part = record { offset = k; of_type = part.of_type } in q) e

same_Some : {A : Type 0} (x y : A) → ◌≡◌ {A = Option A} (Some x) (Some y) → x ≡ y
same_Some x y e = cc

pub part_of-append : (p : Program) (n : ℕ) (xs ys : List ℤ) (first last : Part) → part_of p n xs ≡ Some first → part_of p first.of_type ys ≡ Some last → part_of p n (xs ++ ys) ≡ Some (further first.offset last)
part_of-append p n [] ys first last e f =
    let s = same_Some _ first e in
    subst (λ (q : Part). part_of p q.of_type ys ≡ Some last → part_of p n ys ≡ Some (further q.offset last)) s (λ g. g ∙ ap Some (sym (further_nothing last))) f
part_of-append p n (z ∷ xs) ys first last e f =
    let i = in_part p z (λ e. part_of p e xs) (slice_get p.types n) first e in
    let t : first.of_type ≡ i.inner.of_type = ap (λ (q : Part). q.of_type) i.is in
    let o : first.offset ≡ ordinal (slice_get p.types i.index) z * count_of p i.element + i.inner.offset = ap (λ (q : Part). q.offset) i.is in
    let r = part_of-append p i.element xs ys i.inner last i.leads (subst (λ m. part_of p m ys ≡ Some last) t f) in
    into_part p z (λ e. part_of p e (xs ++ ys)) (slice_get p.types n) i.index i.element (further i.inner.offset last) i.array i.value r
    ∙ ap Some (sym (further_twice _ i.inner.offset last) ∙ ap (λ m. further m last) (sym o))

-- ---- parts lie within the whole

pub array_count : (p : Program) (n index element : ℕ) → slice_get p.types n ≡ Some (Array index element) → count_of p n ≡ count_values (slice_get p.types index) * count_of p element
array_count p n index element e = ap (λ l. l.count) (layout-Array p.types n index element p.types_fit e)

pub scalar_count : (p : Program) (n : ℕ) → is_scalar (slice_get p.types n) ≡ true → count_of p n ≡ 1
scalar_count p n h = scalar_case (slice_get p.types n) refl h
  where
    scalar_case : (d : Option TypeDef) → slice_get p.types n ≡ d → is_scalar d ≡ true → count_of p n ≡ 1
    scalar_case None e h = absurd (true≢false (sym h))
    scalar_case (Some (Scalar boolean lo hi)) e h = ap (λ l. l.count) (layout-Scalar p.types n boolean lo hi e)
    scalar_case (Some (Array index element)) e h = absurd (true≢false (sym h))

-- a value of the part number i of n parts of c scalars each
pub within_array : (i n c o m : ℕ) → i < n → o + m ≤ c → i * c + o + m ≤ n * c
within_array i n c o m h k =
    let l : suc i ≤ n = omega arith in
    let g : suc i * c ≤ n * c = mul_le i n c l in
    let e : suc i * c ≡ i * c + c = omega arith in
    omega arith
  where
    mul_le : (i n c : ℕ) → suc i ≤ n → suc i * c ≤ n * c
    mul_le i n c l = grind (arith, mul-le-mul_left)

pub record Inside (p : Program) (n : ℕ) (part : Part) : Type 0 where
  pub room : part.offset + count_of p part.of_type ≤ count_of p n
  pub in_range : part.of_type < length p.types

pub part_inside : (p : Program) (n : ℕ) (zs : List ℤ) (part : Part) → n < length p.types → part_of p n zs ≡ Some part → Inside p n part
part_inside p n [] part h e =
    let s = same_Some _ part e in
    record { room = omega (arith, ap (λ (q : Part). q.offset) s, ap (λ (q : Part). count_of p q.of_type) s); in_range = subst (λ (q : Part). q.of_type < length p.types) s h }
part_inside p n (z ∷ zs) part h e =
    let i = in_part p z (λ e. part_of p e zs) (slice_get p.types n) part e in
    let a = array_fits p.types n i.index i.element p.types_fit i.array in
    let r = part_inside p i.element zs i.inner (omega (arith, a.element_before)) i.leads in
    let w = within_array (ordinal (slice_get p.types i.index) z) (count_values (slice_get p.types i.index)) (count_of p i.element) i.inner.offset (count_of p i.inner.of_type) (ordinal_below _ z i.value) r.room in
    let t : part.of_type ≡ i.inner.of_type = ap (λ (q : Part). q.of_type) i.is in
    record {
      room = omega (arith, w, array_count p n i.index i.element i.array, ap (λ (q : Part). q.offset) i.is, ap (count_of p) t);
      in_range = subst (λ m. m < length p.types) (sym t) r.in_range;
    }

-- ---- what lies within a part

pub record Beyond (p : Program) (m : ℕ) (xs ys : List ℤ) (o k : ℕ) (target : ℕ) : Type 0 where
  pub subscripts : List ℤ
  pub offset : ℕ
  pub is : ys ≡ xs ++ subscripts
  pub part : part_of p m subscripts ≡ Some (record { offset = offset; of_type = k })
  pub lies : target ≡ o + offset

-- places in two parts of c scalars each, which are one place's parts
same_index : (i j c o u m : ℕ) → o + m ≤ c → u < c → i * c + o ≤ j * c + u → j * c + u < i * c + o + m → (i ≡ j) × (o ≤ u) × (u < o + m)
same_index i j c o u m h k l g =
    let a : j * c < suc i * c = omega arith in
    let b : i * c < suc j * c = omega arith in
    let x : j < suc i = below j (suc i) c a in
    let y : i < suc j = below i (suc j) c b in
    let e : i ≡ j = omega arith in
    let f : i * c ≡ j * c = ap (λ n. n * c) e in
    (e, omega arith, omega arith)
  where
    below : (i j c : ℕ) → i * c < j * c → i < j
    below i j c h = grind (arith, mul-le-mul_left)

not_array : (p : Program) (n index element : ℕ) → is_scalar (slice_get p.types n) ≡ true → slice_get p.types n ≡ Some (Array index element) → ⊥
not_array p n index element h e = true≢false (sym h ∙ ap is_scalar e)

pub same_array : (d : Option TypeDef) (index element index' element' : ℕ) → d ≡ Some (Array index element) → d ≡ Some (Array index' element') → (index ≡ index') × (element ≡ element')
same_array d index element index' element' e f = let g : ◌≡◌ {A = Option TypeDef} (Some (Array index element)) (Some (Array index' element')) = sym e ∙ f in (cc, cc)

-- what begins within a part is reached from it
pub beyond : (p : Program) (n : ℕ) (xs ys : List ℤ) (o m u k : ℕ) → n < length p.types
    → part_of p n xs ≡ Some (record { offset = o; of_type = m }) → part_of p n ys ≡ Some (record { offset = u; of_type = k })
    → is_scalar (slice_get p.types k) ≡ true → o ≤ u → u < o + count_of p m → Beyond p m xs ys o k u
beyond p n [] ys o m u k h e f s l g =
    let q : ◌≡◌ {A = Part} (record { offset = 0; of_type = n }) (record { offset = o; of_type = m }) = same_Some _ _ e in
    let z : 0 ≡ o = ap (λ (q : Part). q.offset) q in
    let t : n ≡ m = ap (λ (q : Part). q.of_type) q in
    record { subscripts = ys; offset = u; is = refl; part = subst (λ m. part_of p m ys ≡ Some (record { offset = u; of_type = k })) t f; lies = omega arith }
beyond p n (x ∷ xs) [] o m u k h e f s l g =
    let i = in_part p x (λ e. part_of p e xs) (slice_get p.types n) _ e in
    let q : ◌≡◌ {A = Part} (record { offset = 0; of_type = n }) (record { offset = u; of_type = k }) = same_Some _ _ f in
    let t : n ≡ k = ap (λ (q : Part). q.of_type) q in
    absurd (not_array p n i.index i.element (subst (λ k. is_scalar (slice_get p.types k) ≡ true) (sym t) s) i.array)
beyond p n (x ∷ xs) (y ∷ ys) o m u k h e f s l g =
    let i = in_part p x (λ e. part_of p e xs) (slice_get p.types n) _ e in
    let j = in_part p y (λ e. part_of p e ys) (slice_get p.types n) _ f in
    beyond_both p n x y xs ys o m u k h i j s l g (λ w e f l g. beyond p i.element xs ys i.inner.offset m w k (let b = (array_fits p.types n i.index i.element p.types_fit i.array).element_before in omega arith) e f s l g)
  where
    beyond_both : (p : Program) (n : ℕ) (x y : ℤ) (xs ys : List ℤ) (o m u k : ℕ) → n < length p.types
        → (i : InPart p x (λ e. part_of p e xs) (slice_get p.types n) (record { offset = o; of_type = m })) → (j : InPart p y (λ e. part_of p e ys) (slice_get p.types n) (record { offset = u; of_type = k }))
        → is_scalar (slice_get p.types k) ≡ true → o ≤ u → u < o + count_of p m
        → ((w : ℕ) → part_of p i.element xs ≡ Some (record { offset = i.inner.offset; of_type = m }) → part_of p i.element ys ≡ Some (record { offset = w; of_type = k }) → i.inner.offset ≤ w → w < i.inner.offset + count_of p m → Beyond p m xs ys i.inner.offset k w)
        → Beyond p m (x ∷ xs) (y ∷ ys) o k u
    beyond_both p n x y xs ys o m u k h i j s l g on =
        let a = same_array (slice_get p.types n) i.index i.element j.index j.element i.array j.array in
        let before = (array_fits p.types n i.index i.element p.types_fit i.array).element_before in
        let en : i.element < length p.types = omega arith in
        let ri = part_inside p i.element xs i.inner en i.leads in
        let rj = part_inside p j.element ys j.inner (subst (λ e. e < length p.types) a.1 en) j.leads in
        let mi : m ≡ i.inner.of_type = ap (λ (q : Part). q.of_type) i.is in
        let kj : k ≡ j.inner.of_type = ap (λ (q : Part). q.of_type) j.is in
        let one : count_of p j.inner.of_type ≡ 1 = scalar_count p j.inner.of_type (subst (λ t. is_scalar (slice_get p.types t) ≡ true) kj s) in
        let c = count_of p i.element in
        let index = slice_get p.types i.index in
        let oi : o ≡ ordinal index x * c + i.inner.offset = ap (λ (q : Part). q.offset) i.is in
        let uj : u ≡ ordinal index y * c + j.inner.offset =
        ap (λ (q : Part). q.offset) j.is
        ∙ ap (λ v. ordinal (slice_get p.types v) y * count_of p j.element + j.inner.offset) (sym a.0)
        ∙ ap (λ e. ordinal index y * count_of p e + j.inner.offset) (sym a.1) in
        let room : i.inner.offset + count_of p m ≤ c = omega (arith, ri.room, ap (count_of p) mi) in
        let small : j.inner.offset < c = omega (arith, rj.room, one, ap (count_of p) a.1) in
        let low : ordinal index x * c + i.inner.offset ≤ ordinal index y * c + j.inner.offset = omega arith in
        let high : ordinal index y * c + j.inner.offset < ordinal index x * c + i.inner.offset + count_of p m = omega arith in
        let w = same_index (ordinal index x) (ordinal index y) c i.inner.offset j.inner.offset (count_of p m) room small low high in
        let xy = ordinal_once index x y i.value (subst (λ v. is_value_of (slice_get p.types v) y ≡ true) (sym a.0) j.value) w.0 in
        let first : part_of p i.element xs ≡ Some (record { offset = i.inner.offset; of_type = m }) = i.leads ∙ ap (λ t. let q : Part = record { offset = i.inner.offset; of_type = t } in Some q) (sym mi) in
        let second : part_of p i.element ys ≡ Some (record { offset = j.inner.offset; of_type = k }) =
        ap (λ e. part_of p e ys) a.1 ∙ j.leads ∙ ap (λ t. let q : Part = record { offset = j.inner.offset; of_type = t } in Some q) (sym kj) in
        let r = on j.inner.offset first second w.1 w.2 in
        let same : ordinal index x * c ≡ ordinal index y * c = ap (λ n. n * c) w.0 in
        record {
          subscripts = r.subscripts;
          offset = r.offset;
          is = ap (λ t. t ∷ ys) (sym xy) ∙ ap (λ l. x ∷ l) r.is;
          part = r.part;
          lies = let e = r.lies in omega arith;
        }
