-- A subscript at an array: the types fit, and the element lies within it.
use Rattle.std.proofs.Common.{◌≡◌, ℕ, suc, ◌+◌, ◌*◌, ◌<◌, ◌≤◌, Bool, true, false, ◌&&◌, cond, List, ◌∷◌, length, map, drop, get_or, refl, sym, ap, ◌∙◌, subst, arith, ℤ, Option, Some, None, Result, Ok, Err}
use Rattle.std.proofs.Common.{drop-cons}
use Rattle.std.specs.List.{slice_get}
use Rattle.std.proofs.lemmas.Bool.{true≢false, and_parts}
use Rattle.pas_program.specs.declared.expr.Expr.{Expr}
use Rattle.pas_program.specs.declared.program.Program.{Program}
use Rattle.pas_program.specs.declared.type_def.TypeDef.{TypeDef}
use Rattle.pas_program.specs.declared.type_def.TypeDef.TheVariants.{Scalar, Array}
use Rattle.pas_program.specs.Checked.{tables}
use Rattle.pas_program.specs.Tables.{Tables}
use Rattle.pas_program.specs.Typed.{Hosted, element_of, hosted, subscripted}
use Rattle.pas_program.specs.Types.{count_values, has_host}
use Rattle.pas_program.proofs.Layouts.{array_fits, layout_few}
use Rattle.control_points.specs.declared.fault.Fault.{Fault}
use Rattle.control_points.specs.Evaluation.{is_value_of}
use Rattle.interp.specs.declared.frame.Frame.{Frame}
use Rattle.interp.specs.Deeds.{HasRoom}
use Rattle.interp.specs.Layouts.{count_of}
use Rattle.interp.specs.Places.{ordinal, place_in}
use Rattle.interp.proofs.Parts.{array_count, ordinal_below, within_array}

-- the subscripts from a place on
pub rest_at : {A : Type 0} (xs : List A) (i : ℕ) (x : A) → i < length xs → x ≡ get_or xs i x → drop i xs ≡ x ∷ drop (i + 1) xs
rest_at xs i x h e = drop-cons xs i x h ∙ ap (λ y. y ∷ drop (suc i) xs) (sym e) ∙ ap (λ n. x ∷ drop n xs) (let s : suc i ≡ i + 1 = omega arith in s)

-- what a fitting first subscript leads to
pub record Leading (t : Tables) (n : ℕ) (s : Hosted) (rest : List Hosted) : Type 0 where
  pub index : ℕ
  pub element : ℕ
  pub array : t.type_at n ≡ Some (Array index element)
  pub subscript : s.fits ≡ true
  pub fits : (subscripted t element rest).fits ≡ true
  pub same : (subscripted t n (s ∷ rest)).of_type ≡ (subscripted t element rest).of_type

leading_by : (t : Tables) (n : ℕ) (s : Hosted) (rest : List Hosted) (d : Option TypeDef) → t.type_at n ≡ d → (element_of t s (λ e. subscripted t e rest) d).fits ≡ true → Leading t n s rest
leading_by t n s rest None e h = absurd (true≢false (sym h))
leading_by t n s rest (Some (Scalar boolean lo hi)) e h = absurd (true≢false (sym h))
leading_by t n s rest (Some (Array index element)) e h =
    let p = and_parts (s.fits && has_host s.boolean (t.type_at index)) _ h in
    record {
      index = index;
      element = element;
      array = e;
      subscript = (and_parts _ _ p.0).0;
      fits = p.1;
      same = ap (λ d. (element_of t s (λ e. subscripted t e rest) d).of_type) e;
    }

pub leading : (t : Tables) (n : ℕ) (s : Hosted) (rest : List Hosted) → (subscripted t n (s ∷ rest)).fits ≡ true → Leading t n s rest
leading t n s rest h = leading_by t n s rest (t.type_at n) refl h

-- the same at a place of the list
pub leading_at : (p : Program) (n i : ℕ) (e : Expr) (subscripts : List Expr) → i < length subscripts → e ≡ get_or subscripts i e
    → (subscripted (tables p) n (map (hosted (tables p)) (drop i subscripts))).fits ≡ true → Leading (tables p) n (hosted (tables p) e) (map (hosted (tables p)) (drop (i + 1) subscripts))
leading_at p n i e subscripts h k f =
    leading (tables p) n (hosted (tables p) e) (map (hosted (tables p)) (drop (i + 1) subscripts))
    (subst (λ xs. (subscripted (tables p) n (map (hosted (tables p)) xs)).fits ≡ true) (rest_at subscripts i e h k) f)

pub leads_same : (p : Program) (n i : ℕ) (e : Expr) (subscripts : List Expr) → i < length subscripts → e ≡ get_or subscripts i e
    → (subscripted (tables p) n (map (hosted (tables p)) (drop i subscripts))).of_type ≡ (subscripted (tables p) n (hosted (tables p) e ∷ map (hosted (tables p)) (drop (i + 1) subscripts))).of_type
leads_same p n i e subscripts h k = ap (λ xs. (subscripted (tables p) n (map (hosted (tables p)) xs)).of_type) (rest_at subscripts i e h k)

-- no scalar has subscripts
pub not_scalar : (p : Program) (n i : ℕ) (e : Expr) (subscripts : List Expr) (boolean : Bool) (lo hi : ℤ) → i < length subscripts → e ≡ get_or subscripts i e
    → (subscripted (tables p) n (map (hosted (tables p)) (drop i subscripts))).fits ≡ true → slice_get p.types n ≡ Some (Scalar boolean lo hi) → ⊥
not_scalar p n i e subscripts boolean lo hi h k f s =
    let l = leading_at p n i e subscripts h k f in
    let g : ◌≡◌ {A = Option TypeDef} (Some (Array l.index l.element)) (Some (Scalar boolean lo hi)) = sym l.array ∙ s in cc

-- ---- the element

ok_by : (x n : ℕ) (f : Fault) (b : Bool) → ◌≡◌ {A = Result ℕ Fault} (cond b (Ok x) (Err f)) (Ok n) → (b ≡ true) × (n ≡ x)
ok_by x n f true h = (refl, cc)
ok_by x n f false h = absurd (cc)

pub record ElementRoom (p : Program) (frames : List Frame) (a m place : ℕ) : Type 0 where
  pub small : place * count_of p m ≤ 1000000
  pub room : HasRoom p frames m (a + place * count_of p m)
  pub in_range : m < length p.types

pub element_room : (p : Program) (frames : List Frame) (a n index m place at : ℕ) (z : ℤ) → slice_get p.types n ≡ Some (Array index m) → HasRoom p frames n a → n < length p.types
    → Ok place ≡ place_in (slice_get p.types index) z at → ElementRoom p frames a m place
element_room p frames a n index m place at z e h l o =
    let k = ok_by (ordinal (slice_get p.types index) z) place _ (is_value_of (slice_get p.types index) z) (sym o) in
    let f = array_fits p.types n index m p.types_fit e in
    let c = array_count p n index m e in
    let b : place < count_values (slice_get p.types index) = subst (λ i. i < count_values (slice_get p.types index)) (sym k.1) (ordinal_below (slice_get p.types index) z k.0) in
    let w : place * count_of p m + 0 + count_of p m ≤ count_values (slice_get p.types index) * count_of p m = within_array place (count_values (slice_get p.types index)) (count_of p m) 0 (count_of p m) b (omega arith) in
    let q = layout_few p.types n p.types_fit in
    record { small = omega (arith, w, c, q); room = omega (arith, w, c, h); in_range = let y = f.element_before in omega arith }
