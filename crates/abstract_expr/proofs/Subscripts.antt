-- Subscripts, one after another: the first of them stands at an array, and the others lead on from its element.
use Rattle.std.proofs.Common.{◌≡◌, ℕ, suc, ◌+◌, ◌<◌, Bool, true, ◌&&◌, List, ◌∷◌, nat_lt, length, map, drop, get_or, refl, sym, ap, ◌∙◌, subst, arith, ℤ, Option, Some, None, drop-cons}
use Rattle.std.proofs.lemmas.Bool.{true≢false, and_parts, ltb-true}
use Rattle.pas_program.specs.declared.expr.Expr.{Expr}
use Rattle.pas_program.specs.declared.type_def.TypeDef.{TypeDef}
use Rattle.pas_program.specs.declared.type_def.TypeDef.TheVariants.{Scalar, Array}
use Rattle.pas_program.specs.Tables.{Tables}
use Rattle.pas_program.specs.Typed.{Hosted, element_of, hosted, subscripted}
use Rattle.pas_program.specs.Types.{has_host, type_fits}

-- the subscripts from a place on
pub rest_at : {A : Type 0} (xs : List A) (i : ℕ) (x : A) → i < length xs → x ≡ get_or xs i x → drop i xs ≡ x ∷ drop (i + 1) xs
rest_at xs i x h e = drop-cons xs i x h ∙ ap (λ y. y ∷ drop (suc i) xs) (sym e) ∙ ap (λ n. x ∷ drop n xs) (let s : suc i ≡ i + 1 = omega arith in s)

-- what a fitting first subscript leads to
pub record Leading (t : Tables) (n : ℕ) (s : Hosted) (rest : List Hosted) : Type 0 where
  pub index : ℕ
  pub element : ℕ
  pub array : t.type_at n ≡ Some (Array index element)
  pub subscript : s.fits ≡ true
  pub fits : (subscripted t element rest).fits ≡ true

leading_by : (t : Tables) (n : ℕ) (s : Hosted) (rest : List Hosted) (d : Option TypeDef) → t.type_at n ≡ d → (element_of t s (λ e. subscripted t e rest) d).fits ≡ true → Leading t n s rest
leading_by t n s rest None e h = absurd (true≢false (sym h))
leading_by t n s rest (Some (Scalar boolean lo hi)) e h = absurd (true≢false (sym h))
leading_by t n s rest (Some (Array index element)) e h =
    let p = and_parts (s.fits && has_host s.boolean (t.type_at index)) _ h in
    record {
      index = index;
      element = element;
      array = e;
      subscript = (and_parts _ _ p.0).0;
      fits = p.1;
    }

-- the same at a place of the list
pub leading_at : (t : Tables) (n i : ℕ) (e : Expr) (subscripts : List Expr) → i < length subscripts → e ≡ get_or subscripts i e
    → (subscripted t n (map (hosted t) (drop i subscripts))).fits ≡ true → Leading t n (hosted t e) (map (hosted t) (drop (i + 1) subscripts))
leading_at t n i e subscripts h k f =
    leading_by t n (hosted t e) (map (hosted t) (drop (i + 1) subscripts)) (t.type_at n) refl
    (subst (λ xs. (subscripted t n (map (hosted t) xs)).fits ≡ true) (rest_at subscripts i e h k) f)

-- no scalar has subscripts
pub not_scalar : (t : Tables) (n i : ℕ) (e : Expr) (subscripts : List Expr) (boolean : Bool) (lo hi : ℤ) → i < length subscripts → e ≡ get_or subscripts i e
    → (subscripted t n (map (hosted t) (drop i subscripts))).fits ≡ true → t.type_at n ≡ Some (Scalar boolean lo hi) → ⊥
not_scalar t n i e subscripts boolean lo hi h k f s =
    let l = leading_at t n i e subscripts h k f in
    let g : ◌≡◌ {A = Option TypeDef} (Some (Array l.index l.element)) (Some (Scalar boolean lo hi)) = sym l.array ∙ s in cc

pub same_array : (o : Option TypeDef) (i m j n : ℕ) → o ≡ Some (Array i m) → o ≡ Some (Array j n) → (i ≡ j) × (m ≡ n)
same_array o i m j n a b = let e : ◌≡◌ {A = Option TypeDef} (Some (Array i m)) (Some (Array j n)) = sym a ∙ b in (cc, cc)

-- index and element types stand before their array
pub array_after : (types : List TypeDef) (n index element : ℕ) → type_fits types n (Array index element) ≡ true → (index < n) × (element < n)
array_after types n index element h =
    let p = and_parts (nat_lt index n) (nat_lt element n) (and_parts (nat_lt index n && nat_lt element n) _ h).0 in
    (ltb-true index n p.0, ltb-true element n p.1)
