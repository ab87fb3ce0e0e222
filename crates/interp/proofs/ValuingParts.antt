-- Subscripts, one after another: the part of a variable to which those before a place lead, and how the others lead on from it.
use Rattle.std.proofs.Common.{◌≡◌, ℕ, ◌+◌, ◌*◌, Bool, true, false, cond, List, [], ◌∷◌, ◌++◌, map, refl, sym, ap, ◌∙◌, subst, arith, ℤ, Option, Some, Ok, Err, append-nil, append_assoc}
use Rattle.std.specs.List.{slice_get}
use Rattle.px_base.specs.declared.kind.Kind.TheVariants.{IndexOutOfRange}
use Rattle.pas_program.specs.declared.expr.Actual.TheFolds.{fold_out-Expr}
use Rattle.pas_program.specs.declared.expr.Actual.TheViews.{out-Expr}
use Rattle.pas_program.specs.declared.expr.Expr.{Expr}
use Rattle.pas_program.specs.declared.program.Program.{Program}
use Rattle.pas_program.specs.declared.type_def.TypeDef.{TypeDef}
use Rattle.pas_program.specs.declared.type_def.TypeDef.TheVariants.{Array}
use Rattle.pas_program.specs.Checked.{tables}
use Rattle.control_points.specs.declared.fault.Fault.{Fault}
use Rattle.control_points.specs.Evaluation.{Answer, Spot, Valued, View, access_step, checked, element_type, expr_step, fault, form_step, index_type, is_value_of, subscript_values, then_with, value}
use Rattle.control_points.specs.Storage.{Place, part}
use Rattle.interp.specs.declared.frame.Frame.{Frame}
use Rattle.interp.specs.Layouts.{count_of}
use Rattle.interp.specs.Meant.{IsPart, valued}
use Rattle.interp.specs.Places.{Lies, Part, further, ordinal, place_in}
use Rattle.interp.proofs.Lying.{lies_part}
use Rattle.interp.proofs.Parts.{into_part}

-- ---- answers

-- what comes of an answer does not change where it is handed on in two steps
pub then_twice : {A B C : Type 0} (x : Answer A) (f : A → B) (g : B → C) → then_with (then_with x (λ a. Ok (f a))) (λ b. Ok (g b)) ≡ then_with x (λ a. Ok (g (f a)))
then_twice (Ok a) f g = refl
then_twice (Err e) f g = refl

then_as : {A B : Type 0} (x : Answer A) (f g : A → B) → ((a : A) → f a ≡ g a) → then_with x (λ a. Ok (f a)) ≡ then_with x (λ a. Ok (g a))
then_as (Ok a) f g h = ap Ok (h a)
then_as (Err e) f g h = refl

then_self : {A : Type 0} (x : Answer A) → x ≡ then_with x (λ a. Ok a)
then_self (Ok a) = refl
then_self (Err e) = refl

-- ---- parts

pub part_twice : (q : Place) (xs ys : List ℤ) → part (part q xs) ys ≡ part q (xs ++ ys)
part_twice q xs ys = ap (λ zs. let r : Place = record q { subscripts = zs } in r) (append_assoc q.subscripts xs ys)

pub part_none : (q : Place) → part q [] ≡ q
part_none q = ap (λ zs. let r : Place = record q { subscripts = zs } in r) (append-nil q.subscripts)

-- ---- subscripts

-- The first subscripts have these values, and lead from q to what lies at the scalar a, of the type n. The others lead on from there.
pub record IsLed (p : Program) (frames : List Frame) (view : View) (q : Place) (of_type : ℕ) (subscripts rest : List Expr) (a n : ℕ) : Type 0 where
  pub values : List ℤ
  pub lies : Lies p frames (part q values) a n
  pub onward : subscript_values (tables p) of_type (map (valued view) subscripts) ≡ then_with (subscript_values (tables p) n (map (valued view) rest)) (λ zs. Ok (values ++ zs))

module _ (p : Program) (frames : List Frame) (view : View) (q : Place) (of_type : ℕ) (subscripts : List Expr) where
  -- none of them at first
  pub led_first : (a : ℕ) → Lies p frames q a of_type → IsLed p frames view q of_type subscripts subscripts a of_type
  led_first a l = record {
    values = [];
    lies = subst (λ r. Lies p frames r a of_type) (sym (part_none q)) l;
    onward = then_self (subscript_values (tables p) of_type (map (valued view) subscripts));
  }

  -- all of them at last
  pub led_last : (a n t : ℕ) → IsLed p frames view q of_type subscripts [] a n → n ≡ t → IsPart p frames q t (subscript_values (tables p) of_type (map (valued view) subscripts)) (Ok a)
  led_last a n t w e =
      subst (λ x. IsPart p frames q t x (Ok a)) (sym w.onward)
      (subst (λ zs. Lies p frames (part q zs) a t) (sym (append-nil w.values)) (subst (λ n. Lies p frames (part q w.values) a n) e w.lies))

  -- the place of an expression
  pub first_is : (e : Expr) → (valued view e).first ≡ (out-Expr e).first
  first_is e = ap (λ (v : Valued). v.first) (fold_out-Expr (Unit {0}) (Answer ℤ) (Answer Spot) Valued (λ a. tt) (form_step view) (access_step view) expr_step e)

  -- the next one at an array
  abbrev next_value : ℕ → ℕ → Expr → List Expr → Answer ℤ → Answer (List ℤ)
  next_value index element e rest x =
      then_with x (λ z.
      then_with (checked (is_value_of (slice_get p.types index) z) IndexOutOfRange (valued view e).first z) (λ z.
      then_with (subscript_values (tables p) element (map (valued view) rest)) (λ zs. Ok (z ∷ zs))))

  next_is : (n index element : ℕ) (e : Expr) (rest : List Expr) → slice_get p.types n ≡ Some (Array index element) → subscript_values (tables p) n (map (valued view) (e ∷ rest)) ≡ next_value index element e rest (value view e)
  next_is n index element e rest h =
      ap (λ (d : Option TypeDef).
      then_with (valued view e).value (λ z.
      then_with (checked (is_value_of (slice_get p.types (index_type d)) z) IndexOutOfRange (valued view e).first z) (λ z.
      then_with (subscript_values (tables p) (element_type d) (map (valued view) rest)) (λ zs. Ok (z ∷ zs))))) h

  -- its evaluation may be an error
  pub led_fails : (a n t : ℕ) (e : Expr) (rest : List Expr) (f : Fault) → IsLed p frames view q of_type subscripts (e ∷ rest) a n → value view e ≡ Err f → IsPart p frames q t (subscript_values (tables p) of_type (map (valued view) subscripts)) (Err f)
  led_fails a n t e rest f w h =
      subst (λ x. IsPart p frames q t x (Err f)) (sym w.onward)
      (subst (λ x. IsPart p frames q t (then_with (then_with x (λ z.
      then_with (checked (is_value_of ((tables p).type_at (index_type ((tables p).type_at n))) z) IndexOutOfRange (valued view e).first z) (λ z.
      then_with (subscript_values (tables p) (element_type ((tables p).type_at n)) (map (valued view) rest)) (λ zs. Ok (z ∷ zs))))) (λ zs. Ok (w.values ++ zs))) (Err f)) (sym h) refl)

  out_by : (b : Bool) (m at k : ℕ) (z : ℤ) (f : Fault) → at ≡ k → ◌≡◌ {A = Answer ℕ} (Err f) (cond b (Ok m) (fault IndexOutOfRange at)) → checked b IndexOutOfRange k z ≡ Err f
  out_by true m at k z f s e = absurd (cc)
  out_by false m at k z f s e = cc

  -- or its value is no index
  pub led_outside : (a n index element t : ℕ) (e : Expr) (rest : List Expr) (z : ℤ) (f : Fault) → IsLed p frames view q of_type subscripts (e ∷ rest) a n → slice_get p.types n ≡ Some (Array index element)
      → value view e ≡ Ok z → Err f ≡ place_in (slice_get p.types index) z (out-Expr e).first → IsPart p frames q t (subscript_values (tables p) of_type (map (valued view) subscripts)) (Err f)
  led_outside a n index element t e rest z f w h v o =
      let c = out_by (is_value_of (slice_get p.types index) z) (ordinal (slice_get p.types index) z) (out-Expr e).first (valued view e).first z f (sym (first_is e)) o in
      subst (λ x. IsPart p frames q t x (Err f))
      (sym (w.onward
      ∙ ap (λ x. then_with x (λ zs. Ok (w.values ++ zs))) (next_is n index element e rest h)
      ∙ ap (λ x. then_with (next_value index element e rest x) (λ zs. Ok (w.values ++ zs))) v
      ∙ ap (λ x. then_with (then_with x (λ z. then_with (subscript_values (tables p) element (map (valued view) rest)) (λ zs. Ok (z ∷ zs)))) (λ zs. Ok (w.values ++ zs))) c)) refl

  in_by : (b : Bool) (m at i : ℕ) → ◌≡◌ {A = Answer ℕ} (Ok i) (cond b (Ok m) (fault IndexOutOfRange at)) → (b ≡ true) × (i ≡ m)
  in_by true m at i e = (refl, cc)
  in_by false m at i e = absurd (cc)

  -- or it leads to an element
  pub led_on : (a n index element i : ℕ) (e : Expr) (rest : List Expr) (z : ℤ) → IsLed p frames view q of_type subscripts (e ∷ rest) a n → slice_get p.types n ≡ Some (Array index element)
      → value view e ≡ Ok z → Ok i ≡ place_in (slice_get p.types index) z (out-Expr e).first → IsLed p frames view q of_type subscripts rest (a + i * count_of p element) element
  led_on a n index element i e rest z w h v o =
      let b = in_by (is_value_of (slice_get p.types index) z) (ordinal (slice_get p.types index) z) (out-Expr e).first i o in
      let inner : Part = record { offset = 0; of_type = element } in
      let leads = lies_part p frames (part q w.values) a n (z ∷ []) (further (ordinal (slice_get p.types index) z * count_of p element) inner) w.lies
      (into_part p z (λ (e : ℕ). Some (let r : Part = record { offset = 0; of_type = e } in r)) (slice_get p.types n) index element inner h b.0 refl) in
      let same : a + (ordinal (slice_get p.types index) z * count_of p element + 0) ≡ a + i * count_of p element = ap (λ m. a + (m * count_of p element + 0)) (sym b.1) ∙ (omega arith) in
      record {
        values = w.values ++ z ∷ [];
        lies = subst (λ r. Lies p frames r (a + i * count_of p element) element) (part_twice q w.values (z ∷ []))
            (subst (λ k. Lies p frames (part (part q w.values) (z ∷ [])) k element) same leads);
        onward = w.onward
            ∙ ap (λ x. then_with x (λ zs. Ok (w.values ++ zs))) (next_is n index element e rest h)
            ∙ ap (λ x. then_with (next_value index element e rest x) (λ zs. Ok (w.values ++ zs))) v
            ∙ ap (λ c. then_with (then_with (cond c (Ok z) (fault IndexOutOfRange (valued view e).first)) (λ z. then_with (subscript_values (tables p) element (map (valued view) rest)) (λ zs. Ok (z ∷ zs)))) (λ zs. Ok (w.values ++ zs))) b.0
            ∙ then_twice (subscript_values (tables p) element (map (valued view) rest)) (λ zs. z ∷ zs) (λ zs. w.values ++ zs)
            ∙ then_as (subscript_values (tables p) element (map (valued view) rest)) (λ zs. w.values ++ (z ∷ zs)) (λ zs. (w.values ++ z ∷ []) ++ zs) (λ zs. sym (append_assoc w.values (z ∷ []) zs));
      }
