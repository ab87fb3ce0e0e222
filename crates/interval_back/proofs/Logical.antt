-- What is left of the operands of `and` and `or` can give a wanted result.
use Rattle.std.proofs.Common.{◌≡◌, refl, sym, subst, ap, ◌⊎◌, inl, inr, true, false, ◌||◌, Ok, ℤ, ◌≤ℤ◌, int_le, arith}
use Rattle.std.specs.Int.{int_min, int_max}
use Rattle.std.proofs.lemmas.Bool.{cases_Bool, cond_both, or_parts}
use Rattle.std.proofs.lemmas.Int.{ints}
use Rattle.px_base.specs.declared.operator.BinOp.{BinOp}
use Rattle.px_base.specs.declared.operator.BinOp.TheVariants.{And, Or}
use Rattle.interval.specs.declared.itv.Itv.{Itv}
use Rattle.interval.specs.declared.answer.Answer.{Answer}
use Rattle.interval.specs.Forward.{binary_answer}
use Rattle.interval.specs.Intervals.{IsIn, is_empty, meet}
use Rattle.interval.specs.IntervalLaws.{meet_below_left, meet_below_right, within_has as in_wider}
use Rattle.interval.specs.Same.{in_interval}
use Rattle.interval_back.specs.Backward.{within, conjuncts, disjuncts, left_operand, right_operand}
use Rattle.interval_back.specs.Kept.{IsLogical, LeftIsPossible, RightIsPossible}

below : (p q : ℤ) → int_le p q ≡ true → p ≤ℤ q
below p q e = grind (arith, ints)

above : (p q : ℤ) → int_le p q ≡ false → q ≤ℤ p
above p q e = grind (arith, ints)

in_order : (x : Itv) → is_empty x ≡ false → x.lo ≤ℤ x.hi
in_order x e = grind (arith, ints)

at_most_each : (p q z : ℤ) → z ≤ℤ int_min p q → (z ≤ℤ p) × (z ≤ℤ q)
at_most_each p q z h = grind (arith, ints)

at_least_each : (p q z : ℤ) → int_max p q ≤ℤ z → (p ≤ℤ z) × (q ≤ℤ z)
at_least_each p q z h = grind (arith, ints)

lesser_left : (a b : ℤ) → a ≤ℤ b → int_min a b ≡ a
lesser_left a b h = grind (arith, ints)

lesser_right : (a b : ℤ) → b ≤ℤ a → int_min a b ≡ b
lesser_right a b h = grind (arith, ints)

greater_left : (a b : ℤ) → b ≤ℤ a → int_max a b ≡ a
greater_left a b h = grind (arith, ints)

greater_right : (a b : ℤ) → a ≤ℤ b → int_max a b ≡ b
greater_right a b h = grind (arith, ints)

-- ---- what the numbers of a part say

in_part : (lo hi : ℤ) (x : Itv) (z : ℤ) → IsIn (within lo hi x) z → (lo ≤ℤ z) × (z ≤ℤ hi)
unfolding within
in_part lo hi x z i =
    let inside = in_interval (int_max lo x.lo) (int_min hi x.hi) z i in
    ((at_least_each lo x.lo z inside.1).0, (at_most_each hi x.hi z inside.2).0)

in_both : (w x : Itv) (z : ℤ) → IsIn (meet w x) z → IsIn w z
in_both w x z i = in_wider (meet w x) w z (meet_below_left w x) i

conjunct_bounds : (w x y : Itv) (a : ℤ) → IsIn (conjuncts w x y) a → (w.lo ≤ℤ a) × ((a ≤ℤ w.hi) ⊎ (y.lo ≤ℤ w.hi))
conjunct_bounds w x y a =
    cond_both (int_le y.lo w.hi) _ _ (λ v. IsIn v a → (w.lo ≤ℤ a) × ((a ≤ℤ w.hi) ⊎ (y.lo ≤ℤ w.hi)))
    (λ e i. ((in_part _ _ x a i).0, inr (below _ _ e)))
    (λ _ i. ((in_both w x a i).0, inl (in_both w x a i).1))

disjunct_bounds : (w x y : Itv) (a : ℤ) → IsIn (disjuncts w x y) a → (a ≤ℤ w.hi) × ((w.lo ≤ℤ a) ⊎ (w.lo ≤ℤ y.hi))
disjunct_bounds w x y a =
    cond_both (int_le w.lo y.hi) _ _ (λ v. IsIn v a → (a ≤ℤ w.hi) × ((w.lo ≤ℤ a) ⊎ (w.lo ≤ℤ y.hi)))
    (λ e i. ((in_part _ _ x a i).1, inr (below _ _ e)))
    (λ _ i. ((in_both w x a i).1, inl (in_both w x a i).0))

-- ---- the partners

module _ (w y : Itv) (a : ℤ) (order : w.lo ≤ℤ w.hi) where
  -- the greatest number of Y, or else the end of W
  conjunct_partner : w.hi ≤ℤ y.hi → y.lo ≤ℤ y.hi → (w.lo ≤ℤ a) × ((a ≤ℤ w.hi) ⊎ (y.lo ≤ℤ w.hi)) → (b : ℤ) × IsIn y b × IsIn w (int_min a b)
  conjunct_partner top some h =
      elim (cases_Bool (int_le a w.hi)) [
        | inl e ↦
            let least : a ≤ℤ w.hi = below _ _ e in
            let same : int_min a y.hi ≡ a = lesser_left a y.hi (omega (arith, ints)) in
            (y.hi, (some, omega (arith, ints)), subst (IsIn w) (sym same) (h.0, least))
        | inr e ↦
            let most : w.hi ≤ℤ a = above _ _ e in
            let same : int_min a w.hi ≡ w.hi = lesser_right a w.hi most in
            (w.hi, (reached h.1 e, top), subst (IsIn w) (sym same) (order, omega (arith, ints)))
      ]
    where
      reached : (a ≤ℤ w.hi) ⊎ (y.lo ≤ℤ w.hi) → int_le a w.hi ≡ false → y.lo ≤ℤ w.hi
      reached (inl f) e = grind (arith, ints)
      reached (inr f) e = f

  -- the least number of Y, or else the start of W
  disjunct_partner : y.lo ≤ℤ w.lo → y.lo ≤ℤ y.hi → (a ≤ℤ w.hi) × ((w.lo ≤ℤ a) ⊎ (w.lo ≤ℤ y.hi)) → (b : ℤ) × IsIn y b × IsIn w (int_max a b)
  disjunct_partner bottom some h =
      elim (cases_Bool (int_le w.lo a)) [
        | inl e ↦
            let most : w.lo ≤ℤ a = below _ _ e in
            let same : int_max a y.lo ≡ a = greater_left a y.lo (omega (arith, ints)) in
            (y.lo, (omega (arith, ints), some), subst (IsIn w) (sym same) (most, h.0))
        | inr e ↦
            let least : a ≤ℤ w.lo = above _ _ e in
            let same : int_max a w.lo ≡ w.lo = greater_right a w.lo least in
            (w.lo, (bottom, reached h.1 e), subst (IsIn w) (sym same) (omega (arith, ints), order))
      ]
    where
      reached : (w.lo ≤ℤ a) ⊎ (w.lo ≤ℤ y.hi) → int_le w.lo a ≡ false → w.lo ≤ℤ y.hi
      reached (inl f) e = grind (arith, ints)
      reached (inr f) e = f

-- ---- what possible results say of the operands

abbrev HaveNumbers : Itv → Itv → Type 0
HaveNumbers x y = (x.lo ≤ℤ x.hi) × (y.lo ≤ℤ y.hi)

of_conjunction : (x y : Itv) (z : ℤ) → IsIn (binary_answer And x y).value z → (z ≤ℤ x.hi) × (z ≤ℤ y.hi) × HaveNumbers x y
of_conjunction x y z =
    cond_both (is_empty x || is_empty y) _ _ (λ (r : Answer). IsIn r.value z → (z ≤ℤ x.hi) × (z ≤ℤ y.hi) × HaveNumbers x y)
    (λ _ i. absurd (omega (arith, ints, i.0, i.1)))
    (λ e i. let inside = in_interval (int_min x.lo y.lo) (int_min x.hi y.hi) z i in
    let each : (z ≤ℤ x.hi) × (z ≤ℤ y.hi) = at_most_each x.hi y.hi z inside.2 in
    (each.0, each.1, (in_order x (or_parts _ _ e).0, in_order y (or_parts _ _ e).1)))

of_disjunction : (x y : Itv) (z : ℤ) → IsIn (binary_answer Or x y).value z → (x.lo ≤ℤ z) × (y.lo ≤ℤ z) × HaveNumbers x y
of_disjunction x y z =
    cond_both (is_empty x || is_empty y) _ _ (λ (r : Answer). IsIn r.value z → (x.lo ≤ℤ z) × (y.lo ≤ℤ z) × HaveNumbers x y)
    (λ _ i. absurd (omega (arith, ints, i.0, i.1)))
    (λ e i. let inside = in_interval (int_max x.lo y.lo) (int_max x.hi y.hi) z i in
    let each : (x.lo ≤ℤ z) × (y.lo ≤ℤ z) = at_least_each x.lo y.lo z inside.1 in
    (each.0, each.1, (in_order x (or_parts _ _ e).0, in_order y (or_parts _ _ e).1)))

-- the ends of the possible results are results and wanted
module _ (op : BinOp) (wanted x y w : Itv) (is : w ≡ meet wanted (binary_answer op x y).value) (some : is_empty w ≡ false) where
  order : w.lo ≤ℤ w.hi
  order = in_order w some

  is_wanted : (z : ℤ) → IsIn w z → IsIn wanted z
  is_wanted z i = in_both wanted (binary_answer op x y).value z (subst (λ v. IsIn v z) is i)

  is_result : (z : ℤ) → IsIn w z → IsIn (binary_answer op x y).value z
  is_result z i =
      in_wider (meet wanted (binary_answer op x y).value) (binary_answer op x y).value z
      (meet_below_right wanted (binary_answer op x y).value) (subst (λ v. IsIn v z) is i)

  least_in : IsIn w w.lo
  least_in = (omega (arith, ints), order)

  greatest_in : IsIn w w.hi
  greatest_in = (order, omega (arith, ints))

pub left_possible : (op : BinOp) (wanted x y w : Itv) → w ≡ meet wanted (binary_answer op x y).value → is_empty w ≡ false
    → IsLogical op → LeftIsPossible op wanted y (left_operand op w x y)
left_possible And wanted x y w is some l a i =
    let ends = of_conjunction x y w.hi (is_result And wanted x y w is some w.hi (greatest_in And wanted x y w is some)) in
    let partner = conjunct_partner w y a (order And wanted x y w is some) ends.1 ends.2.1 (conjunct_bounds w x y a i) in
    (partner.0, int_min a partner.0, partner.1, refl, is_wanted And wanted x y w is some _ partner.2)
left_possible Or wanted x y w is some l a i =
    let ends = of_disjunction x y w.lo (is_result Or wanted x y w is some w.lo (least_in Or wanted x y w is some)) in
    let partner = disjunct_partner w y a (order Or wanted x y w is some) ends.1 ends.2.1 (disjunct_bounds w x y a i) in
    (partner.0, int_max a partner.0, partner.1, refl, is_wanted Or wanted x y w is some _ partner.2)
left_possible _ wanted x y w is some l a i = absurd l

pub right_possible : (op : BinOp) (wanted x y w : Itv) → w ≡ meet wanted (binary_answer op x y).value → is_empty w ≡ false
    → IsLogical op → RightIsPossible op wanted x (right_operand op w x y)
right_possible And wanted x y w is some l b i =
    let ends = of_conjunction x y w.hi (is_result And wanted x y w is some w.hi (greatest_in And wanted x y w is some)) in
    let partner = conjunct_partner w x b (order And wanted x y w is some) ends.0 ends.2.0 (conjunct_bounds w y x b i) in
    (partner.0, int_min b partner.0, partner.1, ap Ok (least_of_two partner.0 b), is_wanted And wanted x y w is some _ partner.2)
  where
    least_of_two : (p q : ℤ) → int_min p q ≡ int_min q p
    least_of_two p q = grind (arith, ints)
right_possible Or wanted x y w is some l b i =
    let ends = of_disjunction x y w.lo (is_result Or wanted x y w is some w.lo (least_in Or wanted x y w is some)) in
    let partner = disjunct_partner w x b (order Or wanted x y w is some) ends.0 ends.2.0 (disjunct_bounds w y x b i) in
    (partner.0, int_max b partner.0, partner.1, ap Ok (greatest_of_two partner.0 b), is_wanted Or wanted x y w is some _ partner.2)
  where
    greatest_of_two : (p q : ℤ) → int_max p q ≡ int_max q p
    greatest_of_two p q = grind (arith, ints)
right_possible _ wanted x y w is some l b i = absurd l
