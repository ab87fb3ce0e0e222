-- The two ways of a condition, of a `for` and of the end of its turn stand one right after the other and leave one point.
use Rattle.std.proofs.Common.{◌≡◌, inl, inr, ℕ, zero, suc, ◌+◌, ◌-◌, ◌≤◌, true, false, List, [], ◌∷◌, ◌++◌, length, refl, sym, ap, ◌∙◌, Some, None, arith}
use Rattle.std.proofs.lemmas.Bool.{true≢false}
use Rattle.std.proofs.lemmas.Option.{none-some, slice_get_within}
use Rattle.std.specs.List.{slice_get}
use Rattle.control_points.specs.declared.edge.Act.{Act}
use Rattle.control_points.specs.declared.edge.Edge.{Edge}
use Rattle.control_points.specs.Leading.{is_other_way, other_way}
use Rattle.control_points.proofs.Blocks.{get_front, get_past}
use Rattle.control_points.proofs.Listed.{get_either, same_some}

-- an action that stands right after another one, from one point
pub record Second (edges : List Edge) (k : ℕ) (e : Edge) (a : Act) : Type 0 where
  pub other : Edge
  pub stands : slice_get edges (suc k) ≡ Some other
  pub act_is : other.act ≡ a
  pub from_is : other.from ≡ e.from

-- an action that stands right before another one, of which that is the other way
pub record First (edges : List Edge) (k : ℕ) (e : Edge) : Type 0 where
  pub place : ℕ
  pub before : k ≡ suc place
  pub other : Edge
  pub stands : slice_get edges place ≡ Some other
  pub leads : other_way other.act ≡ Some e.act
  pub from_is : other.from ≡ e.from

pub record ArePaired (edges : List Edge) : Type 0 where
  pub second : (k : ℕ) (e : Edge) (a : Act) → slice_get edges k ≡ Some e → other_way e.act ≡ Some a → Second edges k e a
  pub first : (k : ℕ) (e : Edge) → slice_get edges k ≡ Some e → is_other_way e.act ≡ true → First edges k e

no_edge : {A : Type 0} (k : ℕ) (e : A) → slice_get [] k ≡ Some e → ⊥
no_edge zero e h = none-some e h
no_edge (suc k) e h = none-some e h

pub paired_none : ArePaired []
paired_none = record { second = λ k e a h o. absurd (no_edge k e h); first = λ k e h o. absurd (no_edge k e h) }

module _ (xs ys : List Edge) where
  second_front : (k : ℕ) (e : Edge) (a : Act) → Second xs k e a → Second (xs ++ ys) k e a
  second_front k e a s = record { other = s.other; stands = get_front xs ys (suc k) (slice_get_within xs (suc k) s.other s.stands) ∙ s.stands; act_is = s.act_is; from_is = s.from_is }

  second_past : (k : ℕ) (e : Edge) (a : Act) → length xs ≤ k → Second ys (k - length xs) e a → Second (xs ++ ys) k e a
  second_past k e a le s =
      let n : suc k ≡ length xs + suc (k - length xs) = omega arith in
      record { other = s.other; stands = ap (slice_get (xs ++ ys)) n ∙ get_past xs ys (suc (k - length xs)) ∙ s.stands; act_is = s.act_is; from_is = s.from_is }

  first_front : (k : ℕ) (e : Edge) → First xs k e → First (xs ++ ys) k e
  first_front k e f = record { place = f.place; before = f.before; other = f.other; stands = get_front xs ys f.place (slice_get_within xs f.place f.other f.stands) ∙ f.stands; leads = f.leads; from_is = f.from_is }

  first_past : (k : ℕ) (e : Edge) → length xs ≤ k → First ys (k - length xs) e → First (xs ++ ys) k e
  first_past k e le f = record { place = length xs + f.place; before = omega (arith, f.before); other = f.other; stands = get_past xs ys f.place ∙ f.stands; leads = f.leads; from_is = f.from_is }

  pub paired_both : ArePaired xs → ArePaired ys → ArePaired (xs ++ ys)
  paired_both p q = record {
    second = λ k e a h o. elim (get_either xs ys k e h) [ inl g ↦ second_front k e a (p.second k e a g o) | inr g ↦ second_past k e a g.0 (q.second (k - length xs) e a g.1 o) ];
    first = λ k e h o. elim (get_either xs ys k e h) [ inl g ↦ first_front k e (p.first k e g o) | inr g ↦ first_past k e g.0 (q.first (k - length xs) e g.1 o) ];
  }

-- an edge that leaves the point
pub record IsLeft (edges : List Edge) (q : ℕ) : Type 0 where
  pub place : ℕ
  pub edge : Edge
  pub stands : slice_get edges place ≡ Some edge
  pub from_is : edge.from ≡ q

pub left_front : (xs ys : List Edge) (q : ℕ) → IsLeft xs q → IsLeft (xs ++ ys) q
left_front xs ys q l = record { place = l.place; edge = l.edge; stands = get_front xs ys l.place (slice_get_within xs l.place l.edge l.stands) ∙ l.stands; from_is = l.from_is }

pub left_past : (xs ys : List Edge) (q : ℕ) → IsLeft ys q → IsLeft (xs ++ ys) q
left_past xs ys q l = record { place = length xs + l.place; edge = l.edge; stands = get_past xs ys l.place ∙ l.stands; from_is = l.from_is }

-- an action that is neither of two ways
pub record IsPlain (a : Act) : Type 0 where
  pub opens : other_way a ≡ None
  pub closes : is_other_way a ≡ false

module _ (e : Edge) (p : IsPlain e.act) where
  second_of : (k : ℕ) (d : Edge) (a : Act) → slice_get (e ∷ []) k ≡ Some d → other_way d.act ≡ Some a → Second (e ∷ []) k d a
  second_of zero d a h o = absurd (none-some a (sym p.opens ∙ ap (λ (x : Edge). other_way x.act) (same_some h) ∙ o))
  second_of (suc k) d a h o = absurd (no_edge k d h)

  first_of : (k : ℕ) (d : Edge) → slice_get (e ∷ []) k ≡ Some d → is_other_way d.act ≡ true → First (e ∷ []) k d
  first_of zero d h o = absurd (true≢false (sym o ∙ ap (λ (x : Edge). is_other_way x.act) (sym (same_some h)) ∙ p.closes))
  first_of (suc k) d h o = absurd (no_edge k d h)

  pub paired_one : ArePaired (e ∷ [])
  paired_one = record { second = second_of; first = first_of }

module _ (e f : Edge) (opens : other_way e.act ≡ Some f.act) (not_closed : is_other_way e.act ≡ false) (closed : other_way f.act ≡ None) (same : f.from ≡ e.from) where
  second_two : (k : ℕ) (d : Edge) (a : Act) → slice_get (e ∷ f ∷ []) k ≡ Some d → other_way d.act ≡ Some a → Second (e ∷ f ∷ []) k d a
  second_two zero d a h o = record { other = f; stands = refl; act_is = same_some (sym opens ∙ ap (λ (x : Edge). other_way x.act) (same_some h) ∙ o); from_is = same ∙ ap (λ (x : Edge). x.from) (same_some h) }
  second_two (suc zero) d a h o = absurd (none-some a (sym closed ∙ ap (λ (x : Edge). other_way x.act) (same_some h) ∙ o))
  second_two (suc (suc k)) d a h o = absurd (no_edge k d h)

  first_two : (k : ℕ) (d : Edge) → slice_get (e ∷ f ∷ []) k ≡ Some d → is_other_way d.act ≡ true → First (e ∷ f ∷ []) k d
  first_two zero d h o = absurd (true≢false (sym o ∙ ap (λ (x : Edge). is_other_way x.act) (sym (same_some h)) ∙ not_closed))
  first_two (suc zero) d h o = record { place = 0; before = refl; other = e; stands = refl; leads = opens ∙ ap (λ (x : Edge). Some x.act) (same_some h); from_is = sym same ∙ ap (λ (x : Edge). x.from) (same_some h) }
  first_two (suc (suc k)) d h o = absurd (no_edge k d h)

  pub paired_two : ArePaired (e ∷ f ∷ [])
  paired_two = record { second = second_two; first = first_two }
