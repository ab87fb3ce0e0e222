-- Where an ascent stands in an order, and how it moves on.
use Rattle.std.proofs.Common.{◌≡◌, ℕ, zero, suc, ◌+◌, ◌<◌, ◌≤◌, Option, Some, None, refl, sym, ap, subst, ◌∙◌, inl, inr, arith, nat_lt}
use Rattle.std.specs.Prelude.{if◌then◌else◌, ◌⊎◌, ◌≢◌}
use Rattle.std.proofs.lemmas.Bool.{cases_eq, cases_lt, le-ltb, lt-ltb}
use Rattle.weak_order.specs.Order.{Layout, IsHeadAround, IsWeakOrder}
use Rattle.fixpoint.specs.Passing.{end_at}

-- the first place inside a component whose head has a place, or outside all, and one past its last
abbrev pub from : Option ℕ → ℕ
from None = 0
from (Some h) = h + 1

abbrev pub bound : Layout → ℕ → Option ℕ → ℕ
bound layout n None = n
bound layout n (Some h) = end_at layout h

-- a walk stands before a place, inside a component, and all other components that were begun inside it are ended
pub record IsPlaced (layout : Layout) (n place : ℕ) (inside : Option ℕ) : Type 0 where
  pub known : from inside ≤ n
  pub begun : from inside ≤ place
  pub to_bound : place ≤ bound layout n inside
  pub ended : (q : ℕ) → from inside ≤ q → q < place → end_at layout q ≤ place

-- a place before, of a node or of a component that is ended
abbrev pub IsClosed : Layout → Option ℕ → ℕ → Type 0
IsClosed layout inside q = (from inside ≤ q) ⊎ (end_at layout q < from inside)

-- how many of the components that begin at the first m places contain a place
abbrev pub openers : Layout → ℕ → ℕ → ℕ
openers layout place zero = 0
openers layout place (suc m) = openers layout place m + (if nat_lt place (end_at layout m) then 1 else 0)

-- how many components a walk is inside
abbrev pub depth : Layout → Option ℕ → ℕ
depth layout None = 0
depth layout (Some h) = openers layout h (h + 1)

openers_same : (layout : Layout) (p q m : ℕ) → ((k : ℕ) → k < m → nat_lt p (end_at layout k) ≡ nat_lt q (end_at layout k))
    → openers layout p m ≡ openers layout q m
openers_same layout p q zero same = refl
openers_same layout p q (suc m) same =
    let before = openers_same layout p q m (λ k below. same k (omega (arith, below))) in
    rw (same m (omega arith), before) refl

openers_none : (layout : Layout) (p m all : ℕ) → m ≤ all → ((k : ℕ) → m ≤ k → k < all → end_at layout k ≤ p) → openers layout p all ≡ openers layout p m
openers_none layout p m zero least none = let same : zero ≡ m = omega (arith, least) in ap (openers layout p) same
openers_none layout p m (suc all) least none = elim (cases_lt all m) [
  | inl h ↦ let same : suc all ≡ m = omega (arith, least, h) in ap (openers layout p) same
  | inr h ↦
      let before = openers_none layout p m all h (λ k from_m to. none k from_m (omega (arith, to))) in
      rw (le-ltb p (end_at layout all) (none all h (omega arith))) (omega (arith, before))
]

-- two heads around a place are one
pub one_head_around : (layout : Layout) (place : ℕ) (x y : Option ℕ) → IsHeadAround layout.ends place x → IsHeadAround layout.ends place y → x ≡ y
one_head_around layout place None None a b = refl
one_head_around layout place None (Some g) a b = absurd (omega (arith, a g b.before, b.contains))
one_head_around layout place (Some h) None a b = absurd (omega (arith, b h a.before, a.contains))
one_head_around layout place (Some h) (Some g) a b = elim (cases_lt h g) [
  | inl less ↦ absurd (omega (arith, a.between g less b.before, b.contains))
  | inr more ↦ elim (cases_lt g h) [
    | inl less ↦ absurd (omega (arith, b.between h less a.before, a.contains))
    | inr same ↦ let e : h ≡ g = omega (arith, more, same) in ap Some e
  ]
]

module _ {Leads : ℕ → ℕ → Type 0} (layout : Layout) (n : ℕ) (order : IsWeakOrder Leads n layout) where
  pub bound_within : (place : ℕ) (inside : Option ℕ) → IsPlaced layout n place inside → bound layout n inside ≤ n
  bound_within place None placed = omega arith
  bound_within place (Some h) placed = order.within h (omega (arith, placed.known))

  pub placed_first : IsPlaced layout n 0 None
  placed_first = record { known = omega arith; begun = omega arith; to_bound = omega arith; ended = λ q _ before. absurd (omega (arith, before)) }

  -- past a node
  pub placed_node : (place : ℕ) (inside : Option ℕ) → IsPlaced layout n place inside → place < bound layout n inside → end_at layout place ≤ place
      → IsPlaced layout n (place + 1) inside
  placed_node place inside placed below short = record {
    known = placed.known;
    begun = omega (arith, placed.begun);
    to_bound = omega (arith, below);
    ended = λ q least before. elim (cases_eq q place) [
      | inl same ↦ subst (λ (i : ℕ). end_at layout i ≤ place + 1) (sym same) (omega (arith, short))
      | inr differs ↦ omega (arith, placed.ended q least (omega (arith, before, differs)))
    ];
  }

  -- into a component
  pub placed_enter : (place : ℕ) → place < n → place < end_at layout place → IsPlaced layout n (place + 1) (Some place)
  placed_enter place below long = record {
    known = omega (arith, below);
    begun = omega arith;
    to_bound = omega (arith, long);
    ended = λ q least before. absurd (omega (arith, least, before));
  }

  pub around_entered : (place : ℕ) (inside : Option ℕ) → IsPlaced layout n place inside → place < bound layout n inside
      → IsHeadAround layout.ends place inside
  around_entered place None placed below = λ q before. placed.ended q (omega arith) before
  around_entered place (Some h) placed below = record {
    before = omega (arith, placed.begun);
    contains = below;
    between = λ q after before. placed.ended q (omega (arith, after)) before;
  }

  -- out of one
  inner : (h q : ℕ) → h < n → h < end_at layout h → h ≤ q → q < end_at layout h → end_at layout q ≤ end_at layout h
  inner h q below long least before = order.nested h q least before below

  ended_by : (h : ℕ) (a : ℕ) → h < n → h < end_at layout h → ((q : ℕ) → a ≤ q → q < h → end_at layout q ≤ h)
      → (q : ℕ) → a ≤ q → q < end_at layout h → end_at layout q ≤ end_at layout h
  ended_by h a below long outer q least before = elim (cases_lt q h) [
    | inl left ↦ omega (arith, outer q least left, long)
    | inr right ↦ inner h q below long right before
  ]

  pub placed_leave : (h : ℕ) (outer : Option ℕ) → h < n → h < end_at layout h → IsHeadAround layout.ends h outer
      → IsPlaced layout n (end_at layout h) outer
  placed_leave h None below long around = record {
    known = omega arith;
    begun = omega arith;
    to_bound = order.within h below;
    ended = ended_by h 0 below long (λ q _ before. around q before);
  }
  placed_leave h (Some a) below long around = record {
    known = omega (arith, below, around.before);
    begun = omega (arith, around.before, long);
    to_bound = order.nested a h (omega (arith, around.before)) around.contains (omega (arith, below, around.before));
    ended = ended_by h (a + 1) below long (λ q least before. around.between q (omega (arith, least)) before);
  }

  -- what is closed after a move was closed before it
  pub closed_enter : (place : ℕ) (inside : Option ℕ) (q : ℕ) → IsPlaced layout n place inside → place < bound layout n inside → place < n
      → q < place → end_at layout q ≤ place → IsClosed layout inside q
  closed_enter place None q placed below in_range before short = inl (omega arith)
  closed_enter place (Some h) q placed below in_range before short = elim (cases_lt h q) [
    | inl after ↦ inl (omega (arith, after))
    | inr up_to ↦ elim (cases_eq q h) [
      | inl same ↦ let long : place < end_at layout q = subst (λ (i : ℕ). place < end_at layout i) (sym same) below in absurd (omega (arith, long, short))
      | inr differs ↦ elim (cases_lt h (end_at layout q)) [
        | inl contains ↦
            let around = order.nested q h (omega (arith, up_to)) contains (omega (arith, before, in_range)) in
            absurd (omega (arith, around, below, short))
        | inr ends ↦ inr (omega (arith, ends))
      ]
    ]
  ]

  pub closed_leave : (h : ℕ) (outer : Option ℕ) (q : ℕ) → h < n → IsHeadAround layout.ends h outer → q ≢ h → IsClosed layout outer q
      → IsClosed layout (Some h) q
  closed_leave h outer q below around differs closed = elim (cases_lt h q) [
    | inl after ↦ inl (omega (arith, after))
    | inr up_to ↦ inr (ends_before outer (omega (arith, up_to, differs)) around closed)
  ]
    where
      ends_before : (x : Option ℕ) → q < h → IsHeadAround layout.ends h x → IsClosed layout x q → end_at layout q < h + 1
      ends_before None before a c = omega (arith, a q before)
      ends_before (Some b) before a (inl least) = omega (arith, a.between q (omega (arith, least)) before)
      ends_before (Some b) before a (inr short) = omega (arith, short, a.before)

  -- a walk is one component deeper inside a component than around it
  same_openers : (h a k : ℕ) → h < n → IsHeadAround layout.ends h (Some a) → k < a + 1 → nat_lt h (end_at layout k) ≡ nat_lt a (end_at layout k)
  same_openers h a k below around least = elim (cases_lt a (end_at layout k)) [
    | inl contains ↦
        let wide = order.nested k a (omega (arith, least)) contains (omega (arith, least, around.before, below)) in
        lt-ltb h (end_at layout k) (omega (arith, wide, around.contains)) ∙ sym (lt-ltb a (end_at layout k) contains)
    | inr ends ↦ le-ltb h (end_at layout k) (omega (arith, ends, around.before)) ∙ sym (le-ltb a (end_at layout k) ends)
  ]

  openers_before : (h : ℕ) (outer : Option ℕ) → h < n → IsHeadAround layout.ends h outer → openers layout h h ≡ depth layout outer
  openers_before h None below around = openers_none layout h 0 h (omega arith) (λ k _ before. around k before)
  openers_before h (Some a) below around =
      openers_none layout h (a + 1) h (omega (arith, around.before)) (λ k after before. around.between k (omega (arith, after)) before)
      ∙ openers_same layout h a (a + 1) (λ k. same_openers h a k below around)

  pub depth_inside : (h : ℕ) (outer : Option ℕ) → h < n → h < end_at layout h → IsHeadAround layout.ends h outer
      → depth layout (Some h) ≡ depth layout outer + 1
  depth_inside h outer below long around =
      let next : h + 1 ≡ suc h = omega arith in
      let last : openers layout h (suc h) ≡ openers layout h h + 1 = rw (lt-ltb h (end_at layout h) long) refl in
      ap (openers layout h) next ∙ last ∙ ap (λ (m : ℕ). m + 1) (openers_before h outer below around)
