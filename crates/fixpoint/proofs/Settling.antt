-- Nodes without a mark: they have their equations' values, and so has each node before a place that is not the head of a component around it.
use Rattle.std.proofs.Common.{◌≡◌, ℕ, ◌+◌, ◌<◌, ◌≤◌, max, Bool, List, Option, Some, None, refl, sym, ap, subst, ◌∙◌, inl, inr, arith}
use Rattle.std.specs.Prelude.{IsTrue, IsFalse, ◌≢◌, ◌⊎◌}
use Rattle.std.specs.List.{Contains}
use Rattle.std.proofs.lemmas.Bool.{both_ways, cases_Bool, cases_eq, false_from_ne_true}
use Rattle.lattice.specs.Lattice.{Ops, IsLattice}
use Rattle.weak_order.specs.Order.{Layout, IsHeadAround, IsWeakOrder}
use Rattle.fixpoint.specs.Ascent.{met, IsStable, IsStableAt}
use Rattle.fixpoint.specs.Marks.{Visits, has_mark}
use Rattle.fixpoint.specs.Passing.{node_at, end_at}
use Rattle.fixpoint.specs.System.{System, Reads, element, IsTable, IsSystem}
use Rattle.fixpoint.proofs.Places.{IsPlaced, IsClosed, bound, closed_enter, closed_leave}

-- a node has its equation's value, met with its limit, or one above it if it is a head
pub record IsSettled {V : Type 0} (o : Ops V) (s : System V) (layout : Layout) (limits t : List V) (p : ℕ) : Type 0 where
  pub stable : IsStableAt o s limits t (node_at layout p)
  pub exact : end_at layout p ≤ p → element o t (node_at layout p) ≡ met o s limits t (node_at layout p)

-- so has each node without a mark
abbrev pub AreSettled : {V : Type 0} → Ops V → System V → Layout → List V → List Bool → List V → Type 0
AreSettled o s layout limits marks t = (p : ℕ) → p < s.nodes → IsFalse (has_mark marks (node_at layout p)) → IsSettled o s layout limits t p

-- the closed nodes before a place have no mark
abbrev pub AreClosed : Layout → ℕ → Option ℕ → List Bool → Type 0
AreClosed layout place inside marks = (q : ℕ) → q < place → IsClosed layout inside q → IsFalse (has_mark marks (node_at layout q))

module _ {V P : Type 0} {has : V → P → Type 0} (o : Ops V) (laws : IsLattice o has) (s : System V) where
  same_or_differs : (x y : V) → o.shape x ≡ o.shape y → (x ≡ y) ⊎ (x ≢ y)
  same_or_differs x y alike = elim (cases_Bool (o.below x y)) [
    | inl below ↦ elim (cases_Bool (o.below y x)) [
      | inl above ↦ inl (laws.below_both x y alike below above)
      | inr not_above ↦ inr (λ same. both_ways (o.below y x) not_above (subst (λ (z : V). IsTrue (o.below z x)) same (laws.below_itself x)))
    ]
    | inr not_below ↦ inr (λ same. both_ways (o.below x y) not_below (subst (λ (z : V). IsTrue (o.below x z)) same (laws.below_itself x)))
  ]

  -- what a node without a mark reads has not changed in a visit
  pub reads_kept : (k m r : ℕ) (t u : List V) (marks after : List Bool) (c d : ℕ) → IsTable o s t → IsTable o s u → k < s.nodes → m < s.nodes
      → ((r : ℕ) → r ≢ k → element o u r ≡ element o t r) → Visits o s k t u marks after c d → IsFalse (has_mark after m) → Contains (s.reads m) r
      → element o u r ≡ element o t r
  reads_kept k m r t u marks after c d fits_t fits_u below_k below_m elsewhere visits unmarked reads = elim (cases_eq r k) [
    | inl same ↦ elim (same_or_differs (element o u k) (element o t k) (fits_u.shapes k below_k ∙ sym (fits_t.shapes k below_k))) [
      | inl kept ↦ subst (λ (i : ℕ). element o u i ≡ element o t i) (sym same) kept
      | inr differs ↦ absurd (both_ways (has_mark after m) unmarked
          (visits.added m below_m (subst (λ (i : ℕ). Contains (s.reads m) i) same reads) differs))
    ]
    | inr other ↦ elsewhere r other
  ]

  pub unmarked_before : (k m : ℕ) (t u : List V) (marks after : List Bool) (c d : ℕ) → Visits o s k t u marks after c d → m ≢ k
      → IsFalse (has_mark after m) → IsFalse (has_mark marks m)
  unmarked_before k m t u marks after c d visits other unmarked =
      false_from_ne_true (has_mark marks m) (λ marked. both_ways (has_mark after m) unmarked (visits.kept m other marked))

module _ {V P : Type 0} {has : V → P → Type 0} (o : Ops V) (laws : IsLattice o has) (s : System V) (system : IsSystem o s)
    (layout : Layout) (limits : List V) (order : IsWeakOrder (Reads s) s.nodes layout) where
  pub node_below : (p : ℕ) → p < s.nodes → node_at layout p < s.nodes
  node_below p below = order.in_range p below

  pub apart : (p q : ℕ) → p < s.nodes → q < s.nodes → p ≢ q → node_at layout p ≢ node_at layout q
  apart p q below_p below_q differs same = differs (order.once p q below_p below_q same)

  -- a visit keeps nodes settled where it settles its own
  module _ (p : ℕ) (t u : List V) (marks after : List Bool) (c d : ℕ) (below : p < s.nodes) (fits_t : IsTable o s t) (fits_u : IsTable o s u)
      (elsewhere : (r : ℕ) → r ≢ node_at layout p → element o u r ≡ element o t r) (visits : Visits o s (node_at layout p) t u marks after c d) where
    met_kept : (q : ℕ) → q < s.nodes → IsFalse (has_mark after (node_at layout q)) → met o s limits u (node_at layout q) ≡ met o s limits t (node_at layout q)
    met_kept q below_q unmarked =
        ap (λ (v : V). o.meet v (element o limits (node_at layout q)))
        (system.local (node_at layout q) u t (node_below q below_q) fits_u fits_t
        (λ r. reads_kept o laws s (node_at layout p) (node_at layout q) r t u marks after c d fits_t fits_u (node_below p below) (node_below q below_q) elsewhere visits unmarked))

    pub settled_after : IsTrue (o.below (met o s limits t (node_at layout p)) (element o u (node_at layout p)))
        → (end_at layout p ≤ p → element o u (node_at layout p) ≡ met o s limits t (node_at layout p))
        → AreSettled o s layout limits marks t → AreSettled o s layout limits after u
    settled_after stable exact settled q below_q unmarked = elim (cases_eq q p) [
      | inl same ↦ subst (λ (i : ℕ). IsSettled o s layout limits u i) (sym same)
          (let kept = met_kept p below (rw same at unmarked) in
          record { stable = rw kept stable; exact = λ short. exact short ∙ sym kept })
      | inr differs ↦
          let other = apart q p below_q below differs in
          let before = settled q below_q (unmarked_before o laws s (node_at layout p) (node_at layout q) t u marks after c d visits other unmarked) in
          let kept = met_kept q below_q unmarked in
          let here = elsewhere (node_at layout q) other in
          record { stable = rw (kept, here) before.stable; exact = λ short. here ∙ before.exact short ∙ sym kept }
    ]

  -- a visit marks a closed node only if it is its own, or reads it
  closed_kept : (p q : ℕ) (t u : List V) (marks after : List Bool) (c d : ℕ) → Visits o s (node_at layout p) t u marks after c d
      → IsFalse (has_mark marks (node_at layout q)) → ¬ (Reads s (node_at layout p) (node_at layout q) × (element o u (node_at layout p) ≢ element o t (node_at layout p)))
      → IsFalse (has_mark after (node_at layout q))
  closed_kept p q t u marks after c d visits unmarked reads_not =
      false_from_ne_true (has_mark after (node_at layout q)) (λ marked. elim (visits.only (node_at layout q) marked) [
        | inl before ↦ both_ways (has_mark marks (node_at layout q)) unmarked before.1
        | inr reads ↦ reads_not reads
      ])

  -- nor does it keep the mark of its own
  own_kept : (p : ℕ) (t u : List V) (marks after : List Bool) (c d : ℕ) → Visits o s (node_at layout p) t u marks after c d
      → ¬ (Reads s (node_at layout p) (node_at layout p) × (element o u (node_at layout p) ≢ element o t (node_at layout p)))
      → IsFalse (has_mark after (node_at layout p))
  own_kept p t u marks after c d visits reads_not =
      false_from_ne_true (has_mark after (node_at layout p)) (λ marked. elim (visits.only (node_at layout p) marked) [
        | inl before ↦ before.0 refl
        | inr reads ↦ reads_not reads
      ])

  reads_later : (p q : ℕ) → p < s.nodes → q < s.nodes → Reads s (node_at layout p) (node_at layout q) → p < max q (end_at layout q)
  reads_later p q below_p below_q reads = order.leads q p below_q below_p reads

  -- past a node
  pub closed_node : (p : ℕ) (inside : Option ℕ) (t u : List V) (marks after : List Bool) (c d : ℕ) → p < s.nodes → IsPlaced layout s.nodes p inside
      → end_at layout p ≤ p → Visits o s (node_at layout p) t u marks after c d → AreClosed layout p inside marks → AreClosed layout (p + 1) inside after
  closed_node p inside t u marks after c d below placed short visits closed q before way = elim (cases_eq q p) [
    | inl same ↦ subst (λ (i : ℕ). IsFalse (has_mark after (node_at layout i))) (sym same)
        (own_kept p t u marks after c d visits (λ reads. let later = reads_later p p below below reads.0 in omega (arith, later, short)))
    | inr differs ↦
        let earlier : q < p = omega (arith, before, differs) in
        let ends : end_at layout q ≤ p = elim way [ inl least ↦ placed.ended q least earlier | inr ends_early ↦ omega (arith, ends_early, placed.begun) ] in
        closed_kept p q t u marks after c d visits (closed q earlier way)
        (λ reads. let later = reads_later p q below (omega (arith, earlier, below)) reads.0 in omega (arith, later, earlier, ends))
  ]

  -- into a component
  pub closed_entered : (p : ℕ) (inside : Option ℕ) (t u : List V) (marks after : List Bool) (c d : ℕ) → p < s.nodes → IsPlaced layout s.nodes p inside
      → p < bound layout s.nodes inside → p < end_at layout p → Visits o s (node_at layout p) t u marks after c d
      → AreClosed layout p inside marks → AreClosed layout (p + 1) (Some p) after
  closed_entered p inside t u marks after c d below placed in_bound long visits closed q before way =
      let ends : end_at layout q < p + 1 = elim way [ inl least ↦ absurd (omega (arith, least, before)) | inr ends_early ↦ ends_early ] in
      elim (cases_eq q p) [
        | inl same ↦ let here : p < end_at layout q = subst (λ (i : ℕ). p < end_at layout i) (sym same) long in absurd (omega (arith, here, ends))
        | inr differs ↦
            let earlier : q < p = omega (arith, before, differs) in
            closed_kept p q t u marks after c d visits
            (closed q earlier (closed_enter layout s.nodes order p inside q placed in_bound below earlier (omega (arith, ends))))
            (λ reads. let later = reads_later p q below (omega (arith, earlier, below)) reads.0 in omega (arith, later, earlier, ends))
      ]

  -- to the head again
  pub closed_again : (h : ℕ) (t u : List V) (marks after : List Bool) (c d : ℕ) → h < s.nodes → h < end_at layout h
      → Visits o s (node_at layout h) t u marks after c d → AreClosed layout (end_at layout h) (Some h) marks → AreClosed layout (h + 1) (Some h) after
  closed_again h t u marks after c d below long visits closed q before way =
      let ends : end_at layout q < h + 1 = elim way [ inl least ↦ absurd (omega (arith, least, before)) | inr ends_early ↦ ends_early ] in
      elim (cases_eq q h) [
        | inl same ↦ let here : h < end_at layout q = subst (λ (i : ℕ). h < end_at layout i) (sym same) long in absurd (omega (arith, here, ends))
        | inr differs ↦
            let earlier : q < h = omega (arith, before, differs) in
            closed_kept h q t u marks after c d visits (closed q (omega (arith, earlier, long)) (inr ends))
            (λ reads. let later = reads_later h q below (omega (arith, earlier, below)) reads.0 in omega (arith, later, earlier, ends))
      ]

  -- out of a component
  pub closed_left : (h : ℕ) (outer : Option ℕ) (t u : List V) (marks after : List Bool) (c d : ℕ) → h < s.nodes → IsHeadAround layout.ends h outer
      → element o u (node_at layout h) ≡ element o t (node_at layout h)
      → Visits o s (node_at layout h) t u marks after c d → AreClosed layout (end_at layout h) (Some h) marks → AreClosed layout (end_at layout h) outer after
  closed_left h outer t u marks after c d below around same visits closed q before way = elim (cases_eq q h) [
    | inl here ↦ subst (λ (i : ℕ). IsFalse (has_mark after (node_at layout i))) (sym here)
        (own_kept h t u marks after c d visits (λ reads. reads.1 same))
    | inr differs ↦
        closed_kept h q t u marks after c d visits (closed q before (closed_leave layout s.nodes order h outer q below around differs way))
        (λ reads. reads.1 same)
  ]

  -- where all are closed, all equations are satisfied
  pub stable_all : (marks : List Bool) (t : List V) → AreSettled o s layout limits marks t → AreClosed layout s.nodes None marks → IsStable o s limits t
  stable_all marks t settled closed k below =
      let at = order.placed k below in
      subst (λ (i : ℕ). IsStableAt o s limits t i) at.2 (settled at.0 at.1 (closed at.0 at.1 (inl (omega arith)))).stable
