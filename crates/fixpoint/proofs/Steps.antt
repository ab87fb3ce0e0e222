-- The step of a pass at a place: what it writes, which nodes it leaves up to date, and how much the heads can still shrink.
use Rattle.std.proofs.Common.{◌≡◌, ℕ, zero, suc, ◌+◌, ◌<◌, ◌≤◌, Bool, true, false, List, refl, sym, ap, subst, ◌∙◌, set, inl, inr, arith}
use Rattle.std.specs.Prelude.{◌≢◌, if◌then◌else◌, IsFalse}
use Rattle.std.proofs.lemmas.Bool.{cases_Bool, cases_eq, cases_lt, le-ltb, lt-ltb}
use Rattle.std.proofs.lemmas.List.{set-get_or}
use Rattle.lattice.specs.Lattice.{Ops, IsLattice, AreAlike}
use Rattle.weak_order.specs.Order.{Layout, IsWeakOrder}
use Rattle.fixpoint.specs.Marks.{Visits, has_mark}
use Rattle.fixpoint.specs.Passing.{node_at, end_at, begins_component, stepped, ChangesHead, IsUpToDate, KeepsHead, slack}
use Rattle.fixpoint.specs.System.{System, Reads, element, IsTable, IsSystem}
use Rattle.fixpoint.proofs.Settling.{apart, node_below, reads_kept, unmarked_before}
use Rattle.fixpoint.proofs.Tables.{element-set_same, element-set_other, table_written}

module _ {V P : Type 0} {has : V → P → Type 0} (o : Ops V) (laws : IsLattice o has) (s : System V) (system : IsSystem o s)
    (layout : Layout) (limits : List V) (order : IsWeakOrder (Reads s) s.nodes layout) (limits_fit : IsTable o s limits) where
  below_at : (p : ℕ) → p < s.nodes → node_at layout p < s.nodes
  below_at p below = node_below o laws s system layout limits order p below

  -- what a step makes of an element
  abbrev pub shrunk : Bool → V → V → V → V
  shrunk head x y l = if head then o.narrow x y l else o.meet x y

  abbrev pub step_value : List V → ℕ → V
  step_value t p =
      shrunk (begins_component layout p) (element o t (node_at layout p)) (s.value (node_at layout p) t) (element o limits (node_at layout p))

  pub stepped_is : (t : List V) (p : ℕ) → stepped o s layout limits p t ≡ set t (node_at layout p) (step_value t p)
  stepped_is t p = elim (cases_Bool (begins_component layout p)) [ inl a ↦ rw a refl | inr a ↦ rw a refl ]

  pub stepped_by : (t u : List V) (p k : ℕ) (y : V) (head : Bool) → k ≡ node_at layout p → y ≡ s.value k t → head ≡ begins_component layout p
      → u ≡ set t k (shrunk head (element o t k) y (element o limits k)) → u ≡ stepped o s layout limits p t
  stepped_by t u p k y head at is begins made =
      let written : set t k (shrunk head (element o t k) y (element o limits k)) ≡ set t (node_at layout p) (step_value t p) = rw (is, begins, at) refl in
      made ∙ written ∙ sym (stepped_is t p)

  pub may_narrow : (t : List V) (k : ℕ) → k < s.nodes → IsTable o s t → AreAlike o (element o t k) (s.value k t) (element o limits k)
  may_narrow t k below fits = record {
    left = fits.shapes k below ∙ sym (limits_fit.shapes k below);
    right = system.shapes k t below fits ∙ sym (limits_fit.shapes k below);
  }

  pub may_meet : (t : List V) (k : ℕ) → k < s.nodes → IsTable o s t → o.shape (element o t k) ≡ o.shape (s.value k t)
  may_meet t k below fits = fits.shapes k below ∙ sym (system.shapes k t below fits)

  step_shape : (t : List V) (p : ℕ) → p < s.nodes → IsTable o s t → o.shape (step_value t p) ≡ s.shape (node_at layout p)
  step_shape t p below fits =
      let k = node_at layout p in
      let at = below_at p below in
      elim (cases_Bool (begins_component layout p)) [
        | inl a ↦ rw a (laws.narrow_shape (element o t k) (s.value k t) (element o limits k) (may_narrow t k at fits) ∙ limits_fit.shapes k at)
        | inr a ↦ rw a (laws.meet_shape (element o t k) (s.value k t) (may_meet t k at fits) ∙ fits.shapes k at)
      ]

  pub stepped_fits : (t : List V) (p : ℕ) → p < s.nodes → IsTable o s t → IsTable o s (stepped o s layout limits p t)
  stepped_fits t p below fits =
      rw (stepped_is t p) (table_written o s t (node_at layout p) (step_value t p) fits (below_at p below) (step_shape t p below fits))

  pub stepped_at : (t : List V) (p : ℕ) → p < s.nodes → IsTable o s t → element o (stepped o s layout limits p t) (node_at layout p) ≡ step_value t p
  stepped_at t p below fits =
      ap (λ (w : List V). element o w (node_at layout p)) (stepped_is t p)
      ∙ element-set_same o t (node_at layout p) (step_value t p) (rw fits.size (below_at p below))

  pub stepped_other : (t : List V) (p k : ℕ) → k ≢ node_at layout p → element o (stepped o s layout limits p t) k ≡ element o t k
  stepped_other t p k differs =
      ap (λ (w : List V). element o w k) (stepped_is t p) ∙ element-set_other o t (node_at layout p) k (step_value t p) differs

  pub stepped_elsewhere : (t : List V) (p j : ℕ) → p < s.nodes → j < s.nodes → j ≢ p
      → element o (stepped o s layout limits p t) (node_at layout j) ≡ element o t (node_at layout j)
  stepped_elsewhere t p j below_p below_j differs =
      stepped_other t p (node_at layout j) (apart o laws s system layout limits order j p below_j below_p differs)

  -- a step that writes what is there
  stays : (t : List V) (p : ℕ) → step_value t p ≡ element o t (node_at layout p) → stepped o s layout limits p t ≡ t
  stays t p same =
      stepped_is t p ∙ ap (λ (v : V). set t (node_at layout p) v) same ∙ set-get_or t (node_at layout p) (o.bottom 0)

  -- by the same value an element shrinks no more
  shrunk_again : (head : Bool) (x y l : V) → AreAlike o x y l → o.shape x ≡ o.shape y → shrunk head (shrunk head x y l) y l ≡ shrunk head x y l
  shrunk_again true x y l alike same = laws.narrow_again x y l alike
  shrunk_again false x y l alike same =
      laws.meet_of_below (o.meet x y) y (laws.meet_shape x y same ∙ same) (laws.meet_element x y same) (laws.meet_below_right x y same)

  -- a step leaves up to date what its visit leaves unmarked
  module _ (p : ℕ) (t u : List V) (marks after : List Bool) (c d : ℕ) (below : p < s.nodes) (fits : IsTable o s t)
      (is : u ≡ stepped o s layout limits p t) (visits : Visits o s (node_at layout p) t u marks after c d) where
    fits_after : IsTable o s u
    fits_after = rw is (stepped_fits t p below fits)

    other_after : (k : ℕ) → k ≢ node_at layout p → element o u k ≡ element o t k
    other_after k differs = rw is (stepped_other t p k differs)

    here_after : element o u (node_at layout p) ≡ step_value t p
    here_after = rw is (stepped_at t p below fits)

    value_kept : (q : ℕ) → q < s.nodes → IsFalse (has_mark after (node_at layout q)) → s.value (node_at layout q) u ≡ s.value (node_at layout q) t
    value_kept q below_q unmarked =
        system.local (node_at layout q) u t (below_at q below_q) fits_after fits
        (λ r. reads_kept o laws s (node_at layout p) (node_at layout q) r t u marks after c d fits fits_after (below_at p below) (below_at q below_q)
        other_after visits unmarked)

    own_kept : IsFalse (has_mark after (node_at layout p)) → step_value u p ≡ element o u (node_at layout p)
    own_kept unmarked =
        let k = node_at layout p in
        let at = below_at p below in
        let head = begins_component layout p in
        let again = shrunk_again head (element o t k) (s.value k t) (element o limits k) (may_narrow t k at fits) (may_meet t k at fits) in
        ap (λ (v : V). shrunk head v (s.value k u) (element o limits k)) here_after
        ∙ ap (λ (v : V). shrunk head (step_value t p) v (element o limits k)) (value_kept p below unmarked)
        ∙ again ∙ sym here_after

    other_kept : (q : ℕ) → q < s.nodes → q ≢ p → IsFalse (has_mark after (node_at layout q)) → stepped o s layout limits q t ≡ t
        → step_value u q ≡ element o u (node_at layout q)
    other_kept q below_q differs unmarked before =
        let k = node_at layout q in
        let same = other_after k (apart o laws s system layout limits order q p below_q below differs) in
        let head = begins_component layout q in
        ap (λ (v : V). shrunk head v (s.value k u) (element o limits k)) same
        ∙ ap (λ (v : V). shrunk head (element o t k) v (element o limits k)) (value_kept q below_q unmarked)
        ∙ sym (stepped_at t q below_q fits) ∙ ap (λ (w : List V). element o w k) before ∙ sym same

    pub up_to_date_after : IsUpToDate o s layout limits marks t → IsUpToDate o s layout limits after u
    up_to_date_after up q below_q unmarked = elim (cases_eq q p) [
      | inl same ↦ subst (λ (i : ℕ). stepped o s layout limits i u ≡ u) (sym same)
          (stays u p (own_kept (subst (λ (i : ℕ). IsFalse (has_mark after (node_at layout i))) same unmarked)))
      | inr differs ↦
          let other = apart o laws s system layout limits order q p below_q below differs in
          let before = up q below_q (unmarked_before o laws s (node_at layout p) (node_at layout q) t u marks after c d visits other unmarked) in
          stays u q (other_kept q below_q differs unmarked before)
    ]

  -- a place's part of the slack
  abbrev part : List V → ℕ → ℕ
  part t p = if begins_component layout p then o.narrowing_rank (element o limits (node_at layout p)) (element o t (node_at layout p)) else 0

  slack_kept : (n : ℕ) (t u : List V) → ((j : ℕ) → j < n → part u j ≤ part t j) → slack o layout limits u n ≤ slack o layout limits t n
  slack_kept zero t u each = omega arith
  slack_kept (suc n) t u each =
      let before = slack_kept n t u (λ j lower. each j (omega (arith, lower))) in
      let last : part u n ≤ part t n = each n (omega arith) in
      slack_sum _ _ _ _ before last
    where
      slack_sum : (a b c d : ℕ) → a ≤ b → c ≤ d → a + c ≤ b + d
      slack_sum a b c d p q = omega (arith, p, q)

  slack_less : (n p : ℕ) (t u : List V) → p < n → ((j : ℕ) → j < n → j ≢ p → part u j ≤ part t j) → part u p < part t p
      → slack o layout limits u n < slack o layout limits t n
  slack_less zero p t u below elsewhere here = absurd (omega (arith, below))
  slack_less (suc n) p t u below elsewhere here = elim (cases_eq p n) [
    | inl same ↦
        let before = slack_kept n t u (λ j lower. elsewhere j (omega (arith, lower)) (omega (arith, lower, same))) in
        let last = subst (λ (i : ℕ). part u i < part t i) same here in
        first_sum _ _ _ _ before last
    | inr differs ↦
        let before = slack_less n p t u (omega (arith, below, differs)) (λ j lower. elsewhere j (omega (arith, lower))) here in
        let last = elsewhere n (omega arith) (λ e. differs (sym e)) in
        second_sum _ _ _ _ before last
  ]
    where
      first_sum : (a b c d : ℕ) → a ≤ b → c < d → a + c < b + d
      first_sum a b c d p q = omega (arith, p, q)

      second_sum : (a b c d : ℕ) → a < b → c ≤ d → a + c < b + d
      second_sum a b c d p q = omega (arith, p, q)

  part_same : (t u : List V) (j : ℕ) → element o u (node_at layout j) ≡ element o t (node_at layout j) → part u j ≤ part t j
  part_same t u j same = rw same (omega arith)

  no_part : (t u : List V) (j : ℕ) → end_at layout j ≤ j → part u j ≤ part t j
  no_part t u j short = rw (le-ltb j (end_at layout j) short) (omega arith)

  -- a step that changes no head
  pub slack_at_false : (t : List V) (p : ℕ) → p < s.nodes → KeepsHead o layout t (stepped o s layout limits p t) p
      → slack o layout limits (stepped o s layout limits p t) s.nodes ≤ slack o layout limits t s.nodes
  slack_at_false t p below keeps =
      slack_kept s.nodes t (stepped o s layout limits p t) (λ j lower. elim (cases_eq j p) [
        | inl same ↦ elim (cases_lt j (end_at layout j)) [
          | inl long ↦ part_same t (stepped o s layout limits p t) j (rw same (keeps (rw same at long)))
          | inr short ↦ no_part t (stepped o s layout limits p t) j short
        ]
        | inr differs ↦ part_same t (stepped o s layout limits p t) j (stepped_elsewhere t p j below lower differs)
      ])

  -- a step that changes a head
  pub slack_at_true : (t : List V) (p : ℕ) → p < s.nodes → IsTable o s t → ChangesHead o layout t (stepped o s layout limits p t) p
      → slack o layout limits (stepped o s layout limits p t) s.nodes < slack o layout limits t s.nodes
  slack_at_true t p below fits changes =
      let k = node_at layout p in
      let at = below_at p below in
      let head : begins_component layout p ≡ true = lt-ltb p (end_at layout p) changes.0 in
      let low = o.narrow (element o t k) (s.value k t) (element o limits k) in
      let written : element o (stepped o s layout limits p t) k ≡ low =
      rw head (element-set_same o t k low (rw fits.size at)) in
      let differs : low ≢ element o t k = λ same. changes.1 (written ∙ same) in
      let part_before : part t p ≡ o.narrowing_rank (element o limits k) (element o t k) = rw head refl in
      let part_after : part (stepped o s layout limits p t) p ≡ o.narrowing_rank (element o limits k) (element o (stepped o s layout limits p t) k) = rw head refl in
      let falls = laws.narrow_falls (element o t k) (s.value k t) (element o limits k) (may_narrow t k at fits) differs in
      slack_less s.nodes p t (stepped o s layout limits p t) below
      (λ j lower other. part_same t (stepped o s layout limits p t) j (stepped_elsewhere t p j below lower other))
      (less_from _ _ _ _ part_after part_before (rw written falls))
    where
      less_from : (a b c d : ℕ) → a ≡ c → b ≡ d → c < d → a < b
      less_from a b c d p q r = omega (arith, p, q, r)
