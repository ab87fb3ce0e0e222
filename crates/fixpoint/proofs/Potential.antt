-- How much the heads can still grow: it falls with each turn that isn't the first, and never rises.
use Rattle.std.proofs.Common.{◌≡◌, ℕ, zero, suc, ◌+◌, ◌-◌, ◌*◌, ◌<◌, ◌≤◌, ℤ, List, sym, ap, subst, ◌∙◌, set, inl, inr, arith, true}
use Rattle.std.specs.Prelude.{IsTrue, IsFalse, ◌≢◌}
use Rattle.std.proofs.Math.Nat.{mul-le-mul_left}
use Rattle.std.proofs.lemmas.Bool.{cases_eq, cases_lt, false≢true}
use Rattle.lattice.specs.Lattice.{Ops, IsLattice, AreSteps}
use Rattle.weak_order.specs.Order.{Layout, IsWeakOrder}
use Rattle.fixpoint.specs.Ascent.{met, evaluated, widened, is_done}
use Rattle.fixpoint.specs.Passing.{node_at, end_at}
use Rattle.fixpoint.specs.Progress.{IsInside}
use Rattle.fixpoint.specs.System.{System, Reads, element, IsSystem, IsTable}
use Rattle.fixpoint.proofs.Settling.{apart, node_below}
use Rattle.fixpoint.proofs.Tables.{element-set_same, element-set_other}
use Rattle.fixpoint.proofs.Updates.{may_widen}

-- how much the heads at the first n places can still grow by these steps, each counted as often as its component has nodes
abbrev pub potential : {V : Type 0} → Ops V → Layout → List V → List ℤ → List V → ℕ → ℕ
potential o layout limits steps t zero = 0
potential o layout limits steps t (suc n) = potential o layout limits steps t n
    + (end_at layout n - n) * o.widening_rank (element o limits (node_at layout n)) steps (element o t (node_at layout n))

module _ {V P : Type 0} {has : V → P → Type 0} (o : Ops V) (laws : IsLattice o has) (s : System V) (system : IsSystem o s)
    (layout : Layout) (limits : List V) (steps : List ℤ) (order : IsWeakOrder (Reads s) s.nodes layout) (limits_fit : IsTable o s limits)
    (rise : AreSteps steps) where
  -- how much the element at a place can still grow
  abbrev pub rank_at : List V → ℕ → ℕ
  rank_at t p = o.widening_rank (element o limits (node_at layout p)) steps (element o t (node_at layout p))

  -- a table in which each place's part of the potential is no greater
  potential_kept : (n : ℕ) (t u : List V)
      → ((j : ℕ) → j < n → (end_at layout j - j) * rank_at u j ≤ (end_at layout j - j) * rank_at t j)
      → potential o layout limits steps u n ≤ potential o layout limits steps t n
  potential_kept zero t u each = omega arith
  potential_kept (suc n) t u each =
      let before : potential o layout limits steps u n ≤ potential o layout limits steps t n = potential_kept n t u (λ j lower. each j (omega (arith, lower))) in
      let last : (end_at layout n - n) * rank_at u n ≤ (end_at layout n - n) * rank_at t n = each n (omega arith) in
      omega (arith, before, last)

  -- and that of one place falls
  potential_less : (n p less : ℕ) (t u : List V) → p < n
      → ((j : ℕ) → j < n → j ≢ p → (end_at layout j - j) * rank_at u j ≤ (end_at layout j - j) * rank_at t j)
      → (end_at layout p - p) * rank_at u p + less ≤ (end_at layout p - p) * rank_at t p
      → potential o layout limits steps u n + less ≤ potential o layout limits steps t n
  potential_less zero p less t u below elsewhere here = absurd (omega (arith, below))
  potential_less (suc n) p less t u below elsewhere here = elim (cases_eq p n) [
    | inl same ↦
        let before : potential o layout limits steps u n ≤ potential o layout limits steps t n =
        potential_kept n t u (λ j lower. elsewhere j (omega (arith, lower)) (omega (arith, lower, same))) in
        let last : (end_at layout n - n) * rank_at u n + less ≤ (end_at layout n - n) * rank_at t n =
        subst (λ (i : ℕ). (end_at layout i - i) * rank_at u i + less ≤ (end_at layout i - i) * rank_at t i) same here in
        omega (arith, before, last)
    | inr differs ↦
        let before : potential o layout limits steps u n + less ≤ potential o layout limits steps t n =
        potential_less n p less t u (omega (arith, below, differs)) (λ j lower. elsewhere j (omega (arith, lower))) here in
        let last : (end_at layout n - n) * rank_at u n ≤ (end_at layout n - n) * rank_at t n =
        elsewhere n (omega arith) (λ e. differs (sym e)) in
        omega (arith, before, last)
  ]

  -- a write at a node changes the rank at its place alone
  rank_elsewhere : (t : List V) (p : ℕ) (v : V) (j : ℕ) → p < s.nodes → j < s.nodes → j ≢ p
      → rank_at (set t (node_at layout p) v) j ≡ rank_at t j
  rank_elsewhere t p v j below_p below_j differs =
      ap (λ (w : V). o.widening_rank (element o limits (node_at layout j)) steps w)
      (element-set_other o t (node_at layout p) (node_at layout j) v
      (apart o laws s system layout limits order j p below_j below_p differs))

  same_product : (w a b : ℕ) → a ≡ b → w * a ≤ w * b
  same_product w a b same = rw same (omega arith)

  -- a node that is no head has no part in it
  pub evaluated_potential : (t : List V) (p : ℕ) → p < s.nodes → end_at layout p ≡ p
      → potential o layout limits steps (evaluated o s limits t (node_at layout p)) s.nodes ≤ potential o layout limits steps t s.nodes
  evaluated_potential t p below ends =
      let u = evaluated o s limits t (node_at layout p) in
      potential_kept s.nodes t u (λ j lower. elim (cases_eq p j) [
        | inl same ↦
            let none : end_at layout j - j ≡ 0 = subst (λ (i : ℕ). end_at layout i - i ≡ 0) same (omega (arith, ends)) in
            rw none (omega arith)
        | inr differs ↦ same_product _ _ _ (rank_elsewhere t p _ j below lower (λ e. differs (sym e)))
      ])

  pub rank_kept : (t : List V) (k : ℕ) → k < s.nodes → IsInside o s limits t
      → o.widening_rank (element o limits k) steps (o.widen (element o t k) (met o s limits t k) (element o limits k) steps)
      ≤ o.widening_rank (element o limits k) steps (element o t k)
  rank_kept t k below inside =
      let x = element o t k in
      let l = element o limits k in
      let wide = o.widen x (met o s limits t k) l steps in
      elim (cases_lt (o.widening_rank l steps x) (o.widening_rank l steps wide)) [
        | inl greater ↦
            let differs : wide ≢ x = λ same. let e = ap (λ (w : V). o.widening_rank l steps w) same in omega (arith, e, greater) in
            omega (arith, laws.widen_falls x (met o s limits t k) l steps (may_widen o laws s system limits limits_fit t k below inside) rise differs, greater)
        | inr less ↦ less
      ]

  -- a component that isn't done after a whole turn lets its head grow
  pub rank_falls : (t : List V) (k : ℕ) → k < s.nodes → IsInside o s limits t → IsFalse (is_done o s limits k true t)
      → o.widening_rank (element o limits k) steps (o.widen (element o t k) (met o s limits t k) (element o limits k) steps)
      < o.widening_rank (element o limits k) steps (element o t k)
  rank_falls t k below inside unsettled =
      let x = element o t k in
      let y = met o s limits t k in
      let l = element o limits k in
      let may = may_widen o laws s system limits limits_fit t k below inside in
      laws.widen_falls x y l steps may rise (λ same.
      let above : IsTrue (o.below y x) = subst (λ (w : V). IsTrue (o.below y w)) same (laws.widen_above_right x y l steps may rise) in
      false≢true (sym unsettled ∙ above))

  -- the part of the potential at a head's place after a widening: `less` is 0 in the first turn and else the component's length
  widened_less : (t : List V) (p less : ℕ) → p < s.nodes → IsInside o s limits t
      → (end_at layout p - p) * o.widening_rank (element o limits (node_at layout p)) steps
      (o.widen (element o t (node_at layout p)) (met o s limits t (node_at layout p)) (element o limits (node_at layout p)) steps) + less
      ≤ (end_at layout p - p) * rank_at t p
      → potential o layout limits steps (widened o s limits steps t (node_at layout p)) s.nodes + less ≤ potential o layout limits steps t s.nodes
  widened_less t p less below inside here =
      let k = node_at layout p in
      let wide = o.widen (element o t k) (met o s limits t k) (element o limits k) steps in
      let at = node_below o laws s system layout limits order p below in
      let written : rank_at (set t k wide) p ≡ o.widening_rank (element o limits k) steps wide =
      ap (λ (w : V). o.widening_rank (element o limits k) steps w) (element-set_same o t k wide (rw inside.fits.size at)) in
      potential_less s.nodes p less t (set t k wide) below
      (λ j lower differs. same_product _ _ _ (rank_elsewhere t p wide j below lower differs))
      (rw written here)

  pub first_turn_potential : (t : List V) (p : ℕ) → p < s.nodes → IsInside o s limits t
      → potential o layout limits steps (widened o s limits steps t (node_at layout p)) s.nodes ≤ potential o layout limits steps t s.nodes
  first_turn_potential t p below inside =
      let at = node_below o laws s system layout limits order p below in
      let here = mul-le-mul_left (end_at layout p - p) (rank_kept t (node_at layout p) at inside) in
      let less = widened_less t p 0 below inside (omega (arith, here)) in
      omega (arith, less)

  pub turn_potential : (t : List V) (p : ℕ) → p < s.nodes → IsInside o s limits t → IsFalse (is_done o s limits (node_at layout p) true t)
      → potential o layout limits steps (widened o s limits steps t (node_at layout p)) s.nodes + (end_at layout p - p) ≤ potential o layout limits steps t s.nodes
  turn_potential t p below inside unsettled =
      let at = node_below o laws s system layout limits order p below in
      let here = mul-le-mul_left (end_at layout p - p) (rank_falls t (node_at layout p) at inside unsettled) in
      widened_less t p (end_at layout p - p) below inside (omega (arith, here))
