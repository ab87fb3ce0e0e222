-- The bound on the evaluations of an ascent.
use Rattle.std.proofs.Common.{◌≡◌, ℕ, ℤ, zero, suc, ◌+◌, ◌-◌, ◌*◌, ◌≤◌, List, sym, ◌∙◌, arith, zero-add}
use Rattle.std.proofs.Math.Nat.{mul-le-mul_left}
use Rattle.lattice.specs.Lattice.{Ops, IsLattice}
use Rattle.weak_order.specs.Order.{Elements, Layout, IsWeakOrder}
use Rattle.fixpoint.specs.Ascent.{AreAtMost, ascent_bound}
use Rattle.fixpoint.specs.Passing.{node_at, end_at}
use Rattle.fixpoint.specs.System.{System, Reads, element, IsTable, IsLayoutOf}
use Rattle.fixpoint.proofs.Layouts.{LiesAt, bound_is, lies_all, size, size_is, spread, spread_along, weight}
use Rattle.fixpoint.proofs.Potential.{potential}

module _ {V P : Type 0} {has : V → P → Type 0} (o : Ops V) (laws : IsLattice o has) (s : System V)
    (layout : Layout) (limits : List V) (steps : List ℤ) (order : IsWeakOrder (Reads s) s.nodes layout) (limits_fit : IsTable o s limits) where
  -- the potential is at most the height for each node of each component
  potential_bound : (h n : ℕ) (table : List V) → AreAtMost o s limits steps h → IsTable o s table → n ≤ s.nodes
      → potential o layout limits steps table n ≤ h * spread layout n
  potential_bound h zero table most fits below = omega arith
  potential_bound h (suc n) table most fits below =
      let node = order.in_range n (omega (arith, below)) in
      let rank = laws.widening_bound (element o table (node_at layout n)) (element o limits (node_at layout n)) steps
      (fits.shapes (node_at layout n) node ∙ sym (limits_fit.shapes (node_at layout n) node)) in
      let high = most (node_at layout n) node in
      let here = mul-le-mul_left (end_at layout n - n) (omega_le rank high) in
      let before = potential_bound h n table most fits (omega (arith, below)) in
      product_step _ _ h (spread layout n) (end_at layout n - n) before here
    where
      omega_le : {a b c : ℕ} → a ≤ b → b ≤ c → a ≤ c
      omega_le p q = omega (arith, p, q)

      product_step : (a b h x w : ℕ) → a ≤ h * x → b ≤ w * h → a + b ≤ h * (x + w)
      product_step a b h x w p q = omega (arith, p, q)

  pub lies_whole : (elements : Elements) → IsLayoutOf elements layout → LiesAt layout elements 0 s.nodes
  lies_whole elements is = rw order.places at (lies_all layout elements is)

  pub ascent_at_most : (elements : Elements) (h : ℕ) (start : List V) (c d : ℕ) → IsLayoutOf elements layout → AreAtMost o s limits steps h → IsTable o s start
      → d ≤ c + (2 * potential o layout limits steps start s.nodes + 2 * s.nodes) → d ≤ c + ascent_bound h 0 elements
  ascent_at_most elements h start c d is most fits cost =
      let heights = potential_bound h s.nodes start most fits (omega arith) in
      let along = spread_along layout elements 0 s.nodes (lies_whole elements is) in
      let sized : s.nodes ≡ size elements = sym order.places ∙ size_is layout elements is in
      let spread_is : spread layout s.nodes ≡ weight elements = along.1 ∙ zero-add (weight elements) in
      let start_is : potential o layout limits steps start s.nodes ≤ h * weight elements = rw spread_is at heights in
      omega (arith, cost, start_is, sized, bound_is h 0 elements)
