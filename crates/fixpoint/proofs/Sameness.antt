-- Elements that are the same, and the nodes at which tables differ.
use Rattle.std.proofs.Common.{◌≡◌, false, subst, inl, inr}
use Rattle.std.specs.Prelude.{◌≢◌, IsTrue, IsFalse, ◌⊎◌}
use Rattle.std.proofs.lemmas.Bool.{and_from, and_parts, both_ways, cases_Bool}
use Rattle.lattice.specs.Lattice.{Ops, IsLattice}
use Rattle.fixpoint.specs.System.{is_same}

module _ {V P : Type 0} {has : V → P → Type 0} (o : Ops V) (laws : IsLattice o has) where
  -- elements of which one isn't below the other
  pub differs : (x y : V) → (o.below x y ≡ false) ⊎ (o.below y x ≡ false) → x ≢ y
  differs x y (inl not_below) same = both_ways (o.below x y) not_below (subst (λ (z : V). IsTrue (o.below x z)) same (laws.below_itself x))
  differs x y (inr not_below) same = both_ways (o.below y x) not_below (subst (λ (z : V). IsTrue (o.below z x)) same (laws.below_itself x))

  pub is_same_same : (x y : V) → x ≡ y → IsTrue (is_same o x y)
  is_same_same x y same =
      and_from (o.below x y) (o.below y x) (subst (λ (z : V). IsTrue (o.below x z)) same (laws.below_itself x))
      (subst (λ (z : V). IsTrue (o.below z x)) same (laws.below_itself x))

  pub is_same_differs : (x y : V) → o.shape x ≡ o.shape y → x ≢ y → IsFalse (is_same o x y)
  is_same_differs x y alike differ = elim (cases_Bool (is_same o x y)) [
    | inl same ↦ let both = and_parts (o.below x y) (o.below y x) same in absurd (differ (laws.below_both x y alike both.0 both.1))
    | inr other ↦ other
  ]
