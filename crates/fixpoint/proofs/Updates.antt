-- Single updates of a table inside limits: a node's evaluation, and the widening of a head.
use Rattle.std.proofs.Common.{◌≡◌, ℕ, ℤ, ◌<◌, List, sym, ◌∙◌}
use Rattle.std.specs.Prelude.{IsTrue}
use Rattle.lattice.specs.Lattice.{Ops, IsLattice, AreSteps, AreWithin}
use Rattle.fixpoint.specs.Ascent.{met, evaluated, widened}
use Rattle.fixpoint.specs.Progress.{IsInside}
use Rattle.fixpoint.specs.System.{System, element, IsTable, IsSystem}
use Rattle.fixpoint.proofs.Tables.{table_written, within_written}

module _ {V P : Type 0} {has : V → P → Type 0} (o : Ops V) (laws : IsLattice o has) (s : System V) (system : IsSystem o s)
    (limits : List V) (limits_fit : IsTable o s limits) where
  -- the value for a node has the node's shape, and lies within its limit
  pub met_shape : (t : List V) (k : ℕ) → IsTable o s t → k < s.nodes → o.shape (met o s limits t k) ≡ s.shape k
  met_shape t k fits below =
      let value_shape = system.shapes k t below fits in
      laws.meet_shape (s.value k t) (element o limits k) (value_shape ∙ sym (limits_fit.shapes k below)) ∙ value_shape

  pub met_within : (t : List V) (k : ℕ) → IsTable o s t → k < s.nodes → IsTrue (o.below (met o s limits t k) (element o limits k))
  met_within t k fits below =
      laws.meet_below_right (s.value k t) (element o limits k) (system.shapes k t below fits ∙ sym (limits_fit.shapes k below))

  pub evaluated_inside : (t : List V) (k : ℕ) → k < s.nodes → IsInside o s limits t → IsInside o s limits (evaluated o s limits t k)
  evaluated_inside t k below inside = record {
    fits = table_written o s t k (met o s limits t k) inside.fits below (met_shape t k inside.fits below);
    within = within_written o s limits t k (met o s limits t k) inside.fits below inside.within (met_within t k inside.fits below);
  }

  -- a head and the value for it lie within the limit, so one may be widened by the other
  pub may_widen : (t : List V) (k : ℕ) → k < s.nodes → IsInside o s limits t → AreWithin o (element o t k) (met o s limits t k) (element o limits k)
  may_widen t k below inside = record {
    left = inside.fits.shapes k below ∙ sym (limits_fit.shapes k below);
    right = met_shape t k inside.fits below ∙ sym (limits_fit.shapes k below);
    left_below = inside.within k below;
    right_below = met_within t k inside.fits below;
  }

  pub widened_inside : (steps : List ℤ) (t : List V) (k : ℕ) → AreSteps steps → k < s.nodes → IsInside o s limits t
      → IsInside o s limits (widened o s limits steps t k)
  widened_inside steps t k rise below inside =
      let may = may_widen t k below inside in
      let wide = o.widen (element o t k) (met o s limits t k) (element o limits k) steps in
      record {
        fits = table_written o s t k wide inside.fits below
            (laws.widen_shape (element o t k) (met o s limits t k) (element o limits k) steps may rise ∙ limits_fit.shapes k below);
        within = within_written o s limits t k wide inside.fits below inside.within
            (laws.widen_within (element o t k) (met o s limits t k) (element o limits k) steps may rise);
      }
