-- The table at which an ascent begins.
use Rattle.std.proofs.Common.{◌≡◌, ℕ, ◌<◌, List, length, sym, ap, ◌∙◌}
use Rattle.std.proofs.lemmas.List.{get_or-map, length-map, same_lists}
use Rattle.lattice.specs.Lattice.{Ops, IsLattice}
use Rattle.fixpoint.specs.Ascent.{bottoms}
use Rattle.fixpoint.specs.Progress.{IsInside}
use Rattle.fixpoint.specs.System.{System, element, IsTable}

module _ {V P : Type 0} {has : V → P → Type 0} (o : Ops V) (laws : IsLattice o has) (s : System V) (limits : List V) (limits_fit : IsTable o s limits) where
  element_of_bottoms : (table : List V) (k : ℕ) → IsTable o s table → k < s.nodes
      → element o (bottoms o table) k ≡ o.bottom (o.shape (element o table k))
  element_of_bottoms table k fits below =
      get_or-map (λ (x : V). o.bottom (o.shape x)) table k (o.bottom 0) (o.bottom 0) (rw fits.size below)

  -- the bottoms of two tables
  pub bottoms_same : (table : List V) → IsTable o s table → bottoms o table ≡ bottoms o limits
  bottoms_same table fits =
      same_lists (bottoms o table) (bottoms o limits)
      (length-map table (λ (x : V). o.bottom (o.shape x)) ∙ fits.size ∙ sym limits_fit.size ∙ sym (length-map limits (λ (x : V). o.bottom (o.shape x))))
      (λ k d inside.
      let below : k < length table = rw length-map at inside in
      let node : k < s.nodes = rw fits.size at below in
      get_or-map (λ (x : V). o.bottom (o.shape x)) table k (o.bottom 0) d below
      ∙ ap (λ (n : ℕ). o.bottom n) (fits.shapes k node ∙ sym (limits_fit.shapes k node))
      ∙ sym (get_or-map (λ (x : V). o.bottom (o.shape x)) limits k (o.bottom 0) d (rw limits_fit.size node)))

  pub bottoms_inside : IsInside o s limits (bottoms o limits)
  bottoms_inside = record {
    fits = record {
      size = length-map limits (λ (x : V). o.bottom (o.shape x)) ∙ limits_fit.size;
      shapes = λ k below. rw (element_of_bottoms limits k limits_fit below) (laws.bottom_shape (element o limits k) ∙ limits_fit.shapes k below);
    };
    within = λ k below. rw (element_of_bottoms limits k limits_fit below)
        (laws.bottom_below (o.bottom (o.shape (element o limits k))) (element o limits k) (laws.bottom_shape (element o limits k))
        (laws.bottom_is_bottom (element o limits k)));
  }
