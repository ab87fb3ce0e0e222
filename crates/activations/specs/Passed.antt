-- When the sizes of classes pass the most that they may come to.
use Rattle.std.specs.Prelude.{◌≡◌, ℕ, ◌<◌}
use Rattle.activations.specs.declared.fault.UnfoldFault.{UnfoldFault}
use Rattle.activations.specs.declared.fault.UnfoldFault.TheVariants.{TooMany}
use Rattle.activations.specs.Unfolding.{most_cells}

-- the fault says that they come to this, which is too many
abbrev pub IsPassed : ℕ → UnfoldFault → Type 0
IsPassed sum fault = (fault ≡ TooMany sum) × (most_cells < sum)
