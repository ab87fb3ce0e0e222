-- What holds while a system is solved: words for the contracts of the parts.
use Rattle.std.specs.Prelude.{ℕ, List}
use Rattle.lattice.specs.Lattice.{Ops}
use Rattle.fixpoint.specs.Ascent.{IsWithin}
use Rattle.fixpoint.specs.Reversal.{IsReversal}
use Rattle.fixpoint.specs.System.{System, IsTable, HasRoom}

-- What an iteration is given and does not change: limits, which nodes read a node, and room in the scratch.
pub record IsGiven {V : Type 0} (o : Ops V) (s : System V) (limits : List V) (read_by : List (List ℕ)) (room : ℕ) : Type 0 where
  pub limits_fit : IsTable o s limits
  pub reversal : IsReversal s.nodes s.reads read_by
  pub has_room : HasRoom s room

-- a table of the system within its limits
pub record IsInside {V : Type 0} (o : Ops V) (s : System V) (limits table : List V) : Type 0 where
  pub fits : IsTable o s table
  pub within : IsWithin o s limits table
