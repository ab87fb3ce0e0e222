-- The equations that the code has, and what it keeps of itself while they are solved.
use Rattle.std.specs.Prelude.{ℕ, map}
use base.Fml.{GName}
use Rattle.environment.specs.Environments.{Environment}
use Rattle.environment.specs.Kept.{room_of}
use Rattle.fixpoint.specs.System.{System}
use Rattle.transfer_fwd.specs.declared.forward.Forward.{Forward}
use Rattle.transfer_fwd.specs.Systems.{forward_system}

abbrev pub system_of : Forward → System Environment
system_of s = forward_system s.unfolded.flow.now s.unfolded.graph.now (map (λ v. v.items) s.reads.now) s.with_asserts s.origin

-- which environment it works in, and for how many cells that has room
pub record Kept : Type 0 where
  pub scratch : GName
  pub room : ℕ

abbrev pub kept_of : Forward → Kept
kept_of s = record { scratch = s.scratch.ghost_name; room = room_of s.scratch.now }
