use Rattle.std.proofs.Common.{◌≡◌, take}
use Rattle.environment.specs.Environments.{cell_count}
use Rattle.environment.specs.Kept.{room_of}
use Rattle.transfer_fwd.specs.Systems.{all_joined, environments}
use Rattle.transfer_fwd.proofs.along.Unfolded.join_all.Given as goal

abbrev pub invariant-loop-arc : goal.invariant-loop-arc
invariant-loop-arc l =
    (l.out.env ≡ all_joined l.self.flow.now l.self.graph.now (environments l.table) l.fn.out.env (take l.arc-index l.arc-items))
    × (cell_count l.out.env ≡ cell_count l.fn.out.env) × (room_of l.out ≡ room_of l.fn.out) × (room_of l.scratch ≡ room_of l.fn.scratch)
