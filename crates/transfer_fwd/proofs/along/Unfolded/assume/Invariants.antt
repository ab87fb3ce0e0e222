use Rattle.std.proofs.Common.{◌≡◌, drop}
use Rattle.environment.specs.Environments.{cell_count}
use Rattle.environment.specs.Kept.{room_of}
use Rattle.transfer_fwd.specs.Forward.{all_assumed, scope_at}
use Rattle.transfer_fwd.proofs.along.Unfolded.assume.Given as goal

abbrev pub invariant-loop-number : goal.invariant-loop-number
invariant-loop-number l =
    (all_assumed l.self.flow.now l.self.graph.now (scope_at l.self.flow.now l.self.graph.now l.node) (drop l.number-index l.number-items) l.out.env
    ≡ all_assumed l.self.flow.now l.self.graph.now (scope_at l.self.flow.now l.self.graph.now l.node) l.number-items l.fn.out.env)
    × (cell_count l.out.env ≡ cell_count l.fn.out.env) × (room_of l.out ≡ room_of l.fn.out)
