use Rattle.std.proofs.Common.{◌≡◌}
use Rattle.environment.specs.Kept.{room_of}
use Rattle.transfer_fwd.proofs.KeptCells.{IsCopied}
use Rattle.transfer_fwd.proofs.along.keep_cells.Given as goal

abbrev pub invariant-loop-cell : goal.invariant-loop-cell
invariant-loop-cell l = IsCopied l.from.env l.env.env l.cells l.cell × (room_of l.env ≡ room_of l.initial.env)
