use Rattle.std.proofs.Common.{◌≡◌, drop}
use Rattle.environment.specs.Environments.{cell_count}
use Rattle.environment.specs.Kept.{room_of}
use Rattle.transfer_fwd.specs.Crossed.{inside_of}
use Rattle.transfer_fwd.specs.Crossings.{may_all_be_undefined}
use Rattle.transfer_fwd.proofs.crossing.Crossing.leave_undefined.Given as goal

-- the variables that are left give what all of them do
abbrev pub invariant-loop-var : goal.invariant-loop-var
invariant-loop-var l = record {
  given : may_all_be_undefined (inside_of l.self) (drop l.var-index l.var-items) l.out.env ≡ may_all_be_undefined (inside_of l.self) l.var-items l.initial.out.env;
  cells : cell_count l.out.env ≡ cell_count l.initial.out.env;
  room : room_of l.out ≡ room_of l.initial.out;
}
