use Rattle.std.proofs.Common.{◌≡◌, drop}
use Rattle.std.specs.Prelude.{IsTrue}
use Rattle.environment.specs.Environments.{cell_count, is_reachable}
use Rattle.environment.specs.Kept.{room_of}
use Rattle.transfer_fwd.specs.Crossings.{linked_back}
use Rattle.transfer_fwd.proofs.crossing.Crossing.link_back.Given as goal

-- the links that are left give what all of them do
abbrev pub invariant-loop-link : goal.invariant-loop-link
invariant-loop-link l = record {
  given : linked_back l.exit.env (drop l.link-index l.link-items) l.left.env ≡ linked_back l.exit.env l.link-items l.initial.left.env;
  reached : IsTrue (is_reachable l.left.env);
  cells : cell_count l.left.env ≡ cell_count l.initial.left.env;
  room : room_of l.left ≡ room_of l.initial.left;
}
