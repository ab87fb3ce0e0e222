use Rattle.std.proofs.Common.{◌≡◌, drop}
use Rattle.environment.specs.Environments.{cell_count}
use Rattle.environment.specs.Kept.{room_of}
use Rattle.transfer_fwd.specs.Crossings.{linked_in}
use Rattle.transfer_fwd.proofs.crossing.Crossing.give_links.Given as goal

-- the links that are left give what all of them do
abbrev pub invariant-loop-link : goal.invariant-loop-link
invariant-loop-link l = record {
  given : linked_in l.first l.left.env (drop l.link-index l.link-items) l.out.env ≡ linked_in l.first l.left.env l.link-items l.initial.out.env;
  cells : cell_count l.out.env ≡ cell_count l.initial.out.env;
  room : room_of l.out ≡ room_of l.initial.out;
}
