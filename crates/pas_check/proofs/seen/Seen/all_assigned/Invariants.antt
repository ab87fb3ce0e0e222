use Rattle.std.proofs.Common.{◌≡◌, drop}
use Rattle.pas_check.specs.Control.{all_assigned}
use Rattle.pas_check.specs.Sight.{sight}
use Rattle.pas_check.proofs.seen.Seen.all_assigned.Given as goal

abbrev pub invariant-loop-head : goal.invariant-loop-head
invariant-loop-head l = all_assigned (sight l.fn.self) l.heads ≡ all_assigned (sight l.self) (drop l.head-index l.heads)
