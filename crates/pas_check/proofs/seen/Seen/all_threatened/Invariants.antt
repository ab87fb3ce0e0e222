use Rattle.std.proofs.Common.{◌≡◌, drop}
use Rattle.pas_check.specs.Control.{all_threatened}
use Rattle.pas_check.specs.Sight.{sight}
use Rattle.pas_check.proofs.seen.Seen.all_threatened.Given as goal

abbrev pub invariant-loop-at : goal.invariant-loop-at
invariant-loop-at l = all_threatened (sight l.fn.self) l.threats ≡ all_threatened (sight l.self) (drop l.at-index l.threats)
