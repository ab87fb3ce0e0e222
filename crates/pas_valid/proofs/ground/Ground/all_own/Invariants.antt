use Rattle.std.proofs.Common.{◌≡◌, drop}
use Rattle.std.specs.List.{list_all}
use Rattle.pas_valid.specs.Passing.{placed}
use Rattle.pas_valid.proofs.ground.Ground.all_own.Given as goal

-- those from the place on decide
abbrev pub invariant-loop-number : goal.invariant-loop-number
invariant-loop-number l = list_all (placed l.self).assertion l.numbers ≡ list_all (placed l.self).assertion (drop l.number-index l.numbers)
