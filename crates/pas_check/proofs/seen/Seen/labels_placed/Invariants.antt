use Rattle.std.proofs.Common.{◌≡◌, drop}
use Rattle.pas_check.specs.Labels.{placed_in}
use Rattle.pas_check.specs.Outcome.{each}
use Rattle.pas_check.specs.Sight.{sight}
use Rattle.pas_check.proofs.seen.Seen.labels_placed.Given as goal

abbrev pub invariant-loop-label : goal.invariant-loop-label
invariant-loop-label l = each (placed_in (sight l.self).labels) l.labels ≡ each (placed_in (sight l.self).labels) (drop l.label-index l.labels)
