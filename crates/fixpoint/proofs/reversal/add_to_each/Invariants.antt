use Rattle.std.proofs.Common.{map, take}
use Rattle.fixpoint.specs.Reversal.{AddsToEach}
use Rattle.fixpoint.proofs.reversal.add_to_each.Given as goal

abbrev pub invariant-loop-place : goal.invariant-loop-place
invariant-loop-place l = AddsToEach l.number (take l.place-index l.places) (map (λ v. v.items) l.fn.lists.items) (map (λ v. v.items) l.lists.items)
