use Rattle.std.proofs.Common.{◌≡◌, [], map, replicate}
use Rattle.fixpoint.proofs.reversal.empty_lists.Given as goal

abbrev pub invariant-loop-room : goal.invariant-loop-room
invariant-loop-room l = map (λ v. v.items) l.lists.items ≡ replicate l.room-index []
