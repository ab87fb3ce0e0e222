use Rattle.std.proofs.Common.{map, length}
use Rattle.fixpoint.proofs.Reversing.{IsReversed}
use Rattle.fixpoint.specs.Reversal.{list_at}
use Rattle.fixpoint.proofs.reversal.reverse_lists.Given as goal

abbrev pub invariant-loop-number : goal.invariant-loop-number
invariant-loop-number l = IsReversed (length l.lists) l.number (list_at (map (λ v. v.items) l.lists)) (map (λ v. v.items) l.reversed.items)
