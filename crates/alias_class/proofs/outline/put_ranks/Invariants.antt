use Rattle.alias_class.proofs.Placing.{IsPlacedTo}
use Rattle.alias_class.proofs.outline.put_ranks.Given as goal

abbrev pub invariant-loop-rank : goal.invariant-loop-rank
invariant-loop-rank l = IsPlacedTo l.vars l.rank l.initial.ranks l.ranks
