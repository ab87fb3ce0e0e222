use Rattle.alias_class.specs.Ranks.{AreRanks}
use Rattle.alias_class.proofs.outline.rank_all.Given as goal

abbrev pub invariant-loop-routine : goal.invariant-loop-routine
invariant-loop-routine l = AreRanks l.program.vars l.routines l.routine-index l.ranks
