use Rattle.alias_class.proofs.Outside.{IsOnTheWay}
use Rattle.alias_class.proofs.classes.Classes.around.Given as goal

abbrev pub invariant-loop-self : goal.invariant-loop-self
invariant-loop-self l = IsOnTheWay l.self-inside.outline l.self-inside.keys.keys l.class l.routine l.owner

abbrev pub decreases-loop-self : goal.decreases-loop-self
decreases-loop-self l = l.owner
