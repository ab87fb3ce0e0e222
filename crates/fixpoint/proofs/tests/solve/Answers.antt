use Rattle.fixpoint.proofs.Worked.{lists_below}
use Rattle.fixpoint.proofs.tests.solve.Goals as goal

pub reverse_lists-requires : goal.reverse_lists-requires
reverse_lists-requires g c =
    lists_below c.args.system.now.reads.now _ c.args.system.now.as_many c.args.system.now.in_range
