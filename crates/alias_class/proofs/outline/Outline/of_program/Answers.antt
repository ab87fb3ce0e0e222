use Rattle.std.proofs.Common.{arith}
use Rattle.alias_class.proofs.Outlining.{routines_few}
use Rattle.alias_class.proofs.outline.Outline.of_program.Goals as goal

pub overflow_cast-result : goal.overflow_cast-result
overflow_cast-result c = let few = routines_few c.args.program.now in omega arith
