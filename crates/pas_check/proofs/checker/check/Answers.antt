use Rattle.pas_check.proofs.BlockPlaces.{lies_in}
use Rattle.pas_check.proofs.BlockRises.{places_rise}
use Rattle.pas_check.proofs.checker.check.Goals as goal

pub returns-in-Ok-clause-places : goal.returns-in-Ok-clause-places
returns-in-Ok-clause-places c = λ len within. lies_in len c.args.text.now c.args.tree.now c.in-Ok.program within c.in-Ok.ensures.program

pub returns-in-Ok-clause-rising : goal.returns-in-Ok-clause-rising
returns-in-Ok-clause-rising c = λ rises. places_rise c.args.text.now c.args.tree.now c.in-Ok.program rises c.in-Ok.ensures.program
