use Rattle.pas_check.proofs.ReachingNotes.{first_is}
use Rattle.pas_check.proofs.label.first_place.Goals as goal

pub returns-in-Some : goal.returns-in-Some
returns-in-Some c = first_is c.args.body.now c.in-Some.first.now c.in-Some.ensures.item.3.0 c.in-Some.ensures.item.1
