use Rattle.pas_check.proofs.ReachingLaw.{places_law}
use Rattle.pas_check.proofs.label.places_say_the_same_as_paths.Goals as goal

pub returns : goal.returns
returns c = places_law
