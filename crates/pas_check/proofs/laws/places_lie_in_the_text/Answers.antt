use Rattle.pas_check.proofs.BlockPlaces.{lies_in}
use Rattle.pas_check.proofs.laws.places_lie_in_the_text.Goals as goal

pub returns : goal.returns
returns c = lies_in
