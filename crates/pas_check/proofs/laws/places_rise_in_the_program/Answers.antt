use Rattle.pas_check.proofs.BlockRises.{places_rise}
use Rattle.pas_check.proofs.laws.places_rise_in_the_program.Goals as goal

pub returns : goal.returns
returns c = places_rise
