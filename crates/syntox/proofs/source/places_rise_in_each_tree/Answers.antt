use Rattle.syntox.proofs.Rising.{rising}
use Rattle.syntox.proofs.source.places_rise_in_each_tree.Goals as goal

pub returns : goal.returns
returns c = rising
