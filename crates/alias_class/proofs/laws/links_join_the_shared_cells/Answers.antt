use Rattle.alias_class.proofs.Joined.{links_share}
use Rattle.alias_class.proofs.laws.links_join_the_shared_cells.Goals as goal

pub returns : goal.returns
returns c = λ f x k is site. links_share f x k is site
