use Rattle.std.proofs.Common.{◌≡◌, map, take}
use Rattle.activations.specs.Arcs.{links_of_site, sites}
use Rattle.activations.specs.Parts.{lists_of}
use Rattle.activations.specs.Unfolding.{unfolding_of}
use Rattle.activations.proofs.links.all_links.Given as goal

abbrev pub invariant-loop-call : goal.invariant-loop-call
invariant-loop-call l = lists_of l.lists.items ≡ map (links_of_site (unfolding_of l.flow l.found.classes.classes)) (take l.call-index (sites (unfolding_of l.flow l.found.classes.classes)))
