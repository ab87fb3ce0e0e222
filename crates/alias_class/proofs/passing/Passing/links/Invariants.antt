use Rattle.std.proofs.Common.{◌≡◌, map}
use Rattle.std.specs.List.{range_with_len}
use Rattle.alias_class.proofs.Linking.{inherited_link}
use Rattle.alias_class.proofs.passing.Passing.links.Given as goal

abbrev pub invariant-loop-cell : goal.invariant-loop-cell
invariant-loop-cell l = l.links.items ≡ map inherited_link (range_with_len 0 l.cell)
