use Rattle.std.proofs.Common.{◌≡◌, ◌++◌, map, take}
use Rattle.alias_class.specs.Passings.{shared_link, sharing_of}
use Rattle.alias_class.proofs.passing.Passing.add_foreign_links.Given as goal

abbrev pub invariant-loop-cell : goal.invariant-loop-cell
invariant-loop-cell l = l.links.items ≡ l.fn.links.items ++ map (shared_link (sharing_of l.self)) (take l.cell-index l.cells)
