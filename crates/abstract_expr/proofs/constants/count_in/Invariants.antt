use Rattle.std.proofs.Common.{◌≡◌, ◌≤◌, take}
use Rattle.std.specs.List.{count_by}
use Rattle.interval.specs.Intervals.{is_in}
use Rattle.abstract_expr.proofs.constants.count_in.Given as goal

abbrev pub invariant-loop-number : goal.invariant-loop-number
invariant-loop-number l = (l.count ≡ count_by (is_in l.x) (take l.number-index l.numbers)) × (l.count ≤ l.number-index)
