use Rattle.std.proofs.Common.{arith}
use Rattle.std.proofs.lemmas.Int.{ints}
use Rattle.interval.proofs.itv.Itv.hull.Goals as goal

pub of_numbers-requires-clause-low : goal.of_numbers-requires-clause-low
of_numbers-requires-clause-low c = (grind (arith, ints), grind (arith, ints))
