use Rattle.std.proofs.Common.{pos, neg_ℤ, ◌≤ℤ◌}
use Rattle.arithmetic.specs.Numbers.{maxint}
use Rattle.interval_back.proofs.tests.enumerated_of_one.Given as goal

abbrev pub invariant-loop-a : goal.invariant-loop-a
invariant-loop-a l = (neg_ℤ maxint ≤ℤ l.a) × (l.a-end ≤ℤ pos 2147483648)
