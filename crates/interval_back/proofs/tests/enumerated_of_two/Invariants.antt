use Rattle.std.proofs.Common.{pos, neg_ℤ, ◌≤ℤ◌}
use Rattle.arithmetic.specs.Numbers.{maxint, IsNumber}
use Rattle.interval_back.proofs.tests.enumerated_of_two.Given as goal

abbrev pub invariant-loop-a : goal.invariant-loop-a
invariant-loop-a l = (neg_ℤ maxint ≤ℤ l.a) × (l.a-end ≤ℤ pos 2147483648)

abbrev pub invariant-loop-b : goal.invariant-loop-b
invariant-loop-b l = (neg_ℤ maxint ≤ℤ l.b) × (l.b-end ≤ℤ pos 2147483648) × IsNumber l.a × (l.a-end ≤ℤ pos 2147483648)
