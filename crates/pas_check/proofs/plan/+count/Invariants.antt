use Rattle.std.proofs.Common.{◌≡◌, ◌+◌, drop, map}
use Rattle.std.specs.Prelude.{fold}
use Rattle.pas_check.specs.Block.{ends_inside, ends_of}
use Rattle.pas_check.proofs.plan.+count.Given as goal

abbrev pub invariant-count_bodies-loop-routine : goal.invariant-count_bodies-loop-routine
invariant-count_bodies-loop-routine l = fold (λ a x. a + x) l.count (map ends_of (drop l.routine-index l.routine-items)) ≡ ends_inside l.fn.block
