use Rattle.std.proofs.Common.{◌≡◌, ℕ, ◌<◌, false, Some}
use Rattle.std.specs.List.{slice_get}
use Rattle.control_points.specs.declared.point.Point.{Point}
use Rattle.interp.proofs.Starting.{is_entry_of}
use Rattle.interp.proofs.machine.entry_of.Given as goal

-- no point so far is the entry
abbrev pub invariant-loop-number : goal.invariant-loop-number
invariant-loop-number l = (k : ℕ) (q : Point) → k < l.number → slice_get l.flow.points k ≡ Some q → is_entry_of l.routine q ≡ false
