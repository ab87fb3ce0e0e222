use Rattle.std.proofs.Common.{◌≡◌, ◌≤◌, ℕ, Global, Vec, length, Some}
use Rattle.std.specs.List.{slice_get}
use Rattle.report.specs.Visible.{visible}
use Rattle.report.proofs.visible.visible.Given as goal

abbrev pub invariant-loop : goal.invariant-loop
invariant-loop l = length l.lists.items ≡ l.counter

abbrev pub invariant-loop-r : goal.invariant-loop-r
invariant-loop-r l = record {
  size : length l.lists.items ≡ length l.program.routines;
  each : (s : ℕ) (list : Vec ℕ Global) → l.r ≤ s → slice_get l.lists.items s ≡ Some list → list.items ≡ visible l.text l.program s;
}
