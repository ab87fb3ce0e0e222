use Rattle.std.proofs.Common.{◌≡◌, replicate}
use Rattle.pas_valid.proofs.standing.no_marks.Given as goal

abbrev pub invariant-loop-i : goal.invariant-loop-i
invariant-loop-i l = l.marks.items ≡ replicate l._i 0
