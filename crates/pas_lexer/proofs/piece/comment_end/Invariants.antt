use Rattle.std.proofs.Common.{◌≡◌, ◌≤◌, ◌-◌, length, drop}
use Rattle.pas_lexer.specs.Scan as scan
use Rattle.pas_lexer.proofs.piece.comment_end.Given as goal

abbrev pub invariant-loop-at : goal.invariant-loop-at
invariant-loop-at l = (scan.comment_end l.at (drop l.at l.rest) ≡ scan.comment_end l.opening (drop l.opening l.rest)) × (l.opening ≤ l.at) × (l.at ≤ length l.rest)

abbrev pub decreases-loop-at : goal.decreases-loop-at
decreases-loop-at l = length l.rest - l.at
