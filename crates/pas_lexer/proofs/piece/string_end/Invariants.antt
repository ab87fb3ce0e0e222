use Rattle.std.proofs.Common.{◌≡◌, ◌≤◌, ◌+◌, false, drop}
use Rattle.pas_lexer.specs.Scan as scan
use Rattle.pas_lexer.proofs.piece.string_end.Given as goal

abbrev pub invariant-loop-at : goal.invariant-loop-at
invariant-loop-at l = (scan.string_end l.after_quote l.closed (l.at + 1) (drop l.at l.rest) ≡ scan.string_end false 0 1 l.rest) × (l.closed ≤ l.at + 1)
