use Rattle.std.proofs.Common.{◌≡◌, ◌≤◌, ◌+◌, ◌-◌, length, drop}
use Rattle.pas_lexer.specs.Lexeme.{is_name_byte}
use Rattle.std.specs.List.{prefix_len}
use Rattle.pas_lexer.proofs.piece.name_len.Given as goal

abbrev pub invariant-loop-len : goal.invariant-loop-len
invariant-loop-len l = (l.len + prefix_len is_name_byte (drop l.len l.rest) ≡ prefix_len is_name_byte l.rest) × (l.len ≤ length l.rest)

abbrev pub decreases-loop-len : goal.decreases-loop-len
decreases-loop-len l = length l.rest - l.len
