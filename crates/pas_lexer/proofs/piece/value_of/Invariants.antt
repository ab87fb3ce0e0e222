use Rattle.std.proofs.Common.{◌≡◌, ◌≤◌, drop}
use Rattle.std.specs.Char.{is_ascii_digit}
use Rattle.std.specs.Prelude.{IsTrue}
use Rattle.std.specs.List.{list_all}
use Rattle.pas_lexer.specs.Lexeme.{decimal, decimal_after}
use Rattle.pas_lexer.proofs.piece.value_of.Given as goal

abbrev pub invariant-loop-digit : goal.invariant-loop-digit
invariant-loop-digit l = record {
  small : l.value ≤ 2147483647;
  digits : IsTrue (list_all is_ascii_digit (drop l.digit-index l.digits));
  same : decimal_after l.value (drop l.digit-index l.digits) ≡ decimal l.digits;
}
