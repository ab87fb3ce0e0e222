use Rattle.std.proofs.Common.{◌-◌, ◌≤◌, length}
use Rattle.pas_lexer.proofs.Reached.{Reached}
use Rattle.pas_lexer.proofs.scan.lex.Given as goal

abbrev pub invariant-loop-at : goal.invariant-loop-at
invariant-loop-at l = record {
  within : l.at ≤ length l.text;
  reached : Reached l.text l.at l.opened l.tokens.items;
}

abbrev pub decreases-loop-at : goal.decreases-loop-at
decreases-loop-at l = length l.text - l.at
