use Rattle.std.proofs.Common.{◌≡◌, length, map}
use Rattle.std.specs.Str.{str_to_ascii_lowercase}
use Rattle.pas_lexer.specs.Lexeme.{lookup}
use Rattle.pas_lexer.proofs.word.lookup.Given as goal

abbrev pub invariant-loop-rows : goal.invariant-loop-rows
invariant-loop-rows l =
    lookup (map (λ row. (row.0.now, row.1)) l.rows) (str_to_ascii_lowercase l.name)
    ≡ lookup (map (λ row. (row.0.now, row.1)) l.initial.rows) (str_to_ascii_lowercase l.name)

abbrev pub decreases-loop-rows : goal.decreases-loop-rows
decreases-loop-rows l = length l.rows
