use Rattle.std.proofs.Common.{◌∙◌, ap, sym}
use Rattle.std.specs.Str.{str_to_ascii_lowercase}
use Rattle.pas_lexer.specs.Lexeme.{lookup}
use Rattle.pas_lexer.specs.Scan.{words_of}
use Rattle.pas_lexer.proofs.Words.{lookup-words_of, word_of-short}
use Rattle.pas_lexer.proofs.word.word_of.Goals as goal

pub returns-then-name-lt-SHORTEST : goal.returns-then-name-lt-SHORTEST
returns-then-name-lt-SHORTEST c = sym (word_of-short c.args.name.now c.if-name-lt-SHORTEST.true)

pub returns : goal.returns
returns c =
    let name = c.args.name.now in
    let small = str_to_ascii_lowercase name in
    c.lookup.ensures ∙ ap (λ rows. lookup rows small) c.words_of.ensures
    ∙ ap (λ letter. lookup (words_of letter) small) c.to_ascii_lowercase.ensures.value
    ∙ lookup-words_of name
