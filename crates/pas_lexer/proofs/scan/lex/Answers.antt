use Rattle.std.proofs.Common.{◌≡◌, ◌+◌, ◌++◌, drop, rules}
use Rattle.std.proofs.lemmas.Result.{err_from_is_err_and}
use Rattle.std.specs.Option.{option_to_list, is_some}
use Rattle.pas_lexer.specs.Covering.{HasTokens, token_of}
use Rattle.pas_lexer.proofs.Reached.{reached-more, all-tokens, breaks, broken-refuses, piece as piece_of}
use Rattle.pas_lexer.proofs.Rising.{tokens-rise, tokens-fit, tokens-few}
use Rattle.pas_lexer.proofs.scan.lex.Goals as goal

pub returns-in_err-piece-clause-refused : goal.returns-in_err-piece-clause-refused
returns-in_err-piece-clause-refused c =
    let text = c.args.text.now in
    let at = c.loop-at.at in
    let opened = c.loop-at.opened in
    let broken = breaks text at opened c.loop-at.tokens.items c.loop-at-test.true c.loop-at.invariant.reached c.in_err-piece.ensures.none in
    let refuses = broken-refuses text (is_some opened) (drop at text) at broken in
    let p = err_from_is_err_and c.from_residual.result c.from_residual.ensures.1 in
    rw (p.1, p.2, c.in_err-piece.ensures.fault) refuses

pub loop-at-preserved : goal.loop-at-preserved
loop-at-preserved c =
    let text = c.args.text.now in
    let at = c.loop-at.at in
    let opened = c.loop-at.opened in
    let piece = c.in_ok-piece.piece in
    let is_piece = c.in_ok-piece.ensures.piece in
    let more = reached-more text at piece.len opened c.loop-at.tokens.items piece.token c.loop-at.invariant.reached is_piece in
    record {
      within = c.in_ok-piece.ensures.within.1;
      reached =
          let grown : c.append.new.tokens.items ≡ c.loop-at.tokens.items ++ option_to_list (token_of (piece_of piece.token at (at + piece.len))) = search rules in
          rw (grown, c.opened_after-opened.ensures) more;
    }

pub returns-in-None-clause-spans : goal.returns-in-None-clause-spans
returns-in-None-clause-spans c =
    let text = c.args.text.now in
    let tokens = c.loop-at.tokens.items in
    let has : HasTokens text tokens = search (rules, all-tokens) in
    tokens-rise text tokens has

pub returns-in-None-clause-numbers : goal.returns-in-None-clause-numbers
returns-in-None-clause-numbers c =
    let text = c.args.text.now in
    let tokens = c.loop-at.tokens.items in
    let has : HasTokens text tokens = search rules in
    tokens-fit text tokens has

pub returns-in-None-clause-few : goal.returns-in-None-clause-few
returns-in-None-clause-few c =
    let text = c.args.text.now in
    let tokens = c.loop-at.tokens.items in
    let has : HasTokens text tokens = search rules in
    tokens-few text tokens has
