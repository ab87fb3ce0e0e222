use Rattle.std.proofs.Common.{◌≡◌, ℕ, ◌<◌, ◌-◌, length, drop, take, Some, None, arith, length-drop, sym, ◌∙◌, ap}
use Rattle.std.proofs.lemmas.List.{take_rest}
use Rattle.std.specs.Option.{is_some}
use Rattle.pas_lexer.specs.Covering.{fault_at}
use Rattle.pas_lexer.specs.Lexeme.{Text}
use Rattle.pas_lexer.specs.Scan.{next_piece}
use Rattle.pas_lexer.proofs.Found.{found, missed}
use Rattle.pas_lexer.proofs.scan.piece_at.Goals as goal

some_left : (text : Text) (at : ℕ) → at < length text → 0 < length (drop at text)
some_left text at before = simp length-drop (omega arith)

pub returns-in-Some-clause-piece : goal.returns-in-Some-clause-piece
returns-in-Some-clause-piece c =
    let text = c.args.text.now in
    let at = c.args.at in
    let rest = take_rest text at in
    let is : next_piece (is_some c.args.opened) (drop at text) ≡ Some c.in-Some.piece =
    ap (λ z. next_piece (is_some c.args.opened) z) (sym rest) ∙ ap (λ inside. next_piece inside (take (length text - at) (drop at text))) (sym c.is_some.ensures)
    ∙ sym c.next_piece.ensures.value ∙ c.in-Some.is in
    found (is_some c.args.opened) (drop at text) c.in-Some.piece (some_left text at c.requires.within) is

pub returns-in-None-clause-none : goal.returns-in-None-clause-none
returns-in-None-clause-none c token len =
    let text = c.args.text.now in
    let at = c.args.at in
    let rest = take_rest text at in
    let is : next_piece (is_some c.args.opened) (drop at text) ≡ None =
    ap (λ z. next_piece (is_some c.args.opened) z) (sym rest) ∙ ap (λ inside. next_piece inside (take (length text - at) (drop at text))) (sym c.is_some.ensures)
    ∙ sym c.next_piece.ensures.value ∙ c.in-None.is in
    missed (is_some c.args.opened) (drop at text) token len (some_left text at c.requires.within) is

pub returns-in-None-clause-fault : goal.returns-in-None-clause-fault
returns-in-None-clause-fault c =
    let text = c.args.text.now in
    let at = c.args.at in
    c.fault_at.ensures ∙ ap (λ inside. fault_at inside (take (length text - at) (drop at text)) at) c.is_some-in-None.ensures
    ∙ ap (λ rest. fault_at (is_some c.args.opened) rest at) (take_rest text at)
