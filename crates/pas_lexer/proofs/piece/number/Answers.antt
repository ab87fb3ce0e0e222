use Rattle.std.specs.Char.{is_ascii_digit}
use Rattle.pas_lexer.proofs.Digits.{list_all-prefix}
use Rattle.pas_lexer.proofs.piece.number.Goals as goal

pub value_of-requires : goal.value_of-requires
value_of-requires c = rw c.digits_len-len.ensures.value (list_all-prefix is_ascii_digit c.args.rest.now)
