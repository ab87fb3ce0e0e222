use Rattle.std.proofs.Common.{◌≡◌, ◌++◌, drop}
use Rattle.pas_check.specs.StatementForms as forms
use Rattle.pas_check.proofs.Quotes.{left_in}
use Rattle.pas_check.proofs.transput.unquoted.Given as goal

abbrev pub invariant-loop-byte : goal.invariant-loop-byte
invariant-loop-byte l = forms.unquoted l.fn.quoted ≡ l.bytes ++ left_in l.skip (drop l.byte-index l.byte-items)
