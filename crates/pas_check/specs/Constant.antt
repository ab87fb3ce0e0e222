-- The value of a constant, or the first rule that it breaks (ISO 7185, 6.3).
use Rattle.std.specs.Prelude.{ℕ, false, nat_le, ℤ, pos, Option, Some, None, Ok, if◌then◌else◌}
use Rattle.std.specs.Int.{int_wrapping_neg, w32}
use Rattle.px_base.specs.declared.place.Span.{Span}
use Rattle.pas_program.specs.Types.{maxint}
use Rattle.pas_tree.specs.declared.constant.Constant.{Constant}
use Rattle.pas_tree.specs.declared.constant.ConstantValue.{ConstantValue}
use Rattle.pas_tree.specs.declared.constant.ConstantValue.TheVariants as written
use Rattle.pas_tree.specs.declared.constant.Sign.{Sign}
use Rattle.pas_tree.specs.declared.constant.Sign.TheVariants as sign
use Rattle.pas_check.specs.declared.fault.Rule.TheVariants as rule
use Rattle.pas_check.specs.declared.meaning.Value.{Value}
use Rattle.pas_check.specs.Expr.{meant}
use Rattle.pas_check.specs.Outcome.{Outcome, ◌>>=◌, needed, unless}
use Rattle.pas_check.specs.Rules.{constant_of}
use Rattle.pas_check.specs.Sight.{Sight}

-- a number of the source, which is at most `maxint`
abbrev pub number : ℕ → ℤ
number n = if nat_le n maxint then pos n else pos maxint

abbrev pub with_sign : Sign → ℤ → Value
with_sign sign.Plus z = record { boolean = false; value = z }
with_sign sign.Minus z = record { boolean = false; value = int_wrapping_neg w32 z }

unfoldable pub constant_named : Sight → Span → Outcome Value
constant_named v name = do
  m ← meant v name
  needed (constant_of m) rule.Kind name.start

unfoldable pub unsigned : Sight → ConstantValue → Outcome Value
unsigned v (written.Number n) = Ok (record { boolean = false; value = number n })
unsigned v (written.Name name) = constant_named v name

-- a sign wants an integer
unfoldable pub signed : Option Sign → ℕ → Value → Outcome Value
signed None at x = Ok x
signed (Some s) at x = unless x.boolean rule.Type at (Ok (with_sign s x.value))

unfoldable pub constant : Sight → Constant → Outcome Value
constant v c = do
  x ← unsigned v c.value
  signed c.sign c.span.start x
