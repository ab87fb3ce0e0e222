-- The types that names stand for, or the first rule that is broken (ISO 7185, 6.4).
use Rattle.std.specs.Prelude.{ℕ}
use Rattle.px_base.specs.declared.place.Span.{Span}
use Rattle.pas_check.specs.declared.fault.Rule.TheVariants as rule
use Rattle.pas_check.specs.Expr.{meant}
use Rattle.pas_check.specs.Outcome.{Outcome, ◌>>=◌, needed}
use Rattle.pas_check.specs.Rules.{type_of_name}
use Rattle.pas_check.specs.Sight.{Sight}

unfoldable pub named_type : Sight → Span → Outcome ℕ
named_type v name = do
  m ← meant v name
  needed (type_of_name m) rule.Kind name.start
