-- The tests of a heading and of a block's end (ISO 7185, 6.6.1 and 6.6.2).
use Rattle.std.specs.Prelude.{ℕ, Option, Some, None, Ok}
use Rattle.px_base.specs.declared.place.Span.{Span}
use Rattle.pas_tree.specs.declared.block.RoutineBody.TheOpen.{Routine-F}
use Rattle.pas_check.specs.declared.fault.Rule.TheVariants as rule
use Rattle.pas_check.specs.declared.heading.Function.{Function}
use Rattle.pas_check.specs.Outcome.{Outcome, ◌>>=◌, needed, unless}
use Rattle.pas_check.specs.Rules.{is_never_assigned, is_too_deep, lacks_result_type, repeats_heading}
use Rattle.pas_check.specs.Sight.{Sight, host_at}
use Rattle.pas_check.specs.TypeExpr.{named_type}

-- a heading that declares its name, with so many routines around it
abbrev pub heading_allowed : {A B C : Type 0} → Routine-F A B C → ℕ → Outcome (Unit {0})
heading_allowed r around = unless (lacks_result_type r.function r.result) rule.Kind r.name.start (unless (is_too_deep around) rule.Nesting r.name.start (Ok tt))

-- the heading of the body of a `forward` heading
abbrev pub repeated_heading : {A B C : Type 0} → Routine-F A B C → Outcome (Unit {0})
repeated_heading r = unless (repeats_heading r.formals r.result) rule.DeclaredOnce r.name.start (Ok tt)

-- the type of a function's result is a scalar
unfoldable pub result_type : Sight → Span → Outcome ℕ
result_type v name = do
  t ← named_type v name
  host ← needed (host_at v t) rule.Type name.start
  Ok t

-- at the end of a function's block
abbrev pub result_assigned : Sight → Option Function → Outcome (Unit {0})
result_assigned v None = Ok tt
result_assigned v (Some f) = unless (is_never_assigned v.assigned f.head) rule.Result f.at (Ok tt)
