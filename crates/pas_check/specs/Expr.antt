-- The type of an expression, or the first rule that it breaks (ISO 7185, 6.5, 6.6.3 and 6.7). A rule that needs the type of a part
-- is not asked where the part itself breaks a rule.
use Rattle.std.specs.Prelude.{ℕ, Bool, true, false, ◌&&◌, ◌||◌, not, nat_eq, nat_lt, List, [], ◌∷◌, length, Option, Some, None, Result, Ok, Err, slice_get, if◌then◌else◌}
use Rattle.std.specs.Bool.{beq}
use Rattle.std.specs.Option.{option_map}
use Rattle.px_base.specs.declared.operator.BinOp.{BinOp}
use Rattle.px_base.specs.declared.operator.BinOp.TheVariants as op
use Rattle.px_base.specs.declared.place.Span.{Span}
use Rattle.pas_program.specs.Tables.{holds_of}
use Rattle.pas_tree.specs.Expr.{span_of_form}
use Rattle.pas_tree.specs.declared.expr.Access.{Access}
use Rattle.pas_tree.specs.declared.expr.Actual.{Actual}
use Rattle.pas_tree.specs.declared.expr.ActualValue.{ActualValue}
use Rattle.pas_tree.specs.declared.expr.ActualValue.TheOpen.{ActualValue-F, Expr-F, Access-F, Actual-F}
use Rattle.pas_tree.specs.declared.expr.ActualValue.TheFolds.{fold-ActualValue, fold-Expr, fold-Access, fold-Actual}
use Rattle.pas_tree.specs.declared.expr.Expr.{Expr}
use Rattle.pas_check.specs.declared.access.Reached.{Reached}
use Rattle.pas_check.specs.declared.actual.Formal.{Formal}
use Rattle.pas_check.specs.declared.expr.Typed.{Typed}
use Rattle.pas_check.specs.declared.expr.Typed.TheVariants as typed
use Rattle.pas_check.specs.declared.fault.Fault.{Fault}
use Rattle.pas_check.specs.declared.fault.Fault.TheVariants.{Broken, Memory}
use Rattle.pas_check.specs.declared.fault.Rule.{Rule}
use Rattle.pas_check.specs.declared.fault.Rule.TheVariants as rule
use Rattle.pas_check.specs.declared.meaning.Meaning.{Meaning}
use Rattle.pas_check.specs.declared.meaning.Meaning.TheVariants as means
use Rattle.pas_check.specs.declared.meaning.Required.{Required}
use Rattle.pas_check.specs.declared.meaning.Required.TheVariants as required
use Rattle.pas_check.specs.declared.meaning.Variable.{Variable}
use Rattle.pas_check.specs.declared.routine.Callee.{Callee}
use Rattle.pas_check.specs.declared.scope.Declaration.{Declaration}
use Rattle.pas_check.specs.Labels.{Labelled}
use Rattle.pas_check.specs.Outcome.{Outcome, ◌>>=◌, needed, unless}
use Rattle.pas_check.specs.Rules.{code_of, is_call_in_assertion, is_declared_before, is_other_count, is_other_host, is_other_type, is_threat, variable_of_name}
use Rattle.pas_check.specs.Names.{name_at}
use Rattle.pas_check.specs.Sight.{Heading, Sight, denoted_at, host_at, innermost, parts_at}
use Rattle.pas_check.specs.Written.{Writes, writes_in_turn, writes_whole}

-- a scalar of a host, or a whole array by the number of its type
pub data TypeOf : Type 0 where
  scalar : Bool → TypeOf
  whole : ℕ → TypeOf

-- a variable or a part of one: its type, and the variable itself where there is no subscript
pub record Place : Type 0 where
  pub of_type : ℕ
  pub itself : Option Variable

-- What is found of an expression: its first token, its type as a value, what variable it is, and what its calls write.
pub record Found : Type 0 where
  pub first : ℕ
  pub value : Outcome TypeOf
  pub variable : Outcome Place
  pub writes : Writes

-- what is found of a variable with its subscripts
pub record Reach : Type 0 where
  pub place : Outcome Place
  pub writes : Writes

-- an actual: its expression, or the place of its string; and its width
pub record Given : Type 0 where
  pub value : Result Found ℕ
  pub width : Option Found

-- what the walk makes of them
abbrev pub type_of : Typed → TypeOf
type_of (typed.Scalar expr boolean) = scalar boolean
type_of (typed.Array access t) = whole t

abbrev pub place_of : Reached → Place
place_of r = record { of_type = r.of_type; itself = r.whole }

-- ---- names

-- what a name stands for where it is used
unfoldable pub meant_by : Option Declaration → ℕ → Outcome Meaning
meant_by None at = Err (Broken rule.Known at)
meant_by (Some d) at = needed d.meaning rule.DeclaredBefore at

unfoldable pub meant : Sight → Span → Outcome Meaning
meant v name = meant_by (denoted_at v name) name.start

-- a declaration of the name at its span, in the innermost block
unfoldable pub claimed : Sight → Span → Outcome (Unit {0})
claimed v name = unless (is_declared_before (name_at v.text name) name.start (innermost v.blocks)) rule.DeclaredOnce name.start (Ok tt)

-- ---- one expression as a value

-- the rule at the first token, or one with a lower code that is broken there too
unfoldable pub lower_first : ℕ → Rule → Outcome TypeOf → Fault
lower_first first rule (Ok t) = Broken rule first
lower_first first rule (Err (Broken lower at)) = if nat_eq at first && nat_lt (code_of lower) (code_of rule) then Broken lower at else Broken rule first
lower_first first rule (Err (Memory e)) = Memory e

abbrev pub as_scalar : ℕ → TypeOf → Outcome Bool
as_scalar first (scalar b) = Ok b
as_scalar first (whole t) = Err (Broken rule.Type first)

-- its host, where it is a scalar
unfoldable pub scalar_of : Found → Outcome Bool
scalar_of e = do
  t ← e.value
  as_scalar e.first t

unfoldable pub of_host : Bool → Found → Outcome (Unit {0})
of_host wanted e = do
  host ← scalar_of e
  unless (is_other_host wanted host) rule.Type e.first (Ok tt)

-- the value of a variable of a type
abbrev pub value_by : Option Bool → ℕ → TypeOf
value_by (Some b) t = scalar b
value_by None t = whole t

unfoldable pub value_at : Sight → ℕ → TypeOf
value_at v t = value_by (host_at v t) t

-- whether it is a scalar of the host
abbrev pub is_host : Option Bool → Bool → Bool
is_host None b = false
is_host (Some host) b = beq host b

-- whether a value of the first type may be assigned to a variable of the second
abbrev pub fits : Sight → TypeOf → ℕ → Bool
fits v (scalar b) t = is_host (host_at v t) b
fits v (whole own) t = nat_eq own t

abbrev pub has_host : Sight → TypeOf → ℕ → Bool
has_host v (scalar b) t = is_host (host_at v t) b
has_host v (whole own) t = false

-- ---- variables

-- the element type, where the subscript has the host of the index type
unfoldable pub subscript : Sight → Found → ℕ → Outcome (Unit {0})
subscript v s index = do
  t ← s.value
  unless (not (has_host v t index)) rule.Type s.first (Ok tt)

abbrev pub element : Sight → Found → Option (ℕ × ℕ) → Outcome ℕ
element v s None = Err (lower_first s.first rule.Type s.value)
element v s (Some parts) = do
  done ← subscript v s parts.0
  Ok parts.1

-- the type that subscripts lead to
abbrev pub led : Sight → List Found → ℕ → Outcome ℕ
led v [] t = Ok t
led v (s ∷ subscripts) t = do
  e ← element v s (parts_at v t)
  led v subscripts e

unfoldable pub reached : Sight → Variable → List Found → Outcome Place
reached v x subscripts = do
  t ← led v subscripts x.of_type
  Ok (record { of_type = t; itself = if nat_eq (length subscripts) 0 then Some x else None })

unfoldable pub variable_named : Sight → Span → Outcome Variable
variable_named v name = do
  m ← meant v name
  needed (variable_of_name m) rule.Kind name.start

unfoldable pub accessed : Sight → Span → List Found → Outcome Place
accessed v name subscripts = do
  x ← variable_named v name
  reached v x subscripts

-- a place that writes a whole variable
unfoldable pub threatened : Sight → Option Variable → ℕ → Outcome (Unit {0})
threatened v None at = Ok tt
threatened v (Some x) at = unless (is_threat v.level v.looping x) rule.Control at (Ok tt)

-- ---- actuals

abbrev pub expression_by : Result Found ℕ → Outcome Found
expression_by (Ok e) = Ok e
expression_by (Err at) = Err (Broken rule.Type at)

abbrev pub no_width : Option Found → Outcome (Unit {0})
no_width None = Ok tt
no_width (Some w) = Err (Broken rule.Type w.first)

unfoldable pub passed_by_value : Sight → Found → ℕ → Outcome (Unit {0})
passed_by_value v e t = do
  own ← e.value
  unless (not (fits v own t)) rule.Type e.first (Ok tt)

unfoldable pub passed_by_var : Sight → Found → ℕ → Outcome (Unit {0})
passed_by_var v e t = do
  place ← e.variable
  unless (is_other_type t place.of_type) rule.VarActual e.first (threatened v place.itself e.first)

abbrev pub passed_to : Sight → Formal → Found → Outcome (Unit {0})
passed_to v formal e = if formal.by_var then passed_by_var v e formal.of_type else passed_by_value v e formal.of_type

unfoldable pub passed : Sight → Option Formal → Given → Outcome (Unit {0})
passed v formal a = do
  e ← expression_by a.value
  f ← needed formal rule.ActualCount e.first
  done ← passed_to v f e
  no_width a.width

abbrev pub first_of : List Formal → Option Formal
first_of [] = None
first_of (f ∷ formals) = Some f

abbrev pub others : List Formal → List Formal
others [] = []
others (f ∷ formals) = formals

abbrev pub all_passed : Sight → List Formal → List Given → Outcome (Unit {0})
all_passed v formals [] = Ok tt
all_passed v formals (a ∷ actuals) = do
  done ← passed v (first_of formals) a
  all_passed v (others formals) actuals

abbrev pub formals_of : Option Heading → List Formal
formals_of None = []
formals_of (Some h) = h.formals

abbrev pub formals_at : Sight → ℕ → List Formal
formals_at v head = formals_of (slice_get v.headings head)

-- ---- what they write

-- a string writes nothing
abbrev pub given_writes : (Found → Writes) → Result Found ℕ → Writes
given_writes writes (Ok e) w = writes e w
given_writes writes (Err at) w = w

abbrev pub found_writes : Found → Writes
found_writes e = e.writes

-- the expression of an actual that is no string
abbrev pub actual_writes : Given → Writes
actual_writes a w = given_writes found_writes a.value w

abbrev pub variable_written : Sight → Outcome Place → Writes
variable_written v (Ok place) w = writes_whole v.level place.itself w
variable_written v (Err e) w = w

-- a variable that is passed by `var`, or read
abbrev pub variable_writes : Sight → Found → Writes
variable_writes v e w = variable_written v e.variable (e.writes w)

abbrev pub passed_writes_by : Sight → Option Formal → Found → Writes
passed_writes_by v None e w = w
passed_writes_by v (Some formal) e w = if formal.by_var then variable_writes v e w else e.writes w

abbrev pub passed_writes : Sight → Option Formal → Given → Writes
passed_writes v formal a w = given_writes (passed_writes_by v formal) a.value w

abbrev pub all_passed_writes : Sight → List Formal → List Given → Writes
all_passed_writes v formals [] w = w
all_passed_writes v formals (a ∷ actuals) w = all_passed_writes v (others formals) actuals (passed_writes v (first_of formals) a w)

-- ---- calls

abbrev pub type_of_result : Option Variable → ℕ
type_of_result None = 0
type_of_result (Some x) = x.of_type

-- the result of a function, inside its block
abbrev pub result_by : Option Heading → Option Variable
result_by None = None
result_by (Some h) = h.result

abbrev pub is_inside : List Labelled → ℕ → Bool
is_inside [] head = false
is_inside (block ∷ around) head = holds_of (λ (own : ℕ). nat_eq own head) block.function || is_inside around head

abbrev pub result_inside : Sight → ℕ → Option Variable
result_inside v head = if is_inside v.labels head then result_by (slice_get v.headings head) else None

-- what a call needs of a routine: its number, how many formals it has, and the type of its result
pub record Call : Type 0 where
  pub routine : ℕ
  pub formals : ℕ
  pub result : ℕ

abbrev pub call_of : Heading → Call
call_of h = record { routine = h.routine; formals = length h.formals; result = type_of_result h.result }

abbrev pub call_shown : Callee → Call
call_shown c = record { routine = c.routine; formals = c.formals; result = c.result }

abbrev pub callee_at : Sight → ℕ → Option Call
callee_at v head = option_map call_of (slice_get v.headings head)

abbrev pub called : Sight → ℕ → ℕ → List Given → Option Call → Outcome TypeOf
called v head at actuals None = Err (Broken rule.Kind at)
called v head at actuals (Some c) =
    unless (is_other_count c.formals (length actuals)) rule.ActualCount at
    (unless (is_call_in_assertion v.asserting) rule.AssertionCall at
    (do done ← all_passed v (formals_at v head) actuals; Ok (scalar (is_host (host_at v c.result) true))))

-- the same of a procedure, which may not stand in an assertion at all
abbrev pub called_with : Sight → ℕ → ℕ → List Given → Option Call → Outcome (Unit {0})
called_with v head at actuals None = Err (Broken rule.Kind at)
called_with v head at actuals (Some c) = unless (is_other_count c.formals (length actuals)) rule.ActualCount at (all_passed v (formals_at v head) actuals)

unfoldable pub function_call : Sight → ℕ → ℕ → List Given → Outcome TypeOf
function_call v head at actuals = called v head at actuals (callee_at v head)

-- what a required function gives for an operand of a host, where it takes that host
abbrev pub required_gives : Required → Bool → Option Bool
required_gives required.Abs false = Some false
required_gives required.Sqr false = Some false
required_gives required.Odd false = Some true
required_gives required.Succ b = Some b
required_gives required.Pred b = Some b
required_gives required.Ord b = Some false
required_gives _ _ = None

unfoldable pub required_of : Required → Given → Outcome TypeOf
required_of f a = do
  e ← expression_by a.value
  host ← scalar_of e
  given ← needed (required_gives f host) rule.Type e.first
  done ← no_width a.width
  Ok (scalar given)

abbrev pub required_call : Required → ℕ → List Given → Outcome TypeOf
required_call f at (a ∷ []) = required_of f a
required_call f at _ = Err (Broken rule.ActualCount at)

unfoldable pub call_by : Sight → Meaning → ℕ → List Given → Outcome TypeOf
call_by v (means.Routine head true) at actuals = function_call v head at actuals
call_by v (means.Required f) at actuals = required_call f at actuals
call_by v _ at actuals = Err (Broken rule.Kind at)

-- The rule that a function without actuals breaks in the place of a variable: it is none. Where it has formals, the number of its
-- actuals is wrong too, which has the lower code.
abbrev pub function_alone : Option Call → Rule
function_alone None = rule.VarActual
function_alone (Some c) = if is_other_count c.formals 0 then rule.ActualCount else rule.VarActual

-- The variable that a name without subscripts and actuals is. Each required function takes an actual.
unfoldable pub variable_by : Sight → Meaning → ℕ → Outcome Place
variable_by v (means.Variable x) at = Ok (record { of_type = x.of_type; itself = Some x })
variable_by v (means.Constant c) at = Err (Broken rule.VarActual at)
variable_by v (means.Routine head true) at = Err (Broken (function_alone (callee_at v head)) at)
variable_by v (means.Required f) at = Err (Broken rule.ActualCount at)
variable_by v _ at = Err (Broken rule.Kind at)

-- a constant or a variable, which stands without actuals
unfoldable pub alone_by : Sight → Meaning → Option TypeOf
alone_by v (means.Constant c) = Some (scalar c.boolean)
alone_by v (means.Variable x) = Some (value_at v x.of_type)
alone_by v _ = None

abbrev pub or_call : Option TypeOf → Outcome TypeOf → Outcome TypeOf
or_call None call = call
or_call (Some t) call = Ok t

abbrev pub named_by : Sight → Meaning → ℕ → List Given → Outcome TypeOf
named_by v m at [] = or_call (alone_by v m) (call_by v m at [])
named_by v m at (a ∷ actuals) = call_by v m at (a ∷ actuals)

-- a constant, a variable without subscripts, or a call
unfoldable pub named : Sight → Span → List Given → Outcome TypeOf
named v name actuals = do
  m ← meant v name
  named_by v m name.start actuals

abbrev pub call_writes : Sight → Outcome Meaning → List Given → Writes
call_writes v (Ok (means.Routine head function)) actuals w = all_passed_writes v (formals_at v head) actuals w
call_writes v (Ok m) actuals w = writes_in_turn actual_writes actuals w
call_writes v (Err e) actuals w = w

-- ---- operators

abbrev pub operand_host : BinOp → Option Bool
operand_host op.Add = Some false
operand_host op.Sub = Some false
operand_host op.Mul = Some false
operand_host op.Div = Some false
operand_host op.Mod = Some false
operand_host op.And = Some true
operand_host op.Or = Some true
operand_host _ = None

abbrev pub gives_truth : BinOp → Bool
gives_truth op.Add = false
gives_truth op.Sub = false
gives_truth op.Mul = false
gives_truth op.Div = false
gives_truth op.Mod = false
gives_truth _ = true

-- the host that the right operand must have, from the left one: the operands of a relation have one host
abbrev pub left_by : Option Bool → Found → Outcome Bool
left_by (Some wanted) left = do
  done ← of_host wanted left
  Ok wanted
left_by None left = scalar_of left

unfoldable pub left_operand : BinOp → Found → Outcome Bool
left_operand o left = left_by (operand_host o) left

-- ---- the whole

-- one form of expression, with what is found of its parts
abbrev pub value_of : Sight → Expr-F (Result Found ℕ) Found Reach Given → Outcome TypeOf
value_of v (Expr-F.Number value span) = Ok (scalar false)
value_of v (Expr-F.Name name actuals span) = named v name actuals
value_of v (Expr-F.Indexed access span) = do
  place ← access.place
  Ok (value_at v place.of_type)
value_of v (Expr-F.Paren inner span) = inner.value
value_of v (Expr-F.Not inner span) = do
  done ← of_host true inner
  Ok (scalar true)
value_of v (Expr-F.Signed sign inner span) = do
  done ← of_host false inner
  Ok (scalar false)
value_of v (Expr-F.Binary o left right at span) = do
  host ← left_operand o left
  done ← of_host host right
  Ok (scalar (gives_truth o))

-- what is no name and no name with subscripts is no variable
abbrev pub variable_in : Sight → Expr-F (Result Found ℕ) Found Reach Given → Outcome Place
variable_in v (Expr-F.Indexed access span) = access.place
variable_in v (Expr-F.Name name [] span) = do
  m ← meant v name
  variable_by v m name.start
variable_in v form = Err (lower_first (span_of_form form).start rule.VarActual (value_of v form))

-- what it writes, its parts in the order of the text
abbrev pub writes_of : Sight → Expr-F (Result Found ℕ) Found Reach Given → Writes
writes_of v (Expr-F.Number value span) w = w
writes_of v (Expr-F.Name name actuals span) w = call_writes v (meant v name) actuals w
writes_of v (Expr-F.Indexed access span) w = access.writes w
writes_of v (Expr-F.Paren inner span) w = inner.writes w
writes_of v (Expr-F.Not inner span) w = inner.writes w
writes_of v (Expr-F.Signed sign inner span) w = inner.writes w
writes_of v (Expr-F.Binary o left right at span) w = right.writes (left.writes w)

abbrev pub value_step : ActualValue-F (Result Found ℕ) Found Reach Given → Result Found ℕ
value_step (ActualValue-F.Value e) = Ok e
value_step (ActualValue-F.«Text» span) = Err span.start

abbrev pub expr_step : Sight → Expr-F (Result Found ℕ) Found Reach Given → Found
expr_step v form = record { first = (span_of_form form).start; value = value_of v form; variable = variable_in v form; writes = writes_of v form }

abbrev pub access_step : Sight → Access-F (Result Found ℕ) Found Reach Given → Reach
access_step v a = record { place = accessed v a.name a.subscripts; writes = writes_in_turn found_writes a.subscripts }

abbrev pub actual_step : Actual-F (Result Found ℕ) Found Reach Given → Given
actual_step a = record { value = a.value; width = a.width }

unfoldable pub found : Sight → Expr → Found
found v = fold-Expr (Result Found ℕ) Found Reach Given value_step (expr_step v) (access_step v) actual_step

unfoldable pub access_found : Sight → Access → Reach
access_found v = fold-Access (Result Found ℕ) Found Reach Given value_step (expr_step v) (access_step v) actual_step

unfoldable pub given : Sight → Actual → Given
given v = fold-Actual (Result Found ℕ) Found Reach Given value_step (expr_step v) (access_step v) actual_step

unfoldable pub value_given : Sight → ActualValue → Result Found ℕ
value_given v = fold-ActualValue (Result Found ℕ) Found Reach Given value_step (expr_step v) (access_step v) actual_step
