-- What expressions are in the program (ISO 7185, 6.5 to 6.7), where they break no rule: names are numbers, and each call of a
-- declared function has a hidden variable for its result.
use Rattle.std.specs.Prelude.{ℕ, ℤ, Bool, true, false, List, [], ◌∷◌, length, nat_eq, Option, Some, None, Result, Ok, Err, if◌then◌else◌}
use Rattle.px_base.specs.declared.operator.BinOp.{BinOp}
use Rattle.px_base.specs.declared.operator.UnOp.{UnOp}
use Rattle.px_base.specs.declared.operator.UnOp.TheVariants as op
use Rattle.px_base.specs.declared.place.Span.{Span}
use Rattle.pas_program.specs.declared.expr.Access.{Access, roll-Access}
use Rattle.pas_program.specs.declared.expr.Actual.{Actual}
use Rattle.pas_program.specs.declared.expr.Actual.TheVariants as passed_as
use Rattle.pas_program.specs.declared.expr.Actual.TheViews.{out-Access, out-Expr}
use Rattle.pas_program.specs.declared.expr.Expr.{Expr, roll-Expr}
use Rattle.pas_program.specs.declared.expr.ExprForm.{ExprForm}
use Rattle.pas_program.specs.declared.expr.ExprForm.TheVariants as form
use Rattle.pas_program.specs.declared.variable.VarKind.TheVariants as kind
use Rattle.pas_tree.specs.declared.constant.Sign.{Sign}
use Rattle.pas_tree.specs.declared.constant.Sign.TheVariants as sign
use Rattle.pas_tree.specs.declared.expr.Access as tree_access
use Rattle.pas_tree.specs.declared.expr.Actual as tree_actual
use Rattle.pas_tree.specs.declared.expr.ActualValue as tree_value
use Rattle.pas_tree.specs.declared.expr.ActualValue.TheOpen.{ActualValue-F, Expr-F, Access-F, Actual-F}
use Rattle.pas_tree.specs.declared.expr.ActualValue.TheFolds.{fold-ActualValue, fold-Expr, fold-Access, fold-Actual}
use Rattle.pas_tree.specs.declared.expr.Expr as tree
use Rattle.pas_check.specs.declared.access.Reached.{Reached}
use Rattle.pas_check.specs.declared.actual.Formal.{Formal}
use Rattle.pas_check.specs.declared.built.Built.{Built}
use Rattle.pas_check.specs.declared.expr.Typed.{Typed}
use Rattle.pas_check.specs.declared.expr.Typed.TheVariants as typed
use Rattle.pas_check.specs.declared.meaning.Meaning.{Meaning}
use Rattle.pas_check.specs.declared.meaning.Meaning.TheVariants as means
use Rattle.pas_check.specs.declared.meaning.Required.{Required}
use Rattle.pas_check.specs.declared.meaning.Required.TheVariants as required
use Rattle.pas_check.specs.declared.meaning.Variable.{Variable}
use Rattle.pas_check.specs.Built.{Builds, ◌>>=◌, allowed, with_own}
use Rattle.pas_check.specs.Constant.{number}
use Rattle.pas_check.specs.Expr.{Call, callee_at, first_of, formals_at, gives_truth, is_host, meant, others, variable_named}
use Rattle.pas_check.specs.Sight.{Sight, host_at, parts_at}

-- an expression as a value, and the variable that it is, if it is one
pub record Form : Type 0 where
  pub value : Builds Typed
  pub variable : Builds Reached

-- an actual: its expression, or the span of its string; and its width
pub record GivenForm : Type 0 where
  pub value : Result Form Span
  pub width : Option Form

-- ---- values

abbrev pub expr_of : ℕ → ExprForm → Expr
expr_of first f = roll-Expr (record { first = first; form = f })

abbrev pub scalar_of : ℕ → ExprForm → Bool → Typed
scalar_of first f boolean = typed.Scalar (expr_of first f) boolean

abbrev pub constant_form : ℕ → Bool → ℤ → Typed
constant_form first boolean value = scalar_of first (form.Const boolean value) boolean

-- the same with another first token
abbrev pub begun_at : ℕ → Typed → Typed
begun_at first (typed.Scalar e boolean) = scalar_of first (out-Expr e).form boolean
begun_at first (typed.Array a t) = typed.Array a t

abbrev pub as_scalar : Typed → Option (Expr × Bool)
as_scalar (typed.Scalar e boolean) = Some (e, boolean)
as_scalar (typed.Array a t) = None

-- a scalar with its host
unfoldable pub scalar_form : Form → Builds (Expr × Bool)
scalar_form e b = do
  t ← e.value b
  s ← as_scalar t.0
  Some (s, t.1)

-- the same without its host
unfoldable pub operand_form : Form → Builds Expr
operand_form e b = do
  x ← scalar_form e b
  Some (x.0.0, x.1)

-- ---- operators

abbrev pub unary_form : UnOp → Expr → ℕ → Bool → Typed
unary_form o operand at boolean = scalar_of at (form.Unary o operand at) boolean

abbrev pub signed_form : Sign → Expr → ℕ → Typed
signed_form sign.Minus operand at = unary_form op.Neg operand at false
signed_form sign.Plus operand at = scalar_of at (out-Expr operand).form false

abbrev pub binary_form : BinOp → Expr → Expr → ℕ → Typed
binary_form o left right at = scalar_of (out-Expr left).first (form.Binary o left right at) (gives_truth o)

-- the operator of a required function at an operand of a host, and the host of its result
abbrev pub required_operator : Required → Bool → Option (UnOp × Bool)
required_operator required.Abs false = Some (op.Abs, false)
required_operator required.Sqr false = Some (op.Sqr, false)
required_operator required.Odd false = Some (op.Odd, true)
required_operator required.Succ false = Some (op.SuccInt, false)
required_operator required.Succ true = Some (op.SuccBool, true)
required_operator required.Pred false = Some (op.PredInt, false)
required_operator required.Pred true = Some (op.PredBool, true)
required_operator required.Ord b = Some (op.OrdOf, false)
required_operator _ _ = None

-- ---- variables

abbrev pub access_of : Variable → List Expr → ℕ → Access
access_of x subscripts at = roll-Access (record { var = x.number; subscripts = subscripts; at = at })

abbrev pub alone : Variable → ℕ → Reached
alone x at = record { access = access_of x [] at; of_type = x.of_type; whole = Some x }

-- the value of a variable or of a part of one: a scalar, or a whole array
abbrev pub value_by : Option Bool → Access → ℕ → Typed
value_by (Some boolean) a t = scalar_of (out-Access a).at (form.Value a) boolean
value_by None a t = typed.Array a t

unfoldable pub value_made : Sight → Reached → Typed
value_made v r = value_by (host_at v r.of_type) r.access r.of_type

-- subscripts, and the type that they lead to from a type
abbrev pub subscripts_form : Sight → ℕ → List Form → Builds (List Expr × ℕ)
subscripts_form v t [] b = Some (([], t), b)
subscripts_form v t (s ∷ rest) b = do
  parts ← parts_at v t
  x ← operand_form s b
  more ← subscripts_form v parts.1 rest x.1
  Some ((x.0 ∷ more.0.0, more.0.1), more.1)

unfoldable pub reached_form : Sight → Variable → ℕ → List Form → Builds Reached
reached_form v x at subscripts b = do
  led ← subscripts_form v x.of_type subscripts b
  Some (record { access = access_of x led.0.0 at; of_type = led.0.1; whole = if nat_eq (length subscripts) 0 then Some x else None }, led.1)

unfoldable pub access_by : Sight → Span → List Form → Builds Reached
access_by v name subscripts b = do
  x ← allowed (variable_named v name)
  reached_form v x name.start subscripts b

-- ---- actuals

abbrev pub expression_form : Result Form Span → Option Form
expression_form (Ok e) = Some e
expression_form (Err span) = None

abbrev pub value_passed : Typed → Actual
value_passed (typed.Scalar e boolean) = passed_as.Value e
value_passed (typed.Array a t) = passed_as.Whole a

unfoldable pub passed_by_value_form : Form → Builds Actual
passed_by_value_form e b = do
  t ← e.value b
  Some (value_passed t.0, t.1)

unfoldable pub passed_by_var_form : Form → Builds Actual
passed_by_var_form e b = do
  r ← e.variable b
  Some (passed_as.Var r.0.access, r.1)

abbrev pub passed_to_form : Formal → Form → Builds Actual
passed_to_form formal e b = if formal.by_var then passed_by_var_form e b else passed_by_value_form e b

unfoldable pub passed_form : Option Formal → GivenForm → Builds Actual
passed_form formal a b = do
  e ← expression_form a.value
  f ← formal
  passed_to_form f e b

-- each for the formal at its place
abbrev pub all_passed_form : List Formal → List GivenForm → Builds (List Actual)
all_passed_form formals [] b = Some ([], b)
all_passed_form formals (a ∷ actuals) b = do
  x ← passed_form (first_of formals) a b
  xs ← all_passed_form (others formals) actuals x.1
  Some (x.0 ∷ xs.0, xs.1)

-- ---- calls

-- a call of a declared function, whose result is kept in a hidden variable
abbrev pub called_form : Sight → Call → List Formal → Span → List GivenForm → Builds Typed
called_form v c formals name actuals b = do
  xs ← all_passed_form formals actuals (with_own name kind.Slot c.result b)
  Some (scalar_of name.start (form.Call c.routine xs.0 (length b.vars) name.start) (is_host (host_at v c.result) true), xs.1)

unfoldable pub function_form : Sight → ℕ → Span → List GivenForm → Builds Typed
function_form v head name actuals b = do
  c ← callee_at v head
  called_form v c (formals_at v head) name actuals b

unfoldable pub required_of_form : Required → ℕ → GivenForm → Builds Typed
required_of_form f at a b = do
  e ← expression_form a.value
  x ← scalar_form e b
  o ← required_operator f x.0.1
  Some (unary_form o.0 x.0.0 at o.1, x.1)

abbrev pub required_form : Required → ℕ → List GivenForm → Builds Typed
required_form f at (a ∷ []) b = required_of_form f at a b
required_form f at _ b = None

unfoldable pub call_form : Sight → Meaning → Span → List GivenForm → Builds Typed
call_form v (means.Routine head true) name actuals b = function_form v head name actuals b
call_form v (means.Required f) name actuals b = required_form f name.start actuals b
call_form v _ name actuals b = None

-- a constant or a variable, which stands without actuals
unfoldable pub alone_form : Sight → Meaning → ℕ → Option Typed
alone_form v (means.Constant c) at = Some (constant_form at c.boolean c.value)
alone_form v (means.Variable x) at = Some (value_made v (alone x at))
alone_form v _ at = None

abbrev pub or_call_form : Option Typed → Built → Option (Typed × Built) → Option (Typed × Built)
or_call_form None b call = call
or_call_form (Some t) b call = Some (t, b)

abbrev pub named_by_form : Sight → Meaning → Span → List GivenForm → Builds Typed
named_by_form v m name [] b = or_call_form (alone_form v m name.start) b (call_form v m name [] b)
named_by_form v m name (a ∷ actuals) b = call_form v m name (a ∷ actuals) b

-- a constant, a variable without subscripts, or a call
unfoldable pub named_form : Sight → Span → List GivenForm → Builds Typed
named_form v name actuals b = do
  m ← allowed (meant v name)
  named_by_form v m name actuals b

-- ---- the whole

-- one form of expression, with its parts
abbrev pub value_of : Sight → Expr-F (Result Form Span) Form (Builds Reached) GivenForm → Builds Typed
value_of v (Expr-F.Number value span) b = Some (constant_form span.start false (number value), b)
value_of v (Expr-F.Name name actuals span) b = named_form v name actuals b
value_of v (Expr-F.Indexed access span) b = do
  r ← access b
  Some (value_made v r.0, r.1)
value_of v (Expr-F.Paren inner span) b = do
  t ← inner.value b
  Some (begun_at span.start t.0, t.1)
value_of v (Expr-F.Not inner span) b = do
  x ← operand_form inner b
  Some (unary_form op.Not x.0 span.start true, x.1)
value_of v (Expr-F.Signed s inner span) b = do
  x ← operand_form inner b
  Some (signed_form s x.0 span.start, x.1)
value_of v (Expr-F.Binary o left right at span) b = do
  x ← operand_form left b
  y ← operand_form right x.1
  Some (binary_form o x.0 y.0 at.start, y.1)

-- a name, or a name with subscripts
abbrev pub alone_meant : Meaning → ℕ → Option Reached
alone_meant (means.Variable x) at = Some (alone x at)
alone_meant _ at = None

abbrev pub variable_in : Sight → Expr-F (Result Form Span) Form (Builds Reached) GivenForm → Builds Reached
variable_in v (Expr-F.Indexed access span) b = access b
variable_in v (Expr-F.Name name [] span) b = do
  m ← allowed (meant v name)
  r ← alone_meant m name.start
  Some (r, b)
variable_in v _ b = None

abbrev pub value_step : ActualValue-F (Result Form Span) Form (Builds Reached) GivenForm → Result Form Span
value_step (ActualValue-F.Value e) = Ok e
value_step (ActualValue-F.«Text» span) = Err span

abbrev pub expr_step : Sight → Expr-F (Result Form Span) Form (Builds Reached) GivenForm → Form
expr_step v f = record { value = value_of v f; variable = variable_in v f }

abbrev pub access_step : Sight → Access-F (Result Form Span) Form (Builds Reached) GivenForm → Builds Reached
access_step v a = access_by v a.name a.subscripts

abbrev pub actual_step : Actual-F (Result Form Span) Form (Builds Reached) GivenForm → GivenForm
actual_step a = record { value = a.value; width = a.width }

unfoldable pub expr_form : Sight → tree.Expr → Form
expr_form v = fold-Expr (Result Form Span) Form (Builds Reached) GivenForm value_step (expr_step v) (access_step v) actual_step

unfoldable pub access_form : Sight → tree_access.Access → Builds Reached
access_form v = fold-Access (Result Form Span) Form (Builds Reached) GivenForm value_step (expr_step v) (access_step v) actual_step

unfoldable pub given_form : Sight → tree_actual.Actual → GivenForm
given_form v = fold-Actual (Result Form Span) Form (Builds Reached) GivenForm value_step (expr_step v) (access_step v) actual_step

unfoldable pub actual_value_form : Sight → tree_value.ActualValue → Result Form Span
actual_value_form v = fold-ActualValue (Result Form Span) Form (Builds Reached) GivenForm value_step (expr_step v) (access_step v) actual_step
