-- The errors that an action may be, in the order of evaluation, each with its place (ISO 7185, 3.2 and 6.5 to 6.9). Those of
-- the calls in it are not among them: the calls are actions of their own.
use Rattle.std.specs.Prelude.{ℕ, Bool, true, false, ◌&&◌, not, List, [], ◌∷◌, ◌++◌, pos, neg_ℤ, Option, Some, None, slice_get, if◌then◌else◌}
use Rattle.std.specs.Ordering.{int_eq}
use Rattle.px_base.specs.declared.kind.Kind.{Kind}
use Rattle.px_base.specs.declared.kind.Kind.TheVariants.{Overflow, DivisionByZero, ModulusNotPositive, UndefinedValue, IndexOutOfRange, ValueOutOfRange, NoCaseLabel, NoNeighbour, NoNumber, WidthOutOfRange, Assertion, NoResult}
use Rattle.px_base.specs.declared.operator.BinOp.{BinOp}
use Rattle.px_base.specs.declared.operator.BinOp.TheVariants as binary
use Rattle.px_base.specs.declared.operator.UnOp.{UnOp}
use Rattle.px_base.specs.declared.operator.UnOp.TheVariants as unary
use Rattle.pas_program.specs.declared.expr.Access.{Access}
use Rattle.pas_program.specs.declared.expr.Actual.{Actual}
use Rattle.pas_program.specs.declared.expr.Actual.TheOpen.{Access-F, Actual-F, ExprForm-F, Expr-F}
use Rattle.pas_program.specs.declared.expr.Actual.TheFolds.{fold-Access, fold-Expr, fold-ExprForm}
use Rattle.pas_program.specs.declared.expr.Actual.TheViews.{out-Access, out-Actual, out-Expr}
use Rattle.pas_program.specs.declared.expr.Expr.{Expr}
use Rattle.pas_program.specs.declared.expr.ExprForm.{ExprForm}
use Rattle.pas_program.specs.declared.statement.WriteItem.{WriteItem}
use Rattle.pas_program.specs.declared.statement.WriteValue.{WriteValue}
use Rattle.pas_program.specs.declared.statement.WriteValue.TheVariants as written
use Rattle.pas_program.specs.declared.type_def.TypeDef.{TypeDef}
use Rattle.pas_program.specs.declared.type_def.TypeDef.TheVariants.{Scalar}
use Rattle.pas_program.specs.declared.routine.Assert.{Assert}
use Rattle.pas_program.specs.Tables.{Tables, Head}
use Rattle.pas_program.specs.Types.{maxint}
use Rattle.control_points.specs.declared.fault.Fault.{Fault}
use Rattle.control_points.specs.Evaluation.{index_type, element_type, var_type}

abbrev pub Faults : Type 0
Faults = List Fault

abbrev pub one : Kind → ℕ → Faults
one kind at = record { kind = kind; at = at } ∷ []

abbrev pub one_if : Bool → Kind → ℕ → Faults
one_if holds kind at = if holds then one kind at else []

-- whether a type has less values than its host
abbrev pub is_narrow : Option TypeDef → Bool
is_narrow (Some (Scalar true lo hi)) = not (int_eq lo (pos 0) && int_eq hi (pos 1))
is_narrow (Some (Scalar false lo hi)) = not (int_eq lo (neg_ℤ (pos maxint)) && int_eq hi (pos maxint))
is_narrow _ = false

-- ---- operators

abbrev pub unary_checks : UnOp → ℕ → Faults
unary_checks unary.Sqr at = one Overflow at
unary_checks unary.SuccInt at = one NoNeighbour at
unary_checks unary.PredInt at = one NoNeighbour at
unary_checks unary.SuccBool at = one NoNeighbour at
unary_checks unary.PredBool at = one NoNeighbour at
unary_checks _ at = []

abbrev pub binary_checks : BinOp → ℕ → Faults
binary_checks binary.Add at = one Overflow at
binary_checks binary.Sub at = one Overflow at
binary_checks binary.Mul at = one Overflow at
binary_checks binary.Div at = one DivisionByZero at
binary_checks binary.Mod at = one ModulusNotPositive at
binary_checks _ at = []

-- ---- expressions

-- an expression's first place, or that of a variable's name, with the errors of its evaluation
pub record Checked : Type 0 where
  pub first : ℕ
  pub faults : Faults

-- the subscripts of a variable of type n, each checked after its own evaluation
abbrev pub subscripts_checks : Tables → ℕ → List Checked → Faults
subscripts_checks t n [] = []
subscripts_checks t n (s ∷ rest) =
    (s.faults ++ one_if (is_narrow (t.type_at (index_type (t.type_at n)))) IndexOutOfRange s.first)
    ++ subscripts_checks t (element_type (t.type_at n)) rest

abbrev pub access_step : Tables → Access-F (Unit {0}) Faults Checked Checked → Checked
access_step t a = record { first = a.at; faults = subscripts_checks t (var_type t a.var) a.subscripts }

-- a variable whose value is used
abbrev pub used_checks : Checked → Faults
used_checks a = a.faults ++ one UndefinedValue a.first

abbrev pub form_step : Tables → ExprForm-F (Unit {0}) Faults Checked Checked → Faults
form_step t (ExprForm-F.Const boolean value) = []
form_step t (ExprForm-F.«ExprForm::Value» access) = used_checks access
form_step t (ExprForm-F.Unary op operand at) = operand.faults ++ unary_checks op at
form_step t (ExprForm-F.Binary op left right at) = left.faults ++ (right.faults ++ binary_checks op at)
form_step t (ExprForm-F.Call routine actuals slot at) = []

abbrev pub expr_step : Expr-F (Unit {0}) Faults Checked Checked → Checked
expr_step e = record { first = e.first; faults = e.form }

abbrev pub checked_expr : Tables → Expr → Checked
checked_expr t = fold-Expr (Unit {0}) Faults Checked Checked (λ a. tt) (form_step t) (access_step t) expr_step

abbrev pub form_checks : Tables → ExprForm → Faults
form_checks t = fold-ExprForm (Unit {0}) Faults Checked Checked (λ a. tt) (form_step t) (access_step t) expr_step

abbrev pub checked_access : Tables → Access → Checked
checked_access t = fold-Access (Unit {0}) Faults Checked Checked (λ a. tt) (form_step t) (access_step t) expr_step

abbrev pub expr_checks : Tables → Expr → Faults
expr_checks t e = (checked_expr t e).faults

-- a variable that is assigned to, copied or passed
abbrev pub access_checks : Tables → Access → Faults
access_checks t a = (checked_access t a).faults

-- a value that goes to a variable of type n
abbrev pub assigned_checks : Tables → ℕ → Expr → Faults
assigned_checks t n e = expr_checks t e ++ one_if (is_narrow (t.type_at n)) ValueOutOfRange (out-Expr e).first

-- ---- actions

-- an actual, for the formal v
abbrev pub actual_checks : Tables → ℕ → Actual-F Actual ExprForm Access Expr → Faults
actual_checks t v (Actual-F.«Actual::Value» e) = assigned_checks t (var_type t v) e
actual_checks t v (Actual-F.Whole a) = access_checks t a
actual_checks t v (Actual-F.Var a) = access_checks t a

abbrev pub passing_checks : Tables → List Actual → List ℕ → Faults
passing_checks t [] formals = []
passing_checks t (a ∷ actuals) [] = []
passing_checks t (a ∷ actuals) (v ∷ formals) = actual_checks t v (out-Actual a) ++ passing_checks t actuals formals

abbrev pub read_checks : Tables → ℕ → Access → Faults
read_checks t n a = access_checks t a ++ (one NoNumber (out-Access a).at ++ one_if (is_narrow (t.type_at n)) ValueOutOfRange (out-Access a).at)

abbrev pub written_checks : Tables → WriteValue → Faults
written_checks t (written.Value e) = expr_checks t e
written_checks t (written.Text bytes at) = []

abbrev pub width_checks : Tables → Option Expr → Faults
width_checks t None = []
width_checks t (Some e) = expr_checks t e ++ one WidthOutOfRange (out-Expr e).first

abbrev pub item_checks : Tables → WriteItem → Faults
item_checks t item = written_checks t item.value ++ width_checks t item.width

abbrev pub selector_checks : Tables → Expr → Faults
selector_checks t e = expr_checks t e ++ one NoCaseLabel (out-Expr e).first

-- both bounds of a `for` over a variable of type n, after the evaluation of both
abbrev pub bounds_checks : Tables → ℕ → Expr → Expr → Faults
bounds_checks t n first last =
    expr_checks t first ++ (expr_checks t last
    ++ (one_if (is_narrow (t.type_at n)) ValueOutOfRange (out-Expr first).first ++ one_if (is_narrow (t.type_at n)) ValueOutOfRange (out-Expr last).first))

-- the formals of a routine
abbrev pub formals_of : Option Head → List ℕ
formals_of None = []
formals_of (Some h) = h.formals

-- an assertion that must always hold
abbrev pub assert_check : Option Assert → Faults
assert_check None = []
assert_check (Some a) = if a.sometime then [] else one Assertion (out-Expr a.cond).first

abbrev pub assert_checks : List Assert → List ℕ → Faults
assert_checks asserts [] = []
assert_checks asserts (a ∷ listed) = assert_check (slice_get asserts a) ++ assert_checks asserts listed

-- a function's result at its exit
abbrev pub result_checks : Option ℕ → ℕ → Faults
result_checks None at = []
result_checks (Some v) at = one NoResult at
