-- The rules of types (ISO 7185, 6.4, 6.7 and 6.8), on what a checked program has left of them.
--     An expression has a host: Boolean or integer. An access has a type.
use Rattle.std.specs.Prelude.{ℕ, ℤ, Bool, true, false, ◌&&◌, not, List, [], ◌∷◌, map, Option, Some, None, is_none, nat_eq}
use Rattle.std.specs.Bool.{beq}
use Rattle.std.specs.List.{list_all}
use Rattle.std.specs.Option.{option_map, option_and_then}
use Rattle.px_base.specs.declared.operator.BinOp.{BinOp}
use Rattle.px_base.specs.declared.operator.BinOp.TheVariants as binary
use Rattle.px_base.specs.declared.operator.UnOp.{UnOp}
use Rattle.px_base.specs.declared.operator.UnOp.TheVariants as unary
use Rattle.pas_program.specs.declared.expr.Access.{Access}
use Rattle.pas_program.specs.declared.expr.Actual.{Actual}
use Rattle.pas_program.specs.declared.expr.Actual.TheOpen.{Access-F, Actual-F, ExprForm-F, Expr-F}
use Rattle.pas_program.specs.declared.expr.Actual.TheFolds.{fold-Access, fold-Actual, fold-Expr, fold-ExprForm}
use Rattle.pas_program.specs.declared.expr.Expr.{Expr}
use Rattle.pas_program.specs.declared.expr.ExprForm.{ExprForm}
use Rattle.pas_program.specs.declared.statement.Arm.{Arm}
use Rattle.pas_program.specs.declared.statement.Body.{Body}
use Rattle.pas_program.specs.declared.statement.Body.TheOpen.{Body-F, Statement-F}
use Rattle.pas_program.specs.declared.statement.Body.TheFolds.{fold-Arm, fold-Body, fold-Statement}
use Rattle.pas_program.specs.declared.statement.Statement.{Statement}
use Rattle.pas_program.specs.declared.statement.WriteItem.{WriteItem}
use Rattle.pas_program.specs.declared.statement.WriteValue.{WriteValue}
use Rattle.pas_program.specs.declared.statement.WriteValue.TheVariants as written
use Rattle.pas_program.specs.declared.type_def.TypeDef.{TypeDef}
use Rattle.pas_program.specs.declared.type_def.TypeDef.TheVariants.{Scalar, Array}
use Rattle.pas_program.specs.declared.variable.VarDef.{VarDef}
use Rattle.pas_program.specs.declared.variable.VarKind.TheVariants as kind
use Rattle.pas_program.specs.Each.{all_true, true_if_some, arm_step, constants}
use Rattle.pas_program.specs.Tables.{Tables, Head, holds_of, is_kind}
use Rattle.pas_program.specs.Types.{in_host, is_array, has_host}

-- whether the types within fit, and then the host: true for Boolean
pub record Hosted : Type 0 where
  pub fits : Bool
  pub boolean : Bool

-- whether the types within fit, and then the type's number
pub record Reached : Type 0 where
  pub fits : Bool
  pub of_type : ℕ

-- an actual, as the formal that it is for must be
pub data Passed : Type 0 where
  scalar : Hosted → Passed
  whole : Reached → Passed
  by_var : Reached → Passed

-- ---- operators

-- whether the operand may have the host, and the result's host
abbrev pub unary_takes : UnOp → Bool → Bool
unary_takes unary.Not boolean = boolean
unary_takes unary.SuccBool boolean = boolean
unary_takes unary.PredBool boolean = boolean
unary_takes unary.OrdOf boolean = true
unary_takes _ boolean = not boolean

abbrev pub unary_gives : UnOp → Bool
unary_gives unary.Not = true
unary_gives unary.Odd = true
unary_gives unary.SuccBool = true
unary_gives unary.PredBool = true
unary_gives _ = false

-- the operands of a relation have one host
abbrev pub binary_takes : BinOp → Bool → Bool → Bool
binary_takes binary.Add left right = not left && not right
binary_takes binary.Sub left right = not left && not right
binary_takes binary.Mul left right = not left && not right
binary_takes binary.Div left right = not left && not right
binary_takes binary.Mod left right = not left && not right
binary_takes binary.And left right = left && right
binary_takes binary.Or left right = left && right
binary_takes _ left right = beq left right

abbrev pub binary_gives : BinOp → Bool
binary_gives binary.Add = false
binary_gives binary.Sub = false
binary_gives binary.Mul = false
binary_gives binary.Div = false
binary_gives binary.Mod = false
binary_gives _ = true

-- ---- expressions: one level, with the answers for its parts

-- the host of a type, as an expression that has it
abbrev pub hosted_by : Option TypeDef → Hosted
hosted_by (Some (Scalar boolean lo hi)) = record { fits = true; boolean = boolean }
hosted_by _ = record { fits = false; boolean = false }

abbrev pub hosted_if : Bool → Hosted → Hosted
hosted_if b h = record { fits = b && h.fits; boolean = h.boolean }

-- one subscript at a type, which must be an array's and have an index of the subscript's host; `rest` is what comes of
-- the element type
abbrev pub element_of : Tables → Hosted → (ℕ → Reached) → Option TypeDef → Reached
element_of t s rest (Some (Array index element)) =
    record { fits = (s.fits && has_host s.boolean (t.type_at index)) && (rest element).fits; of_type = (rest element).of_type }
element_of t s rest _ = record { fits = false; of_type = 0 }

-- the type that subscripts lead to from the type n
abbrev pub subscripted : Tables → ℕ → List Hosted → Reached
subscripted t n [] = record { fits = true; of_type = n }
subscripted t n (s ∷ subscripts) = element_of t s (λ e. subscripted t e subscripts) (t.type_at n)

abbrev pub access_from : Tables → List Hosted → Option VarDef → Reached
access_from t subscripts (Some d) = subscripted t d.of_type subscripts
access_from t subscripts None = record { fits = false; of_type = 0 }

abbrev pub access_type_step : Tables → Access-F Passed Hosted Reached Hosted → Reached
access_type_step t a = access_from t a.subscripts (t.var_at a.var)

-- a scalar, a whole array, or a variable of any type
abbrev pub actual_type_step : Actual-F Passed Hosted Reached Hosted → Passed
actual_type_step (Actual-F.«Actual::Value» value) = scalar value
actual_type_step (Actual-F.Whole access) = whole access
actual_type_step (Actual-F.Var access) = by_var access

-- whether an actual fits its formal: a scalar by its host, all else by the very type
abbrev pub is_passed_to : Tables → Passed → VarDef → Bool
is_passed_to t (scalar value) formal = value.fits && (is_kind kind.Value formal.kind && has_host value.boolean (t.type_at formal.of_type))
is_passed_to t (whole access) formal = access.fits && (is_kind kind.Value formal.kind && (nat_eq access.of_type formal.of_type && is_array (t.type_at formal.of_type)))
is_passed_to t (by_var access) formal = access.fits && (is_kind kind.Var formal.kind && nat_eq access.of_type formal.of_type)

abbrev pub are_passed_to : Tables → List Passed → List ℕ → Bool
are_passed_to t [] [] = true
are_passed_to t (a ∷ actuals) (f ∷ formals) = holds_of (is_passed_to t a) (t.var_at f) && are_passed_to t actuals formals
are_passed_to t _ _ = false

abbrev pub type_of_var : Tables → ℕ → Option TypeDef
type_of_var t v = option_and_then (λ d. t.type_at d.of_type) (t.var_at v)

-- a call of a function, whose slot has the type of its result
abbrev pub function_fits : Tables → List Passed → ℕ → Head → Bool
function_fits t actuals slot h = are_passed_to t actuals h.formals && holds_of (λ v. holds_of (λ d. holds_of (λ s. nat_eq s.of_type d.of_type) (t.var_at slot)) (t.var_at v)) h.result

-- a call of a procedure
abbrev pub procedure_fits : Tables → List Passed → Head → Bool
procedure_fits t actuals h = are_passed_to t actuals h.formals && is_none h.result

-- the host that an operator gives, where its operands may have theirs
abbrev pub unary_host : UnOp → Hosted → Hosted
unary_host op part = record { fits = part.fits && unary_takes op part.boolean; boolean = unary_gives op }

abbrev pub binary_host : BinOp → Hosted → Hosted → Hosted
binary_host op left right = record { fits = (left.fits && right.fits) && binary_takes op left.boolean right.boolean; boolean = binary_gives op }

abbrev pub form_type_step : Tables → ExprForm-F Passed Hosted Reached Hosted → Hosted
form_type_step t (ExprForm-F.Const boolean value) = record { fits = in_host boolean value; boolean = boolean }
form_type_step t (ExprForm-F.«ExprForm::Value» access) = hosted_if access.fits (hosted_by (t.type_at access.of_type))
form_type_step t (ExprForm-F.Unary op part at) = unary_host op part
form_type_step t (ExprForm-F.Binary op left right at) = binary_host op left right
form_type_step t (ExprForm-F.Call routine actuals slot at) = hosted_if (holds_of (function_fits t actuals slot) (t.head_at routine)) (hosted_by (type_of_var t slot))

abbrev pub expr_type_step : Expr-F Passed Hosted Reached Hosted → Hosted
expr_type_step e = e.form

abbrev pub hosted : Tables → Expr → Hosted
hosted t = fold-Expr Passed Hosted Reached Hosted actual_type_step (form_type_step t) (access_type_step t) expr_type_step

abbrev pub hosted_form : Tables → ExprForm → Hosted
hosted_form t = fold-ExprForm Passed Hosted Reached Hosted actual_type_step (form_type_step t) (access_type_step t) expr_type_step

abbrev pub reached : Tables → Access → Reached
reached t = fold-Access Passed Hosted Reached Hosted actual_type_step (form_type_step t) (access_type_step t) expr_type_step

abbrev pub passed : Tables → Actual → Passed
passed t = fold-Actual Passed Hosted Reached Hosted actual_type_step (form_type_step t) (access_type_step t) expr_type_step

-- ---- statements

abbrev pub is_of_host : Bool → Hosted → Bool
is_of_host boolean h = h.fits && beq boolean h.boolean

-- a variable that takes a number of the host
abbrev pub is_target : Tables → Bool → Reached → Bool
is_target t boolean r = r.fits && has_host boolean (t.type_at r.of_type)

-- two whole arrays of the very same type
abbrev pub copy_fits : Tables → Reached → Reached → Bool
copy_fits t target source = (target.fits && source.fits) && (nat_eq target.of_type source.of_type && is_array (t.type_at target.of_type))

abbrev pub written_fits : Tables → WriteValue → Bool
written_fits t (written.Value value) = (hosted t value).fits
written_fits t (written.Text bytes at) = true

abbrev pub item_fits : Tables → WriteItem → Bool
item_fits t item = written_fits t item.value && true_if_some (option_map (λ e. is_of_host false (hosted t e)) item.width)

-- both bounds have the host of the control variable, which is that of the hidden one too
abbrev pub loop_fits : Tables → ℕ → ℕ → Hosted → Hosted → Bool
loop_fits t control bound first last =
    (first.fits && last.fits) && ((has_host first.boolean (type_of_var t control) && has_host last.boolean (type_of_var t control))
    && holds_of (λ c. holds_of (λ b. nat_eq b.of_type c.of_type) (t.var_at bound)) (t.var_at control))

abbrev pub body_type_step : Tables → Body-F Bool (Bool × List ℤ) Bool → Bool
body_type_step t Body-F.Empty = true
body_type_step t (Body-F.Assign target value) = (hosted t value).fits && is_target t (hosted t value).boolean (reached t target)
body_type_step t (Body-F.Copy target source) = copy_fits t (reached t target) (reached t source)
body_type_step t (Body-F.Call routine actuals at) = holds_of (procedure_fits t (map (passed t) actuals)) (t.head_at routine)
body_type_step t (Body-F.Read targets line) = list_all (λ a. is_target t false (reached t a)) targets
body_type_step t (Body-F.Write items line) = list_all (item_fits t) items
body_type_step t (Body-F.Goto routine label) = true
body_type_step t (Body-F.Begin body end) = all_true body
body_type_step t (Body-F.If test first second) = is_of_host true (hosted t test) && (first && true_if_some second)
body_type_step t (Body-F.Case selector arms) = (hosted t selector).fits && (list_all (in_host (hosted t selector).boolean) (constants arms) && all_true (map (λ a. a.0) arms))
body_type_step t (Body-F.While test body) = is_of_host true (hosted t test) && body
body_type_step t (Body-F.Repeat body at test) = all_true body && is_of_host true (hosted t test)
body_type_step t (Body-F.For control bound first down last body) = loop_fits t control bound (hosted t first) (hosted t last) && body

abbrev pub statement_type_step : Statement-F Bool (Bool × List ℤ) Bool → Bool
statement_type_step s = s.body

abbrev pub statement_types_fit : Tables → Statement → Bool
statement_types_fit t = fold-Statement Bool (Bool × List ℤ) Bool (body_type_step t) arm_step statement_type_step

abbrev pub body_types_fit : Tables → Body → Bool
body_types_fit t = fold-Body Bool (Bool × List ℤ) Bool (body_type_step t) arm_step statement_type_step

-- of an arm, with its constants
abbrev pub arm_types : Tables → Arm → Bool × List ℤ
arm_types t = fold-Arm Bool (Bool × List ℤ) Bool (body_type_step t) arm_step statement_type_step

abbrev pub arm_types_fit : Tables → Arm → Bool
arm_types_fit t a = (arm_types t a).0
