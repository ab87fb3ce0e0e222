-- The value of an expression (ISO 7185, 6.7), or the first error of its evaluation, with its place. Operands and subscripts
-- are evaluated from left to right, and both operands of `and` and `or` are. The calls in the expression have been made, and
-- the value of each is kept in the variable that is its slot.
use Rattle.std.specs.Prelude.{ℕ, Bool, false, ◌&&◌, List, [], ◌∷◌, ℤ, int_le, Option, Some, None, Result, Ok, Err, if◌then◌else◌}
use Rattle.std.specs.Option.{option_map, unwrap_or}
use Rattle.arithmetic.specs.Operators.{binary_result, unary_result}
use Rattle.px_base.specs.declared.kind.Kind.{Kind}
use Rattle.px_base.specs.declared.kind.Kind.TheVariants.{UndefinedValue, IndexOutOfRange, ValueOutOfRange}
use Rattle.pas_program.specs.declared.expr.Access.{Access}
use Rattle.pas_program.specs.declared.expr.Actual.TheOpen.{Access-F, ExprForm-F, Expr-F}
use Rattle.pas_program.specs.declared.expr.Actual.TheFolds.{fold-Access, fold-Expr}
use Rattle.pas_program.specs.declared.expr.Actual.TheViews.{out-Access, out-Expr}
use Rattle.pas_program.specs.declared.expr.Expr.{Expr}
use Rattle.pas_program.specs.declared.type_def.TypeDef.{TypeDef}
use Rattle.pas_program.specs.declared.type_def.TypeDef.TheVariants.{Scalar, Array}
use Rattle.pas_program.specs.declared.variable.VarDef.{VarDef}
use Rattle.pas_program.specs.Tables.{Tables}
use Rattle.control_points.specs.declared.fault.Fault.{Fault}
use Rattle.control_points.specs.Storage.{Place, Store, part}

-- ---- answers

abbrev pub Answer : Type 0 → Type 0
Answer A = Result A Fault

abbrev pub fault : {A : Type 0} → Kind → ℕ → Answer A
fault kind at = Err (record { kind = kind; at = at })

-- the second, with what the first gives; the first error counts
abbrev pub then_with : {A B : Type 0} → Answer A → (A → Answer B) → Answer B
then_with (Ok x) f = f x
then_with (Err e) f = Err e

-- the number, where it passes a test
abbrev pub checked : Bool → Kind → ℕ → ℤ → Answer ℤ
checked holds kind at z = if holds then Ok z else fault kind at

-- what an operator at a place gives
abbrev pub placed : ℕ → Result ℤ Kind → Answer ℤ
placed at (Ok z) = Ok z
placed at (Err kind) = fault kind at

-- ---- types

-- whether a number is a value of a scalar type
abbrev pub is_value_of : Option TypeDef → ℤ → Bool
is_value_of (Some (Scalar boolean lo hi)) z = int_le lo z && int_le z hi
is_value_of _ z = false

-- the index type and the element type of an array
abbrev pub index_type : Option TypeDef → ℕ
index_type (Some (Array index element)) = index
index_type _ = 0

abbrev pub element_type : Option TypeDef → ℕ
element_type (Some (Array index element)) = element
element_type _ = 0

-- ---- expressions

-- What an expression is evaluated in: the program's tables, where each variable is, and what is stored.
pub record View : Type 0 where
  pub tables : Tables
  pub place : ℕ → Place
  pub store : Store

-- an expression's first place in the source, with its value
pub record Valued : Type 0 where
  pub first : ℕ
  pub value : Answer ℤ

-- a variable's place in storage, and the place of its name in the source
pub record Spot : Type 0 where
  pub place : Place
  pub at : ℕ

-- the subscripts of a variable of type n, each checked after its own evaluation
abbrev pub subscript_values : Tables → ℕ → List Valued → Answer (List ℤ)
subscript_values t n [] = Ok []
subscript_values t n (s ∷ rest) =
    then_with s.value (λ z.
    then_with (checked (is_value_of (t.type_at (index_type (t.type_at n))) z) IndexOutOfRange s.first z) (λ z.
    then_with (subscript_values t (element_type (t.type_at n)) rest) (λ zs. Ok (z ∷ zs))))

-- the type of a variable
abbrev pub var_type : Tables → ℕ → ℕ
var_type t v = unwrap_or (option_map (λ (d : VarDef). d.of_type) (t.var_at v)) 0

-- the type of the part of a variable of type n that subscripts lead to
abbrev pub part_type : Tables → ℕ → List Expr → ℕ
part_type t n [] = n
part_type t n (e ∷ subscripts) = part_type t (element_type (t.type_at n)) subscripts

abbrev pub access_type : Tables → Access → ℕ
access_type t a = part_type t (var_type t (out-Access a).var) (out-Access a).subscripts

-- what a place holds, where that is used
abbrev pub defined : ℕ → Option ℤ → Answer ℤ
defined at (Some z) = Ok z
defined at None = fault UndefinedValue at

abbrev pub used : View → Spot → Answer ℤ
used view spot = defined spot.at (view.store spot.place)

abbrev pub access_step : View → Access-F (Unit {0}) (Answer ℤ) (Answer Spot) Valued → Answer Spot
access_step view a =
    then_with (subscript_values view.tables (var_type view.tables a.var) a.subscripts) (λ zs.
    Ok (record { place = part (view.place a.var) zs; at = a.at }))

abbrev pub form_step : View → ExprForm-F (Unit {0}) (Answer ℤ) (Answer Spot) Valued → Answer ℤ
form_step view (ExprForm-F.Const boolean value) = Ok value
form_step view (ExprForm-F.«ExprForm::Value» access) = then_with access (used view)
form_step view (ExprForm-F.Unary op operand at) = then_with operand.value (λ x. placed at (unary_result op x))
form_step view (ExprForm-F.Binary op left right at) = then_with left.value (λ x. then_with right.value (λ y. placed at (binary_result op x y)))
form_step view (ExprForm-F.Call routine actuals slot at) = used view (record { place = view.place slot; at = at })

abbrev pub expr_step : Expr-F (Unit {0}) (Answer ℤ) (Answer Spot) Valued → Valued
expr_step e = record { first = e.first; value = e.form }

-- the value of an expression
abbrev pub value : View → Expr → Answer ℤ
value view e = (fold-Expr (Unit {0}) (Answer ℤ) (Answer Spot) Valued (λ a. tt) (form_step view) (access_step view) expr_step e).value

-- the variable that an access denotes
abbrev pub spot : View → Access → Answer Spot
spot view = fold-Access (Unit {0}) (Answer ℤ) (Answer Spot) Valued (λ a. tt) (form_step view) (access_step view) expr_step

-- the value of an expression for a variable of the type, which it must be a value of (6.4.6)
abbrev pub assigned : View → ℕ → Expr → Answer ℤ
assigned view n e = then_with (value view e) (λ z. checked (is_value_of (view.tables.type_at n) z) ValueOutOfRange (out-Expr e).first z)
