-- The value of an expression, by what it is, and values of small expressions that are known from the language.
use Rattle.std.proofs.Common.{◌≡◌, ℕ, List, [], ◌∷◌, ℤ, pos, negsuc, map, ap, ◌∙◌, Option, Some, None, Ok, Err, Bool, false, nat_eq, if◌then◌else◌}
use Rattle.px_base.specs.declared.kind.Kind.TheVariants as kinds
use Rattle.px_base.specs.declared.operator.BinOp.{BinOp}
use Rattle.px_base.specs.declared.operator.BinOp.TheVariants as binary
use Rattle.px_base.specs.declared.operator.UnOp.{UnOp}
use Rattle.arithmetic.specs.Operators.{binary_result, unary_result}
use Rattle.pas_program.specs.declared.expr.Access.{Access}
use Rattle.pas_program.specs.declared.expr.Actual.TheOpen.{ExprForm-F}
use Rattle.pas_program.specs.declared.expr.Actual.TheFolds.{fold-Expr, fold-ExprForm, fold-roll-Access, fold-roll-Expr, fold-roll-ExprForm}
use Rattle.pas_program.specs.declared.expr.Actual.TheViews.{roll-Access, roll-Expr, roll-ExprForm}
use Rattle.pas_program.specs.declared.expr.Expr.{Expr}
use Rattle.pas_program.specs.declared.expr.ExprForm.{ExprForm}
use Rattle.pas_program.specs.declared.type_def.TypeDef.{TypeDef}
use Rattle.pas_program.specs.declared.type_def.TypeDef.TheVariants.{Scalar, Array}
use Rattle.pas_program.specs.declared.variable.VarDef.{VarDef}
use Rattle.pas_program.specs.declared.variable.VarKind.TheVariants as var
use Rattle.control_points.specs.Evaluation.{Answer, View, Spot, Valued, then_with, placed, used, value, spot, subscript_values, var_type, form_step, access_step, expr_step}
use Rattle.control_points.specs.Storage.{whole, part, put, empty_store}

-- ---- by what it is

abbrev pub valued : View → Expr → Valued
valued v = fold-Expr (Unit {0}) (Answer ℤ) (Answer Spot) Valued (λ a. tt) (form_step v) (access_step v) expr_step

abbrev pub form_value : View → ExprForm → Answer ℤ
form_value v = fold-ExprForm (Unit {0}) (Answer ℤ) (Answer Spot) Valued (λ a. tt) (form_step v) (access_step v) expr_step

pub valued-expr : (v : View) (first : ℕ) (form : ExprForm) → valued v (roll-Expr (record { first = first; form = form })) ≡ record { first = first; value = form_value v form }
valued-expr v first form = fold-roll-Expr (Unit {0}) (Answer ℤ) (Answer Spot) Valued (λ a. tt) (form_step v) (access_step v) expr_step (record { first = first; form = form })

pub form_value-Const : (v : View) (boolean : Bool) (z : ℤ) → form_value v (roll-ExprForm (ExprForm-F.Const boolean z)) ≡ Ok z
form_value-Const v boolean z = fold-roll-ExprForm (Unit {0}) (Answer ℤ) (Answer Spot) Valued (λ a. tt) (form_step v) (access_step v) expr_step (ExprForm-F.Const boolean z)

pub form_value-Value : (v : View) (a : Access) → form_value v (roll-ExprForm (ExprForm-F.«ExprForm::Value» a)) ≡ then_with (spot v a) (used v)
form_value-Value v a = fold-roll-ExprForm (Unit {0}) (Answer ℤ) (Answer Spot) Valued (λ a. tt) (form_step v) (access_step v) expr_step (ExprForm-F.«ExprForm::Value» a)

pub form_value-Unary : (v : View) (op : UnOp) (e : Expr) (at : ℕ) → form_value v (roll-ExprForm (ExprForm-F.Unary op e at)) ≡ then_with (value v e) (λ x. placed at (unary_result op x))
form_value-Unary v op e at = fold-roll-ExprForm (Unit {0}) (Answer ℤ) (Answer Spot) Valued (λ a. tt) (form_step v) (access_step v) expr_step (ExprForm-F.Unary op e at)

pub form_value-Binary : (v : View) (op : BinOp) (l r : Expr) (at : ℕ) → form_value v (roll-ExprForm (ExprForm-F.Binary op l r at)) ≡ then_with (value v l) (λ x. then_with (value v r) (λ y. placed at (binary_result op x y)))
form_value-Binary v op l r at = fold-roll-ExprForm (Unit {0}) (Answer ℤ) (Answer Spot) Valued (λ a. tt) (form_step v) (access_step v) expr_step (ExprForm-F.Binary op l r at)

pub spot-access : (v : View) (x : ℕ) (subscripts : List Expr) (at : ℕ) → spot v (roll-Access (record { var = x; subscripts = subscripts; at = at })) ≡ then_with (subscript_values v.tables (var_type v.tables x) (map (valued v) subscripts)) (λ zs. Ok (record { place = part (v.place x) zs; at = at }))
spot-access v x subscripts at = fold-roll-Access (Unit {0}) (Answer ℤ) (Answer Spot) Valued (λ a. tt) (form_step v) (access_step v) expr_step (record { var = x; subscripts = subscripts; at = at })

-- ---- small expressions

pub number : ℕ → ℤ → Expr
number at z = roll-Expr (record { first = at; form = roll-ExprForm (ExprForm-F.Const false z) })

number-value : (v : View) (at : ℕ) (z : ℤ) → valued v (number at z) ≡ record { first = at; value = Ok z }
unfolding number
number-value v at z = valued-expr v at (roll-ExprForm (ExprForm-F.Const false z)) ∙ ap (λ a. record { first = at; value = a }) (form_value-Const v false z)

pub of_two : ℕ → BinOp → Expr → Expr → ℕ → Expr
of_two first op l r at = roll-Expr (record { first = first; form = roll-ExprForm (ExprForm-F.Binary op l r at) })

abbrev operated : BinOp → ℕ → Answer ℤ → Answer ℤ → Answer ℤ
operated op at x y = then_with x (λ x. then_with y (λ y. placed at (binary_result op x y)))

of_two-value : (v : View) (first : ℕ) (op : BinOp) (l r : Expr) (at : ℕ) → valued v (of_two first op l r at) ≡ record { first = first; value = operated op at (value v l) (value v r) }
unfolding of_two
of_two-value v first op l r at = valued-expr v first (roll-ExprForm (ExprForm-F.Binary op l r at)) ∙ ap (λ a. record { first = first; value = a }) (form_value-Binary v op l r at)

-- two numbers with an operator between them
pub of_numbers : (v : View) (op : BinOp) (at : ℕ) (x y : ℤ) → value v (of_two 0 op (number 1 x) (number 2 y) at) ≡ placed at (binary_result op x y)
of_numbers v op at x y =
    ap (λ (w : Valued). w.value) (of_two-value v 0 op (number 1 x) (number 2 y) at)
    ∙ ap (λ (w : Valued). operated op at w.value (value v (number 2 y))) (number-value v 1 x)
    ∙ ap (λ (w : Valued). operated op at (Ok x) w.value) (number-value v 2 y)

pub modulus_of_zero : (v : View) → value v (of_two 0 binary.Mod (number 1 (pos 7)) (number 2 (pos 0)) 28) ≡ Err (record { kind = kinds.ModulusNotPositive; at = 28 })
modulus_of_zero v = of_numbers v binary.Mod 28 (pos 7) (pos 0)

pub negative_modulus : (v : View) → value v (of_two 0 binary.Mod (number 1 (negsuc 6)) (number 2 (pos 2)) 28) ≡ Ok (pos 1)
negative_modulus v = of_numbers v binary.Mod 28 (negsuc 6) (pos 2)

pub above_maxint : (v : View) → value v (of_two 0 binary.Add (number 1 (pos 2147483647)) (number 2 (pos 1)) 33) ≡ Err (record { kind = kinds.Overflow; at = 33 })
above_maxint v = of_numbers v binary.Add 33 (pos 2147483647) (pos 1)

-- ---- a variable x and an array a with the index type 1..10, of which nothing is stored but a[3]

abbrev pub types : ℕ → Option TypeDef
types t =
    if nat_eq t 0 then Some (Scalar false (negsuc 2147483646) (pos 2147483647))
    else (if nat_eq t 1 then Some (Scalar false (pos 1) (pos 10)) else Some (Array 1 0))

abbrev pub vars : ℕ → Option VarDef
vars v = Some (record { name = record { start = 0; end = 0 }; routine = 0; kind = var.Local; of_type = if nat_eq v 0 then 0 else 2; place = 0 })

abbrev pub here : View
here = record {
  tables = record { type_at = types; var_at = vars; head_at = λ r. None };
  place = λ v. whole 0 v;
  store = put empty_store (record { depth = 0; var = 1; subscripts = pos 3 ∷ [] }) (Some (pos 30));
}

abbrev x_at : ℕ → Access
x_at at = roll-Access (record { var = 0; subscripts = []; at = at })

pub variable : ℕ → Expr
variable at = roll-Expr (record { first = at; form = roll-ExprForm (ExprForm-F.«ExprForm::Value» (x_at at)) })

abbrev element_at : ℕ → ℤ → Access
element_at at z = roll-Access (record { var = 1; subscripts = number 50 z ∷ []; at = at })

pub element : ℕ → ℤ → Expr
element at z = roll-Expr (record { first = at; form = roll-ExprForm (ExprForm-F.«ExprForm::Value» (element_at at z)) })

-- an expression that is an access
access-value : (v : View) (first : ℕ) (a : Access) → valued v (roll-Expr (record { first = first; form = roll-ExprForm (ExprForm-F.«ExprForm::Value» a) })) ≡ record { first = first; value = then_with (spot v a) (used v) }
access-value v first a = valued-expr v first (roll-ExprForm (ExprForm-F.«ExprForm::Value» a)) ∙ ap (λ x. record { first = first; value = x }) (form_value-Value v a)

x-value : (at : ℕ) → valued here (variable at) ≡ record { first = at; value = Err (record { kind = kinds.UndefinedValue; at = at }) }
unfolding variable
x-value at = access-value here at (x_at at) ∙ ap (λ s. record { first = at; value = then_with s (used here) }) (spot-access here 0 [] at)

-- where the subscript leads
abbrev led : ℕ → Valued → Answer ℤ
led at w = then_with (then_with (subscript_values here.tables 2 (w ∷ [])) (λ zs. Ok (record { place = part (whole 0 1) zs; at = at }))) (used here)

element-value : (at : ℕ) (z : ℤ) → valued here (element at z) ≡ record { first = at; value = led at (record { first = 50; value = Ok z }) }
unfolding element
element-value at z =
    access-value here at (element_at at z)
    ∙ ap (λ s. record { first = at; value = then_with s (used here) }) (spot-access here 1 (number 50 z ∷ []) at)
    ∙ ap (λ w. record { first = at; value = led at w }) (number-value here 50 z)

pub third_element : (valued here (element 40 (pos 3))).value ≡ Ok (pos 30)
third_element = ap (λ (w : Valued). w.value) (element-value 40 (pos 3))

-- it is undefined, which is an error at the array's name
pub fourth_element : (valued here (element 40 (pos 4))).value ≡ Err (record { kind = kinds.UndefinedValue; at = 40 })
fourth_element = ap (λ (w : Valued). w.value) (element-value 40 (pos 4))

-- the subscript is out of range, which is an error at the subscript
pub eleventh_element : (valued here (element 40 (pos 11))).value ≡ Err (record { kind = kinds.IndexOutOfRange; at = 50 })
eleventh_element = ap (λ (w : Valued). w.value) (element-value 40 (pos 11))

-- the first error from left to right counts: `x + 1 div 0` and `1 div 0 + x`
abbrev pub quotient : Expr
quotient = of_two 0 binary.Div (number 1 (pos 1)) (number 2 (pos 0)) 7

pub left_first : value here (of_two 0 binary.Add (variable 4) quotient 5) ≡ Err (record { kind = kinds.UndefinedValue; at = 4 })
left_first =
    ap (λ (w : Valued). w.value) (of_two-value here 0 binary.Add (variable 4) quotient 5)
    ∙ ap (λ (w : Valued). operated binary.Add 5 w.value (value here quotient)) (x-value 4)

pub right_second : value here (of_two 0 binary.Add quotient (variable 4) 5) ≡ Err (record { kind = kinds.DivisionByZero; at = 7 })
right_second =
    ap (λ (w : Valued). w.value) (of_two-value here 0 binary.Add quotient (variable 4) 5)
    ∙ ap (λ a. operated binary.Add 5 a (value here (variable 4))) (of_numbers here binary.Div 7 (pos 1) (pos 0))
