-- What an expression can be where an environment says what each cell may hold, and what the environment is still where the expression is wanted
-- in an interval, without error (Cousot and Cousot, POPL 1977; Bourdoncle, PLDI 1993). The calls in the expression have been made, and the
-- result of each lies in its slot.
use Rattle.std.specs.Prelude.{ℕ, Bool, false, not, ◌&&◌, List, [], ◌∷◌, length, nat_eq, Option, Some, pos, if◌then◌else◌}
use Rattle.interval.specs.declared.itv.Itv.{Itv}
use Rattle.interval.specs.Forward.{binary_answer, unary_answer}
use Rattle.interval.specs.Intervals.{empty, interval, is_empty, meet, numbers}
use Rattle.interval_back.specs.Backward.{left_back, right_back, operand_back}
use Rattle.environment.specs.Environments.{Environment, cell_count, is_reachable, value_at, after_set}
use Rattle.environment.specs.Environments.Environment.{Unreachable}
use Rattle.alias_class.specs.declared.bind.Bind.{Bind}
use Rattle.control_points.specs.Evaluation.{index_type, element_type, var_type}
use Rattle.px_base.specs.declared.operator.BinOp.{BinOp}
use Rattle.pas_program.specs.declared.expr.Access.{Access}
use Rattle.pas_program.specs.declared.expr.Actual.{Actual}
use Rattle.pas_program.specs.declared.expr.Actual.TheOpen.{Access-F, ExprForm-F, Expr-F}
use Rattle.pas_program.specs.declared.expr.Actual.TheFolds.{fold-Expr, fold-ExprForm, para-Access, para-Expr, para-ExprForm}
use Rattle.pas_program.specs.declared.expr.Actual.TheViews.{out-Access}
use Rattle.pas_program.specs.declared.expr.Expr.{Expr}
use Rattle.pas_program.specs.declared.expr.ExprForm.{ExprForm}
use Rattle.pas_program.specs.declared.type_def.TypeDef.{TypeDef}
use Rattle.pas_program.specs.declared.type_def.TypeDef.TheVariants.{Scalar}
use Rattle.pas_program.specs.Tables.{Tables}

-- what each variable names: a cell, all of it or a part
abbrev pub Binds : Type 0
Binds = ℕ → Bind

-- what an access names; with subscripts it is a part
abbrev pub target : Binds → Access → Bind
target bind a = record {
  whole = (bind (out-Access a).var).whole && nat_eq (length (out-Access a).subscripts) 0;
  cell = (bind (out-Access a).var).cell;
}

-- the numbers of a scalar type
abbrev pub range_of : Option TypeDef → Itv
range_of (Some (Scalar boolean lo hi)) = interval lo hi
range_of _ = numbers

-- the widths of `write`
abbrev pub widths : Itv
widths = interval (pos 1) (pos 10000)

-- the number that stands for a truth
abbrev pub truth_of : Bool → Itv
truth_of holds = if holds then interval (pos 1) (pos 1) else interval (pos 0) (pos 0)

-- ---- values

-- the numbers that a cell may hold; none where the environment is not reached
abbrev pub numbers_in : Environment → ℕ → Itv
numbers_in env cell = (value_at env cell).itv

module _ (bind : Binds) (env : Environment) where
  -- the value of a variable is the interval of its cell
  abbrev pub value_step : ExprForm-F (Unit {0}) Itv ℕ Itv → Itv
  value_step (ExprForm-F.Const boolean value) = interval value value
  value_step (ExprForm-F.«ExprForm::Value» cell) = numbers_in env cell
  value_step (ExprForm-F.Unary op operand at) = (unary_answer op operand).value
  value_step (ExprForm-F.Binary op left right at) = (binary_answer op left right).value
  value_step (ExprForm-F.Call routine actuals slot at) = numbers_in env (bind slot).cell

  abbrev pub cell_step : Access-F (Unit {0}) Itv ℕ Itv → ℕ
  cell_step a = (bind a.var).cell

  abbrev pub of_form : Expr-F (Unit {0}) Itv ℕ Itv → Itv
  of_form e = e.form

  -- where the environment is reached
  abbrev pub reached_value : Expr → Itv
  reached_value = fold-Expr (Unit {0}) Itv ℕ Itv (λ a. tt) value_step cell_step of_form

  abbrev pub reached_form : ExprForm → Itv
  reached_form = fold-ExprForm (Unit {0}) Itv ℕ Itv (λ a. tt) value_step cell_step of_form

  -- the interval of an expression's value
  abbrev pub value_in : Expr → Itv
  value_in e = if is_reachable env then reached_value e else empty

-- ---- refining

abbrev pub Change : Type 0
Change = Environment → Environment

-- what is left of an environment where something is wanted in an interval
abbrev pub Refining : Type 0
Refining = Itv → Change

-- a whole cell is defined, and holds one of the numbers
abbrev pub defined_in : ℕ → Refining
defined_in cell w env = after_set env cell (record { undef = false; itv = w })

-- What is wanted of something of the value x is met with that; where nothing is left, the environment is not reached.
abbrev pub wanted_of : Itv → Refining → Refining
wanted_of x refine w env =
    if not (is_reachable env) then env
    else (let left = meet w x in if is_empty left then Unreachable (cell_count env) else refine left env)

-- What is wanted of the operands x and y of an operator is taken from the environment before either is refined; the left one is refined first.
abbrev pub operands_refined : BinOp → Itv → Itv → Refining → Refining → Refining
operands_refined op x y left right w env = right (right_back op w x y) (left (left_back op w x y) env)

-- Where an expression stands: the program's tables, and what each variable names.
pub record Scope : Type 0 where
  pub tables : Tables
  pub bind : Binds

module _ (scope : Scope) where
  -- each subscript of a variable of type n is wanted in its index range, from left to right
  abbrev pub subscripts_refined : ℕ → List (Expr × Refining) → Change
  subscripts_refined n [] env = env
  subscripts_refined n (s ∷ rest) env =
      subscripts_refined (element_type (scope.tables.type_at n)) rest
      (s.1 (range_of (scope.tables.type_at (index_type (scope.tables.type_at n)))) env)

  abbrev pub access_step : Access-F (Actual × Unit {0}) (ExprForm × Refining) (Access × Change) (Expr × Refining) → Change
  access_step a = subscripts_refined (var_type scope.tables a.var) a.subscripts

  -- a variable that names a whole cell is defined; a part of a cell leaves its cell, and its subscripts are refined
  abbrev pub variable_refined : Access → Change → Refining
  variable_refined a indexed w env = let b = target scope.bind a in if b.whole then defined_in b.cell w env else indexed env

  abbrev pub form_step : ExprForm-F (Actual × Unit {0}) (ExprForm × Refining) (Access × Change) (Expr × Refining) → Refining
  form_step (ExprForm-F.Const boolean value) w env = env
  form_step (ExprForm-F.«ExprForm::Value» a) w env = variable_refined a.0 a.1 w env
  form_step (ExprForm-F.Unary op operand at) w env = operand.1 (operand_back op w (reached_value scope.bind env operand.0)) env
  form_step (ExprForm-F.Binary op left right at) w env =
      operands_refined op (reached_value scope.bind env left.0) (reached_value scope.bind env right.0) left.1 right.1 w env
  form_step (ExprForm-F.Call routine actuals slot at) w env = defined_in (scope.bind slot).cell w env

  -- what is wanted is met with the expression's value
  abbrev pub expr_step : Expr-F (Actual × Unit {0}) (ExprForm × Refining) (Access × Change) (Expr × Refining) → Refining
  expr_step e w env = wanted_of (reached_form scope.bind env e.form.0) e.form.1 w env

  -- what is left where an expression is wanted in an interval
  abbrev pub refined : Expr → Refining
  refined = para-Expr (Unit {0}) Refining Change Refining (λ a. tt) form_step access_step expr_step

  abbrev pub refined_form : ExprForm → Refining
  refined_form = para-ExprForm (Unit {0}) Refining Change Refining (λ a. tt) form_step access_step expr_step

  -- what is left where each subscript of an access lies in its index range
  abbrev pub indexed : Access → Change
  indexed = para-Access (Unit {0}) Refining Change Refining (λ a. tt) form_step access_step expr_step

  -- what is left where an operator of two expressions is wanted in an interval
  abbrev pub operator_refined : BinOp → Expr → Expr → Refining
  operator_refined op left right w env =
      operands_refined op (reached_value scope.bind env left) (reached_value scope.bind env right) (refined left) (refined right) w env

  -- ---- relations, as the bounds of a `for` and its turns have them

  -- what is left where a relation of two expressions has this truth
  abbrev pub related : BinOp → Expr → Expr → Refining
  related op left right w env =
      wanted_of (binary_answer op (reached_value scope.bind env left) (reached_value scope.bind env right)).value (operator_refined op left right) w env

  -- a variable that names a whole cell
  abbrev pub name_refined : ℕ → Refining
  name_refined v w env = let cell = (scope.bind v).cell in wanted_of (numbers_in env cell) (defined_in cell) w env

  -- the same of two such variables
  abbrev pub names_related : BinOp → ℕ → ℕ → Refining
  names_related op left right w env =
      let x = numbers_in env (scope.bind left).cell in
      let y = numbers_in env (scope.bind right).cell in
      wanted_of (binary_answer op x y).value (operands_refined op x y (name_refined left) (name_refined right)) w env
