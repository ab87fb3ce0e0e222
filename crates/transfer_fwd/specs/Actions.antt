-- What is left of an environment where an action has been done (Bourdoncle, PLDI 1993). Each action first refines its expressions in the order of
-- evaluation: a subscript by its index range, a value by the range of the variable that it is for, a width by the widths, all else by its host.
use Rattle.std.specs.Prelude.{ℕ, Bool, true, false, List, [], ◌∷◌, fold, ℤ, Option, Some, None, if◌then◌else◌}
use Rattle.std.specs.Int.{int_min, int_max}
use Rattle.px_base.specs.declared.operator.BinOp.TheVariants as binary
use Rattle.interval.specs.declared.itv.Itv.{Itv}
use Rattle.interval.specs.declared.val.Val.{Val}
use Rattle.interval.specs.Forward.{binary_answer}
use Rattle.interval.specs.Intervals.{booleans, empty, interval, meet, numbers}
use Rattle.environment.specs.Environments.{Environment, value_at, after_set, after_weak_set, undefined}
use Rattle.control_points.specs.declared.edge.Act.{Act}
use Rattle.control_points.specs.declared.edge.Act.TheVariants as act
use Rattle.control_points.specs.Evaluation.{access_type, var_type}
use Rattle.pas_program.specs.declared.expr.Access.{Access}
use Rattle.pas_program.specs.declared.expr.Expr.{Expr}
use Rattle.pas_program.specs.declared.statement.WriteItem.{WriteItem}
use Rattle.pas_program.specs.declared.statement.WriteValue.{WriteValue}
use Rattle.pas_program.specs.declared.statement.WriteValue.TheVariants as written
use Rattle.pas_program.specs.Typed.{hosted}
use Rattle.abstract_expr.specs.Expressions.{Scope, Change, indexed, names_related, range_of, refined, related, target, truth_of, value_in}
use Rattle.abstract_expr.specs.Expressions.{widths}
use Rattle.alias_class.specs.declared.bind.Bind.{Bind}

-- ---- cells

-- a number that lies in a range, which a variable gets
abbrev pub number_in : Itv → Itv → Val
number_in range x = record { undef = false; itv = meet x range }

-- all of a cell becomes the value, and a part of it may
abbrev pub stored : Bind → Val → Change
stored b v env = if b.whole then after_set env b.cell v else after_weak_set env b.cell v

-- a whole cell is undefined
abbrev pub forgotten : ℕ → Change
forgotten cell env = after_set env cell undefined

-- the least interval around the constants of an arm; none where it has none
abbrev pub hull_of : List ℤ → Itv
hull_of [] = empty
hull_of (z ∷ zs) = interval (fold int_min z zs) (fold int_max z zs)

-- the control variable of a `for`, at the next turn
abbrev pub stepped : Bool → Itv → Itv
stepped down x = (binary_answer (if down then binary.Sub else binary.Add) x (truth_of true)).value

module _ (scope : Scope) where
  -- ---- expressions, as an action refines them

  -- by the numbers of the host
  abbrev pub host_of : Expr → Itv
  host_of e = if (hosted scope.tables e).boolean then booleans else numbers

  abbrev pub in_host : Expr → Change
  in_host e = refined scope e (host_of e)

  -- by the range of a type
  abbrev pub in_type : ℕ → Expr → Change
  in_type n e = refined scope e (range_of (scope.tables.type_at n))

  -- ---- assignments (ISO 7185, 6.8.2.2)

  abbrev pub value_for : ℕ → Expr → Environment → Val
  value_for n e env = number_in (range_of (scope.tables.type_at n)) (value_in scope.bind env e)

  abbrev pub assigned : Access → Expr → Change
  assigned a e env =
      let n = access_type scope.tables a in
      let left = in_type n e (indexed scope a env) in
      stored (target scope.bind a) (value_for n e left) left

  abbrev pub copied : Access → Access → Change
  copied a source env =
      let left = indexed scope source (indexed scope a env) in
      stored (target scope.bind a) (value_at left (target scope.bind source).cell) left

  -- ---- conditions (6.8.3.4, 6.8.3.5, 6.8.3.7 and 6.8.3.8)

  abbrev pub tested : Expr → Bool → Change
  tested e wanted env = refined scope e (truth_of wanted) (in_host e env)

  abbrev pub chosen : Expr → List ℤ → Change
  chosen e constants env = refined scope e (hull_of constants) (in_host e env)

  -- ---- `for` (6.8.3.9)

  -- whether there is a turn, where both bounds lie in their host
  abbrev pub entered_if : Bool → Expr → Bool → Expr → Change
  entered_if holds first down last env =
      related scope (if down then binary.Ge else binary.Le) first last (truth_of holds) (in_host last (in_host first env))

  abbrev pub entered : ℕ → ℕ → Expr → Bool → Expr → Change
  entered control bound first down last env =
      let n = var_type scope.tables control in
      let left = in_type n last (in_type n first (entered_if true first down last env)) in
      stored (scope.bind bound) (value_for n last left) (stored (scope.bind control) (value_for n first left) left)

  abbrev pub bypassed : ℕ → Expr → Bool → Expr → Change
  bypassed control first down last env = forgotten (scope.bind control).cell (entered_if false first down last env)

  -- whether there is a further turn
  abbrev pub turned_if : Bool → ℕ → ℕ → Bool → Change
  turned_if holds control bound down = names_related scope (if down then binary.Gt else binary.Lt) control bound (truth_of holds)

  abbrev pub turned : ℕ → ℕ → Bool → Change
  turned control bound down env =
      let left = turned_if true control bound down env in
      stored (scope.bind control) (record { undef = false; itv = stepped down (value_at left (scope.bind control).cell).itv }) left

  abbrev pub finished : ℕ → ℕ → Bool → Change
  finished control bound down env = forgotten (scope.bind control).cell (turned_if false control bound down env)

  -- ---- input and output (6.9)

  abbrev pub read : Access → Change
  read a env =
      let range = range_of (scope.tables.type_at (access_type scope.tables a)) in
      stored (target scope.bind a) (number_in range range) (indexed scope a env)

  abbrev pub in_host_if_value : WriteValue → Change
  in_host_if_value (written.Value e) env = in_host e env
  in_host_if_value (written.Text bytes at) env = env

  abbrev pub in_widths : Option Expr → Change
  in_widths None env = env
  in_widths (Some e) env = refined scope e widths env

  abbrev pub written_out : WriteItem → Change
  written_out item env = in_widths item.width (in_host_if_value item.value env)

  -- ---- every action that neither enters nor leaves an activation

  abbrev pub after : Act → Change
  after (act.Assign a e) env = assigned a e env
  after (act.Copy a source) env = copied a source env
  after (act.Test e wanted) env = tested e wanted env
  after (act.Arm e constants) env = chosen e constants env
  after (act.Enter control bound first down last) env = entered control bound first down last env
  after (act.Bypass control bound first down last) env = bypassed control first down last env
  after (act.Next control bound down) env = turned control bound down env
  after (act.Finish control bound down) env = finished control bound down env
  after (act.Read a) env = read a env
  after (act.Write item) env = written_out item env
  after _ env = env
