-- What a call gives to the class that it enters, what its return takes back, and what a `goto` keeps (Bourdoncle, PLDI 1993).
use Rattle.std.specs.Prelude.{ℕ, Bool, true, false, List, [], ◌∷◌, take, Option, Some, None, if◌then◌else◌}
use Rattle.interval.specs.declared.val.Val.{Val}
use Rattle.environment.specs.Environments.{Environment, after_set, cell_count, is_reachable, started, undefined, value_at}
use Rattle.environment.specs.Environments.Environment.{Reachable, Unreachable}
use Rattle.alias_class.specs.declared.bind.Link.{Link}
use Rattle.control_points.specs.Evaluation.{var_type}
use Rattle.pas_program.specs.declared.expr.Access.{Access}
use Rattle.pas_program.specs.declared.expr.Actual.{Actual}
use Rattle.pas_program.specs.declared.expr.Actual.TheOpen.{Actual-F}
use Rattle.pas_program.specs.declared.expr.Actual.TheViews.{out-Actual}
use Rattle.pas_program.specs.declared.expr.Expr.{Expr}
use Rattle.pas_program.specs.declared.expr.ExprForm.{ExprForm}
use Rattle.pas_program.specs.declared.variable.VarDef.{VarDef}
use Rattle.pas_program.specs.Scopes.{is_formal}
use Rattle.pas_program.specs.Tables.{holds_of}
use Rattle.abstract_expr.specs.Expressions.{Change, Scope, indexed, target}
use Rattle.transfer_fwd.specs.Actions.{in_type, stored, value_for}

-- the cells of a function's slot, in the calling class, and of its result, in its own
pub record ResultCells : Type 0 where
  pub slot : ℕ
  pub result : ℕ

-- A call from one class into another: the scopes of both, how many cells the class that is entered has, the links, and the actuals for the
-- routine's formals (ISO 7185, 6.6.3). A function has a result.
pub record Crossing : Type 0 where
  pub outside : Scope
  pub inside : Scope
  pub cells : ℕ
  pub links : List Link
  pub actuals : List Actual
  pub formals : List ℕ
  pub result : Option ResultCells

-- ---- what a call refines of its own environment before it is made

abbrev pub actual_refined : Scope → ℕ → Actual-F Actual ExprForm Access Expr → Change
actual_refined scope v (Actual-F.«Actual::Value» e) = in_type scope (var_type scope.tables v) e
actual_refined scope v (Actual-F.Whole a) = indexed scope a
actual_refined scope v (Actual-F.Var a) = indexed scope a

abbrev pub actuals_refined : Scope → List Actual → List ℕ → Change
actuals_refined scope [] formals env = env
actuals_refined scope (a ∷ actuals) [] env = env
actuals_refined scope (a ∷ actuals) (v ∷ formals) env = actuals_refined scope actuals formals (actual_refined scope v (out-Actual a) env)

-- ---- what it gives to the class that is entered, where `left` is its own environment then

-- A cell of the class that is entered gets a value, or along a further call the value is joined to what it has.
abbrev pub given : Bool → ℕ → Val → Change
given first cell v = stored (record { whole = first; cell = cell }) v

-- the cells that are linked get the values that they have in the calling class
abbrev pub linked_in : Bool → Environment → List Link → Change
linked_in first left [] env = env
linked_in first left (l ∷ links) env = linked_in first left links (given first l.callee (value_at left l.caller) env)

-- the value of an actual for a value parameter
abbrev pub passed_value : Scope → Environment → ℕ → Actual-F Actual ExprForm Access Expr → Option Val
passed_value outside left v (Actual-F.«Actual::Value» e) = Some (value_for outside (var_type outside.tables v) e left)
passed_value outside left v (Actual-F.Whole a) = Some (value_at left (target outside.bind a).cell)
passed_value outside left v (Actual-F.Var a) = None

abbrev pub formal_given : Bool → Scope → ℕ → Option Val → Change
formal_given first inside v None env = env
formal_given first inside v (Some value) env = given first (inside.bind v).cell value env

abbrev pub formals_given : Bool → Scope → Scope → Environment → List Actual → List ℕ → Change
formals_given first outside inside left [] formals env = env
formals_given first outside inside left (a ∷ actuals) [] env = env
formals_given first outside inside left (a ∷ actuals) (v ∷ formals) env =
    formals_given first outside inside left actuals formals (formal_given first inside v (passed_value outside left v (out-Actual a)) env)

-- a variable that is no parameter may be undefined
abbrev pub may_be_undefined : Scope → ℕ → Change
may_be_undefined inside v env = if holds_of (λ (d : VarDef). is_formal d.kind) (inside.tables.var_at v) then env else given false (inside.bind v).cell undefined env

abbrev pub may_all_be_undefined : Scope → List ℕ → Change
may_all_be_undefined inside [] env = env
may_all_be_undefined inside (v ∷ vars) env = may_all_be_undefined inside vars (may_be_undefined inside v env)

-- ---- what comes back

-- the cells that are linked get the values that they have at the exit
abbrev pub linked_back : Environment → List Link → Change
linked_back exit [] env = env
linked_back exit (l ∷ links) env = linked_back exit links (after_set env l.caller (value_at exit l.callee))

-- the slot gets the result, which must be defined
abbrev pub result_set : Option ResultCells → Environment → Change
result_set None exit env = env
result_set (Some cells) exit env = after_set env cells.slot (record { undef = false; itv = (value_at exit cells.result).itv })

module _ (x : Crossing) where
  abbrev pub leaving : Change
  leaving = actuals_refined x.outside x.actuals x.formals

  -- the environment at the entry: linked cells, value parameters, and all else undefined
  abbrev pub entry_from : Change
  entry_from left =
      if is_reachable left
      then formals_given true x.outside x.inside left x.actuals x.formals (linked_in true left x.links (started x.cells))
      else Unreachable x.cells

  abbrev pub called : Change
  called env = entry_from (leaving env)

  -- the environment where the call returns from an exit: hidden cells as the call left them, linked cells as at the exit
  abbrev pub back_from : Environment → Change
  back_from exit left =
      if is_reachable left
      then (if is_reachable exit then result_set x.result exit (linked_back exit x.links left) else Unreachable (cell_count left))
      else left

  abbrev pub returned : Environment → Change
  returned exit env = back_from exit (leaving env)

-- ---- `goto`

-- the cells of a class around that of the environment, which are its first ones
abbrev pub kept_cells : ℕ → Change
kept_cells count (Unreachable n) = Unreachable count
kept_cells count (Reachable values) = Reachable (take count values)
