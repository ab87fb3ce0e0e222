-- What validity says of an action, whose parts are those of a statement: the rules of statements, told of actions.
use Rattle.std.specs.Prelude.{ℕ, Bool, true, false, ◌&&◌, List, map, nat_eq, Option, Some, None}
use Rattle.std.specs.List.{list_all}
use Rattle.pas_program.specs.declared.variable.VarDef.{VarDef}
use Rattle.pas_program.specs.Each.{Rule, all_true, each_access, each_actual, each_expr, each_item}
use Rattle.pas_program.specs.Tables.{Tables, holds_of}
use Rattle.pas_program.specs.Typed.{Passed, hosted, reached, passed, is_of_host, is_target, copy_fits, item_fits, loop_fits, function_fits, procedure_fits, type_of_var}
use Rattle.pas_program.specs.Types.{in_host, is_scalar}
use Rattle.control_points.specs.declared.edge.Act.{Act}
use Rattle.control_points.specs.declared.edge.Act.TheVariants as act

-- a procedure, or a function with its slot
abbrev pub callee_passes : Rule → ℕ → Option ℕ → Bool
callee_passes q routine None = q.invoke routine
callee_passes q routine (Some slot) = q.call routine slot

-- a rule for each part of an action
abbrev pub each_act : Rule → Act → Bool
each_act q act.Skip = true
each_act q (act.Assign target value) = each_access q target && each_expr q value
each_act q (act.Copy target source) = each_access q target && each_access q source
each_act q (act.Call routine actuals slot at) = callee_passes q routine slot && all_true (map (each_actual q) actuals)
each_act q (act.Return call) = true
each_act q (act.Goto routine) = q.jump routine 0
each_act q (act.Test e wanted) = each_expr q e
each_act q (act.Arm selector constants) = each_expr q selector
each_act q (act.Enter control bound first down last) = q.loop control bound && (each_expr q first && each_expr q last)
each_act q (act.Bypass control bound first down last) = q.loop control bound && (each_expr q first && each_expr q last)
each_act q (act.Next control bound down) = q.loop control bound
each_act q (act.Finish control bound down) = q.loop control bound
each_act q (act.Read target) = each_access q target
each_act q act.DropLine = true
each_act q (act.Write item) = each_item q item
each_act q act.EndLine = true

-- the actuals fit the formals, and a slot the result
abbrev pub callee_fits : Tables → ℕ → List Passed → Option ℕ → Bool
callee_fits t routine actuals None = holds_of (procedure_fits t actuals) (t.head_at routine)
callee_fits t routine actuals (Some slot) = holds_of (function_fits t actuals slot) (t.head_at routine)

-- a scalar control variable, and a bound of its type
abbrev pub turn_fits : Tables → ℕ → ℕ → Bool
turn_fits t control bound = is_scalar (type_of_var t control) && holds_of (λ (c : VarDef). holds_of (λ (b : VarDef). nat_eq b.of_type c.of_type) (t.var_at bound)) (t.var_at control)

-- the types in an action fit
abbrev pub act_types_fit : Tables → Act → Bool
act_types_fit t act.Skip = true
act_types_fit t (act.Assign target value) = (hosted t value).fits && is_target t (hosted t value).boolean (reached t target)
act_types_fit t (act.Copy target source) = copy_fits t (reached t target) (reached t source)
act_types_fit t (act.Call routine actuals slot at) = callee_fits t routine (map (passed t) actuals) slot
act_types_fit t (act.Return call) = true
act_types_fit t (act.Goto routine) = true
act_types_fit t (act.Test e wanted) = is_of_host true (hosted t e)
act_types_fit t (act.Arm selector constants) = (hosted t selector).fits && list_all (in_host (hosted t selector).boolean) constants
act_types_fit t (act.Enter control bound first down last) = loop_fits t control bound (hosted t first) (hosted t last)
act_types_fit t (act.Bypass control bound first down last) = loop_fits t control bound (hosted t first) (hosted t last)
act_types_fit t (act.Next control bound down) = turn_fits t control bound
act_types_fit t (act.Finish control bound down) = turn_fits t control bound
act_types_fit t (act.Read target) = is_target t false (reached t target)
act_types_fit t act.DropLine = true
act_types_fit t (act.Write item) = item_fits t item
act_types_fit t act.EndLine = true
