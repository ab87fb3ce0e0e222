-- Where an action stands, and which calls lead from one class into another.
use Rattle.std.specs.Prelude.{◌≡◌, ℕ, ◌<◌, ◌&&◌, Bool, true, List, length, map, Option, Some, None, slice_get}
use Rattle.std.specs.Option.{option_and_then}
use Rattle.alias_class.specs.Calls.{callee as entered_class}
use Rattle.alias_class.specs.Cells.{routine_of}
use Rattle.alias_class.specs.Outlines.{outline_of}
use Rattle.alias_class.specs.Tables.{Table}
use Rattle.abstract_expr.specs.declared.scope.Scope.{Scope}
use Rattle.abstract_expr.specs.Scopes.{program_of, seen_of}
use Rattle.abstract_expr.specs.Standing.{class_in}
use Rattle.control_points.specs.declared.edge.Act.{Act}
use Rattle.control_points.specs.declared.edge.Act.TheVariants as act
use Rattle.control_points.specs.declared.edge.Edge.{Edge}
use Rattle.control_points.specs.declared.flow.Flow.{Flow}
use Rattle.control_points.specs.Acts.{act_types_fit, each_act}
use Rattle.control_points.specs.Checking.{formals_of}
use Rattle.control_points.specs.Fits.{act_at, routine_at}
use Rattle.pas_program.specs.declared.expr.Actual.{Actual}
use Rattle.pas_program.specs.declared.program.Program.{Program}
use Rattle.pas_program.specs.declared.statement.WriteItem.{WriteItem}
use Rattle.pas_program.specs.Checked.{numbers_in, tables}
use Rattle.pas_program.specs.Each.{Rule, all_true, each_actual, each_item}
use Rattle.pas_program.specs.Typed.{Passed, are_passed_to, item_fits, passed}

-- whether the control variable of a `for` and its bound are seen
abbrev pub loop_seen : Rule → Act → Bool
loop_seen seen (act.Enter control bound first down last) = seen.variable control && seen.variable bound
loop_seen seen (act.Bypass control bound first down last) = seen.variable control && seen.variable bound
loop_seen seen (act.Next control bound down) = seen.variable control && seen.variable bound
loop_seen seen (act.Finish control bound down) = seen.variable control && seen.variable bound
loop_seen seen _ = true

-- an action of the program whose variables are seen from the class of a scope
pub record ActStands (s : Scope) (a : Act) : Type 0 where
  pub numbers : each_act (numbers_in (program_of s)) a ≡ true
  pub types : act_types_fit (tables (program_of s)) a ≡ true
  pub seen : each_act (seen_of s) a ≡ true
  pub loops : loop_seen (seen_of s) a ≡ true

-- the same of a parameter of `write`
pub record ItemStands (s : Scope) (item : WriteItem) : Type 0 where
  pub numbers : each_item (numbers_in (program_of s)) item ≡ true
  pub types : item_fits (tables (program_of s)) item ≡ true
  pub seen : each_item (seen_of s) item ≡ true

-- whether the types in an actual fit
abbrev pub is_typed : Passed → Bool
is_typed (Passed.scalar value) = value.fits
is_typed (Passed.whole access) = access.fits
is_typed (Passed.by_var access) = access.fits

-- an actual of the program whose variables are seen
pub record ActualStands (p : Program) (rule : Rule) (a : Actual) : Type 0 where
  pub numbers : each_actual (numbers_in p) a ≡ true
  pub types : is_typed (passed (tables p) a) ≡ true
  pub seen : each_actual rule a ≡ true

-- the same of the actuals of a call of a routine, which fit its formals
pub record ActualsStand (p : Program) (rule : Rule) (routine : ℕ) (actuals : List Actual) : Type 0 where
  pub numbers : all_true (map (each_actual (numbers_in p)) actuals) ≡ true
  pub types : are_passed_to (tables p) (map (passed (tables p)) actuals) (formals_of ((tables p).head_at routine)) ≡ true
  pub seen : all_true (map (each_actual rule) actuals) ≡ true

-- ---- calls

-- what a call has: its routine, the actuals, and the slot of a function
pub record Called : Type 0 where
  pub routine : ℕ
  pub actuals : List Actual
  pub slot : Option ℕ

abbrev pub called_by : Act → Option Called
called_by (act.Call routine actuals slot at) = Some (record { routine = routine; actuals = actuals; slot = slot })
called_by _ = None

-- the call of an edge
abbrev pub called_at : List Edge → ℕ → Option Called
called_at edges k = option_and_then called_by (act_at edges k)

-- The edge `site` of a flow is a call from a class into the class of the number `inside`, each of which is one of the table of its unfolding.
pub record IsCall (f : Flow) (t : Table) (outside inside site : ℕ) (c : Called) : Type 0 where
  pub outline : t.outline ≡ outline_of f
  pub caller : outside < length t.classes
  pub callee : inside < length t.classes
  pub known : called_at f.edges site ≡ Some c
  pub stands : (e : Edge) → slice_get f.edges site ≡ Some e → routine_at f.points e.from ≡ Some (routine_of t.outline (class_in t outside))
  pub entered : class_in t inside ≡ entered_class t.outline f.edges (class_in t outside) site
