-- What the classes of a program need to know of it: of each routine which of its variables have cells of their own, and in which order,
-- and of each variable what its name stands for.
use Rattle.std.specs.Prelude.{ℕ, ◌-◌, Bool, not, List, [], map, filter, length, nat_eq, Option, None, slice_get}
use Rattle.std.specs.List.{enumerate_from, position_or_len}
use Rattle.std.specs.Option.{option_map, unwrap_or}
use Rattle.interval.specs.declared.itv.Itv.{Itv}
use Rattle.interval.specs.Intervals.{empty, interval}
use Rattle.pas_program.specs.declared.program.Program.{Program}
use Rattle.pas_program.specs.declared.routine.Routine.{Routine}
use Rattle.pas_program.specs.declared.type_def.TypeDef.{TypeDef}
use Rattle.pas_program.specs.declared.variable.VarDef.{VarDef}
use Rattle.pas_program.specs.declared.variable.VarKind.{VarKind}
use Rattle.pas_program.specs.declared.variable.VarKind.TheVariants as kind
use Rattle.pas_program.specs.Tables.{holds_of, is_kind}
use Rattle.pas_program.specs.Types.{layout}
use Rattle.control_points.specs.declared.flow.Flow.{Flow}
use Rattle.alias_class.specs.declared.outline.Outline.{Outline}
use Rattle.alias_class.specs.declared.outline.Referent.{Referent}
use Rattle.alias_class.specs.declared.outline.Referent.TheVariants.{Own, Bound}
use Rattle.alias_class.specs.declared.outline.RoutineOutline.{RoutineOutline}
use Rattle.alias_class.specs.declared.outline.VariableOutline.{VariableOutline}

-- ---- of a program

-- a variable parameter has no storage of its own (ISO 7185, 6.6.3.3)
abbrev pub is_var_formal : List VarDef → ℕ → Bool
is_var_formal vars v = holds_of (λ (d : VarDef). is_kind kind.Var d.kind) (slice_get vars v)

-- all else that a routine has: value parameters, locals, the result, slots and bounds
abbrev pub own_variables : List VarDef → Routine → List ℕ
own_variables vars r = filter (λ v. not (is_var_formal vars v)) r.vars

abbrev pub var_formals : List VarDef → Routine → List ℕ
var_formals vars r = filter (λ v. is_var_formal vars v) r.formals

abbrev pub routine_outline : List VarDef → Routine → RoutineOutline
routine_outline vars r = record { parent = r.parent; own = own_variables vars r; formals = var_formals vars r }

-- what the name of the variable v stands for in a class of its routine
abbrev pub referent_in : RoutineOutline → ℕ → VarKind → Referent
referent_in r v kind.Var = Bound (position_or_len (λ w. nat_eq v w) r.formals)
referent_in r v _ = Own (position_or_len (λ w. nat_eq v w) r.own)

-- the numbers that a scalar of a type may be
abbrev pub range_of_type : List TypeDef → ℕ → Itv
range_of_type types t = interval (layout types t).lo (layout types t).hi

abbrev pub no_outline : RoutineOutline
no_outline = record { parent = None; own = []; formals = [] }

abbrev pub outline_at : List RoutineOutline → ℕ → RoutineOutline
outline_at routines r = unwrap_or (slice_get routines r) no_outline

abbrev pub variable_outline : List TypeDef → List RoutineOutline → ℕ → VarDef → VariableOutline
variable_outline types routines v d = record {
  routine = d.routine;
  referent = referent_in (outline_at routines d.routine) v d.kind;
  range = range_of_type types d.of_type;
}

abbrev pub variable_outlines : List TypeDef → List RoutineOutline → List VarDef → List VariableOutline
variable_outlines types routines vars = map (λ (e : ℕ × VarDef). variable_outline types routines e.0 e.1) (enumerate_from 0 vars)

abbrev pub outline_of_program : Program → Outline
outline_of_program p =
    let routines = map (routine_outline p.vars) p.routines in
    record { main = length p.routines - 1; routines = routines; variables = variable_outlines p.types routines p.vars }

abbrev pub outline_of : Flow → Outline
outline_of f = outline_of_program f.program

-- ---- its parts

module _ (o : Outline) where
  abbrev pub own_of : ℕ → List ℕ
  own_of r = (outline_at o.routines r).own

  abbrev pub formals_of : ℕ → List ℕ
  formals_of r = (outline_at o.routines r).formals

  abbrev pub parent_of : ℕ → Option ℕ
  parent_of r = (outline_at o.routines r).parent

  -- of a variable
  abbrev pub referent_of : ℕ → Referent
  referent_of v = unwrap_or (option_map (λ (x : VariableOutline). x.referent) (slice_get o.variables v)) (Own 0)

  abbrev pub owner_of : ℕ → ℕ
  owner_of v = unwrap_or (option_map (λ (x : VariableOutline). x.routine) (slice_get o.variables v)) 0

  abbrev pub range_of_variable : ℕ → Itv
  range_of_variable v = unwrap_or (option_map (λ (x : VariableOutline). x.range) (slice_get o.variables v)) empty
