-- When a program is valid.
use Rattle.std.specs.Prelude.{◌≡◌, ℕ, ◌+◌, ◌<◌, ◌≤◌, Bool, true, ◌&&◌, List, map, length, nat_lt, Option, Some, slice_get}
use Rattle.std.specs.List.{list_all, sum}
use Rattle.std.specs.Option.{option_map}
use Rattle.pas_program.specs.declared.routine.Assert.{Assert}
use Rattle.pas_program.specs.declared.routine.Routine.{Routine}
use Rattle.pas_program.specs.declared.type_def.TypeDef.{TypeDef}
use Rattle.pas_program.specs.declared.variable.VarDef.{VarDef}
use Rattle.pas_program.specs.Each.{Rule, each_expr, each_statement, true_if_some}
use Rattle.pas_program.specs.Labels.{AssertsStand, ConstantsDiffer, ControlsAreLocal, LabelsStand}
use Rattle.pas_program.specs.Order.{ListsOrdered}
use Rattle.pas_program.specs.Scopes.{ListsFit, parent_fits, is_outermost, scope_rule}
use Rattle.pas_program.specs.Size.{expr_size, statement_size}
use Rattle.pas_program.specs.Tables.{Tables, tables_of}
use Rattle.pas_program.specs.Typed.{hosted, is_of_host, statement_types_fit, type_of_var}
use Rattle.pas_program.specs.Types.{is_scalar}

-- how long the lists are
pub record Counts : Type 0 where
  pub types : ℕ
  pub vars : ℕ
  pub routines : ℕ
  pub asserts : ℕ

-- each number is one of the list that it counts into
abbrev pub number_rule : Counts → Rule
number_rule n = record {
  variable = λ v. nat_lt v n.vars;
  call = λ r slot. nat_lt r n.routines && nat_lt slot n.vars;
  invoke = λ r. nat_lt r n.routines;
  loop = λ control bound. nat_lt control n.vars && nat_lt bound n.vars;
  jump = λ r label. nat_lt r n.routines;
  assertion = λ a. nat_lt a n.asserts;
  sequence = λ length. true;
  choice = λ constants. true;
}

abbrev pub var_in_range : Counts → VarDef → Bool
var_in_range n d = nat_lt d.routine n.routines && nat_lt d.of_type n.types

abbrev pub routine_in_range : Counts → Routine → Bool
routine_in_range n d =
    (true_if_some (option_map (λ p. nat_lt p n.routines) d.parent) && true_if_some (option_map (λ v. nat_lt v n.vars) d.result))
    && (list_all (λ v. nat_lt v n.vars) d.formals && list_all (λ v. nat_lt v n.vars) d.vars)

-- a result is a scalar (ISO 7185, 6.6.2)
abbrev pub result_fits : Tables → Option ℕ → Bool
result_fits t r = true_if_some (option_map (λ v. is_scalar (type_of_var t v)) r)

-- the most statements (with the bodies of routines), expressions, actuals and parameters of `read` and `write` in all,
-- the most variables and the most types
abbrev pub most_parts : ℕ
most_parts = 8388608

module _ (types : List TypeDef) (vars : List VarDef) (routines : List Routine) (asserts : List Assert) where
  abbrev pub counts_of : Counts
  counts_of = record { types = length types; vars = length vars; routines = length routines; asserts = length asserts }

  -- every number is one of the list that it counts into
  pub record InRange : Type 0 where
    pub var : (v : ℕ) (d : VarDef) → slice_get vars v ≡ Some d → var_in_range counts_of d ≡ true
    pub routine : (r : ℕ) (d : Routine) → slice_get routines r ≡ Some d → routine_in_range counts_of d ≡ true
    pub body : (r : ℕ) (d : Routine) → slice_get routines r ≡ Some d → each_statement (number_rule counts_of) d.body ≡ true
    pub assertion : (a : ℕ) (d : Assert) → slice_get asserts a ≡ Some d → nat_lt d.routine (length routines) ≡ true
    pub condition : (a : ℕ) (d : Assert) → slice_get asserts a ≡ Some d → each_expr (number_rule counts_of) d.cond ≡ true

  -- the types in every body and every assertion fit
  pub record WellTyped : Type 0 where
    pub result : (r : ℕ) (d : Routine) → slice_get routines r ≡ Some d → result_fits (tables_of types vars routines) d.result ≡ true
    pub body : (r : ℕ) (d : Routine) → slice_get routines r ≡ Some d → statement_types_fit (tables_of types vars routines) d.body ≡ true
    pub condition : (a : ℕ) (d : Assert) → slice_get asserts a ≡ Some d → is_of_host true (hosted (tables_of types vars routines) d.cond) ≡ true

  -- the scopes fit
  pub record InScope : Type 0 where
    pub last : 0 < length routines
    pub parent : (r : ℕ) (d : Routine) → slice_get routines r ≡ Some d → parent_fits routines r d d.parent ≡ true
    pub lists : (r : ℕ) (d : Routine) → slice_get routines r ≡ Some d → ListsFit vars r d
    pub outermost : (r : ℕ) (d : Routine) → slice_get routines r ≡ Some d → is_outermost d.body ≡ true
    pub body : (r : ℕ) (d : Routine) → slice_get routines r ≡ Some d → each_statement (scope_rule (tables_of types vars routines) r) d.body ≡ true
    pub condition : (a : ℕ) (d : Assert) → slice_get asserts a ≡ Some d → each_expr (scope_rule (tables_of types vars routines) d.routine) d.cond ≡ true

  pub record Bounded : Type 0 where
    pub parts : sum (map (λ (d : Routine). statement_size d.body) routines) + sum (map (λ (d : Assert). expr_size d.cond) asserts) ≤ most_parts
    pub vars_few : length vars ≤ most_parts
    pub types_few : length types ≤ most_parts

  -- all that is asked of a program beside the list of its types
  pub record IsValid : Type 0 where
    pub in_range : InRange
    pub well_typed : WellTyped
    pub in_scope : InScope
    pub bounded : Bounded
    pub labels_stand : LabelsStand routines
    pub controls_local : ControlsAreLocal (tables_of types vars routines) routines
    pub constants_differ : ConstantsDiffer routines
    pub asserts_stand : AssertsStand routines asserts
    pub lists_ordered : ListsOrdered vars routines
