-- What is asked of each routine and each assertion of a program, so that the whole is valid.
use Rattle.std.specs.Prelude.{◌≡◌, ℕ, suc, ◌<◌, Bool, true, false, ◌&&◌, List, length, nat_lt, nat_eq, Some, slice_get}
use Rattle.std.specs.Bool.{beq}
use Rattle.pas_program.specs.declared.routine.Assert.{Assert}
use Rattle.pas_program.specs.declared.routine.Routine.{Routine}
use Rattle.pas_program.specs.declared.type_def.TypeDef.{TypeDef}
use Rattle.pas_program.specs.declared.variable.VarDef.{VarDef}
use Rattle.pas_program.specs.declared.variable.VarKind.TheVariants as kind
use Rattle.pas_program.specs.Each.{Rule, each_expr, each_statement}
use Rattle.pas_program.specs.Order.{precedes}
use Rattle.pas_program.specs.Scopes.{is_formal, is_outermost, is_the, parent_fits}
use Rattle.pas_program.specs.Tables.{holds_of, is_kind, tables_of}
use Rattle.pas_program.specs.Typed.{hosted, is_of_host, statement_types_fit}
use Rattle.pas_program.specs.Valid.{Bounded, counts_of, result_fits, routine_in_range, var_in_range}
use Rattle.pas_valid.specs.Passing.{placed_by}
use Rattle.pas_valid.specs.Standing.{Labels}

-- Whether the variable v stands rightly as the k-th of routine r. Each variable has a rank: its place in the list of its
-- routine.
abbrev pub entry_fits : List VarDef → List ℕ → ℕ → Routine → ℕ → ℕ → Bool
entry_fits vars ranks r d k v =
    holds_of (λ (x : VarDef). nat_eq x.routine r && (beq (nat_lt k (length d.formals)) (is_formal x.kind) && beq (is_the v d.result) (is_kind kind.Result x.kind))) (slice_get vars v)
    && holds_of (λ n. nat_eq n k) (slice_get ranks v)

-- whether the variable v stands at its rank in the list of its routine
abbrev pub rank_fits : List Routine → List ℕ → ℕ → VarDef → Bool
rank_fits routines ranks v x =
    holds_of (λ n. holds_of (λ (d : Routine). holds_of (λ w. nat_eq w v) (slice_get d.vars n)) (slice_get routines x.routine)) (slice_get ranks v)

-- whether the variable v precedes w in the order of a routine's variables
abbrev pub stand_in_order : List VarDef → ℕ → ℕ → Bool
stand_in_order vars v w = holds_of (λ (x : VarDef). holds_of (precedes x) (slice_get vars w)) (slice_get vars v)

-- the lists of routine r, by ranks
pub record Listed (vars : List VarDef) (ranks : List ℕ) (r : ℕ) (d : Routine) : Type 0 where
  pub entries : (k v : ℕ) → slice_get d.vars k ≡ Some v → entry_fits vars ranks r d k v ≡ true
  -- each variable precedes the next
  pub neighbours : (k v w : ℕ) → slice_get d.vars k ≡ Some v → slice_get d.vars (suc k) ≡ Some w → stand_in_order vars v w ≡ true
  -- the parameters come first
  pub formals : (k v : ℕ) → slice_get d.formals k ≡ Some v → holds_of (λ w. nat_eq w v) (slice_get d.vars k) ≡ true
  pub result : (v : ℕ) → d.result ≡ Some v → holds_of (λ (x : VarDef). nat_eq x.routine r) (slice_get vars v) ≡ true

module _ (types : List TypeDef) (vars : List VarDef) (routines : List Routine) (asserts : List Assert) (labels : List Labels) where
  abbrev pub placed_in : Bool → ℕ → Rule
  placed_in = placed_by (tables_of types vars routines) (length routines) labels asserts

  pub record RoutineFits (ranks : List ℕ) (r : ℕ) (d : Routine) : Type 0 where
    pub range : routine_in_range (counts_of types vars routines asserts) d ≡ true
    pub result : result_fits (tables_of types vars routines) d.result ≡ true
    pub body : statement_types_fit (tables_of types vars routines) d.body ≡ true
    pub scopes : each_statement (placed_in true r) d.body ≡ true
    pub parent : parent_fits routines r d d.parent ≡ true
    pub outermost : is_outermost d.body ≡ true
    pub lists : Listed vars ranks r d

  pub record AssertFits (d : Assert) : Type 0 where
    pub range : nat_lt d.routine (length routines) ≡ true
    pub condition : is_of_host true (hosted (tables_of types vars routines) d.cond) ≡ true
    pub scopes : each_expr (placed_in false d.routine) d.cond ≡ true

  -- what is asked of the whole
  pub record AllFit (ranks : List ℕ) : Type 0 where
    pub some : 0 < length routines
    pub range : (v : ℕ) (x : VarDef) → slice_get vars v ≡ Some x → var_in_range (counts_of types vars routines asserts) x ≡ true
    pub known : (v : ℕ) (x : VarDef) → slice_get vars v ≡ Some x → rank_fits routines ranks v x ≡ true
    pub routine : (r : ℕ) (d : Routine) → slice_get routines r ≡ Some d → RoutineFits ranks r d
    pub assertion : (a : ℕ) (d : Assert) → slice_get asserts a ≡ Some d → AssertFits d
    pub bounded : Bounded types vars routines asserts
