-- What scopes ask of a routine and of what stands in it (ISO 7185, 6.2.2).
use Rattle.std.specs.Prelude.{◌≡◌, ℕ, suc, Bool, true, false, ◌&&◌, not, List, [], ◌∷◌, length, nat_lt, nat_eq, Option, Some, None, is_none, slice_get}
use Rattle.std.specs.List.{list_any}
use Rattle.pas_program.specs.declared.routine.Routine.{Routine}
use Rattle.pas_program.specs.declared.statement.Body.TheOpen.{Body-F}
use Rattle.pas_program.specs.declared.statement.Body.TheViews.{out-Body, out-Statement}
use Rattle.pas_program.specs.declared.statement.Statement.{Statement}
use Rattle.pas_program.specs.declared.variable.VarDef.{VarDef}
use Rattle.pas_program.specs.declared.variable.VarKind.{VarKind}
use Rattle.pas_program.specs.declared.variable.VarKind.TheVariants as kind
use Rattle.pas_program.specs.Each.{Rule}
use Rattle.pas_program.specs.Tables.{Tables, holds_of, is_kind, is_own, is_visible, is_callable, is_around}

abbrev pub contains : ℕ → List ℕ → Bool
contains n ns = list_any (λ m. nat_eq n m) ns

-- whether no number stands twice
abbrev pub is_distinct : List ℕ → Bool
is_distinct [] = true
is_distinct (n ∷ ns) = not (contains n ns) && is_distinct ns

-- Whether routine r of n has the place that it should have: the last one alone has no parent, and then no formals, no
-- result and no routine around it; a parent comes later and has one routine less around it.
abbrev pub parent_fits : List Routine → ℕ → Routine → Option ℕ → Bool
parent_fits routines r d None = (nat_eq (suc r) (length routines) && nat_eq d.level 0) && (nat_eq (length d.formals) 0 && is_none d.result)
parent_fits routines r d (Some p) = nat_lt r p && holds_of (λ e. nat_eq d.level (suc e.level)) (slice_get routines p)

-- a parameter
abbrev pub is_formal : VarKind → Bool
is_formal kind.Value = true
is_formal kind.Var = true
is_formal _ = false

-- whether it is the one that there is
abbrev pub is_the : ℕ → Option ℕ → Bool
is_the n None = false
is_the n (Some m) = nat_eq n m

-- The lists of routine r: each has all the variables that belong there and no others, and none twice.
pub record ListsFit (vars : List VarDef) (r : ℕ) (d : Routine) : Type 0 where
  pub vars_once : is_distinct d.vars ≡ true
  pub vars_all : (v : ℕ) (x : VarDef) → slice_get vars v ≡ Some x → contains v d.vars ≡ nat_eq x.routine r
  pub formals_once : is_distinct d.formals ≡ true
  pub formals_all : (v : ℕ) (x : VarDef) → slice_get vars v ≡ Some x → contains v d.formals ≡ (nat_eq x.routine r && is_formal x.kind)
  pub result_only : (v : ℕ) (x : VarDef) → slice_get vars v ≡ Some x → is_the v d.result ≡ (nat_eq x.routine r && is_kind kind.Result x.kind)

abbrev pub is_begin : {A B C : Type 0} → Body-F A B C → Bool
is_begin (Body-F.Begin body end) = true
is_begin _ = false

-- a routine's body is a `begin` without a label and without assertions
abbrev pub is_outermost : Statement → Bool
is_outermost s = is_begin (out-Body (out-Statement s).body) && (is_none (out-Statement s).label && nat_eq (length (out-Statement s).asserts) 0)

-- What stands in routine r uses the variables of r and of the routines around it, and calls and leaves for routines that
-- it sees; a slot and a bound are its own; a `begin` and a `repeat` have a statement.
abbrev pub scope_rule : Tables → ℕ → Rule
scope_rule t r = record {
  variable = is_visible t r;
  call = λ s slot. is_callable t r s && is_own t r kind.Slot slot;
  invoke = is_callable t r;
  loop = λ control bound. is_visible t r control && is_own t r kind.Bound bound;
  jump = λ s label. is_around t r s;
  assertion = λ a. true;
  sequence = λ n. nat_lt 0 n;
  choice = λ constants. true;
}
