-- Runs on an input: their states, when a run is good, and which of its states are on the way.
use Rattle.std.specs.Prelude.{◌≡◌, ℕ, zero, suc, ◌≤◌, true, false, List, [], ◌∷◌, pos, All, Contains, Option, Some, None, Ok, slice_get, unwrap_or}
use Rattle.arithmetic.specs.Numbers.{IsNumber}
use Rattle.pas_program.specs.declared.expr.Expr.{Expr}
use Rattle.pas_program.specs.declared.routine.Assert.{Assert}
use Rattle.control_points.specs.declared.fault.Fault.{Fault}
use Rattle.control_points.specs.declared.item.Item.{Item}
use Rattle.control_points.specs.declared.item.Item.TheVariants.{Number, LineEnd, Junk}
use Rattle.control_points.specs.Actions.{view}
use Rattle.control_points.specs.Chart.{Chart, entry_of}
use Rattle.control_points.specs.Evaluation.{value}
use Rattle.control_points.specs.States.{State}
use Rattle.control_points.specs.Steps.{Progress, moves, halts, fails, next, point_of}
use Rattle.control_points.specs.Storage.{empty_store}

-- ---- the states of a run

-- the program's block at its entry, with nothing stored, all of the input and no output
abbrev pub start : Chart → List Item → State
start c items = record {
  stack = record { frame = record { routine = c.main; call = None; parent = None; bindings = [] }; point = entry_of c.points c.main } ∷ [];
  store = empty_store;
  items = items;
  output = [];
}

abbrev pub moved : Progress → Option State
moved (moves s) = Some s
moved halts = None
moved (fails f) = None

abbrev pub step_from : Chart → Option State → Option State
step_from c None = None
step_from c (Some s) = moved (next c s)

-- the state after i steps, if the run makes so many
abbrev pub at : Chart → List Item → ℕ → Option State
at c items zero = Some (start c items)
at c items (suc i) = step_from c (at c items i)

-- an item of an input; an integer is one of the language
abbrev pub IsInputItem : Item → Type 0
IsInputItem (Number z) = IsNumber z
IsInputItem LineEnd = Unit {0}
IsInputItem Junk = Unit {0}

abbrev pub IsInput : List Item → Type 0
IsInput items = All IsInputItem items

-- ---- assertions

-- a condition has the value true; one whose evaluation is an error has not
abbrev pub IsTrueIn : Chart → State → Expr → Type 0
IsTrueIn c s e = value (view c s) e ≡ Ok (pos 1)

-- the assertions that belong to a point
abbrev pub standing_at : Chart → ℕ → List ℕ
standing_at c p = unwrap_or (slice_get c.asserts_at p) []

-- the assertion a, which is d, stands where the state stands
pub record IsPassed (c : Chart) (s : State) (a : ℕ) (d : Assert) : Type 0 where
  pub known : slice_get c.asserts a ≡ Some d
  pub stands : Contains (standing_at c (point_of s.stack)) a

-- in the state after i steps the run passes the assertion a, and finds it true
pub record IsMet (c : Chart) (items : List Item) (i a : ℕ) : Type 0 where
  pub state : State
  pub assertion : Assert
  pub reached : at c items i ≡ Some state
  pub passed : IsPassed c state a assertion
  pub holds : IsTrueIn c state assertion.cond

-- ---- good runs and the way

-- No step is an error; an assertion is true whenever the run passes it, and one that need only hold at some time is true at
-- some such time. The run may halt or go on for ever.
pub record IsGood (c : Chart) (items : List Item) : Type 0 where
  pub no_error : (i : ℕ) (s : State) (f : Fault) → at c items i ≡ Some s → next c s ≡ fails f → ⊥
  pub always : (i : ℕ) (s : State) (a : ℕ) (d : Assert) → at c items i ≡ Some s → IsPassed c s a d → d.sometime ≡ false → IsTrueIn c s d.cond
  pub sometime : (a : ℕ) (d : Assert) → slice_get c.asserts a ≡ Some d → d.sometime ≡ true → (i : ℕ) × IsMet c items i a

-- After i steps, each assertion that need only hold at some time is met then or later.
pub record IsOnTheWay (c : Chart) (items : List Item) (i : ℕ) : Type 0 where
  pub met_later : (a : ℕ) (d : Assert) → slice_get c.asserts a ≡ Some d → d.sometime ≡ true → (j : ℕ) × (i ≤ j) × IsMet c items j a
