-- What the actuals of a call give: by the meaning, and in the storage of the new activation, which is not yet one of the machine's.
use Rattle.std.specs.Prelude.{◌≡◌, ℕ, ◌+◌, ◌≤◌, true, List, [], ◌∷◌, ◌++◌, length, take, drop, ℤ, Option, Some, None, Result, Ok, Err, slice_get, slice_set}
use Rattle.pas_program.specs.declared.program.Program.{Program}
use Rattle.pas_program.specs.declared.variable.VarDef.{VarDef}
use Rattle.pas_program.specs.declared.variable.VarKind.TheVariants as kind
use Rattle.pas_program.specs.Tables.{is_kind}
use Rattle.pas_program.specs.Types.{is_scalar}
use Rattle.control_points.specs.declared.fault.Fault.{Fault}
use Rattle.control_points.specs.declared.flow.Flow.{Flow}
use Rattle.control_points.specs.Actions.{sets, copies, Passing}
use Rattle.control_points.specs.Evaluation.{Answer}
use Rattle.control_points.specs.Finding.{bound_to}
use Rattle.control_points.specs.States.{Binding, State}
use Rattle.control_points.specs.Steps.{change_all}
use Rattle.control_points.specs.Storage.{Place, keep_below, whole}
use Rattle.interp.specs.declared.call.Argument.{Argument}
use Rattle.interp.specs.declared.call.Argument.TheVariants as argument
use Rattle.interp.specs.declared.frame.Frame.{Frame}
use Rattle.interp.specs.Layouts.{extent_before}
use Rattle.interp.specs.Machines.{AreFrames, end_of}
use Rattle.interp.specs.Places.{Lies}
use Rattle.interp.specs.Standing.{StoreIs, content}

-- ---- one actual

-- the argument is what an actual gives the formal v of the type t, of the new activation at the depth n
abbrev pub IsPassed : Program → List Frame → ℕ → ℕ → ℕ → Passing → Argument → Type 0
IsPassed p frames n v t given (argument.Number z) = (given ≡ record { changes = sets (whole n v) (Some z) ∷ []; bindings = [] }) × (is_scalar (slice_get p.types t) ≡ true)
IsPassed p frames n v t given (argument.Array a count) = (q : Place) × (given ≡ record { changes = copies (whole n v) q ∷ []; bindings = [] }) × Lies p frames q a t
IsPassed p frames n v t given (argument.Variable a) = (q : Place) × (given ≡ record { changes = []; bindings = record { formal = v; place = q } ∷ [] }) × Lies p frames q a t

-- or its evaluation is the same error
abbrev pub IsPassedAs : Program → List Frame → ℕ → ℕ → ℕ → Answer Passing → Result Argument Fault → Type 0
IsPassedAs p frames n v t (Ok given) (Ok a) = IsPassed p frames n v t given a
IsPassedAs p frames n v t (Err f) (Err g) = f ≡ g
IsPassedAs p frames n v t _ _ = ⊥

-- a value goes to the scalars of the formal v
abbrev pub IsGivenScalars : Program → List Frame → ℕ → Argument → List (Option ℤ) → List (Option ℤ) → Type 0
IsGivenScalars p frames v (argument.Number z) old new = (x : VarDef) → slice_get p.vars v ≡ Some x → new ≡ slice_set old ((end_of p frames).scalars + (extent_before p x.routine v).scalars) (Some z)
IsGivenScalars p frames v (argument.Array a n) old new =
    (x : VarDef) → slice_get p.vars v ≡ Some x → new ≡ take ((end_of p frames).scalars + (extent_before p x.routine v).scalars) old ++ (take n (drop a old) ++ drop ((end_of p frames).scalars + (extent_before p x.routine v).scalars + n) old)
IsGivenScalars p frames v (argument.Variable a) old new = new ≡ old

-- ---- all actuals

-- nothing is defined from the scalar n on
abbrev pub AreUndefined : ℕ → List (Option ℤ) → Type 0
AreUndefined n scalars = (a : ℕ) → n ≤ a → content scalars a ≡ None

-- the link of the variable parameter v, which is x, leads to the place that it is bound to
pub record IsLinkedTo (p : Program) (frames : List Frame) (links : List ℕ) (bindings : List Binding) (v : ℕ) (x : VarDef) : Type 0 where
  pub place : Place
  pub address : ℕ
  pub bound : bound_to v bindings ≡ Some place
  pub link : slice_get links ((end_of p frames).links + (extent_before p x.routine v).links) ≡ Some address
  pub lies : Lies p frames place address x.of_type

-- the scalars keep the store in which a new activation of the routine has these changes
abbrev pub IsStoredFor : Flow → List Frame → ℕ → List (Option ℤ) → State → Passing → Type 0
IsStoredFor flow frames routine scalars s given =
    (g : Frame) → g.base ≡ end_of flow.program frames → g.routine ≡ routine → AreFrames flow (frames ++ g ∷ [])
    → StoreIs flow.program (frames ++ g ∷ []) scalars (change_all given.changes (keep_below (length s.stack) s.store))

-- scalars and links are what was given to a new activation of the routine
pub record HasPassed (flow : Flow) (frames : List Frame) (routine : ℕ) (links : List ℕ) (scalars : List (Option ℤ)) (s : State) (given : Passing) : Type 0 where
  pub stored : IsStoredFor flow frames routine scalars s given
  pub linked : (v : ℕ) (x : VarDef) → slice_get flow.program.vars v ≡ Some x → x.routine ≡ routine → is_kind kind.Var x.kind ≡ true → IsLinkedTo flow.program frames links given.bindings v x

-- the same of the answer, or it is the same error
abbrev pub AreAllPassed : Answer Passing → (Passing → Type 0) → Result (Unit {0}) Fault → Type 0
AreAllPassed (Ok given) P (Ok done) = P given
AreAllPassed (Err f) P (Err g) = f ≡ g
AreAllPassed _ P _ = ⊥
