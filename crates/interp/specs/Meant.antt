-- What the answers of a machine stand for in the state that it is in.
use Rattle.std.specs.Prelude.{◌≡◌, ℕ, ◌≤◌, ◌++◌, true, false, List, [], ◌∷◌, codes, ℤ, Option, Some, None, Result, Ok, Err, slice_get, if◌then◌else◌}
use Rattle.std.specs.Fmt.{signed_decimal}
use Rattle.pas_program.specs.declared.expr.Actual.TheFolds.{fold-Expr}
use Rattle.pas_program.specs.declared.expr.Expr.{Expr}
use Rattle.pas_program.specs.declared.program.Program.{Program}
use Rattle.pas_program.specs.Types.{is_scalar}
use Rattle.control_points.specs.declared.fault.Fault.{Fault}
use Rattle.control_points.specs.Actions as meaning
use Rattle.control_points.specs.Actions.{sets, copies, at_depth, Outcome, call, view}
use Rattle.control_points.specs.Evaluation.{Answer, Spot, Valued, View, access_step, expr_step, form_step}
use Rattle.control_points.specs.Flows.{chart_of}
use Rattle.control_points.specs.Output.{Written, in_columns}
use Rattle.control_points.specs.States.{State}
use Rattle.control_points.specs.Steps as steps
use Rattle.control_points.specs.Steps.{or_else, first_done, point_of}
use Rattle.control_points.specs.Storage.{Place, part}
use Rattle.interp.specs.declared.call.Refusal.{Refusal}
use Rattle.interp.specs.declared.call.Refusal.TheVariants as refusal
use Rattle.interp.specs.declared.decide.Change.{Change}
use Rattle.interp.specs.declared.decide.Change.TheVariants as change
use Rattle.interp.specs.declared.decide.Deed.{Deed}
use Rattle.interp.specs.declared.decide.Deed.TheVariants as deed
use Rattle.interp.specs.declared.decide.Effect.{Effect}
use Rattle.interp.specs.declared.frame.Frame.{Frame}
use Rattle.interp.specs.declared.machine.Machine.{Machine}
use Rattle.interp.specs.declared.machine.Progress.{Progress}
use Rattle.interp.specs.declared.machine.Progress.TheVariants as progress
use Rattle.interp.specs.declared.write.Output.{Output}
use Rattle.interp.specs.declared.write.Text.{Text}
use Rattle.interp.specs.declared.write.Text.TheVariants as text
use Rattle.interp.specs.Layouts.{count_of}
use Rattle.interp.specs.Places.{Lies}
use Rattle.interp.specs.Standing.{StandsFor}

-- what is true in each state that the machine is in
abbrev pub InState : Machine → (State → Type 0) → Type 0
InState m P = (s : State) → StandsFor m s → P s

-- what the latest activation evaluates its expressions in
abbrev pub view_in : Machine → State → View
view_in m s = view (chart_of m.flow.now) s

-- an expression's first place with its value
abbrev pub valued : View → Expr → Valued
valued view = fold-Expr (Unit {0}) (Answer ℤ) (Answer Spot) Valued (λ a. tt) (form_step view) (access_step view) expr_step

-- ---- spots

-- the scalar at which a variable begins that an access at a place of the source denotes, or the same error
abbrev pub IsSpot : Program → List Frame → ℕ → ℕ → Answer Spot → Result ℕ Fault → Type 0
IsSpot p frames of_type at (Ok spot) (Ok a) = Lies p frames spot.place a of_type × (spot.at ≡ at)
IsSpot p frames of_type at (Err f) (Err g) = f ≡ g
IsSpot p frames of_type at _ _ = ⊥

-- the same of the part of a variable at q that subscripts lead to
abbrev pub IsPart : Program → List Frame → Place → ℕ → Answer (List ℤ) → Result ℕ Fault → Type 0
IsPart p frames q of_type (Ok subscripts) (Ok a) = Lies p frames (part q subscripts) a of_type
IsPart p frames q of_type (Err f) (Err g) = f ≡ g
IsPart p frames q of_type _ _ = ⊥

-- ---- changes

-- the scalar at q, which is of an activation at the depth d or below it
pub record IsScalarAt (p : Program) (frames : List Frame) (d : ℕ) (q : Place) (a : ℕ) : Type 0 where
  pub of_type : ℕ
  pub lies : Lies p frames q a of_type
  pub scalar : is_scalar (slice_get p.types of_type) ≡ true
  pub below : q.depth ≤ d

-- two variables of one type, n scalars each, of which the target is of an activation at the depth d or below it
pub record AreCopied (p : Program) (frames : List Frame) (d : ℕ) (target source : Place) (a b n : ℕ) : Type 0 where
  pub of_type : ℕ
  pub target_lies : Lies p frames target a of_type
  pub source_lies : Lies p frames source b of_type
  pub count : n ≡ count_of p of_type
  pub target_below : target.depth ≤ d
  pub source_below : source.depth ≤ d

-- a change of the scalars is that of the store, where the activation at the depth d goes on
abbrev pub IsChangeOf : Program → List Frame → ℕ → List meaning.Change → Change → Type 0
IsChangeOf p frames d [] change.Nothing = Unit {0}
IsChangeOf p frames d (sets q v ∷ []) (change.Set a w) = (v ≡ w) × IsScalarAt p frames d q a
IsChangeOf p frames d (sets q v ∷ sets r w ∷ []) (change.Start a x b y) = ((v ≡ Some x) × IsScalarAt p frames d q a) × ((w ≡ Some y) × IsScalarAt p frames d r b)
IsChangeOf p frames d (copies q r ∷ []) (change.Copy a b n) = AreCopied p frames d q r a b n
IsChangeOf p frames d _ _ = ⊥

-- ---- output

abbrev pub text_of : Text → Written
text_of (text.Number z) = record { bytes = signed_decimal z; is_cut = false }
text_of (text.Truth b) = record { bytes = if b then codes "true" else codes "false"; is_cut = true }
text_of (text.Bytes bytes) = record { bytes = bytes.now; is_cut = true }

abbrev pub in_width : Option ℕ → Written → List ℕ
in_width None w = w.bytes
in_width (Some n) w = in_columns n w

-- the bytes that are written
abbrev pub bytes_of : Option Output → List ℕ
bytes_of None = []
bytes_of (Some output) = in_width output.width (text_of output.text)

-- ---- effects and deeds

-- an effect is the defined one
pub record IsEffectOf (m : Machine) (s : State) (defined : meaning.Effect) (e : Effect) : Type 0 where
  pub onward : defined.onward ≡ at_depth e.depth
  pub change : IsChangeOf m.flow.now.program m.frames.items e.depth defined.changes e.change
  pub items : defined.items ≡ e.items.now
  pub output : defined.output ≡ s.output ++ bytes_of e.output

-- what the edge k does comes of a deed: its effect, or the call, whose actuals are still to be evaluated
abbrev pub IsDone : Machine → State → ℕ → Outcome → Deed → Type 0
IsDone m s k outcome (deed.Lands e) = (defined : meaning.Effect) × (outcome ≡ Ok (Some defined)) × IsEffectOf m s defined e
IsDone m s k outcome (deed.Calls routine actuals) = outcome ≡ call (chart_of m.flow.now) s k routine actuals.now

-- what the edge k does is the deed, or nothing, or the error
abbrev pub IsDecided : Machine → State → ℕ → Outcome → Result (Option Deed) Fault → Type 0
IsDecided m s k outcome (Ok None) = outcome ≡ Ok None
IsDecided m s k outcome (Ok (Some d)) = IsDone m s k outcome d
IsDecided m s k outcome (Err f) = outcome ≡ Err f

-- the state after the edge k, by what it does
abbrev pub after_edge : Machine → State → ℕ → Outcome → Answer (Option State)
after_edge m s k outcome = or_else (chart_of m.flow.now) s k outcome (Ok None)

-- the first of these edges whose action is to be done, with its deed
pub record IsFirstDone (m : Machine) (s : State) (ks : List ℕ) (k : ℕ) (d : Deed) : Type 0 where
  pub outcome : Outcome
  pub first : first_done (chart_of m.flow.now) s ks ≡ after_edge m s k outcome
  pub done : IsDone m s k outcome d

abbrev pub IsFirst : Machine → State → List ℕ → Result (Option (ℕ × Deed)) Fault → Type 0
IsFirst m s ks (Ok None) = first_done (chart_of m.flow.now) s ks ≡ Ok None
IsFirst m s ks (Ok (Some (k, d))) = IsFirstDone m s ks k d
IsFirst m s ks (Err f) = first_done (chart_of m.flow.now) s ks ≡ Err f

-- ---- calls

-- A call makes the new activation, which stands at the point; or it is refused with the error of its actuals, or for want of memory.
abbrev pub IsCalled : Outcome → ℕ → State → Machine → Result (Unit {0}) Refusal → Type 0
IsCalled outcome point s new (Ok done) = (defined : meaning.Effect) × (outcome ≡ Ok (Some defined)) × StandsFor new (steps.after s point defined)
IsCalled outcome point s new (Err (refusal.Fault f)) = (outcome ≡ Err f) × StandsFor new s
IsCalled outcome point s new (Err (refusal.Memory e)) = StandsFor new s

-- ---- steps

-- the machine is in this state, if there is one
abbrev pub IsIn : Machine → Answer (Option State) → Type 0
IsIn m (Ok (Some s)) = StandsFor m s
IsIn m _ = ⊥

-- After an edge the machine is in the state that it leads to, or has met the error and is in the old state. Want of memory leaves
-- it in that too.
abbrev pub IsAfter : {E : Type 0} → Answer (Option State) → State → Machine → Result Progress E → Type 0
IsAfter defined s new (Ok progress.Moved) = IsIn new defined
IsAfter defined s new (Ok progress.Halted) = ⊥
IsAfter defined s new (Ok (progress.Error kind at)) = (defined ≡ Err (record { kind = kind; at = at })) × StandsFor new s
IsAfter defined s new (Err e) = StandsFor new s

-- the same of a step
abbrev pub IsStep : {E : Type 0} → steps.Progress → State → Machine → Result Progress E → Type 0
IsStep defined s new (Ok progress.Moved) = (t : State) × (defined ≡ steps.moves t) × StandsFor new t
IsStep defined s new (Ok progress.Halted) = (defined ≡ steps.halts) × StandsFor new s
IsStep defined s new (Ok (progress.Error kind at)) = (defined ≡ steps.fails (record { kind = kind; at = at })) × StandsFor new s
IsStep defined s new (Err e) = StandsFor new s
