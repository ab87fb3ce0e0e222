-- A call that is to be made, and what it gives the new activation.
use Rattle.std.specs.Prelude.{◌≡◌, ℕ, ◌+◌, ◌<◌, ◌≤◌, Bool, true, false, List, length, map, ℤ, Option, Some, slice_get, slice_set}
use Rattle.std.specs.Option.{option_and_then}
use Rattle.arithmetic.specs.Numbers.{IsNumber}
use Rattle.pas_program.specs.Checked.{tables}
use Rattle.pas_program.specs.declared.expr.Actual.{Actual}
use Rattle.pas_program.specs.declared.program.Program.{Program}
use Rattle.pas_program.specs.declared.variable.VarDef.{VarDef}
use Rattle.pas_program.specs.declared.variable.VarKind.TheVariants as kind
use Rattle.pas_program.specs.Tables.{Tables, Head, is_kind}
use Rattle.pas_program.specs.Typed.{are_passed_to, passed}
use Rattle.control_points.specs.declared.edge.Act.TheVariants as act
use Rattle.control_points.specs.declared.edge.Edge.{Edge}
use Rattle.control_points.specs.declared.flow.Flow.{Flow}
use Rattle.interp.specs.declared.call.Argument.{Argument}
use Rattle.interp.specs.declared.call.Argument.TheVariants as argument
use Rattle.interp.specs.declared.frame.Frame.{Frame}
use Rattle.interp.specs.Layouts.{extent_of, extent_before, count_of}
use Rattle.interp.specs.Machines.{end_of, routine_of, top_point}

-- the edge k is a call from the point where the latest activation stands
pub record IsCallOf (flow : Flow) (frames : List Frame) (k routine : ℕ) (actuals : List Actual) : Type 0 where
  pub edge : Edge
  pub slot : Option ℕ
  pub at : ℕ
  pub known : slice_get flow.edges k ≡ Some edge
  pub leaves : edge.from ≡ top_point frames
  pub is : edge.act ≡ act.Call routine actuals slot at

-- whether the actuals fit the formals of a routine
abbrev pub are_passed : Tables → List Actual → Head → Bool
are_passed t actuals h = are_passed_to t (map (passed t) actuals) h.formals

-- there is room behind all activations for one more, of the routine
pub record HasNew (p : Program) (frames : List Frame) (routine : ℕ) (links : List ℕ) (scalars : List (Option ℤ)) : Type 0 where
  pub scalars_room : (end_of p frames).scalars + (extent_of p routine).scalars ≤ length scalars
  pub links_room : (end_of p frames).links + (extent_of p routine).links ≤ length links

-- the same for the routine of the formal v
abbrev pub HasNewFor : Program → List Frame → ℕ → List ℕ → List (Option ℤ) → Type 0
HasNewFor p frames v links scalars = (x : VarDef) → slice_get p.vars v ≡ Some x → HasNew p frames x.routine links scalars

-- what a formal may be given
abbrev pub IsGiven : Program → List Frame → VarDef → Argument → Type 0
IsGiven p frames x (argument.Number z) = (is_kind kind.Var x.kind ≡ false) × (count_of p x.of_type ≡ 1) × IsNumber z
IsGiven p frames x (argument.Array a n) = (is_kind kind.Var x.kind ≡ false) × (n ≡ count_of p x.of_type) × (a + n ≤ (end_of p frames).scalars)
IsGiven p frames x (argument.Variable a) = (is_kind kind.Var x.kind ≡ true) × (a + count_of p x.of_type ≤ (end_of p frames).scalars)

abbrev pub IsArgument : Program → List Frame → ℕ → Argument → Type 0
IsArgument p frames v a = (x : VarDef) → slice_get p.vars v ≡ Some x → IsGiven p frames x a

-- the variable parameters of a new activation of the routine stand for what lies below it
abbrev pub AreLinked : Program → List Frame → ℕ → List ℕ → Type 0
AreLinked p frames routine links =
    (v a : ℕ) (x : VarDef) → slice_get p.vars v ≡ Some x → x.routine ≡ routine → is_kind kind.Var x.kind ≡ true
    → slice_get links ((end_of p frames).links + (extent_before p routine v).links) ≡ Some a → a + count_of p x.of_type ≤ (end_of p frames).scalars

-- a variable parameter gets its link, and all else keeps the links
abbrev pub IsGivenLink : Program → List Frame → ℕ → Argument → List ℕ → List ℕ → Type 0
IsGivenLink p frames v (argument.Variable a) old new = (x : VarDef) → slice_get p.vars v ≡ Some x → new ≡ slice_set old ((end_of p frames).links + (extent_before p x.routine v).links) a
IsGivenLink p frames v _ old new = new ≡ old

-- the activation at this depth is the one within which an activation of the routine lies, if it lies within one
pub record IsParent (flow : Flow) (frames : List Frame) (routine : ℕ) (parent : Option ℕ) : Type 0 where
  pub is : (h : Head) → (tables flow.program).head_at routine ≡ Some h → option_and_then (routine_of frames) parent ≡ h.parent
  pub below : (p : ℕ) → parent ≡ Some p → p < length frames
