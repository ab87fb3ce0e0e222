-- What holds of each state that a run may reach.
use Rattle.std.specs.Prelude.{◌≡◌, ℕ, true, false, List, [], ◌∷◌, ℤ, All, Option, Some, None, slice_get, if◌then◌else◌}
use Rattle.pas_program.specs.declared.type_def.TypeDef.{TypeDef}
use Rattle.pas_program.specs.declared.type_def.TypeDef.TheVariants.{Array}
use Rattle.pas_program.specs.declared.variable.VarDef.{VarDef}
use Rattle.pas_program.specs.declared.variable.VarKind.TheVariants as kind
use Rattle.pas_program.specs.Tables.{Tables, Head, is_kind, is_own}
use Rattle.control_points.specs.declared.edge.Edge.{Edge}
use Rattle.control_points.specs.Actions.{top_depth}
use Rattle.control_points.specs.Chart.{Chart}
use Rattle.control_points.specs.Evaluation.{is_value_of, var_type}
use Rattle.control_points.specs.Finding.{around, frame_at, bound_to}
use Rattle.control_points.specs.Fits.{callee_of, routine_at}
use Rattle.control_points.specs.Runs.{IsInput}
use Rattle.control_points.specs.States.{Binding, Frame, Activation, Stack, State}
use Rattle.control_points.specs.Steps.{point_of}
use Rattle.control_points.specs.Storage.{Place}

-- ---- places

-- the type that subscripts lead to from the type n, if each is a value of its index type
abbrev pub led_to : Tables → List ℤ → Option TypeDef → Option TypeDef
led_to t [] d = d
led_to t (z ∷ zs) (Some (Array index element)) = if is_value_of (t.type_at index) z then led_to t zs (t.type_at element) else None
led_to t (z ∷ zs) _ = None

-- the type of what a place names
abbrev pub type_of_place : Tables → Place → Option TypeDef
type_of_place t p = led_to t p.subscripts (t.type_at (var_type t p.var))

-- the type of a variable
abbrev pub type_of_variable : Tables → ℕ → Option TypeDef
type_of_variable t v = t.type_at (var_type t v)

-- The place is a variable, or a part of one, of the activation at its depth; the variable is no variable parameter, which has no
-- storage of its own.
pub record Exists (c : Chart) (stack : Stack) (p : Place) : Type 0 where
  pub frame : Frame
  pub variable : VarDef
  pub of_type : TypeDef
  pub activation : frame_at stack p.depth ≡ Some frame
  pub known : c.tables.var_at p.var ≡ Some variable
  pub own : variable.routine ≡ frame.routine
  pub stored : is_kind kind.Var variable.kind ≡ false
  pub typed : type_of_place c.tables p ≡ Some of_type

-- the place exists, and is of a type
pub record Denotes (c : Chart) (stack : Stack) (p : Place) (of_type : Option TypeDef) : Type 0 where
  pub exists : Exists c stack p
  pub typed : type_of_place c.tables p ≡ of_type

-- ---- activations

-- the activation at a depth is one of the routine r
pub record IsOf (stack : Stack) (depth r : ℕ) : Type 0 where
  pub frame : Frame
  pub activation : frame_at stack depth ≡ Some frame
  pub routine : frame.routine ≡ r

-- the variable parameter v stands for a variable of its type, or for a part of one, of an activation that was there before
pub record IsBound (c : Chart) (below : Stack) (v : ℕ) (bindings : List Binding) : Type 0 where
  pub place : Place
  pub known : bound_to v bindings ≡ Some place
  pub exists : Exists c below place
  pub typed : type_of_place c.tables place ≡ type_of_variable c.tables v

-- the latest activation of a stack of one: that of the program's block
pub record IsMain (c : Chart) (a : Activation) : Type 0 where
  pub routine : a.frame.routine ≡ c.main
  pub call : a.frame.call ≡ None
  pub parent : a.frame.parent ≡ None
  pub bindings : a.frame.bindings ≡ []
  pub stands : routine_at c.points a.point ≡ Some c.main

-- An activation and those below it: a call made it, at whose point the one below waits. It lies within the activation of the
-- routine that declares its own, which is that of the one below or around it. Each of its variable parameters stands for
-- something that exists below it.
pub record IsCallee (c : Chart) (a : Activation) (below : Stack) : Type 0 where
  pub edge : ℕ
  pub site : Edge
  pub head : Head
  pub outer : ℕ
  pub depth : ℕ
  pub made : a.frame.call ≡ Some edge
  pub known : slice_get c.edges edge ≡ Some site
  pub callee : callee_of site.act ≡ Some a.frame.routine
  pub waits : point_of below ≡ site.from
  pub declared : c.tables.head_at a.frame.routine ≡ Some head
  pub declares : head.parent ≡ Some outer
  pub parent : a.frame.parent ≡ Some depth
  pub found : around below (top_depth below) outer ≡ Some depth
  pub within : IsOf below depth outer
  pub bindings : All (λ (b : Binding). Exists c below b.place) a.frame.bindings
  pub bound : (v : ℕ) → is_own c.tables a.frame.routine kind.Var v ≡ true → IsBound c below v a.frame.bindings
  pub stands : routine_at c.points a.point ≡ Some a.frame.routine

abbrev pub IsStack : Chart → Stack → Type 0
IsStack c [] = ⊥
IsStack c (a ∷ []) = IsMain c a
IsStack c (a ∷ b ∷ below) = IsCallee c a (b ∷ below) × IsStack c (b ∷ below)

-- ---- states

-- a number is stored only where there is a scalar of whose type it is a value
pub record IsStored (c : Chart) (stack : Stack) (p : Place) (z : ℤ) : Type 0 where
  pub exists : Exists c stack p
  pub fits : is_value_of (type_of_place c.tables p) z ≡ true

pub record IsValid (c : Chart) (s : State) : Type 0 where
  pub stack : IsStack c s.stack
  pub stored : (p : Place) (z : ℤ) → s.store p ≡ Some z → IsStored c s.stack p z
  pub items : IsInput s.items
