-- What a run keeps of classes and cells: different cells are different storage, a variable parameter lies in its cell, and storage that is
-- hidden from a call stays as it is until the call ends.
use Rattle.std.specs.Prelude.{◌≡◌, ℕ, suc, ◌<◌, ◌≤◌, ◌⊎◌, true, List, [], length, Contains, Some}
use Rattle.pas_program.specs.declared.variable.VarKind.TheVariants as kind
use Rattle.pas_program.specs.Tables.{is_own}
use Rattle.control_points.specs.declared.item.Item.{Item}
use Rattle.control_points.specs.Chart.{Chart}
use Rattle.control_points.specs.Finding.{bound_to, frame_at}
use Rattle.control_points.specs.Runs.{at}
use Rattle.control_points.specs.States.{Frame, Stack, State}
use Rattle.control_points.specs.Storage.{Place, same_variable}
use Rattle.control_points.specs.ValidStates.{Exists}
use Rattle.alias_class.specs.declared.bind.Bind.{Bind}
use Rattle.alias_class.specs.declared.bind.Link.{Link}
use Rattle.alias_class.specs.declared.outline.Outline.{Outline}
use Rattle.alias_class.specs.Calls.{IsSite, callee, links_at}
use Rattle.alias_class.specs.Cells.{cell_count, resolve, routine_of}
use Rattle.alias_class.specs.Classes.{Class}
use Rattle.alias_class.specs.Denotation.{class_of, class_at_depth, denoted}

module _ (c : Chart) (o : Outline) where
  -- a cell of the activation at a depth
  pub record IsCell (stack : Stack) (d cell : ℕ) : Type 0 where
    pub depth : d < length stack
    pub in_range : cell < cell_count o (class_at_depth o c.edges stack d)

  -- it denotes a variable
  pub record Denotes (stack : Stack) (d cell : ℕ) (p : Place) : Type 0 where
    pub is_cell : IsCell stack d cell
    pub variable : denoted o c.edges stack d cell ≡ Some p

  -- ---- different cells of one activation denote different variables of activations

  -- a variable of an activation, as a whole
  pub record IsVariable (stack : Stack) (p : Place) : Type 0 where
    pub exists : Exists c stack p
    pub whole : p.subscripts ≡ []

  pub record IsDisjoint (stack : Stack) : Type 0 where
    pub some : (d cell : ℕ) → IsCell stack d cell → (p : Place) × Denotes stack d cell p
    pub variables : (d cell : ℕ) (p : Place) → Denotes stack d cell p → IsVariable stack p
    pub apart : (d i j : ℕ) (p q : Place) → Denotes stack d i p → Denotes stack d j q → same_variable p q ≡ true → i ≡ j

  -- ---- linked cells of an activation and of the one that it called denote one variable

  pub record SharesLinked (stack : Stack) : Type 0 where
    pub each : (d k : ℕ) (f : Frame) (y : Link) → frame_at stack (suc d) ≡ Some f → f.call ≡ Some k → suc d < length stack → Contains (links_at o c.edges (class_at_depth o c.edges stack d) k) y
        → denoted o c.edges stack (suc d) y.callee ≡ denoted o c.edges stack d y.caller

  -- ---- the place of a variable parameter lies in what its cell denotes, and is all of it where it is bound to the whole of it

  pub record LiesIn (stack : Stack) (d : ℕ) (b : Bind) (q : Place) : Type 0 where
    pub variable : Place
    pub denotes : Denotes stack d b.cell variable
    pub within : same_variable variable q ≡ true
    pub all : b.whole ≡ true → q ≡ variable

  pub record IsBinding (stack : Stack) : Type 0 where
    pub each : (d v : ℕ) (f : Frame) (q : Place) → frame_at stack d ≡ Some f → is_own c.tables f.routine kind.Var v ≡ true → bound_to v f.bindings ≡ Some q
        → LiesIn stack d (resolve o (class_at_depth o c.edges stack d) v) q

  -- ---- hidden storage

  -- the step that follows the first j makes an activation at the depth d + 1 by the call of the edge k
  pub record IsCallAt (items : List Item) (j d k : ℕ) : Type 0 where
    pub caller : State
    pub callee : State
    pub frame : Frame
    pub before : at c items j ≡ Some caller
    pub after : at c items (suc j) ≡ Some callee
    pub from_depth : length caller.stack ≡ suc d
    pub made : frame_at callee.stack (suc d) ≡ Some frame
    pub by : frame.call ≡ Some k

  -- after each number of steps from j + 1 to i, the stack is deeper than d
  pub record StaysDeeper (items : List Item) (j i d : ℕ) : Type 0 where
    pub later : j < i
    pub deeper : (m : ℕ) (s : State) → j < m → m ≤ i → at c items m ≡ Some s → suc d < length s.stack

  -- a cell of the caller's class is linked at a call of the edge k from the latest activation of a stack
  pub record IsLinked (stack : Stack) (k cell : ℕ) : Type 0 where
    pub link : Link
    pub listed : Contains (links_at o c.edges (class_of o c.edges stack) k) link
    pub linked : link.caller ≡ cell

  -- a variable of an activation deeper than d, or what a cell linked at the call denotes there
  abbrev pub IsFound : Stack → ℕ → ℕ → Place → Type 0
  IsFound caller d k p = (d < p.depth) ⊎ ((cell : ℕ) × IsLinked caller k cell × Denotes caller d cell p)

  -- each cell of each activation deeper than d denotes what is deeper, or what is linked
  pub record KeepsReach (d k : ℕ) (caller later : State) : Type 0 where
    pub reach : (e cell : ℕ) (p : Place) → d < e → Denotes later.stack e cell p → IsFound caller.stack d k p

  -- each location of a cell hidden at the call has the content that it had
  pub record KeepsContent (d k : ℕ) (caller later : State) : Type 0 where
    pub content : (cell : ℕ) (p q : Place) → Denotes caller.stack d cell p → (IsLinked caller.stack k cell → ⊥) → same_variable p q ≡ true → later.store q ≡ caller.store q

  -- A call was made after j steps from depth d, and until i steps are made the stack is deeper than d.
  pub record KeepsHidden (d k : ℕ) (caller later : State) : Type 0 where
    pub content : KeepsContent d k caller later
    pub reach : KeepsReach d k caller later

  pub record HidesStorage (items : List Item) : Type 0 where
    pub each : (j i d k : ℕ) (caller later : State) → IsCallAt items j d k → StaysDeeper items j i d → at c items j ≡ Some caller → at c items i ≡ Some later
        → KeepsHidden d k caller later

  -- ---- each activation has its class among these

  -- a list of classes that has that of the program's block, and each class that a call enters from one of the list
  pub record IsClosed (classes : List Class) : Type 0 where
    pub outermost : Contains classes []
    pub entered : (x : Class) (k : ℕ) → Contains classes x → IsSite c.points c.edges (routine_of o x) k → Contains classes (callee o c.edges x k)

  pub record HasItsClass (classes : List Class) (stack : Stack) : Type 0 where
    pub each : (d : ℕ) → d < length stack → Contains classes (class_at_depth o c.edges stack d)
