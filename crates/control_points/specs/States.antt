-- The states of a run: activations (ISO 7185, 6.2.3), storage, input and output.
use Rattle.std.specs.Prelude.{ℕ, List, Option}
use Rattle.control_points.specs.declared.item.Item.{Item}
use Rattle.control_points.specs.Storage.{Place, Store}

-- the variable that a variable parameter stands for (6.6.3.3)
pub record Binding : Type 0 where
  pub formal : ℕ
  pub place : Place

-- What stays of an activation while it lasts. The program's block has no call and no parent.
pub record Frame : Type 0 where
  pub routine : ℕ
  -- the edge of the call that made it
  pub call : Option ℕ
  -- the depth of the activation within which it is, by the program's text
  pub parent : Option ℕ
  pub bindings : List Binding

pub record Activation : Type 0 where
  pub frame : Frame
  -- where it stands, and while it waits, where the call stands that it waits for
  pub point : ℕ

-- The latest activation comes first. The depth of one is the number of those before it in time, which come after it here.
abbrev pub Stack : Type 0
Stack = List Activation

pub record State : Type 0 where
  pub stack : Stack
  pub store : Store
  -- the input that is left
  pub items : List Item
  -- the bytes of the output so far
  pub output : List ℕ
