-- Classes of activations: a routine with the call that enters it, the class of the activation within which it is declared, and what
-- its variable parameters are bound to.
use Rattle.std.specs.Prelude.{ℕ, Bool, true, false, ◌&&◌, List, [], ◌∷◌, nat_eq, Option, Some, None, unwrap_or, slice_get}
use Rattle.std.specs.Bool.{beq}
use Rattle.alias_class.specs.declared.bind.Bind.{Bind}

-- a routine as a call enters it
pub record Entry : Type 0 where
  pub routine : ℕ
  -- the edge of the call
  pub site : ℕ
  -- of each variable parameter, in order
  pub bindings : List Bind

-- The entries of a routine and of those around it, its own first: what comes after an entry is the class of its static parent. The
-- program's block has no entry.
abbrev pub Class : Type 0
Class = List Entry

-- the class of the static parent
abbrev pub parent_class : Class → Option Class
parent_class [] = None
parent_class (e ∷ parent) = Some parent

-- what the variable parameters are bound to
abbrev pub bindings_of : Class → List Bind
bindings_of [] = []
bindings_of (e ∷ parent) = e.bindings

-- ---- whether two are the same

abbrev pub same_bind : Bind → Bind → Bool
same_bind a b = beq a.whole b.whole && nat_eq a.cell b.cell

abbrev pub same_binds : List Bind → List Bind → Bool
same_binds [] [] = true
same_binds (a ∷ rest) (b ∷ others) = same_bind a b && same_binds rest others
same_binds _ _ = false

abbrev pub same_entry : Entry → Entry → Bool
same_entry d e = (nat_eq d.routine e.routine && nat_eq d.site e.site) && same_binds d.bindings e.bindings

abbrev pub same_class : Class → Class → Bool
same_class [] [] = true
same_class (d ∷ c) (e ∷ p) = same_entry d e && same_class c p
same_class _ _ = false

-- the class of a number in a list of classes
abbrev pub class_at : List Class → ℕ → Class
class_at classes n = unwrap_or (slice_get classes n) []
