-- Marks of classes that are handed on from callees to callers.
use Rattle.std.specs.Prelude.{◌≡◌, ℕ, ◌<◌, ◌≤◌, Bool, true, false, List, Some, slice_get, slice_set, length, if◌then◌else◌}
use Rattle.std.specs.Bool.{beq}
use Rattle.std.specs.List.{sum_by}
use Rattle.activations.specs.declared.discovery.Call.{Call}

abbrev pub IsMarked : Bool → List Bool → ℕ → Type 0
IsMarked mark marks i = slice_get marks i ≡ Some mark

-- how many are not marked
abbrev pub unmarked : Bool → List Bool → ℕ
unmarked mark marks = sum_by (λ b. if beq b mark then 0 else 1) marks

-- calls of so many classes
abbrev pub AreWithin : ℕ → List Call → Type 0
AreWithin classes calls = (k : ℕ) (c : Call) → slice_get calls k ≡ Some c → (c.caller < classes) × (c.callee < classes)

-- from the class i these calls lead to the class j
pub data Leads (calls : List Call) : ℕ → ℕ → Type 0 where
  itself : {i : ℕ} → Leads calls i i
  by_call : {i j : ℕ} (k : ℕ) (c : Call) → slice_get calls k ≡ Some c → c.caller ≡ i → Leads calls c.callee j → Leads calls i j

-- from the class i these calls lead to one that is marked
pub record LeadsToMarked (calls : List Call) (mark : Bool) (marks : List Bool) (i : ℕ) : Type 0 where
  pub class : ℕ
  pub leads : Leads calls i class
  pub marked : IsMarked mark marks class

-- The marks stay, and those that are new are of classes from which the calls lead to one that was marked.
pub record MarksSome (calls : List Call) (mark : Bool) (old new : List Bool) : Type 0 where
  pub long : length new ≡ length old
  pub kept : (i : ℕ) → IsMarked mark old i → IsMarked mark new i
  pub led : (i : ℕ) → IsMarked mark new i → LeadsToMarked calls mark old i

-- Behind the first n calls each caller of a marked class is marked.
abbrev pub AreClosedFrom : ℕ → List Call → Bool → List Bool → Type 0
AreClosedFrom n calls mark marks = (k : ℕ) (c : Call) → n ≤ k → slice_get calls k ≡ Some c → IsMarked mark marks c.callee → IsMarked mark marks c.caller

-- the marks after the calls behind the first n, and whether one is new
pub record AreWalked (calls : List Call) (mark : Bool) (n : ℕ) (changed : Bool) (old new : List Bool) : Type 0 where
  pub marks : MarksSome calls mark old new
  pub fewer : changed ≡ true → unmarked mark new < unmarked mark old
  pub same : changed ≡ false → new ≡ old
  pub closed : changed ≡ false → AreClosedFrom n calls mark new

-- the marks after one call, and whether its caller's is new
pub record IsHandedOn (call : Call) (mark : Bool) (changed : Bool) (old new : List Bool) : Type 0 where
  pub callee : changed ≡ true → IsMarked mark old call.callee
  pub caller : changed ≡ true → slice_get old call.caller ≡ Some (if mark then false else true)
  pub set : changed ≡ true → new ≡ slice_set old call.caller mark
  pub same : changed ≡ false → new ≡ old
  pub closed : changed ≡ false → IsMarked mark old call.callee → IsMarked mark old call.caller
