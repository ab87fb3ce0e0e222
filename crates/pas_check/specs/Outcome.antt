-- What a test answers, and what the code ensures of it.
use Rattle.std.specs.Prelude.{◌≡◌, ℕ, Bool, true, false, List, [], ◌∷◌, Result, Ok, Err, Option, Some, None}
use Rattle.pas_check.specs.declared.fault.Fault.{Fault}
use Rattle.pas_check.specs.declared.fault.Fault.TheVariants.{Broken, Memory}
use Rattle.pas_check.specs.declared.fault.Rule.{Rule}

abbrev pub Outcome : Type 0 → Type 0
Outcome A = Result A Fault

infixl 10 ◌>>=◌
abbrev pub ◌>>=◌ : {A B : Type 0} → Outcome A → (A → Outcome B) → Outcome B
(Ok a) >>= f = f a
(Err e) >>= f = Err e

-- where the test fails, the rule is broken at the place; else what follows counts
abbrev pub unless : {A : Type 0} → Bool → Rule → ℕ → Outcome A → Outcome A
unless true rule at rest = Err (Broken rule at)
unless false rule at rest = rest

-- what there is; where there is nothing, the rule is broken at the place
abbrev pub needed : {A : Type 0} → Option A → Rule → ℕ → Outcome A
needed None rule at = Err (Broken rule at)
needed (Some a) rule at = Ok a

-- one test after the other
abbrev pub each : {A : Type 0} → (A → Outcome (Unit {0})) → List A → Outcome (Unit {0})
each test [] = Ok tt
each test (a ∷ rest) = do
  done ← test a
  each test rest

-- a broken rule, and not want of memory
abbrev pub IsBroken : Fault → Type 0
IsBroken (Broken rule at) = Unit {0}
IsBroken (Memory e) = ⊥

abbrev pub IsMemory : Fault → Type 0
IsMemory (Broken rule at) = ⊥
IsMemory (Memory e) = Unit {0}

-- the outcome is one that may be answered, with what is shown of it, unless memory runs out
abbrev pub Meets : {A B : Type 0} → (A → B) → (Outcome B → Type 0) → Outcome A → Type 0
Meets shown May (Ok a) = May (Ok (shown a))
Meets shown May (Err e) = IsBroken e → May (Err e)

-- the outcome is the defined one, by what is shown of it, unless memory runs out
abbrev pub Gives : {A B : Type 0} → (A → B) → Outcome B → Outcome A → Type 0
Gives shown defined (Ok a) = defined ≡ Ok (shown a)
Gives shown defined (Err e) = IsBroken e → defined ≡ Err e
