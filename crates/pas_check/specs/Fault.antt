-- What is known of a fault.
use Rattle.std.specs.Prelude.{◌≡◌, ℕ, ◌≤◌}
use Rattle.pas_check.specs.declared.fault.CheckFault.{CheckFault}
use Rattle.pas_check.specs.declared.fault.CheckFault.TheVariants.{Wrong, Memory}
use Rattle.pas_check.specs.declared.fault.Fault.{Fault}
use Rattle.pas_check.specs.declared.fault.Fault.TheVariants.{Broken}
use Rattle.pas_check.specs.declared.fault.Fault.TheVariants as fault
use Rattle.pas_check.specs.Rules.{code_of}

-- its place lies in a text of this length, its end included, and its code is one of the eighteen
abbrev pub IsWithin : ℕ → CheckFault → Type 0
IsWithin length (Wrong code at) = (1 ≤ code) × (code ≤ 18) × (at ≤ length)
IsWithin length (Memory e) = Unit {0}

-- a fault as it is told: the number of the rule, and the place, if it lies in a text of this length
abbrev pub IsTold : ℕ → Fault → CheckFault → Type 0
IsTold length (Broken rule place) (Wrong code at) = (code ≡ code_of rule) × (place ≤ length → at ≡ place)
IsTold length (fault.Memory e) (Memory f) = Unit {0}
IsTold length (Broken rule place) (Memory f) = ⊥
IsTold length (fault.Memory e) (Wrong code at) = ⊥
