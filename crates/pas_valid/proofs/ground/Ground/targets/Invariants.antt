use Rattle.std.proofs.Common.{◌≡◌, ◌+◌, false, drop}
use Rattle.std.specs.List.{list_all}
use Rattle.pas_program.specs.Each.{each_access}
use Rattle.pas_program.specs.Size.{access_size}
use Rattle.pas_program.specs.Typed.{is_target, reached}
use Rattle.pas_valid.specs.Passing.{known, placed}
use Rattle.pas_valid.proofs.Lists.{Walked}
use Rattle.pas_valid.proofs.ground.Ground.targets.Given as goal

abbrev pub invariant-loop-access : goal.invariant-loop-access
invariant-loop-access l =
    Walked (each_access (placed l.self)) (each_access (placed l.self)) (λ a. 1 + access_size a) l.to l.access-index l.initial.left l.left
    × (list_all (λ a. is_target (known l.self) false (reached (known l.self) a)) l.to ≡ list_all (λ a. is_target (known l.self) false (reached (known l.self) a)) (drop l.access-index l.to))
