use Rattle.std.proofs.Common.{◌≡◌, true, map, drop}
use Rattle.std.specs.List.{list_all}
use Rattle.pas_program.specs.Each.{arm_of, constants, each_arm, each_statement}
use Rattle.pas_program.specs.Labels.{all_differ}
use Rattle.pas_program.specs.Size.{statement_size}
use Rattle.pas_program.specs.Typed.{arm_types, arm_types_fit, statement_types_fit}
use Rattle.pas_program.specs.Types.{in_host}
use Rattle.pas_valid.specs.Passing.{known, placed, arm_size}
use Rattle.pas_valid.specs.Standing.{fresh}
use Rattle.pas_valid.proofs.Lists.{Walked}
use Rattle.pas_valid.proofs.ground.Ground.+statement.Given as goal

abbrev pub invariant-sequence-loop-statement : goal.invariant-sequence-loop-statement
invariant-sequence-loop-statement l =
    Walked (statement_types_fit (known l.self)) (each_statement (placed l.self)) statement_size l.body l.statement-index l.initial.left l.left

abbrev pub invariant-arms-loop-arm : goal.invariant-arms-loop-arm
invariant-arms-loop-arm l =
    Walked (arm_types_fit (known l.self)) (each_arm (placed l.self)) arm_size l.arms l.arm-index l.initial.left l.left
    × (list_all (in_host l.host) (constants (map (arm_types (known l.self)) l.arms)) ≡ list_all (in_host l.host) (constants (map (arm_types (known l.self)) (drop l.arm-index l.arms))))
    × (fresh l.seen (constants (map (arm_of (placed l.self)) (drop l.arm-index l.arms))) ≡ true → all_differ (constants (map (arm_of (placed l.self)) l.arms)) ≡ true)
