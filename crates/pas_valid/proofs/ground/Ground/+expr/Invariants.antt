use Rattle.std.proofs.Common.{◌≡◌, map, drop}
use Rattle.pas_program.specs.Each.{each_actual, each_expr}
use Rattle.pas_program.specs.Size.{actual_size, expr_size}
use Rattle.pas_program.specs.Typed.{hosted, passed, subscripted, are_passed_to}
use Rattle.pas_valid.specs.Passing.{known, placed}
use Rattle.pas_valid.proofs.Lists.{Walked}
use Rattle.pas_valid.proofs.ground.Ground.+expr.Given as goal

abbrev pub invariant-subscripts-loop-subscript : goal.invariant-subscripts-loop-subscript
invariant-subscripts-loop-subscript l =
    Walked (each_expr (placed l.self)) (each_expr (placed l.self)) expr_size l.list l.subscript-index l.initial.left l.left
    × (subscripted (known l.self) l.from (map (hosted (known l.self)) l.list) ≡ subscripted (known l.self) l.t (map (hosted (known l.self)) (drop l.subscript-index l.list)))

abbrev pub invariant-actuals-loop-k : goal.invariant-actuals-loop-k
invariant-actuals-loop-k l =
    Walked (each_actual (placed l.self)) (each_actual (placed l.self)) actual_size l.actuals l.k l.initial.left l.left
    × (are_passed_to (known l.self) (map (passed (known l.self)) l.actuals) l.formals ≡ are_passed_to (known l.self) (map (passed (known l.self)) (drop l.k l.actuals)) (drop l.k l.formals))
