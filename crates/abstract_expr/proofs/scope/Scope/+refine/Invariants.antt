use Rattle.std.proofs.Common.{◌≡◌, ◌<◌, ◌+◌, ◌*◌, length, drop, map, max, true}
use Rattle.environment.specs.Environments.{cell_count}
use Rattle.environment.specs.Kept.{room_of}
use Rattle.pas_program.specs.declared.expr.Actual.TheViews.{size-Access, size-Expr}
use Rattle.pas_program.specs.Checked.{tables}
use Rattle.pas_program.specs.Typed.{hosted, subscripted}
use Rattle.abstract_expr.specs.Expressions.{subscripts_refined}
use Rattle.abstract_expr.specs.Scopes.{program_of, scope_of}
use Rattle.abstract_expr.proofs.Levels.{beside}
use Rattle.abstract_expr.proofs.scope.Scope.+refine.Given as goal

abbrev pub decreases-refine : goal.decreases-refine
decreases-refine l = 3 * size-Expr l.e.now + 1

abbrev pub decreases-refine_form : goal.decreases-refine_form
decreases-refine_form l = 3 * size-Expr l.e.now

abbrev pub decreases-refine_operands : goal.decreases-refine_operands
decreases-refine_operands l = 3 * max (size-Expr l.left.now) (size-Expr l.right.now) + 2

abbrev pub decreases-refine_variable : goal.decreases-refine_variable
decreases-refine_variable l = 3 * size-Access l.access.now + 1

abbrev pub decreases-refine_subscripts : goal.decreases-refine_subscripts
decreases-refine_subscripts l = 3 * size-Access l.access.now

-- The subscripts that are left fit the type that those before lead to, and refine what those have left.
abbrev pub invariant-refine_subscripts-loop-subscript : goal.invariant-refine_subscripts-loop-subscript
invariant-refine_subscripts-loop-subscript l =
    let p = program_of l.self in
    record {
      in_range : l.of_type < length p.types;
      fits : (subscripted (tables p) l.of_type (map (hosted (tables p)) (drop l.subscript-index l.subscript-items))).fits ≡ true;
      refined : subscripts_refined (scope_of l.self) l.of_type (beside (scope_of l.self) (drop l.subscript-index l.subscript-items)) l.env.env ≡ subscripts_refined (scope_of l.self) l.initial.of_type (beside (scope_of l.self) l.subscript-items) l.initial.env.env;
      cells : cell_count l.env.env ≡ cell_count l.initial.env.env;
      room : room_of l.env ≡ room_of l.initial.env;
    }
