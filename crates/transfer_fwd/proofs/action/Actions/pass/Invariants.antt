use Rattle.std.proofs.Common.{◌≡◌, map, true}
use Rattle.control_points.specs.Checking.{formals_of}
use Rattle.environment.specs.Environments.{cell_count}
use Rattle.environment.specs.Kept.{room_of}
use Rattle.pas_program.specs.Checked.{numbers_in, tables}
use Rattle.pas_program.specs.Each.{all_true, each_actual}
use Rattle.pas_program.specs.Typed.{are_passed_to, passed}
use Rattle.abstract_expr.specs.Scopes.{program_of, scope_of, seen_of}
use Rattle.transfer_fwd.specs.Crossings.{actuals_refined}
use Rattle.transfer_fwd.proofs.action.Actions.pass.Given as goal

-- the actuals that are left fit the formals that are left, and refine what those before have left
abbrev pub invariant-loop-actual : goal.invariant-loop-actual
invariant-loop-actual l =
    let s = l.self.scope in
    let t = tables (program_of s) in
    let actuals = l.actual-iterator.a.rest.now in
    let formals = l.actual-iterator.b.rest.now in
    record {
      numbers : all_true (map (each_actual (numbers_in (program_of s))) actuals) ≡ true;
      types : are_passed_to t (map (passed t) actuals) formals ≡ true;
      seen : all_true (map (each_actual (seen_of s)) actuals) ≡ true;
      refined : actuals_refined (scope_of s) actuals formals l.env.env ≡ actuals_refined (scope_of s) l.actuals (formals_of (t.head_at l.routine)) l.fn.env.env;
      cells : cell_count l.env.env ≡ cell_count l.fn.env.env;
      room : room_of l.env ≡ room_of l.fn.env;
    }
