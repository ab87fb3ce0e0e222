use Rattle.std.proofs.Common.{◌≡◌, map, true}
use Rattle.std.specs.List.{list_all}
use Rattle.environment.specs.Environments.{cell_count}
use Rattle.environment.specs.Kept.{room_of}
use Rattle.pas_program.specs.Checked.{numbers_in, tables}
use Rattle.pas_program.specs.Each.{all_true, each_actual}
use Rattle.pas_program.specs.Typed.{are_passed_to, passed}
use Rattle.abstract_expr.specs.Standing.{seen_in}
use Rattle.transfer_fwd.specs.Crossed.{crossing_of, inside_of, outside_of}
use Rattle.transfer_fwd.specs.Crossings.{formals_given}
use Rattle.transfer_fwd.proofs.crossing.Crossing.give_formals.Given as goal

-- the actuals that are left fit the formals that are left, and give what all of them do
abbrev pub invariant-loop-actual : goal.invariant-loop-actual
invariant-loop-actual l =
    let x = l.self in
    let p = x.flow.now.program in
    let actuals = l.actual-iterator.a.rest.now in
    let formals = l.actual-iterator.b.rest.now in
    record {
      numbers : all_true (map (each_actual (numbers_in p)) actuals) ≡ true;
      types : are_passed_to (tables p) (map (passed (tables p)) actuals) formals ≡ true;
      seen : all_true (map (each_actual (seen_in x.classes.now x.outside)) actuals) ≡ true;
      named : list_all (seen_in x.classes.now x.inside).variable formals ≡ true;
      given : formals_given l.first (outside_of x) (inside_of x) l.left.env actuals formals l.out.env ≡ formals_given l.first (outside_of x) (inside_of x) l.left.env x.actuals.now (crossing_of x).formals l.fn.out.env;
      cells : cell_count l.out.env ≡ cell_count l.fn.out.env;
      room : room_of l.out ≡ room_of l.fn.out;
    }
