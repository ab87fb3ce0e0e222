use Rattle.std.proofs.Common.{◌≡◌, Some, length, nat_lt, true, ap, sym, ◌∙◌}
use Rattle.std.specs.List.{list_all}
use Rattle.std.specs.Prelude.{slice_get}
use Rattle.std.proofs.lemmas.Bool.{ltb-true}
use Rattle.pas_program.specs.declared.program.Program.{Program}
use Rattle.abstract_expr.specs.Standing.{seen_in}
use Rattle.transfer_fwd.proofs.Called.{holds_at}
use Rattle.transfer_fwd.proofs.crossing.Crossing.leave_undefined.Goals as goal

pub leave_one-requires-clause-var : goal.leave_one-requires-clause-var
leave_one-requires-clause-var c =
    let x = c.args.self.now in
    let n = length x.flow.now.program.vars in
    let known : slice_get x.flow.now.program.routines x.routine ≡ Some c.routine.result.now = ap (λ (p : Program). slice_get p.routines x.routine) (sym c.program.ensures) ∙ c.routine.ensures.value in
    let all : list_all (λ v. nat_lt v n) c.as_slice-var-items.result.now ≡ true = ap (list_all (λ v. nat_lt v n)) c.as_slice-var-items.ensures ∙ c.names_seen.ensures.in_range c.routine.result.now known in
    ltb-true _ n (holds_at (λ v. nat_lt v n) c.as_slice-var-items.result.now c.loop-var.var-index 0 all c.loop-var-test.true)

pub leave_one-requires-clause-seen : goal.leave_one-requires-clause-seen
leave_one-requires-clause-seen c =
    let x = c.args.self.now in
    let seen = (seen_in x.classes.now x.inside).variable in
    let known : slice_get x.flow.now.program.routines x.routine ≡ Some c.routine.result.now = ap (λ (p : Program). slice_get p.routines x.routine) (sym c.program.ensures) ∙ c.routine.ensures.value in
    let all : list_all seen c.as_slice-var-items.result.now ≡ true = ap (list_all seen) c.as_slice-var-items.ensures ∙ c.names_seen.ensures.vars c.routine.result.now known in
    holds_at seen c.as_slice-var-items.result.now c.loop-var.var-index 0 all c.loop-var-test.true
