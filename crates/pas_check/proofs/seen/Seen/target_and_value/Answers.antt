use Rattle.std.proofs.Common.{ap}
use Rattle.pas_check.specs.declared.seen.Made.{Made}
use Rattle.pas_check.specs.Expr.{place_of}
use Rattle.pas_check.specs.Sight.{sight}
use Rattle.pas_check.proofs.Calls.{assignment_is}
use Rattle.pas_check.proofs.Writes.{assignment_writes_are}
use Rattle.pas_check.proofs.seen.Seen.target_and_value.Goals as goal

pub returns-clause-writes : goal.returns-clause-writes
returns-clause-writes c =
    assignment_writes_are (sight c.args.self.now) c.args.to.now c.args.value.now c.as_slice.result.now c.in_ok-meaning.meaning (c.in_ok-variable.variable, c.in_ok-variable.function) (place_of c.in_ok-target.target) _ _ _ _ _
    c.as_slice.ensures c.in_ok-meaning.ensures.value c.in_ok-variable.ensures.value c.in_ok-target.ensures.value c.in_ok-meaning.ensures.writes c.in_ok-target.ensures.writes c.in_ok-threaten.ensures.writes c.in_ok-body.ensures.writes

pub returns-clause-form : goal.returns-clause-form
returns-clause-form c =
    assignment_is (sight c.args.self.now) c.args.to.now c.args.value.now c.as_slice.result.now c.in_ok-meaning.meaning (c.in_ok-variable.variable, c.in_ok-variable.function) c.in_ok-target.target c.args.made.now.built _ _ _ _ _
    c.as_slice.ensures c.in_ok-meaning.ensures.value c.in_ok-variable.ensures.value (ap (λ (m : Made). m.built) c.in_ok-meaning.ensures.kept) c.in_ok-target.ensures.form c.in_ok-threaten.ensures.kept c.in_ok-body.ensures.form
