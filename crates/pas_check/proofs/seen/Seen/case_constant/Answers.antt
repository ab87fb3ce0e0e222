use Rattle.std.proofs.Common.{◌≡◌, rules, sym, ap, ◌∙◌, w32, to_z, of_z, Some}
use Rattle.pas_check.specs.Sight.{sight}
use Rattle.pas_check.proofs.Calls.{constant_is}
use Rattle.pas_check.proofs.seen.Seen.case_constant.Goals as goal

pub returns-clause-form : goal.returns-clause-form
returns-clause-form c =
    let same : to_z w32 (of_z w32 c.in_ok-value.value.value) ≡ c.in_ok-value.value.value = search rules in
    constant_is (sight c.args.self.now) c.args.constant.now c.in_ok-value.value c.in_ok-value.ensures.value ∙ ap Some (sym same)
