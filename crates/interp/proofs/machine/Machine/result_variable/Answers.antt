use Rattle.std.proofs.Common.{ap, ◌∙◌, sym}
use Rattle.std.specs.Option.{option_and_then, option_map}
use Rattle.pas_program.specs.Checked.{tables}
use Rattle.pas_program.specs.Tables.{Head, head_of}
use Rattle.interp.specs.Deeds.{result_in}
use Rattle.interp.proofs.Chains.{top_routine_is}
use Rattle.interp.proofs.Targets.{result_own}
use Rattle.interp.proofs.machine.Machine.result_variable.Goals as goal

pub returns : goal.returns
returns c =
    let m = c.args.self.now in
    record {
      result_variable = result_own m.flow.now m.frames.items c.top.result.now c.in_ok-get.field-0.now c.top.ensures (sym c.in_ok-get.ensures.value);
      is = sym (ap (result_in (tables m.flow.now.program)) (top_routine_is m.frames.items c.top.result.now c.top.ensures) ∙ ap (λ o. option_and_then (λ (h : Head). h.result) (option_map head_of o)) (sym c.in_ok-get.ensures.value));
    }
