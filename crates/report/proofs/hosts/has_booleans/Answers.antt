use Rattle.std.proofs.Common.{suc, sym, ap, ◌∙◌, arith}
use Rattle.report.specs.Hosts.{booleans_within, host_is_boolean}
use Rattle.report.proofs.ElementTypes.{element_before, enough}
use Rattle.report.proofs.hosts.has_booleans.Goals as goal

pub loop-boolean-preserved : goal.loop-boolean-preserved
loop-boolean-preserved c =
    let types = c.args.program.now.types in
    let current = c.loop-boolean.current in
    let before = element_before types current c.in-Array.index c.in-Array.element c.in-Array.ensures.fits in
    record {
      in_range = omega (arith, before, c.loop-boolean.invariant.in_range);
      same = enough types c.args.program.now.types_fit (suc c.in-Array.element) current c.in-Array.element (omega arith) before
          ∙ sym (ap (host_is_boolean (λ e. booleans_within current types e)) c.in-Array.ensures.value) ∙ c.loop-boolean.invariant.same;
    }
