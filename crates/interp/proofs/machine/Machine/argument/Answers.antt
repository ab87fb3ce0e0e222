use Rattle.std.proofs.Common.{refl, ap, ◌∙◌, sym}
use Rattle.std.specs.List.{slice_get}
use Rattle.pas_program.specs.declared.expr.Actual.TheViews as views
use Rattle.pas_program.specs.Checked.{tables}
use Rattle.pas_program.specs.Tables.{holds_of}
use Rattle.pas_program.specs.Typed.{hosted, is_passed_to, passed}
use Rattle.interp.proofs.Casts.{number_cast}
use Rattle.interp.proofs.Forms.{passed_value, value_not_var}
use Rattle.interp.proofs.Parts.{scalar_count}
use Rattle.interp.proofs.Targets.{host_scalar}
use Rattle.interp.proofs.machine.Machine.argument.Goals as goal

pub returns-in_ok-assigned-in-Value-clause-safe : goal.returns-in_ok-assigned-in-Value-clause-safe
unfolding views.out-Actual denote.Hole.Carrier.out
returns-in_ok-assigned-in-Value-clause-safe c =
    let p = c.args.self.now.flow.now.program in
    let t = tables p in
    λ x e.
    let w = passed_value t c.args.actual.now _ c.in-Value.e x c.in-Value.is refl (sym (ap (holds_of (is_passed_to t (passed t c.args.actual.now))) e) ∙ c.requires.fits) in (
      value_not_var x.kind w.0,
      scalar_count p x.of_type (host_scalar (hosted t c.in-Value.e).boolean (slice_get p.types x.of_type) w.1),
      number_cast c.in_ok-assigned-in-Value.field-0 c.in_ok-assigned-in-Value.ensures.number,
    )
