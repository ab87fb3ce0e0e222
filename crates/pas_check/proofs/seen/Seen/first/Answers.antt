use Rattle.std.proofs.Common.{sym, ap, ◌∙◌}
use Rattle.px_base.specs.declared.place.Span.{Span}
use Rattle.pas_check.specs.Sight.{sight}
use Rattle.pas_check.proofs.Found.{first_is}
use Rattle.pas_check.proofs.seen.Seen.first.Goals as goal

pub returns : goal.returns
returns c = ap (λ (s : Span). s.start) c.span_of.ensures ∙ sym (first_is (sight c.args.self.now) c.args.e.now)
