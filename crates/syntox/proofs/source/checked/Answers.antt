use Rattle.std.proofs.Common.{length, sym, subst}
use Rattle.pas_check.specs.Blocks.{IsSound}
use Rattle.pas_check.specs.Fault.{IsWithin}
use Rattle.report.specs.declared.fault.SourceFault.TheVariants.{Check}
use Rattle.syntox.specs.Source.{HasSourceFault}
use Rattle.syntox.specs.Source as source
use Rattle.syntox.proofs.source.checked.Goals as goal

pub returns-in-Wrong-clause-fault : goal.returns-in-Wrong-clause-fault
returns-in-Wrong-clause-fault c text tree is within sound =
    subst (λ f. HasSourceFault text (Check f)) (sym c.in-Wrong.is)
    (source.rule is (subst (IsWithin (length text)) c.in-Wrong.is within) (subst (IsSound text tree) c.in-Wrong.is sound))
