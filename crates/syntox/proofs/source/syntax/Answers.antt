use Rattle.std.proofs.Common.{sym, subst, arith}
use Rattle.report.specs.Wording.{IsSyntax}
use Rattle.report.specs.declared.fault.SourceFault.TheVariants.{Parse}
use Rattle.syntox.proofs.Faults.{own, place_in, syntax_fault}
use Rattle.syntox.specs.Source.{HasSourceFault}
use Rattle.syntox.proofs.source.syntax.Goals as goal

pub returns-in-NoRule-clause-fault : goal.returns-in-NoRule-clause-fault
returns-in-NoRule-clause-fault c text ends has gives =
    subst (λ f. HasSourceFault text (Parse f c.place_of.result)) (sym c.in-NoRule.fault-is)
    (syntax_fault text c.args.tokens.now c.args.fault c.args.«end» c.in-NoRule.token c.place_of.result c.in-NoRule.is c.place_of.ensures ends has gives)

pub returns-in-NoRule-clause-place : goal.returns-in-NoRule-clause-place
returns-in-NoRule-clause-place c rise =
    let o = own c.in-NoRule.token c.args.fault c.in-NoRule.is in
    (subst IsSyntax (sym c.in-NoRule.fault-is) o.2, omega (arith, c.place_of.ensures, place_in c.args.tokens.now c.args.«end» c.in-NoRule.token rise))
