use Rattle.pas_check.specs.Formals.{Formed, formal_declared, formed_by}
use Rattle.pas_check.specs.Stage.{stage}
use Rattle.pas_check.proofs.Declarations.{any_default, leads_on, leads_to}
use Rattle.pas_check.proofs.checker.Checker.formals_declared.Goals as goal

pub loop-name-preserved : goal.loop-name-preserved
loop-name-preserved c =
    let now : Formed = formed_by (stage c.loop-name.self) c.loop-name.formals in
    leads_on (formal_declared c.args.owner c.args.formal) _ now _ c.args.names.now c.loop-name.name-index _ c.loop-name.invariant c.loop-name-test.true (any_default _ _ _ _ c.loop-name-test.true) c.in_ok-formal_declared.ensures.value

pub returns-clause-value : goal.returns-clause-value
returns-clause-value c =
    let now : Formed = formed_by (stage c.loop-name.self) c.loop-name.formals in
    leads_to (formal_declared c.args.owner c.args.formal) _ now c.args.names.now c.loop-name.name-index c.loop-name.invariant c.loop-name-test.false
