use Rattle.std.proofs.Common.{◌∙◌}
use Rattle.pas_check.specs.Formals.{formed_by}
use Rattle.pas_check.specs.Stage.{stage}
use Rattle.pas_check.proofs.Formals.{formal_is}
use Rattle.pas_check.proofs.checker.Checker.formal_declared.Goals as goal

pub returns-clause-value : goal.returns-clause-value
returns-clause-value c =
    formal_is c.args.owner c.args.formal (formed_by (stage c.args.self.now) c.args.formals.now) c.args.name c.in_ok-number.number c.kind_of-kind.result _ _ _ _ c.in_ok-number.ensures.number c.kind_of-kind.ensures
    c.in_ok-define.ensures.defined (c.define.ensures.kept ∙ c.in_ok-number.ensures.built) c.in_ok-add.ensures.list c.in_ok-add.ensures.numbers
