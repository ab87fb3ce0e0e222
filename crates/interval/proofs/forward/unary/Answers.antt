use Rattle.std.proofs.Common.{sym, subst, IsTrue}
use Rattle.interval.specs.declared.answer.Answer.{Answer}
use Rattle.interval.specs.Soundness.{HasUnaryResults}
use Rattle.interval.proofs.SoundUnary.{unary_has, unary_holds}
use Rattle.interval.proofs.forward.unary.Goals as goal

pub returns-clause-sound : goal.returns-clause-sound
returns-clause-sound c =
    subst (λ (r : Answer). HasUnaryResults c.args.op c.args.x r.value) (sym c.unary_answer.ensures)
    (unary_has c.args.op c.args.x)

pub returns-clause-safe : goal.returns-clause-safe
returns-clause-safe c h =
    unary_holds c.args.op c.args.x (subst (λ (r : Answer). IsTrue r.holds) c.unary_answer.ensures h)
