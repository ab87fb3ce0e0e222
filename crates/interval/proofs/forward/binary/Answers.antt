use Rattle.std.proofs.Common.{sym, subst, IsTrue}
use Rattle.interval.specs.declared.answer.Answer.{Answer}
use Rattle.interval.specs.Soundness.{HasBinaryResults}
use Rattle.interval.proofs.Sound.{binary_has, binary_holds}
use Rattle.interval.proofs.forward.binary.Goals as goal

pub returns-clause-sound : goal.returns-clause-sound
returns-clause-sound c =
    subst (λ (r : Answer). HasBinaryResults c.args.op c.args.x c.args.y r.value) (sym c.binary_answer.ensures)
    (binary_has c.args.op c.args.x c.args.y)

pub returns-clause-safe : goal.returns-clause-safe
returns-clause-safe c h =
    binary_holds c.args.op c.args.x c.args.y (subst (λ (r : Answer). IsTrue r.holds) c.binary_answer.ensures h)
