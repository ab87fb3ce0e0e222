use Rattle.std.proofs.Common.{arith}
use Rattle.report.proofs.VisibleVariables.{lists_are}
use Rattle.report.proofs.visible.visible.Goals as goal

pub returns : goal.returns
returns c =
    lists_are c.args.text.now c.args.program.now c.loop-r.lists.items c.loop-r.r c.loop-r.invariant.size (omega (arith, c.loop-r-test.false)) c.loop-r.invariant.each
