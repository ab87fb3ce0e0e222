use Rattle.interp.proofs.Laying.{counts_more}
use Rattle.interp.proofs.layout.counts_of.Goals as goal

pub loop-number-preserved : goal.loop-number-preserved
loop-number-preserved c = counts_more c.args.program.now.types c.loop-number.counts.items c.push.new.self.items c.loop-number.number c.next_count-count.result c.loop-number.invariant c.in_ok-push.ensures.items c.next_count-count.ensures
