use Rattle.std.proofs.Common.{length, ap, arith}
use Rattle.interp.proofs.Asking.{top_is}
use Rattle.interp.proofs.machine.Machine.is_halted.Goals as goal

pub overflow_sub-result : goal.overflow_sub-result
overflow_sub-result c =
    let m = c.args.self.now in
    let t = top_is m.flow.now m.frames.items m.framed in
    let l = t.stands.in_range in
    let e = ap length c.points.ensures in
    omega (arith, l, e)
