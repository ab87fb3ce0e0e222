use Rattle.std.proofs.Common.{arith}
use Rattle.interp.proofs.Laying.{offset_is, offset_fits, laid_more, laid_all}
use Rattle.interp.proofs.Storage.{extent_few}
use Rattle.interp.proofs.layout.Layout.new.Goals as goal

pub overflow_add-offset : goal.overflow_add-offset
overflow_add-offset c =
    let p = c.args.program.now in
    let d = c.var_def-var.result in
    let v = c.loop-number.invariant in
    let off = c.index-offset.result.now in
    let o = offset_is p c.loop-number.offsets.items c.loop-number.extents.items c.loop-number.number d off v c.var_def-var.ensures.routine_in_range c.index-offset.ensures in
    let f = offset_fits p c.loop-number.offsets.items c.loop-number.extents.items c.loop-number.number d off c.need_of-need.result v c.var_def-var.ensures.value c.var_def-var.ensures.routine_in_range o c.need_of-need.ensures.scalars c.need_of-need.ensures.links in
    omega (arith, f.0, (extent_few p d.routine).scalars)

pub overflow_add-offset-in-loop-number : goal.overflow_add-offset-in-loop-number
overflow_add-offset-in-loop-number c =
    let p = c.args.program.now in
    let d = c.var_def-var.result in
    let v = c.loop-number.invariant in
    let off = c.index-offset.result.now in
    let o = offset_is p c.loop-number.offsets.items c.loop-number.extents.items c.loop-number.number d off v c.var_def-var.ensures.routine_in_range c.index-offset.ensures in
    let f = offset_fits p c.loop-number.offsets.items c.loop-number.extents.items c.loop-number.number d off c.need_of-need.result v c.var_def-var.ensures.value c.var_def-var.ensures.routine_in_range o c.need_of-need.ensures.scalars c.need_of-need.ensures.links in
    omega (arith, f.1, (extent_few p d.routine).links)

pub loop-number-preserved : goal.loop-number-preserved
loop-number-preserved c =
    let p = c.args.program.now in
    let d = c.var_def-var.result in
    let v = c.loop-number.invariant in
    let off = c.index-offset.result.now in
    let o = offset_is p c.loop-number.offsets.items c.loop-number.extents.items c.loop-number.number d off v c.var_def-var.ensures.routine_in_range c.index-offset.ensures in
    laid_more p c.loop-number.offsets.items c.push.new.self.items c.loop-number.extents.items c.loop-number.number d off c.need_of-need.result v c.var_def-var.ensures.value c.var_def-var.ensures.routine_in_range o c.in_ok-push.ensures.items c.need_of-need.ensures.scalars c.need_of-need.ensures.links

pub returns : goal.returns
returns c =
    let p = c.args.program.now in
    let a = laid_all p c.in_ok-counts.counts.items c.loop-number.offsets.items c.loop-number.extents.items c.loop-number.number c.in_ok-counts.ensures c.loop-number.invariant (omega (arith, c.loop-number-test.false, c.len-number-end.ensures)) in
    record { counts = c.in_ok-counts.ensures.each; offsets = a.0; extents = a.1 }
