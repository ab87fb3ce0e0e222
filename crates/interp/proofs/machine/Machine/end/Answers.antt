use Rattle.std.proofs.Common.{◌+◌, ap, arith, ◌∙◌}
use Rattle.interp.specs.declared.frame.Extent.{Extent}
use Rattle.interp.proofs.Storage.{frame_stands, frame_within, end_is}
use Rattle.interp.proofs.machine.Machine.end.Goals as goal

pub extent_of-extent-requires : goal.extent_of-extent-requires
extent_of-extent-requires c =
    let m = c.args.self.now in
    (frame_stands m.flow.now m.frames.items m.framed _ c.top-top.result.now c.top-top.ensures).routine_in_range

pub overflow_add-result : goal.overflow_add-result
overflow_add-result c =
    let m = c.args.self.now in
    let w = frame_within m.flow.now m.frames.items m.framed _ c.top-top.result.now c.top-top.ensures in
    let e = ap (λ (x : Extent). x.scalars) c.extent_of-extent.ensures in
    omega (arith, w.scalars, e, m.stored.room, m.scalars.ok.0, m.scalars.ok.1, m.scalars.small)

pub overflow_add-result-2 : goal.overflow_add-result-2
overflow_add-result-2 c =
    let m = c.args.self.now in
    let w = frame_within m.flow.now m.frames.items m.framed _ c.top-top.result.now c.top-top.ensures in
    let e = ap (λ (x : Extent). x.links) c.extent_of-extent.ensures in
    omega (arith, w.links, e, m.linked.room, m.links.ok.0, m.links.ok.1, m.links.small)

pub returns : goal.returns
returns c =
    let m = c.args.self.now in
    let top = c.top-top.result.now in
    ap (λ (x : Extent). let e : Extent = record { scalars = top.base.scalars + x.scalars; links = top.base.links + x.links } in e) c.extent_of-extent.ensures
    ∙ end_is m.flow.now m.frames.items m.framed top c.top-top.ensures
