use Rattle.std.proofs.Common.{ap, ◌∙◌, sym}
use Rattle.std.proofs.lemmas.Option.{none-some}
use Rattle.control_points.specs.Chart.{leaving}
use Rattle.interp.proofs.Lists.{same_some}
use Rattle.interp.proofs.Storage.{frame_stands}
use Rattle.interp.proofs.Targets.{top_point_is}
use Rattle.interp.proofs.machine.Machine.edges_onward.Goals as goal

pub returns-in-Some : goal.returns-in-Some
returns-in-Some c =
    let m = c.args.self.now in
    let top = c.top.result.now in
    let s = frame_stands m.flow.now m.frames.items m.framed _ top c.top.ensures in
    let listed = m.flow.now.edges_listed.leaving top.point s.in_range in
    c.as_slice.ensures ∙ same_some _ _ (c.in-Some.ensures.value ∙ listed) ∙ ap (leaving m.flow.now.edges) (sym (top_point_is m.frames.items top c.top.ensures))

pub returns-in-None : goal.returns-in-None
returns-in-None c =
    let m = c.args.self.now in
    let top = c.top.result.now in
    let s = frame_stands m.flow.now m.frames.items m.framed _ top c.top.ensures in
    absurd (none-some _ (c.in-None.ensures.value ∙ m.flow.now.edges_listed.leaving top.point s.in_range))
