use Rattle.std.proofs.Common.{ap, arith, ◌∙◌, sym, Some}
use Rattle.std.proofs.lemmas.Option.{get_or_from_slice_get}
use Rattle.interp.specs.declared.frame.Frame.{Frame}
use Rattle.interp.proofs.Addresses.{own_room}
use Rattle.interp.proofs.Valuing.{own_lies}
use Rattle.interp.proofs.machine.Machine.scalar_of.Goals as goal

pub overflow_add-result : goal.overflow_add-result
overflow_add-result c =
    let m = c.args.self.now in
    let o = c.requires.own in
    let same = c.index.ensures ∙ get_or_from_slice_get m.frames.items c.args.depth o.frame c.index.result.now o.activation in
    let r = own_room m.flow.now m.frames.items m.framed c.args.depth c.args.var c.offset_of.result c.index.result.now o.var (o.activation ∙ ap Some (sym same)) o.known (o.own ∙ ap (λ (g : Frame). g.routine) (sym same)) o.no_link (c.offset_of.ensures o.var o.known) in
    omega (arith, r, m.stored.room, m.scalars.ok.0, m.scalars.ok.1, m.scalars.small)

pub returns : goal.returns
returns c =
    let m = c.args.self.now in
    let o = c.requires.own in
    let same = c.index.ensures ∙ get_or_from_slice_get m.frames.items c.args.depth o.frame c.index.result.now o.activation in
    record {
      room = own_room m.flow.now m.frames.items m.framed c.args.depth c.args.var c.offset_of.result c.index.result.now o.var (o.activation ∙ ap Some (sym same)) o.known (o.own ∙ ap (λ (g : Frame). g.routine) (sym same)) o.no_link (c.offset_of.ensures o.var o.known);
      exact = own_lies m.flow.now.program m.frames.items c.args.depth c.args.var c.offset_of.result c.index.result.now o.var (o.activation ∙ ap Some (sym same)) o.known (o.own ∙ ap (λ (g : Frame). g.routine) (sym same)) o.no_link (c.offset_of.ensures o.var o.known);
    }
