use Rattle.std.proofs.Common.{◌∙◌, arith}
use Rattle.std.proofs.lemmas.Option.{slice_get_within, get_or_from_slice_get}
use Rattle.interp.proofs.machine.Machine.extent_of.Goals as goal

pub index-requires : goal.index-requires
index-requires c =
    let l = c.args.self.now.layout.extents in
    omega (arith, slice_get_within l.items c.args.routine _ (c.args.self.now.laid_out.extents c.args.routine c.requires), l.ok.0)

pub returns : goal.returns
returns c = c.index.ensures ∙ get_or_from_slice_get c.args.self.now.layout.extents.items c.args.routine _ _ (c.args.self.now.laid_out.extents c.args.routine c.requires)
