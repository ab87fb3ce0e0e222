use Rattle.std.proofs.Common.{◌∙◌, arith}
use Rattle.std.proofs.lemmas.Option.{slice_get_within, get_or_from_slice_get}
use Rattle.interp.proofs.Lists.{some_at}
use Rattle.interp.proofs.machine.Machine.offset_of.Goals as goal

pub index-requires : goal.index-requires
index-requires c =
    let l = c.args.self.now.layout.offsets in
    let w = some_at c.args.self.now.flow.now.program.vars c.args.var c.requires in
    omega (arith, slice_get_within l.items c.args.var _ (c.args.self.now.laid_out.offsets c.args.var w.0 w.1), l.ok.0)

pub returns : goal.returns
returns c = λ d e. c.index.ensures ∙ get_or_from_slice_get c.args.self.now.layout.offsets.items c.args.var _ _ (c.args.self.now.laid_out.offsets c.args.var d e)
