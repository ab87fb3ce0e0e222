use Rattle.std.proofs.Common.{◌∙◌, arith}
use Rattle.std.proofs.lemmas.Option.{slice_get_within, get_or_from_slice_get}
use Rattle.interp.proofs.machine.Machine.count_of.Goals as goal

pub index-requires : goal.index-requires
index-requires c =
    let l = c.args.self.now.layout.counts in
    omega (arith, slice_get_within l.items c.args.of_type _ (c.args.self.now.laid_out.counts c.args.of_type c.requires), l.ok.0)

pub returns : goal.returns
returns c = c.index.ensures ∙ get_or_from_slice_get c.args.self.now.layout.counts.items c.args.of_type _ _ (c.args.self.now.laid_out.counts c.args.of_type c.requires)
