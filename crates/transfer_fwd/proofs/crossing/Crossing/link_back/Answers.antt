use Rattle.std.proofs.Common.{◌<◌, arith}
use Rattle.std.specs.Prelude.{slice_index_or}
use Rattle.alias_class.specs.declared.bind.Link.{Link}
use Rattle.abstract_expr.specs.Standing.{cells_in}
use Rattle.std.proofs.lemmas.Option.{slice_get-get_or}
use Rattle.transfer_fwd.proofs.crossing.Crossing.link_back.Goals as goal

pub set-requires-clause-in_range : goal.set-requires-clause-in_range
set-requires-clause-in_range c =
    let x = c.args.self.now in
    let l : Link = slice_index_or x.links.now c.loop-link.link-index (record { caller = 0; callee = 0 }) in
    let less : l.caller < cells_in x.classes.now x.outside = c.shares.ensures.from_cells c.loop-link.link-index l (slice_get-get_or x.links.now c.loop-link.link-index _ c.loop-link-test.true) in
    let same = c.loop-link.invariant.cells in
    let fits = c.requires.left in
    omega arith
