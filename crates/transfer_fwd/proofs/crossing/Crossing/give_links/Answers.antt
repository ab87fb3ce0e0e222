use Rattle.std.proofs.Common.{◌<◌, arith}
use Rattle.std.specs.Prelude.{slice_index_or}
use Rattle.std.proofs.lemmas.Option.{slice_get-get_or}
use Rattle.alias_class.specs.declared.bind.Link.{Link}
use Rattle.abstract_expr.specs.Standing.{cells_in}
use Rattle.transfer_fwd.proofs.crossing.Crossing.give_links.Goals as goal

pub give-requires : goal.give-requires
give-requires c =
    let x = c.args.self.now in
    let l : Link = slice_index_or x.links.now c.loop-link.link-index (record { caller = 0; callee = 0 }) in
    let less : l.callee < cells_in x.classes.now x.inside = c.shares.ensures.to_cells c.loop-link.link-index l (slice_get-get_or x.links.now c.loop-link.link-index _ c.loop-link-test.true) in
    let same = c.loop-link.invariant.cells in
    let fits = c.requires.out in
    omega arith
