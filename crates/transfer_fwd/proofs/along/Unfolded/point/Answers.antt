use Rattle.std.proofs.Common.{ℕ, ◌<◌, length, sym, subst}
use Rattle.transfer_fwd.proofs.AlongArcs.{point_read}
use Rattle.transfer_fwd.proofs.along.Unfolded.point.Goals as goal

pub returns-clause-in_range : goal.returns-clause-in_range
returns-clause-in_range c =
    let g = c.args.self.now.graph.now in
    subst (λ (p : ℕ). p < length c.args.self.now.flow.now.points) (sym (point_read g c.args.node c.point_of.result c.point_of.ensures)) (c.args.self.now.fits.nodes c.args.node c.requires).point
