use Rattle.std.proofs.Common.{ℕ, ◌<◌, length, sym, subst}
use Rattle.transfer_fwd.proofs.AlongArcs.{class_read}
use Rattle.transfer_fwd.proofs.along.Unfolded.class.Goals as goal

pub returns-clause-value : goal.returns-clause-value
returns-clause-value c = class_read c.args.self.now.graph.now c.args.node c.class_of.result c.class_of.ensures

pub returns-clause-in_range : goal.returns-clause-in_range
returns-clause-in_range c =
    let g = c.args.self.now.graph.now in
    subst (λ (i : ℕ). i < length g.table.classes) (sym (class_read g c.args.node c.class_of.result c.class_of.ensures)) (c.args.self.now.fits.nodes c.args.node c.requires).class
