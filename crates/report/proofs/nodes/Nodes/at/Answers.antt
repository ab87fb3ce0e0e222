use Rattle.std.proofs.Common.{arith, ◌∙◌, length}
use Rattle.report.specs.Nodes.{nodes_at}
use Rattle.report.proofs.Ranges.{mapped_at, mapped_long}
use Rattle.report.proofs.nodes.Nodes.at.Goals as goal

pub index-requires : goal.index-requires
index-requires c =
    let long = mapped_long (nodes_at c.args.self.now.graph.now) (length c.args.self.now.flow.now.points) c.args.self.now.by_point.items c.args.self.now.listed in
    omega (arith, long, c.requires, c.args.self.now.by_point.ok.0)

pub returns : goal.returns
returns c =
    c.deref.ensures.value
    ∙ mapped_at (nodes_at c.args.self.now.graph.now) (length c.args.self.now.flow.now.points) c.args.point c.args.self.now.by_point.items c.index.result.now c.args.self.now.listed c.requires c.index.ensures
