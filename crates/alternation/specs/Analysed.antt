-- What callers see of an analysis: the program with its unfolding, and its tables.
use Rattle.control_points.specs.declared.flow.Flow.{Flow}
use Rattle.activations.specs.Drawn.{Drawn}
use Rattle.transfer_fwd.specs.Forward.{Table}
use Rattle.transfer_fwd.specs.Systems.{environments}
use Rattle.alternation.specs.declared.analysis.Analysis.{Analysis}

abbrev pub flow_of : Analysis → Flow
flow_of a = a.flow.now

abbrev pub graph_of : Analysis → Drawn
graph_of a = a.graph.now

abbrev pub plain_of : Analysis → Table
plain_of a = environments a.plain.items
