-- The chart of a flow, over which its meaning is told.
use Rattle.std.specs.Prelude.{◌-◌, length}
use Rattle.pas_program.specs.Checked.{tables}
use Rattle.control_points.specs.declared.flow.Flow.{Flow}
use Rattle.control_points.specs.Chart.{Chart}

abbrev pub chart_of : Flow → Chart
chart_of f = record {
  tables = tables f.program;
  main = length f.program.routines - 1;
  asserts = f.program.asserts;
  points = f.points;
  edges = f.edges;
  asserts_at = f.asserts;
}
