use Rattle.pas_program.specs.declared.expr.Actual.TheViews.{out-Access}
use Rattle.report.proofs.ReadVariables.{variable_within}
use Rattle.report.proofs.conditions.condition_at.Goals as goal

pub returns-clause-each : goal.returns-clause-each
returns-clause-each c = record {
  point = c.requires.point;
  var = variable_within c.args.nodes.now.flow.now c.args.point (out-Access c.in_ok-access.access.now).var c.requires.point c.in_ok-access.ensures.seen;
}
