use Rattle.report.proofs.ReadVariables.{variable_within}
use Rattle.report.proofs.points.put_variable.Goals as goal

pub put_name-requires : goal.put_name-requires
put_name-requires c = variable_within c.args.source.now.flow.now c.args.point c.args.var c.requires.point c.requires.seen

pub put_value-requires : goal.put_value-requires
put_value-requires c = variable_within c.args.source.now.flow.now c.args.point c.args.var c.requires.point c.requires.seen
