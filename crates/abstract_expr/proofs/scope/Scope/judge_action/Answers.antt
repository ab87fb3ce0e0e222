use Rattle.std.proofs.Common.{refl}
use Rattle.abstract_expr.proofs.Shrinking.{less_itself}
use Rattle.abstract_expr.proofs.scope.Scope.judge_action.Goals as goal

pub returns-in_default : goal.returns-in_default
returns-in_default c = record { verdicts = c.action.ensures; below = (less_itself c.args.env.now.env).below; cells = refl; room = refl }
