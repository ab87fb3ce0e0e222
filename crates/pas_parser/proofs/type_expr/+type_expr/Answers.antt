use Rattle.std.proofs.Common.{rules, arith}
use Rattle.std.proofs.lemmas.Grind.{common_steps}
use Rattle.pas_parser.specs.TypeExpr.{type_expr}
use Rattle.pas_parser.proofs.Levels.{above}
use Rattle.pas_parser.proofs.type_expr.+type_expr.Goals as goal

pub type_expr-returns-then-is_word-clause-value : goal.type_expr-returns-then-is_word-clause-value
unfolding type_expr
type_expr-returns-then-is_word-clause-value t c =
    rw (above (λ n. type_expr c.args.tokens.now n c.args.at) c.args.levels (omega arith)) (first_of (search rules, grind (arith, common_steps)))

pub type_expr-returns-clause-value : goal.type_expr-returns-clause-value
unfolding type_expr
type_expr-returns-clause-value t c =
    rw (above (λ n. type_expr c.args.tokens.now n c.args.at) c.args.levels (omega arith)) (first_of (search rules, grind (arith, common_steps)))
