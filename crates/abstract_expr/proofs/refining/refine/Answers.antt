use Rattle.std.proofs.Common.{◌≡◌, sym, ap, subst, ◌∙◌, true}
use Rattle.pas_program.specs.Each.{each_expr}
use Rattle.abstract_expr.specs.Expressions.{refined}
use Rattle.abstract_expr.proofs.refining.refine.Goals as goal

pub refine-requires-clause-seen : goal.refine-requires-clause-seen
refine-requires-clause-seen c = subst (λ q. each_expr q c.args.e.now ≡ true) (sym c.over.ensures.seen) c.requires.seen

pub returns-clause-value : goal.returns-clause-value
returns-clause-value c = c.refine.ensures.value ∙ ap (λ s. refined s c.args.e.now c.args.wanted c.args.env.now.env) c.over.ensures.scope
