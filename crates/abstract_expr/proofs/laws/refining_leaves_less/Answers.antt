use Rattle.abstract_expr.proofs.Shrinking.{indexed_less, names_less, refined_less, related_less}
use Rattle.abstract_expr.proofs.laws.refining_leaves_less.Goals as goal

pub returns-clause-exprs : goal.returns-clause-exprs
returns-clause-exprs c = λ s e w env. (refined_less s e w env).below

pub returns-clause-expr_cells : goal.returns-clause-expr_cells
returns-clause-expr_cells c = λ s e w env. (refined_less s e w env).cells

pub returns-clause-accesses : goal.returns-clause-accesses
returns-clause-accesses c = λ s a env. (indexed_less s a env).below

pub returns-clause-access_cells : goal.returns-clause-access_cells
returns-clause-access_cells c = λ s a env. (indexed_less s a env).cells

pub returns-clause-relations : goal.returns-clause-relations
returns-clause-relations c = λ s op left right w env. (related_less s op left right w env).below

pub returns-clause-relation_cells : goal.returns-clause-relation_cells
returns-clause-relation_cells c = λ s op left right w env. (related_less s op left right w env).cells

pub returns-clause-names : goal.returns-clause-names
returns-clause-names c = λ s op left right w env. (names_less s op left right w env).below

pub returns-clause-name_cells : goal.returns-clause-name_cells
returns-clause-name_cells c = λ s op left right w env. (names_less s op left right w env).cells
