use Rattle.alias_class.proofs.Apart.{entered_apart, main_apart}
use Rattle.alias_class.proofs.laws.cells_are_disjoint.Goals as goal

pub returns-clause-outermost : goal.returns-clause-outermost
returns-clause-outermost c = λ f. main_apart f.program

pub returns-clause-entered : goal.returns-clause-entered
returns-clause-entered c = λ f x k is site. entered_apart f x k is site
