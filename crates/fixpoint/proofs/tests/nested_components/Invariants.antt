-- The count is on the ledger of the blank that is opened.
use Rattle.fixpoint.proofs.tests.nested_components.Given as goal

abbrev pub ghosts-solve : goal.ghosts-solve
ghosts-solve g a = record { name = a.blank.name; parts = a.blank.parts }
