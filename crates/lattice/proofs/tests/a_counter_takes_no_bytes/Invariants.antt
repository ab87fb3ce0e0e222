-- The test counts on the ledger of the blank that it opens.
use Rattle.lattice.proofs.tests.a_counter_takes_no_bytes.Given as goal

abbrev pub ghosts-two_steps : goal.ghosts-two_steps
ghosts-two_steps g a = record { name = a.blank.name; parts = a.blank.parts }
