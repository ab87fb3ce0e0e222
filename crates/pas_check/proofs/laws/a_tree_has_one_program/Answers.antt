use Rattle.pas_check.proofs.OneAnswer.{one_asserts, one_routines, one_types, one_vars}
use Rattle.pas_check.proofs.laws.a_tree_has_one_program.Goals as goal

pub returns : goal.returns
returns c = record { types = one_types; vars = one_vars; routines = one_routines; asserts = one_asserts }
