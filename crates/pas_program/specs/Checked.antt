-- What is known of the parts of a checked program.
use Rattle.pas_program.specs.declared.program.Program.{Program}
use Rattle.pas_program.specs.Each.{Rule}
use Rattle.pas_program.specs.Scopes.{scope_rule}
use Rattle.pas_program.specs.Tables.{Tables, tables_of}
use Rattle.pas_program.specs.Valid.{number_rule, counts_of}
use Rattle.std.specs.Prelude.{ℕ}

-- each number is one of the list of the program that it counts into
abbrev pub numbers_in : Program → Rule
numbers_in p = number_rule (counts_of p.types p.vars p.routines p.asserts)

-- what the numbers stand for
abbrev pub tables : Program → Tables
tables p = tables_of p.types p.vars p.routines

-- what stands in the routine r sees what it uses
abbrev pub scope_in : Program → ℕ → Rule
scope_in p r = scope_rule (tables p) r
