-- The program that a tree stands for.
use Rattle.std.specs.Prelude.{◌≡◌, ℕ, List, Ok}
use Rattle.pas_program.specs.declared.program.Program.{Program}
use Rattle.pas_tree.specs.declared.block.Tree.{Tree}
use Rattle.pas_check.specs.Blocks.{ProgramMay}
use Rattle.pas_check.specs.Stage.{Stage}

-- The tree breaks no rule, and the program is what is built of it: each type, variable, routine and assertion of the text, with what
-- its names denote, and each statement and expression in its place.
pub record IsProgramOf (text : List ℕ) (tree : Tree) (program : Program) : Type 0 where
  pub after : Stage
  pub passes : ProgramMay text tree (Ok after)
  pub types : program.types ≡ after.seen.types
  pub vars : program.vars ≡ after.built.vars
  pub routines : program.routines ≡ after.built.routines
  pub asserts : program.asserts ≡ after.built.asserts
