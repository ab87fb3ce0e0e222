-- The blocks of a program.
use Rattle.std.specs.Prelude.{◌≡◌, Contains}
use Rattle.pas_tree.specs.declared.block.Block.{Block}
use Rattle.pas_tree.specs.declared.block.Routine.{Routine}
use Rattle.pas_tree.specs.declared.block.RoutineBody.TheVariants as body_of
use Rattle.pas_tree.specs.declared.block.RoutineBody.TheViews.{out-Block, out-Routine}

-- A block is in itself. What is in the block of a routine is in the block that declares the routine.
pub data IsBlockIn (b : Block) : Block → Type 0 where
  itself : IsBlockIn b b
  inside : {whole inner : Block} {r : Routine} → Contains (out-Block whole).routines r → (out-Routine r).body ≡ body_of.Block inner → IsBlockIn b inner → IsBlockIn b whole
