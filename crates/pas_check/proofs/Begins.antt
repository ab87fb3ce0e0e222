-- The beginning of a program's block.
use Rattle.std.proofs.Common.{◌≡◌, ℕ, false, List, [], None, subst, ◌∙◌}
use Rattle.pas_tree.specs.declared.block.Tree.{Tree}
use Rattle.pas_check.specs.declared.frame.Frame.{Frame}
use Rattle.pas_check.specs.declared.heading.Opened.{Opened}
use Rattle.pas_check.specs.Block.{ends_inside, names_in}
use Rattle.pas_check.specs.Blocks.{BlockMay, program_frame, program_opened}
use Rattle.pas_check.specs.Built.{frame_of}
use Rattle.pas_check.specs.Names.{Names, noted_all}
use Rattle.pas_check.specs.Outcome.{Meets, Outcome}
use Rattle.pas_check.specs.Stage.{Stage}

-- what the block of a routine with the program's number, name and names answers, that of the program may
pub program_meets : {A : Type 0} (shown : A → Stage) (s : Stage) (text : List ℕ) (tree : Tree) (number : ℕ) (formals : List ℕ) (frame : Frame) (names : Names) (r : Outcome A) → number ≡ ends_inside tree.block → formals ≡ [] → frame ≡ frame_of tree.name number None 0 formals None
    → names ≡ noted_all text (names_in tree.block) [] → Meets shown (BlockMay s (record { frame = frame; function = false; names = names; result = None }) tree.block) r → Meets shown (BlockMay s (program_opened text tree) tree.block) r
program_meets shown s text tree number formals frame names r numbered none framed own now =
    let frames : frame ≡ program_frame tree = framed ∙ (λ i. frame_of tree.name (numbered i) None 0 (none i) None) in
    let opened : record { frame = frame; function = false; names = names; result = None } ≡ program_opened text tree = (λ i. record { frame = frames i; function = false; names = own i; result = None }) in
    subst (λ (p : Opened). Meets shown (BlockMay s p tree.block) r) opened now
