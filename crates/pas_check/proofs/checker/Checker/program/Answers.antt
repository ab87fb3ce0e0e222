use Rattle.std.proofs.Common.{ap, ◌∙◌}
use Rattle.pas_check.specs.Block.{names_in}
use Rattle.pas_check.specs.Names.{noted_all}
use Rattle.pas_check.specs.Sight.{sight}
use Rattle.pas_check.specs.Stage.{stage}
use Rattle.pas_check.proofs.Begins.{program_meets}
use Rattle.pas_check.proofs.checker.Checker.program.Goals as goal

pub returns : goal.returns
unfolding sight
returns c =
    let s = stage c.args.self.now in
    let tree = c.args.tree.now in record {
      value = λ numbered.
          program_meets _ s s.seen.text tree c.args.self.now.made.built.frame.routine c.new-no_formals.result c.new.result c.note_block.new.declared c.block.result
          numbered c.new-no_formals.ensures c.new.ensures (c.in_ok-note_block.ensures.names ∙ ap (noted_all s.seen.text (names_in tree.block)) c.new-names.ensures) c.block.ensures.value;
    }
