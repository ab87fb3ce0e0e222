use Rattle.std.proofs.Common.{length, sym, subst}
use Rattle.pas_lexer.specs.Spans.{SpansRise}
use Rattle.pas_program.specs.declared.program.Program.{Program}
use Rattle.pas_program.specs.Rising.{PlacesRise}
use Rattle.pas_check.specs.Accepted.{IsProgramOf}
use Rattle.syntox.proofs.Faults.{tree_of}
use Rattle.syntox.proofs.source.flow_of.Goals as goal

pub returns-in-Err-clause-fault : goal.returns-in-Err-clause-fault
returns-in-Err-clause-fault c = c.lexical.ensures.fault c.args.text.now c.in-Err.ensures.refused

pub returns-in-Err-clause-place : goal.returns-in-Err-clause-place
returns-in-Err-clause-place c = c.lexical.ensures.place c.args.text.now c.in-Err.ensures.refused

pub returns-in-Err-check-clause-fault : goal.returns-in-Err-check-clause-fault
returns-in-Err-check-clause-fault c =
    c.checked.ensures.fault c.args.text.now c.in-Ok-parse.tree
    (tree_of c.args.text.now c.deref.result.now c.in-Ok.tokens.items c.in-Ok-parse.tree c.deref.ensures.value c.in-Ok.ensures.tokens c.in-Ok-parse.ensures.value c.in-Ok-parse.ensures.grammar)
    c.in-Err-check.ensures.fault c.in-Err-check.ensures.sound

pub returns-in-Err-check-clause-place : goal.returns-in-Err-check-clause-place
returns-in-Err-check-clause-place c = c.checked.ensures.place c.args.text.now c.in-Err-check.ensures.fault

pub returns-in-Ok-build-clause-flow : goal.returns-in-Ok-build-clause-flow
returns-in-Ok-build-clause-flow c =
    record {
      tree = c.in-Ok-parse.tree;
      is_tree = tree_of c.args.text.now c.deref.result.now c.in-Ok.tokens.items c.in-Ok-parse.tree c.deref.ensures.value c.in-Ok.ensures.tokens c.in-Ok-parse.ensures.value c.in-Ok-parse.ensures.grammar;
      is_program = subst (IsProgramOf c.args.text.now c.in-Ok-parse.tree) (sym c.in-Ok-build.ensures) c.in-Ok-check.ensures.program;
      is_drawn = c.flows_are_those_of_paths.ensures c.in-Ok-build.flow;
    }

pub returns-in-Ok-build-clause-rising : goal.returns-in-Ok-build-clause-rising
returns-in-Ok-build-clause-rising c =
    subst (λ (p : Program). PlacesRise p.routines p.asserts) (sym c.in-Ok-build.ensures)
    (c.in-Ok-check.ensures.rising (c.in-Ok-parse.ensures.order (length c.args.text.now)
    (subst (SpansRise (length c.args.text.now)) (sym c.deref.ensures.value) c.in-Ok.ensures.spans)))
