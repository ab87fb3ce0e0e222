use Rattle.std.proofs.Common.{string_bytes, subst, sym}
use Rattle.syntox.proofs.Owed.{analysis_due, asks_for, asks_for_none, lined, run_due}
use Rattle.syntox.specs.Answers.{IsDue, outside}
use Rattle.syntox.specs.Answers as answers
use Rattle.syntox.specs.Command.{analysis_of, asked, run_of}
use Rattle.syntox.specs.Lines.{usage_line}
use Rattle.syntox.specs.Running.{input_of}
use Rattle.syntox.specs.declared.command.Command.TheVariants as command
use Rattle.syntox.specs.declared.due.Stream.TheVariants.{Complaints}
use Rattle.syntox.specs.declared.status.Status.TheVariants.{Usage}
use Rattle.syntox.proofs.top.due_for.Goals as goal

pub analyse-requires : goal.analyse-requires
analyse-requires g c =
    c.requires.may_ask (analysis_of c.in-Some-Analyse.file.now c.in-Some-Analyse.points)
    (asks_for string_bytes c.args.words.now.items c.deref.result.now c.in-Some-Analyse.field-0 (command.Analyse c.in-Some-Analyse.file c.in-Some-Analyse.points) c.deref.ensures.value c.in-Some-Analyse.field-0-is c.in-Some-Analyse.ensures)

pub run-requires : goal.run-requires
run-requires g c =
    c.requires.may_ask (run_of c.in-Some-Run.file.now c.in-Some-Run.steps)
    (asks_for string_bytes c.args.words.now.items c.deref.result.now c.in-Some-Run.field-0 (command.Run c.in-Some-Run.file c.in-Some-Run.steps) c.deref.ensures.value c.in-Some-Run.field-0-is c.in-Some-Run.ensures)

pub returns-in-Some-Analyse-clause-due : goal.returns-in-Some-Analyse-clause-due
returns-in-Some-Analyse-clause-due g c =
    analysis_due (outside (g.P.Shelf.file c.args.shelf.now) (g.P.Shelf.faults c.args.shelf.now) (g.P.Shelf.faults c.analyse.new.shelf)
    (input_of (g.D.Source.left c.args.given.now) (g.D.Source.faults c.args.given.now) (g.D.Source.faults c.args.given.now)))
    (asked c.args.words.now) c.analyse.result c.in-Some-Analyse.file.now c.in-Some-Analyse.points
    (asks_for string_bytes c.args.words.now.items c.deref.result.now c.in-Some-Analyse.field-0 (command.Analyse c.in-Some-Analyse.file c.in-Some-Analyse.points) c.deref.ensures.value c.in-Some-Analyse.field-0-is c.in-Some-Analyse.ensures)
    c.analyse.ensures.due

pub returns-in-Some-Run-clause-due : goal.returns-in-Some-Run-clause-due
returns-in-Some-Run-clause-due g c =
    run_due (outside (g.P.Shelf.file c.args.shelf.now) (g.P.Shelf.faults c.args.shelf.now) (g.P.Shelf.faults c.run.new.shelf)
    (input_of (g.D.Source.left c.args.given.now) (g.D.Source.faults c.args.given.now) (g.D.Source.faults c.run.new.given)))
    (asked c.args.words.now) c.run.result c.in-Some-Run.file.now c.in-Some-Run.steps
    (asks_for string_bytes c.args.words.now.items c.deref.result.now c.in-Some-Run.field-0 (command.Run c.in-Some-Run.file c.in-Some-Run.steps) c.deref.ensures.value c.in-Some-Run.field-0-is c.in-Some-Run.ensures)
    c.run.ensures.due

pub returns-in-None-clause-due : goal.returns-in-None-clause-due
returns-in-None-clause-due g c =
    let o = (outside (g.P.Shelf.file c.args.shelf.now) (g.P.Shelf.faults c.args.shelf.now) (g.P.Shelf.faults c.args.shelf.now)
    (input_of (g.D.Source.left c.args.given.now) (g.D.Source.faults c.args.given.now) (g.D.Source.faults c.args.given.now))) in
    let none = asks_for_none string_bytes c.args.words.now.items c.deref.result.now c.deref.ensures.value c.in-None.ensures in
    lined (IsDue o (asked c.args.words.now)) usage_line Usage c.usage.result
    (subst (λ a. IsDue o a Complaints usage_line Usage) (sym none) answers.usage)
    c.usage.ensures.stream c.usage.ensures.text c.usage.ensures.status
