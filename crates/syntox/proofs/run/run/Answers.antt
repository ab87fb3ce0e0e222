use Rattle.std.proofs.Common.{inr, subst, sym}
use Rattle.syntox.proofs.Owed.{owed}
use Rattle.syntox.specs.Files.{HasFlow, IsOpening, IsUnopened}
use Rattle.syntox.specs.Running.{IsRunDue, input_of}
use Rattle.syntox.proofs.run.run.Goals as goal

pub returns-in-Source-clause-due : goal.returns-in-Source-clause-due
returns-in-Source-clause-due g c =
    let file = c.args.file.now in
    let told = g.P.Shelf.file c.args.shelf.now file in
    let before = g.P.Shelf.faults c.args.shelf.now in
    let after = g.P.Shelf.faults c.open_file.new.shelf in
    let has = subst (IsOpening file told before after) c.in-Source.is c.in_ok-text.ensures.opening in
    owed (IsRunDue told (input_of (g.D.Source.left c.args.given.now) (g.D.Source.faults c.args.given.now) (g.D.Source.faults c.run_with.new.given)) c.args.steps)
    (IsUnopened file told before after) c.run_with.result
    (c.run_with.ensures told (subst (λ text. HasFlow told text c.in-Source.flow) (sym c.deref.ensures.value) has))

pub returns-in-Source-clause-given : goal.returns-in-Source-clause-given
returns-in-Source-clause-given g c =
    let file = c.args.file.now in
    inr (
      c.in-Source.text.items,
      c.in-Source.flow,
      subst (IsOpening file (g.P.Shelf.file c.args.shelf.now file) (g.P.Shelf.faults c.args.shelf.now) (g.P.Shelf.faults c.open_file.new.shelf)) c.in-Source.is c.in_ok-text.ensures.opening,
    )
