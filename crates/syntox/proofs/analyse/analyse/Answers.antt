use Rattle.std.proofs.Common.{subst, sym}
use Rattle.syntox.proofs.Owed.{owed}
use Rattle.syntox.specs.Analysis.{IsAnalysed}
use Rattle.syntox.specs.Files.{HasFlow, IsOpening, IsUnopened}
use Rattle.syntox.proofs.analyse.analyse.Goals as goal

pub returns-in-Source-clause-due : goal.returns-in-Source-clause-due
returns-in-Source-clause-due g c =
    let file = c.args.file.now in
    let told = g.P.Shelf.file c.args.shelf.now file in
    let before = g.P.Shelf.faults c.args.shelf.now in
    let after = g.P.Shelf.faults c.open_file.new.shelf in
    let has = subst (IsOpening file told before after) c.in-Source.is c.in_ok-text.ensures.opening in
    owed (IsAnalysed file c.args.points told) (IsUnopened file told before after) c.analyse_flow.result
    (c.analyse_flow.ensures told (subst (λ text. HasFlow told text c.in-Source.flow) (sym c.deref.ensures.value) has))
