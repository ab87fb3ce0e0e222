use Rattle.std.proofs.Common.{[], sym}
use Rattle.alias_class.specs.Cells.{routine_of}
use Rattle.alias_class.specs.Classes.{class_at}
use Rattle.activations.proofs.DiscoveredSites.{site_in}
use Rattle.activations.proofs.discovery.Discovery.enter_at.Goals as goal

pub enter-requires-clause-site : goal.enter-requires-clause-site
enter-requires-clause-site c =
    let f = c.args.flow.now in
    let old = c.args.self.now in
    site_in f.points f.edges (routine_of old.classes.outline (class_at old.classes.classes c.args.class)) c.args.point c.in-Some.site [] c.requires.point (sym c.in-Some.ensures)
