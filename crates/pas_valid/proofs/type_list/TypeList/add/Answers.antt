use Rattle.pas_valid.proofs.Types.{pushed_fits}
use Rattle.pas_valid.proofs.type_list.TypeList.add.Goals as goal

pub invariant_of-self : goal.invariant_of-self
invariant_of-self c = record { fits = pushed_fits c.push.result c.args.self.now.list c.push.new.self c.args.of_type c.args.self.now.fits c.requires c.push.ensures.ok c.push.ensures.err }
