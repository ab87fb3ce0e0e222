use Rattle.std.proofs.Common.{ap, ◌∙◌, nat_eq}
use Rattle.std.specs.Prelude.{is_some}
use Rattle.indexmap.specs.IndexMap.{get}
use Rattle.pas_check.specs.Sight.{has, sight}
use Rattle.pas_check.proofs.Loops.{left, some_out}
use Rattle.pas_check.proofs.seen.Seen.leave_loop.Goals as goal

pub returns : goal.returns
unfolding sight
returns c = λ v none is.
    left v (sight c.args.self.now) c.args.at (has c.swap_remove.new.self) none is (λ n. ap is_some (c.swap_remove.ensures.updates.0 n) ∙ some_out (nat_eq c.args.at n) (get nat_eq c.args.self.now.looping n))
