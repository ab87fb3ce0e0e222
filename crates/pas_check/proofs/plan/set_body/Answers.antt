use Rattle.std.proofs.Common.{ℕ, List, Some, cond, ap, ◌∙◌, bytes_eq}
use Rattle.pas_check.specs.Plans.{block_at, block_by}
use Rattle.pas_check.proofs.Plans.{body_at}
use Rattle.pas_check.proofs.plan.set_body.Goals as goal

pub returns : goal.returns
returns c = λ other.
    body_at c.in_ok-key.key.items c.args.bodies.now.entries c.insert.new.self.entries c.args.body c.in_ok-insert.ensures.updates.1 c.in_ok-insert.ensures.updates.3 other
    ∙ ap (λ (n : List ℕ). cond (bytes_eq other n) (Some (block_by c.args.body)) (block_at other c.args.bodies.now.entries)) c.in_ok-key.ensures.items
