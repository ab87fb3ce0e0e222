use Rattle.std.proofs.Common.{ℕ, List, Some, ap, ◌∙◌}
use Rattle.pas_check.specs.Blocks.{waiting_of, waits}
use Rattle.pas_check.proofs.Routines.{waiting_after}
use Rattle.pas_check.proofs.waiting.Waiting.add.Goals as goal

pub returns : goal.returns
returns c =
    waiting_after c.in_ok-key.key.items c.args.self.now.opened.entries c.insert.new.self.entries (Some c.args.opened) c.in_ok-insert.ensures.updates.1 c.in_ok-insert.ensures.updates.3
    ∙ ap (λ (n : List ℕ). waits (waiting_of c.args.self.now) n (Some c.args.opened)) c.in_ok-key.ensures.items
