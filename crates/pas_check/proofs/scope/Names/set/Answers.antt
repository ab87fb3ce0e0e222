use Rattle.std.proofs.Common.{ℕ, Vec, Global, List, ap, ◌∙◌}
use Rattle.pas_check.specs.Names.{with_meaning}
use Rattle.pas_check.proofs.Declared.{shown, with_shown}
use Rattle.pas_check.proofs.scope.Names.set.Goals as goal

pub returns-clause-ok : goal.returns-clause-ok
returns-clause-ok c =
    let items = λ (k : Vec ℕ Global). k.items in
    ap (shown items) c.in_ok-insert.ensures.entries
    ∙ with_shown items c.in_ok-key.key c.args.declaration c.self.inside.declared.entries
    ∙ ap (λ (n : List ℕ). with_meaning n c.args.declaration (shown items c.self.inside.declared.entries)) c.in_ok-key.ensures.items
    ∙ ap (with_meaning c.args.name.now c.args.declaration) c.self.view_is
