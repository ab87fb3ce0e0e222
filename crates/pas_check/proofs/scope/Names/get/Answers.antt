use Rattle.std.proofs.Common.{ℕ, Vec, Global, ap, ◌∙◌}
use Rattle.pas_check.specs.Names.{found_in}
use Rattle.pas_check.proofs.Declared.{found_shown}
use Rattle.pas_check.proofs.scope.Names.get.Goals as goal

pub returns : goal.returns
returns c =
    c.copied.ensures ∙ c.get.ensures.value ∙ found_shown (λ (k : Vec ℕ Global). k.items) c.args.name.now c.self.inside.declared.entries ∙ ap (found_in c.args.name.now) c.self.view_is
