use Rattle.std.proofs.Common.{◌≡◌, replicate, ap, sym, ◌∙◌, arith}
use Rattle.std.proofs.lemmas.Grind.{common_steps}
use Rattle.environment.specs.Environments.{undefined, cell_count, started}
use Rattle.environment.proofs.Kept.{count-kept, start_is_kept, start_value}
use Rattle.environment.proofs.env.Env.start.Goals as goal

pub invariant_of-self : goal.invariant_of-self
invariant_of-self c =
    let items : c.resize.new.self.items ≡ replicate c.self.inside.count undefined = grind (arith, common_steps) in
    start_is_kept _ _ _ _ c.self.invariant.fits (omega (arith, c.self.invariant.has_memory, c.clear.ensures.capacity, c.resize.ensures.capacity)) items

pub returns-clause-value : goal.returns-clause-value
returns-clause-value c =
    let items : c.resize.new.self.items ≡ replicate c.self.inside.count undefined = grind (arith, common_steps) in
    let count : c.self.inside.count ≡ cell_count c.args.self.now.env =
    sym (count-kept c.self.inside.reachable c.self.inside.count c.self.inside.room c.self.inside.cells.items c.self.invariant.counted) ∙
    ap (λ e. cell_count e.env) c.self.view_is in
    start_value _ _ items ∙ ap started count
