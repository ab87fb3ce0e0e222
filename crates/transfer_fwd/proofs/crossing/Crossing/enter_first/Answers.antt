use Rattle.std.proofs.Common.{Bool, true, ap, sym, ◌∙◌}
use Rattle.std.specs.Prelude.{if◌then◌else◌}
use Rattle.environment.specs.Environments.{started}
use Rattle.environment.specs.Environments.Environment.{Unreachable}
use Rattle.transfer_fwd.specs.Crossed.{crossing_of, inside_of, outside_of}
use Rattle.transfer_fwd.specs.Crossings.{formals_given, linked_in}
use Rattle.transfer_fwd.proofs.crossing.Crossing.enter_first.Goals as goal

pub returns-clause-value : goal.returns-clause-value
returns-clause-value c =
    let x = c.args.self.now in
    let left = c.args.left.now.env in
    let entry = formals_given true (outside_of x) (inside_of x) left x.actuals.now (crossing_of x).formals (linked_in true left x.links.now (started (crossing_of x).cells)) in
    c.give_formals.ensures.value
    ∙ ap (formals_given true (outside_of x) (inside_of x) left x.actuals.now (crossing_of x).formals)
    (c.give_links.ensures.value ∙ ap (linked_in true left x.links.now) (c.start.ensures.value ∙ ap started c.requires.out))
    ∙ ap (λ (b : Bool). if b then entry else Unreachable (crossing_of x).cells) (sym c.requires.reached)
