use Rattle.std.proofs.Common.{◌≡◌, ◌<◌, ℕ, Bool, true, [], ap, sym, subst, ◌∙◌}
use Rattle.std.specs.Prelude.{replicate, if◌then◌else◌}
use Rattle.std.proofs.lemmas.List.{length-replicate}
use Rattle.environment.specs.Environments.{Environment, cell_count, is_reachable, started, undefined}
use Rattle.environment.specs.Environments.Environment.{Unreachable}
use Rattle.transfer_fwd.specs.Crossed.{crossing_of, inside_of, outside_of}
use Rattle.transfer_fwd.specs.Crossings.{entry_from, formals_given, linked_in}
use Rattle.transfer_fwd.proofs.Entered.{formals_keep, holds_something, links_keep, links_reach, reached_alike, unreached_is}
use Rattle.transfer_fwd.proofs.crossing.Crossing.is_entered.Goals as goal

pub returns-then-reachable-clause-entry : goal.returns-then-reachable-clause-entry
returns-then-reachable-clause-entry c =
    let x = c.args.self.now in
    let left = c.args.left.now.env in
    let formals = (crossing_of x).formals in
    let cells = (crossing_of x).cells in
    let give : Environment → Environment = formals_given true (outside_of x) (inside_of x) left x.actuals.now formals in
    let reached : is_reachable left ≡ true = sym c.reachable.ensures.value ∙ c.if-reachable.true in
    let linked = links_reach left x.links.now
    (λ i l e. holds_something left l.caller reached c.reachable.ensures.something (subst (λ (n : ℕ). l.caller < n) (sym c.requires.left) (c.shares.ensures.from_cells i l e)))
    (replicate cells undefined) in
    c.is_passed.ensures
    ∙ reached_alike (outside_of x) (inside_of x) left x.actuals.now formals [] linked.cells
    ∙ ap (λ (env : Environment). is_reachable (give env)) (sym linked.is)
    ∙ ap (λ (b : Bool). is_reachable (if b then give (linked_in true left x.links.now (started cells)) else Unreachable cells)) (sym reached)

pub returns-then-reachable-clause-nowhere : goal.returns-then-reachable-clause-nowhere
returns-then-reachable-clause-nowhere c =
    let x = c.args.self.now in
    let left = c.args.left.now.env in
    let formals = (crossing_of x).formals in
    let cells = (crossing_of x).cells in
    let entry : Environment = formals_given true (outside_of x) (inside_of x) left x.actuals.now formals (linked_in true left x.links.now (started cells)) in
    let reached : is_reachable left ≡ true = sym c.reachable.ensures.value ∙ c.if-reachable.true in
    let is : entry_from (crossing_of x) left ≡ entry = ap (λ (b : Bool). if b then entry else Unreachable cells) reached in
    let count : cell_count entry ≡ cells =
    formals_keep true (outside_of x) (inside_of x) left x.actuals.now formals (linked_in true left x.links.now (started cells))
    ∙ links_keep true left x.links.now (started cells) ∙ length-replicate cells undefined in
    λ h. unreached_is (entry_from (crossing_of x) left) cells (sym (returns-then-reachable-clause-entry c) ∙ h) (ap cell_count is ∙ count)
