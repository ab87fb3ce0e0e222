use Rattle.std.proofs.Common.{ap, sym, subst, ◌∙◌}
use Rattle.abstract_expr.specs.Scopes.{scope_of}
use Rattle.control_points.specs.declared.edge.Act.{Act}
use Rattle.transfer_fwd.specs.Actions.{after}
use Rattle.transfer_fwd.specs.Standing.{ActStands}
use Rattle.transfer_fwd.proofs.LoopBounds.{bounds_stand}
use Rattle.transfer_fwd.proofs.action.Actions.act.Goals as goal

pub returns-in-Assign-clause-value : goal.returns-in-Assign-clause-value
returns-in-Assign-clause-value c = c.assign.ensures.value ∙ ap (λ a. after (scope_of c.args.self.now.scope) a c.args.env.now.env) (sym c.in-Assign.is)

pub returns-in-Copy-clause-value : goal.returns-in-Copy-clause-value
returns-in-Copy-clause-value c = c.copy.ensures.value ∙ ap (λ a. after (scope_of c.args.self.now.scope) a c.args.env.now.env) (sym c.in-Copy.is)

pub returns-in-Enter-clause-value : goal.returns-in-Enter-clause-value
returns-in-Enter-clause-value c = c.enter.ensures.value ∙ ap (λ a. after (scope_of c.args.self.now.scope) a c.args.env.now.env) (sym c.in-Enter.is)

pub returns-in-Bypass-clause-value : goal.returns-in-Bypass-clause-value
returns-in-Bypass-clause-value c = c.bypass.ensures.value ∙ ap (λ a. after (scope_of c.args.self.now.scope) a c.args.env.now.env) (sym c.in-Bypass.is)

pub returns-in-Next-clause-value : goal.returns-in-Next-clause-value
returns-in-Next-clause-value c = c.turn.ensures.value ∙ ap (λ a. after (scope_of c.args.self.now.scope) a c.args.env.now.env) (sym c.in-Next.is)

pub enter-requires-clause-first : goal.enter-requires-clause-first
enter-requires-clause-first c =
    let stands = subst (λ (a : Act). ActStands c.args.self.now.scope a) c.in-Enter.is c.requires.stands in
    (bounds_stand c.args.self.now.scope c.in-Enter.control c.in-Enter.bound c.in-Enter.first c.in-Enter.last stands.numbers stands.types stands.seen).0

pub enter-requires-clause-last : goal.enter-requires-clause-last
enter-requires-clause-last c =
    let stands = subst (λ (a : Act). ActStands c.args.self.now.scope a) c.in-Enter.is c.requires.stands in
    (bounds_stand c.args.self.now.scope c.in-Enter.control c.in-Enter.bound c.in-Enter.first c.in-Enter.last stands.numbers stands.types stands.seen).1

pub bypass-requires-clause-first : goal.bypass-requires-clause-first
bypass-requires-clause-first c =
    let stands = subst (λ (a : Act). ActStands c.args.self.now.scope a) c.in-Bypass.is c.requires.stands in
    (bounds_stand c.args.self.now.scope c.in-Bypass.control _ c.in-Bypass.first c.in-Bypass.last stands.numbers stands.types stands.seen).0

pub bypass-requires-clause-last : goal.bypass-requires-clause-last
bypass-requires-clause-last c =
    let stands = subst (λ (a : Act). ActStands c.args.self.now.scope a) c.in-Bypass.is c.requires.stands in
    (bounds_stand c.args.self.now.scope c.in-Bypass.control _ c.in-Bypass.first c.in-Bypass.last stands.numbers stands.types stands.seen).1
