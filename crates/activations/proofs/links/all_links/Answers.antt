use Rattle.std.proofs.Common.{ℕ, ◌≤◌, List, length, get_or, sym, ap, subst, ◌∙◌, arith}
use Rattle.std.proofs.lemmas.List.{length-map}
use Rattle.alias_class.specs.declared.outline.Outline.{Outline}
use Rattle.alias_class.specs.Calls.{IsSite, links_at}
use Rattle.alias_class.specs.Cells.{routine_of}
use Rattle.alias_class.specs.Classes.{class_at}
use Rattle.alias_class.specs.Outlines.{outline_of}
use Rattle.activations.specs.declared.discovery.Call.{Call}
use Rattle.activations.specs.Arcs.{call_of, sites}
use Rattle.activations.specs.Unfolding.{unfolding_of}
use Rattle.activations.proofs.LinkedSites.{all_listed, more_links, read_call}
use Rattle.activations.proofs.links.all_links.Goals as goal

pub links-requires-clause-class : goal.links-requires-clause-class
links-requires-clause-class c =
    let f = c.args.flow.now in
    let classes = c.args.found.now.classes.classes in
    let read = read_call f classes c.deref-call-items.result.now c.loop-call.call-index (record { caller = 0; site = 0; callee = 0 }) (c.deref-call-items.ensures.value ∙ c.requires.calls) c.loop-call-test.true in
    omega (arith, read.caller, read.known.class)

pub links-requires-clause-site : goal.links-requires-clause-site
links-requires-clause-site c =
    let f = c.args.flow.now in
    let classes = c.args.found.now.classes.classes in
    let read = read_call f classes c.deref-call-items.result.now c.loop-call.call-index (record { caller = 0; site = 0; callee = 0 }) (c.deref-call-items.ensures.value ∙ c.requires.calls) c.loop-call-test.true in
    let call = get_or c.deref-call-items.result.now c.loop-call.call-index (record { caller = 0; site = 0; callee = 0 }) in
    subst (λ (o : Outline). IsSite f.points f.edges (routine_of o (class_at classes call.caller)) call.site) (sym c.requires.outline)
    (subst (λ (i : ℕ). IsSite f.points f.edges (routine_of (outline_of f) (class_at classes i)) call.site) (sym read.caller)
    (subst (λ (k : ℕ). IsSite f.points f.edges (routine_of (outline_of f) (class_at classes read.site.caller)) k) (sym read.edge) read.known.site))

pub loop-call-preserved : goal.loop-call-preserved
loop-call-preserved c =
    let f = c.args.flow.now in
    let classes = c.args.found.now.classes.classes in
    let read = read_call f classes c.deref-call-items.result.now c.loop-call.call-index (record { caller = 0; site = 0; callee = 0 }) (c.deref-call-items.ensures.value ∙ c.requires.calls) c.loop-call-test.true in
    let call = get_or c.deref-call-items.result.now c.loop-call.call-index (record { caller = 0; site = 0; callee = 0 }) in
    more_links f classes c.loop-call.call-index call c.loop-call.lists.items c.push.new.self.items c.in_ok-links.field-0 read c.loop-call.invariant c.in_ok-push.ensures.items
    (c.in_ok-links.ensures ∙ ap (λ (o : Outline). links_at o f.edges (class_at classes call.caller) call.site) c.requires.outline)

pub returns : goal.returns
returns c =
    let u = unfolding_of c.args.flow.now c.args.found.now.classes.classes in
    let long = length-map (sites u) (call_of u) in
    let all : length (sites u) ≤ c.loop-call.call-index = omega (arith, c.loop-call-test.false, ap (λ (cs : List Call). length cs) (c.deref-call-items.ensures.value ∙ c.requires.calls), long) in
    all_listed c.args.flow.now c.args.found.now.classes.classes c.loop-call.call-index _ c.loop-call.invariant all
