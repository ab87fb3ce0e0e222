use Rattle.std.proofs.Common.{◌≡◌, ℕ, List, [], ◌∷◌, ◌++◌, drop, length, reverse, map, append-nil, arith, le_refl, rules, refl, sym, ap, subst, ◌∙◌}
use Rattle.std.proofs.lemmas.List.{drop_all}
use Rattle.std.specs.Option.{unwrap_or}
use Rattle.pas_tree.specs.declared.block.Routine.{Routine}
use Rattle.pas_check.specs.Blocks.{block_of, plan_of}
use Rattle.pas_check.specs.Plans.{ArePlanned, numbers_from, own_number}
use Rattle.pas_check.proofs.Plans.{all_planned, before_last, ended_after, ended_last, from_last, map_reverse, numbers_last, popped}
use Rattle.pas_check.proofs.seen.Seen.plans.Goals as goal

pub loop-routine-init : goal.loop-routine-init
loop-routine-init c =
    let all : List Routine = c.args.routines.now in
    let none : drop (length all) all ≡ [] = drop_all (length all) all (le_refl (length all)) in
    record {
      whole = ap (λ rest. all ++ rest) none ∙ append-nil all;
      done = subst (ArePlanned c.args.self.now.text.now _ _ (ended_after c.args.first all)) (sym none) (record { given = c.new-bodies.ensures; headings = ap (λ list. reverse (map plan_of list)) c.new.ensures.items; lacking = refl });
      left = search rules;
    }

pub loop-routine-preserved : goal.loop-routine-preserved
loop-routine-preserved c =
    let text : List ℕ = c.args.self.now.text.now in
    let all : List Routine = c.args.routines.now in
    let first : ℕ = c.args.first in
    let rest : List Routine = c.loop-routine.rest.now in
    let before : List Routine = c.in-Some.before.now in
    let x : Routine = c.in-Some.routine.now in
    let last : rest ≡ before ++ x ∷ [] = c.in-Some.ensures.cases.0 in
    let number : ℕ = own_number (ended_after first before) (block_of x) in
    let left : c.loop-routine.numbers.items ≡ numbers_from first before ++ number ∷ [] = c.loop-routine.invariant.left ∙ ap (numbers_from first) last ∙ numbers_last first before x in
    let last_number = popped (numbers_from first before) c.pop.new.self.items number c.pop.result c.loop-routine.numbers.items left c.pop.ensures.items (λ h. c.pop.ensures.variant.1 (omega arith)) in
    let kept = subst (λ n. ArePlanned text c.loop-routine.bodies c.loop-routine.plans n (drop (length rest) all)) (ap (ended_after first) last ∙ ended_last first before x) c.loop-routine.invariant.done in
    let now = c.in_ok-plan.ensures.value (ended_after first before) (drop (length rest) all) (c.unwrap_or-number.ensures ∙ ap (λ o. unwrap_or o first) last_number.1) kept in
    record {
      whole = before_last all rest before x c.loop-routine.invariant.whole last;
      done = subst (ArePlanned text _ _ (ended_after first before)) (sym (from_last all rest before x c.loop-routine.invariant.whole last)) now;
      left = last_number.0;
    }

pub returns-clause-plans : goal.returns-clause-plans
returns-clause-plans c =
    map_reverse plan_of c.loop-routine.plans.list.items
    ∙ (all_planned c.args.self.now.text.now c.loop-routine.bodies c.loop-routine.plans c.args.first c.args.routines.now c.loop-routine.rest.now c.loop-routine.numbers.items c.loop-routine.invariant c.in_default.ensures.cases).headings

pub returns-clause-lacking : goal.returns-clause-lacking
returns-clause-lacking c =
    (all_planned c.args.self.now.text.now c.loop-routine.bodies c.loop-routine.plans c.args.first c.args.routines.now c.loop-routine.rest.now c.loop-routine.numbers.items c.loop-routine.invariant c.in_default.ensures.cases).lacking
