use Rattle.std.proofs.Common.{◌<◌, ◌++◌, ℕ, List, not, length, sym, ap, subst, ◌∙◌}
use Rattle.std.specs.List.{All, filter}
use Rattle.report.specs.Visible.{is_declared, own_named}
use Rattle.report.proofs.VisibleVariables.{own_within, parent_inside, parent_list, routine_there, visible_inside, visible_outermost, visible_within}
use Rattle.report.proofs.visible.seen_by.Goals as goal

pub bounds-lists-parent : goal.bounds-lists-parent
bounds-lists-parent c =
    let there = routine_there c.args.program.now c.as_slice.result.now c.args.r c.index-as_slice-r.result c.as_slice.ensures c.requires.routine c.index-as_slice-r.is in
    parent_inside c.args.text.now c.args.program.now c.args.r c.in-Some.parent c.index-as_slice-r.result c.args.lists.now c.requires.known there c.in-Some.is

pub not_declared-requires-clause-around : goal.not_declared-requires-clause-around
not_declared-requires-clause-around c =
    let there = routine_there c.args.program.now c.as_slice.result.now c.args.r c.index-as_slice-r.result c.as_slice.ensures c.requires.routine c.index-as_slice-r.is in
    let list = parent_list c.args.text.now c.args.program.now c.args.r c.in-Some.parent c.index-as_slice-r.result c.args.lists.now c.index-lists-parent.result c.requires.known there c.in-Some.is c.index-lists-parent.is in
    let P : List ℕ → Type 0 = λ vs. All (λ v. v < length c.args.program.now.vars) vs in
    subst P (sym (c.deref.ensures.value ∙ list)) (visible_within c.args.text.now c.args.program.now c.in-Some.parent)

pub not_declared-requires-clause-own : goal.not_declared-requires-clause-own
not_declared-requires-clause-own c =
    own_within c.args.program.now c.args.r c.index-as_slice-r.result (routine_there c.args.program.now c.as_slice.result.now c.args.r c.index-as_slice-r.result c.as_slice.ensures c.requires.routine c.index-as_slice-r.is)

pub add_own-requires : goal.add_own-requires
add_own-requires c =
    own_within c.args.program.now c.args.r c.index-as_slice-r.result (routine_there c.args.program.now c.as_slice.result.now c.args.r c.index-as_slice-r.result c.as_slice.ensures c.requires.routine c.index-as_slice-r.is)

pub add_own-requires-in-None : goal.add_own-requires-in-None
add_own-requires-in-None c =
    own_within c.args.program.now c.args.r c.index-as_slice-r.result (routine_there c.args.program.now c.as_slice.result.now c.args.r c.index-as_slice-r.result c.as_slice.ensures c.requires.routine c.index-as_slice-r.is)

pub returns-in_ok-add_own-in-Some : goal.returns-in_ok-add_own-in-Some
returns-in_ok-add_own-in-Some c =
    let program = c.args.program.now in
    let routine = c.index-as_slice-r.result in
    let there = routine_there program c.as_slice.result.now c.args.r routine c.as_slice.ensures c.requires.routine c.index-as_slice-r.is in
    let list = parent_list c.args.text.now program c.args.r c.in-Some.parent routine c.args.lists.now c.index-lists-parent.result c.requires.known there c.in-Some.is c.index-lists-parent.is in
    c.in_ok-add_own-in-Some.ensures
    ∙ ap (λ (vs : List ℕ). vs ++ own_named program routine) c.in_ok-vars-in-Some.ensures
    ∙ ap (λ (vs : List ℕ). filter (λ v. not (is_declared c.args.text.now program routine v)) vs ++ own_named program routine) (c.deref.ensures.value ∙ list)
    ∙ sym (visible_inside c.args.text.now program c.args.r c.in-Some.parent routine there c.in-Some.is)

pub returns-in_ok-add_own-in-None : goal.returns-in_ok-add_own-in-None
returns-in_ok-add_own-in-None c =
    let program = c.args.program.now in
    let routine = c.index-as_slice-r.result in
    let there = routine_there program c.as_slice.result.now c.args.r routine c.as_slice.ensures c.requires.routine c.index-as_slice-r.is in
    c.in_ok-add_own-in-None.ensures
    ∙ ap (λ (vs : List ℕ). vs ++ own_named program routine) c.new-vars.ensures.items
    ∙ sym (visible_outermost c.args.text.now program c.args.r routine there c.in-None.is)
