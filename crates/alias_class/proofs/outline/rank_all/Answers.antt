use Rattle.std.proofs.Common.{◌≡◌, ℕ, ◌+◌, List, length, map, ap, sym, subst, ◌∙◌}
use Rattle.alias_class.specs.declared.outline.RoutineOutline.{RoutineOutline}
use Rattle.alias_class.specs.Outlines.{own_variables, routine_outline, var_formals}
use Rattle.alias_class.specs.Ranks.{AreRanks, IsListed}
use Rattle.alias_class.proofs.Lists.{mapped_at}
use Rattle.alias_class.proofs.Ranked.{Puts, formals_listed, own_listed, ranks_more}
use Rattle.alias_class.proofs.outline.rank_all.Goals as goal

pub put_ranks-requires : goal.put_ranks-requires
put_ranks-requires c =
    let p = c.args.program.now in
    let d = mapped_at (routine_outline p.vars) p.routines c.args.routines.now c.loop-routine.routine-index c.routine-item.result c.requires.routines c.loop-routine-test.true c.routine-item.is in
    let list : own_variables p.vars d.0 ≡ c.as_slice.result.now = sym (c.as_slice.ensures ∙ ap (λ (o : RoutineOutline). o.own) d.2) in
    let long : length p.vars ≡ length c.loop-routine.ranks = sym (c.loop-routine.auto.ranks ∙ c.requires.long) in
    subst (λ (n : ℕ). IsListed n c.as_slice.result.now) long (subst (IsListed (length p.vars)) list (own_listed p c.loop-routine.routine-index d.0 d.1))

pub put_ranks-requires-in-loop-routine : goal.put_ranks-requires-in-loop-routine
put_ranks-requires-in-loop-routine c =
    let p = c.args.program.now in
    let d = mapped_at (routine_outline p.vars) p.routines c.args.routines.now c.loop-routine.routine-index c.routine-item.result c.requires.routines c.loop-routine-test.true c.routine-item.is in
    let list : var_formals p.vars d.0 ≡ c.as_slice-in-loop-routine.result.now = sym (c.as_slice-in-loop-routine.ensures ∙ ap (λ (o : RoutineOutline). o.formals) d.2) in
    let long : length p.vars ≡ length c.put_ranks.new.ranks = sym (c.put_ranks.auto.ranks ∙ c.loop-routine.auto.ranks ∙ c.requires.long) in
    subst (λ (n : ℕ). IsListed n c.as_slice-in-loop-routine.result.now) long (subst (IsListed (length p.vars)) list (formals_listed p c.loop-routine.routine-index d.0 d.1))

pub loop-routine-preserved : goal.loop-routine-preserved
loop-routine-preserved c =
    let p = c.args.program.now in
    let n = c.loop-routine.routine-index in
    let d = mapped_at (routine_outline p.vars) p.routines c.args.routines.now n c.routine-item.result c.requires.routines c.loop-routine-test.true c.routine-item.is in
    let own : c.as_slice.result.now ≡ own_variables p.vars d.0 = c.as_slice.ensures ∙ ap (λ (o : RoutineOutline). o.own) d.2 in
    let formals : c.as_slice-in-loop-routine.result.now ≡ var_formals p.vars d.0 = c.as_slice-in-loop-routine.ensures ∙ ap (λ (o : RoutineOutline). o.formals) d.2 in
    let first : Puts (own_variables p.vars d.0) c.loop-routine.ranks c.put_ranks.new.ranks =
    subst (λ (vars : List ℕ). Puts vars c.loop-routine.ranks c.put_ranks.new.ranks) own (record { placed = c.put_ranks.ensures.placed; others = c.put_ranks.ensures.others }) in
    let second : Puts (var_formals p.vars d.0) c.put_ranks.new.ranks c.put_ranks-in-loop-routine.new.ranks =
    subst (λ (vars : List ℕ). Puts vars c.put_ranks.new.ranks c.put_ranks-in-loop-routine.new.ranks) formals (record { placed = c.put_ranks-in-loop-routine.ensures.placed; others = c.put_ranks-in-loop-routine.ensures.others }) in
    let before : AreRanks p.vars (map (routine_outline p.vars) p.routines) n c.loop-routine.ranks = subst (λ (rs : List RoutineOutline). AreRanks p.vars rs n c.loop-routine.ranks) c.requires.routines c.loop-routine.invariant in
    subst (λ (rs : List RoutineOutline). AreRanks p.vars rs (n + 1) c.put_ranks-in-loop-routine.new.ranks) (sym c.requires.routines)
    (ranks_more p n d.0 d.1 c.loop-routine.ranks c.put_ranks.new.ranks c.put_ranks-in-loop-routine.new.ranks first second (c.put_ranks-in-loop-routine.auto.ranks ∙ c.put_ranks.auto.ranks) before)
