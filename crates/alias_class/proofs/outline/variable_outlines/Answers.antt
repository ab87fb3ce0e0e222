use Rattle.std.proofs.Common.{◌≡◌, ℕ, ◌<◌, ◌≤◌, List, [], ◌∷◌, ◌++◌, length, ap, sym, subst, ◌∙◌, arith}
use Rattle.std.specs.Prelude.{slice_index}
use Rattle.std.proofs.lemmas.Grind.{common_steps}
use Rattle.std.proofs.lemmas.List.{length-map}
use Rattle.alias_class.specs.declared.outline.VariableOutline.{VariableOutline}
use Rattle.alias_class.specs.Outlines.{routine_outline, variable_outlines}
use Rattle.alias_class.specs.Ranks.{AreRanks, ranked_outline}
use Rattle.alias_class.proofs.Lists.{found}
use Rattle.alias_class.proofs.Ranks.{outlines_more, length-outlines}
use Rattle.alias_class.proofs.outline.variable_outlines.Goals as goal

pub loop-var-preserved : goal.loop-var-preserved
loop-var-preserved c =
    let p = c.args.program.now in
    let routines = c.args.routines.now in
    let ranks = c.in_ok-ranks.ranks.items in
    let v = c.loop-var.var in
    let in_range : v < length p.vars = omega arith in
    let d = found p.vars v in_range in
    let many : length routines ≡ length p.routines = ap length c.requires ∙ length-map p.routines (routine_outline p.vars) in
    let are : AreRanks p.vars routines (length p.routines) ranks = subst (λ (n : ℕ). AreRanks p.vars routines n ranks) many c.in_ok-ranks.ensures in
    let kept : v < length ranks = let long = are.long in omega arith in
    let rank : c.index.result.now ≡ slice_index ranks v = c.index.ensures ∙ grind (arith, common_steps) in
    let made = c.variable_outline.ensures d.0 d.1 in
    c.in_ok-push.ensures.ok
    ∙ ap (λ (x : VariableOutline). c.loop-var.variables ++ x ∷ []) (made ∙ ap (λ (n : ℕ). ranked_outline p.types n d.0) rank)
    ∙ ap (λ (xs : List VariableOutline). xs ++ ranked_outline p.types (slice_index ranks v) d.0 ∷ []) c.loop-var.invariant
    ∙ sym (outlines_more p routines ranks are v d.0 d.1)

pub returns : goal.returns
returns c =
    let p = c.args.program.now in
    let all = variable_outlines p.types c.args.routines.now p.vars in
    let long : length all ≡ length p.vars = length-outlines p.types c.args.routines.now p.vars in
    let over : length all ≤ c.loop-var.var = omega arith in
    c.loop-var.invariant ∙ grind (arith, common_steps)
