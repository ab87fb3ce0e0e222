use Rattle.std.proofs.Common.{◌≡◌, ℕ, List, [], ◌∷◌, ◌++◌, length, ap, sym, subst, ◌∙◌, arith}
use Rattle.alias_class.specs.declared.classes.Row.{Row}
use Rattle.alias_class.specs.declared.key.Key.{Key}
use Rattle.alias_class.specs.Kept.{OutlineFits}
use Rattle.alias_class.specs.Outlines.{outline_of_program}
use Rattle.alias_class.specs.Tables.{IsKept, row_of}
use Rattle.alias_class.proofs.Beginning.{kept_first, none_long}
use Rattle.alias_class.proofs.Ranks.{outline_fits}
use Rattle.alias_class.proofs.classes.Classes.new.Goals as goal

pub overflow_cast-own : goal.overflow_cast-own
overflow_cast-own c =
    let same : c.in_ok-outline.outline ≡ outline_of_program c.args.flow.now.program = c.in_ok-outline.ensures ∙ ap outline_of_program c.program.ensures in
    let fits : OutlineFits c.in_ok-outline.outline = subst OutlineFits (sym same) (outline_fits c.args.flow.now.program) in
    let room = fits.main_room in
    let few = fits.few in
    let own = ap length c.own.ensures in
    omega arith

pub invariant_of-result : goal.invariant_of-result
invariant_of-result c =
    let o = c.in_ok-outline.outline in
    let same : o ≡ outline_of_program c.args.flow.now.program = c.in_ok-outline.ensures ∙ ap outline_of_program c.program.ensures in
    let fits : OutlineFits o = subst OutlineFits (sym same) (outline_fits c.args.flow.now.program) in
    let rows : c.push.new.self.items ≡ row_of o [] ∷ [] =
    c.in_ok-push.ensures.items
    ∙ ap (λ (xs : List Row). xs ++ record { routine = o.main; inherited = 0; cells = length c.own.result.now; namers = c.new.result } ∷ []) c.in_ok-rows.ensures.items
    ∙ ap (λ (own : List ℕ). record { routine = o.main; inherited = 0; cells = length own; namers = c.new.result } ∷ []) c.own.ensures
    ∙ ap (λ (namers : List ℕ). record { routine = o.main; inherited = 0; cells = (row_of o []).cells; namers = namers } ∷ []) c.new.ensures in
    subst (λ (keys : List Key). IsKept o keys c.push.new.self.items) (sym (none_long c.new-2.result.keys c.new-2.ensures.len))
    (subst (λ (rows : List Row). IsKept o [] rows) (sym rows) (kept_first o fits))
