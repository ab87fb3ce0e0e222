use mir.Syntax.{w32}
use mir.Val.{to_z, of_z}
use Rattle.std.proofs.Common.{◌≡◌, sym, ◌∙◌, rules}
use Rattle.pas_valid.proofs.Constants.{fresh_added_as}
use Rattle.pas_valid.proofs.statement.is_new.Goals as goal

pub returns-in-Ok-true : goal.returns-in-Ok-true
returns-in-Ok-true c = λ zs h.
    let same : to_z w32 (of_z w32 c.args.value.now) ≡ c.args.value.now = search rules in
    fresh_added_as c.args.seen.now c.insert.new.self _ c.args.value.now same (sym c.in-Ok-true.field-0-test ∙ c.in-Ok-true.ensures.added) c.in-Ok-true.ensures.updates.0 zs h
