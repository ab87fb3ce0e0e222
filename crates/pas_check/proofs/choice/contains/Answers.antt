use Rattle.std.proofs.Common.{◌∙◌, ap, ℤ, w32}
use Rattle.std.specs.Ordering.{int_eq}
use Rattle.std.specs.Prelude.{is_some}
use Rattle.std.specs.Map.{lookup}
use Rattle.std.proofs.Math.Facts.{to_z-of_z}
use Rattle.pas_check.proofs.Constants.{some_key}
use Rattle.pas_check.proofs.choice.contains.Goals as goal

pub returns : goal.returns
returns c =
    let before = c.args.before.now.entries in
    c.contains_key.ensures ∙ ap (λ (z : ℤ). is_some (lookup (int_eq z) before)) (to_z-of_z {w = w32} {z = c.args.value} c.ranges.value)
    ∙ some_key (int_eq c.args.value) before
