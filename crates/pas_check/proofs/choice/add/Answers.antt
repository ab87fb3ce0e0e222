use Rattle.std.proofs.Common.{◌∙◌, ap, ℤ, w32}
use Rattle.std.specs.Ordering.{int_eq}
use Rattle.std.specs.Map.{keys_of}
use Rattle.std.proofs.Math.Facts.{to_z-of_z}
use Rattle.indexmap.specs.IndexMap.{insert_entry}
use Rattle.pas_check.proofs.Constants.{put_last}
use Rattle.pas_check.proofs.choice.add.Goals as goal

pub returns : goal.returns
returns c =
    let before = c.args.before.now.entries in
    ap keys_of c.in_ok-insert.ensures.entries ∙ ap (λ (z : ℤ). keys_of (insert_entry int_eq before z tt)) (to_z-of_z {w = w32} {z = c.args.value} c.ranges.value)
    ∙ put_last int_eq before c.args.value tt c.requires
