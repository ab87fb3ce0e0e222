use Rattle.std.proofs.Common.{◌≡◌, drop}
use Rattle.std.specs.List.{list_all}
use Rattle.pas_program.specs.Each.{each_item}
use Rattle.pas_program.specs.Size.{item_size}
use Rattle.pas_program.specs.Typed.{item_fits}
use Rattle.pas_valid.specs.Passing.{known, placed}
use Rattle.pas_valid.proofs.Lists.{Walked}
use Rattle.pas_valid.proofs.ground.Ground.items.Given as goal

abbrev pub invariant-loop-item : goal.invariant-loop-item
invariant-loop-item l =
    Walked (each_item (placed l.self)) (each_item (placed l.self)) item_size l.items l.item-index l.initial.left l.left
    × (list_all (item_fits (known l.self)) l.items ≡ list_all (item_fits (known l.self)) (drop l.item-index l.items))
