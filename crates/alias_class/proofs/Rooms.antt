-- How many cells a class has at most.
use Rattle.std.proofs.Common.{◌+◌, ◌≤◌, [], ◌∷◌, length, arith}
use Rattle.alias_class.specs.declared.outline.Outline.{Outline}
use Rattle.alias_class.specs.Cells.{IsClass, cell_count, own_count}
use Rattle.alias_class.specs.Classes.{Class}
use Rattle.alias_class.specs.Kept.{OutlineFits}
use Rattle.alias_class.proofs.Outlining.{length-foreign_cells}

pub class_fits : (o : Outline) → OutlineFits o → (c : Class) → IsClass o c → cell_count o c ≤ length o.variables
class_fits o fits [] is = fits.main_room
class_fits o fits (e ∷ parent) is =
    let room = fits.room parent e.routine is.1 is.0.declared in
    let bound = is.0.bound in
    let foreign = length-foreign_cells (cell_count o parent + own_count o e.routine) e.bindings in
    omega arith
