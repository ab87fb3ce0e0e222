-- Where an expression stands: in a class of activations, in which each variable that it uses names a cell.
use Rattle.std.specs.Prelude.{ℕ, ◌&&◌, Bool, length, nat_lt}
use Rattle.alias_class.specs.declared.outline.Outline.{Outline}
use Rattle.alias_class.specs.Cells.{cell_count, is_seen, resolve}
use Rattle.alias_class.specs.Classes.{Class, class_at}
use Rattle.alias_class.specs.Tables.{Table}
use Rattle.control_points.specs.declared.flow.Flow.{Flow}
use Rattle.pas_program.specs.Checked.{tables}
use Rattle.pas_program.specs.Each.{Rule}
use Rattle.pas_program.specs.Labels.{free_rule}
use Rattle.abstract_expr.specs.Expressions.{Binds, Scope}

-- each variable and each slot is seen from a class
abbrev pub seen_rule : Outline → Class → Rule
seen_rule o c =
    let seen : ℕ → Bool = λ v. nat_lt v (length o.variables) && is_seen o c v in
    record free_rule { variable = seen; call = λ r slot. seen slot }

abbrev pub class_in : Table → ℕ → Class
class_in t class = class_at t.classes class

-- what the variables name
abbrev pub binds : Table → ℕ → Binds
binds t class = resolve t.outline (class_in t class)

abbrev pub cells_in : Table → ℕ → ℕ
cells_in t class = cell_count t.outline (class_in t class)

abbrev pub seen_in : Table → ℕ → Rule
seen_in t class = seen_rule t.outline (class_in t class)

-- the same of a class of a flow's unfolding
abbrev pub scope_in : Flow → Table → ℕ → Scope
scope_in f t class = record { tables = tables f.program; bind = binds t class }
