-- What each cell of each node may hold by the type of its variable, and that it may be undefined.
use Rattle.std.specs.Prelude.{ℕ, List, map, true}
use Rattle.std.specs.List.{range_with_len}
use Rattle.interval.specs.declared.val.Val.{Val}
use Rattle.environment.specs.Environments.{Environment}
use Rattle.environment.specs.Environments.Environment.{Reachable, Unreachable}
use Rattle.alias_class.specs.Cells.{range_of_cell}
use Rattle.alias_class.specs.Tables.{Table}
use Rattle.abstract_expr.specs.Standing.{cells_in, class_in}
use Rattle.activations.specs.declared.node.Node.{Node}
use Rattle.activations.specs.Drawn.{Drawn}

abbrev pub cell_limit : Table → ℕ → ℕ → Val
cell_limit t class cell = record { undef = true; itv = range_of_cell t.outline (class_in t class) cell }

abbrev pub class_limit : Table → ℕ → Environment
class_limit t class = Reachable (map (cell_limit t class) (range_with_len 0 (cells_in t class)))

-- of each node
abbrev pub type_limits : Drawn → List Environment
type_limits g = map (λ (n : Node). class_limit g.table n.class) g.nodes

-- nothing is reached
abbrev pub unreached : Drawn → List Environment
unreached g = map (λ (n : Node). Unreachable (cells_in g.table n.class)) g.nodes
