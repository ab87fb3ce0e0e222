-- Edges by their parts, and their numbers by the point at one of their ends.
use Rattle.std.specs.Prelude.{ℕ, List, nat_eq}
use Rattle.control_points.specs.declared.edge.Act.{Act}
use Rattle.control_points.specs.declared.edge.Edge.{Edge}
use Rattle.control_points.specs.declared.graph.End.{End}
use Rattle.control_points.specs.declared.graph.End.TheVariants.{Source, Target}
use Rattle.control_points.specs.Chart.{numbers_from}

abbrev pub edge : ℕ → Act → ℕ → Edge
edge source action target = record { from = source; act = action; to = target }

abbrev pub end_of : End → Edge → ℕ
end_of Source e = e.from
end_of Target e = e.to

-- the numbers of the edges that have the point at that end
abbrev pub at_end : End → List Edge → ℕ → List ℕ
at_end end edges p = numbers_from 0 (λ (e : Edge). nat_eq (end_of end e) p) edges
