use Rattle.std.proofs.Common.{◌≡◌, ◌+◌, ◌≤◌, map, drop}
use Rattle.control_points.specs.Drawing.{IsDrawn, plan_in}
use Rattle.control_points.specs.Extents.{write_points, total}
use Rattle.control_points.proofs.Followed.{Leads}
use Rattle.control_points.specs.Pieces as pieces
use Rattle.control_points.specs.declared.edge.Act.TheVariants as act
use Rattle.control_points.proofs.scene.Scene.writes.Given as goal

abbrev pub invariant-loop-item : goal.invariant-loop-item
invariant-loop-item l = record {
  here : l.here + total (map write_points (drop l.item-index l.items)) ≡ l.from + total (map write_points l.items);
  low : l.from ≤ l.here;
  drawn : IsDrawn l.self l.graph l.here;
  exact : Leads l.initial.graph l.graph (pieces.writes (plan_in l.self) (drop l.item-index l.items) (pieces.line_act l.line act.EndLine) l.here l.next) (pieces.writes (plan_in l.self) l.items (pieces.line_act l.line act.EndLine) l.from l.next);
}
