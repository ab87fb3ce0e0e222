use Rattle.std.proofs.Common.{◌≡◌, ◌+◌, ◌≤◌, map, drop}
use Rattle.control_points.specs.Drawing.{IsDrawn, plan_in}
use Rattle.control_points.specs.Extents.{read_points, total}
use Rattle.control_points.proofs.Followed.{Leads}
use Rattle.control_points.specs.Pieces as pieces
use Rattle.control_points.specs.declared.edge.Act.TheVariants as act
use Rattle.control_points.proofs.scene.Scene.reads.Given as goal

abbrev pub invariant-loop-access : goal.invariant-loop-access
invariant-loop-access l = record {
  here : l.here + total (map read_points (drop l.access-index l.to)) ≡ l.from + total (map read_points l.to);
  low : l.from ≤ l.here;
  drawn : IsDrawn l.self l.graph l.here;
  exact : Leads l.initial.graph l.graph (pieces.reads (plan_in l.self) (drop l.access-index l.to) (pieces.line_act l.line act.DropLine) l.here l.next) (pieces.reads (plan_in l.self) l.to (pieces.line_act l.line act.DropLine) l.from l.next);
}
