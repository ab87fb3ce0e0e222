use Rattle.std.proofs.Common.{◌≡◌, ◌+◌, drop}
use Rattle.control_points.specs.Drawing.{IsDrawn, plan_in}
use Rattle.control_points.specs.Called.{sites_of}
use Rattle.control_points.proofs.Followed.{Leads}
use Rattle.control_points.specs.Pieces as pieces
use Rattle.control_points.proofs.scene.Scene.calls.Given as goal

abbrev pub invariant-loop-site : goal.invariant-loop-site
invariant-loop-site l = record {
  here : l.here ≡ l.from + l.site-index;
  drawn : IsDrawn l.self l.graph l.here;
  exact : Leads l.initial.graph l.graph (pieces.calls (plan_in l.self) (sites_of (drop l.site-index l.sites)) l.here) (pieces.calls (plan_in l.self) (sites_of l.sites) l.from);
}
