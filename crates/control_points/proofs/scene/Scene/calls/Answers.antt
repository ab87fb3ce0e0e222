use Rattle.std.proofs.Common.{ap, ◌∙◌, arith}
use Rattle.std.specs.Option.{option_map}
use Rattle.control_points.specs.Called.{site_of}
use Rattle.control_points.proofs.Blocks.{get_mapped}
use Rattle.control_points.proofs.Loops.{item_at}
use Rattle.control_points.proofs.Followed.{leads_step, leads_last}
use Rattle.control_points.proofs.Laying.{calls_left, calls_done}
use Rattle.control_points.specs.Drawing.{plan_in}
use Rattle.control_points.proofs.scene.Scene.calls.Goals as goal

pub call-requires-clause-fits : goal.call-requires-clause-fits
call-requires-clause-fits c =
    c.requires.fits.each c.loop-site.site-index (site_of c.site-item.result)
    (get_mapped site_of c.args.sites.now c.loop-site.site-index ∙ ap (option_map site_of) (item_at c.args.sites.now c.loop-site.site-index c.site-item.result (omega arith) c.site-item.is))

pub loop-site-preserved : goal.loop-site-preserved
loop-site-preserved c =
    let k = c.loop-site.site-index in
    record {
      here = omega (arith, c.loop-site.invariant.here);
      drawn = c.in_ok-call.ensures.graph;
      exact = leads_step c.loop-site.invariant.exact c.in_ok-call.ensures.exact (calls_left (plan_in c.args.self.now) c.args.sites.now k c.site-item.result c.loop-site.here (omega arith) c.site-item.is);
    }

pub returns-clause-exact : goal.returns-clause-exact
returns-clause-exact c = leads_last c.loop-site.invariant.exact (calls_done (plan_in c.args.self.now) c.args.sites.now c.loop-site.site-index c.loop-site.here c.loop-site-test.false)
