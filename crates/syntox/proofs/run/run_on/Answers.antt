use Rattle.std.proofs.Common.{subst, ◌∙◌}
use Rattle.control_points.specs.Flows.{chart_of}
use Rattle.interp.specs.RunText.{IsEnd}
use Rattle.syntox.proofs.run.run_on.Goals as goal

pub returns-clause-run : goal.returns-clause-run
returns-clause-run c told has = record {
  source = c.args.text.now;
  flow = c.args.flow.now;
  has_flow = has;
  bytes = c.args.input.now;
  is_input = record { given = (λ known e. cc); within = c.requires.input };
  ended = c.in_ok-ended.ended;
  ends = subst (λ items. IsEnd (chart_of c.args.flow.now) items c.args.steps c.in_ok-ended.ended) (c.deref.ensures.value ∙ c.in_ok-items.ensures.items) c.in_ok-ended.ensures.ended;
  is_status = c.status_of-status.ensures;
  is_text = c.in_ok-text.ensures;
}
