use Rattle.pas_check.proofs.Meanings.{known_law, not_ended_law, unknown_law}
use Rattle.pas_check.proofs.names.names_mean_by_the_rules.Goals as goal

pub returns : goal.returns
returns c = record {
  unknown = unknown_law;
  not_ended = not_ended_law;
  known = known_law;
}
