use Rattle.std.proofs.Common.{◌≡◌, drop}
use Rattle.std.specs.List.{list_all}
use Rattle.pas_program.specs.Types.{in_host}
use Rattle.pas_valid.proofs.statement.all_in_host.Given as goal

abbrev pub invariant-loop-value : goal.invariant-loop-value
invariant-loop-value l = list_all (in_host l.boolean) l.values ≡ list_all (in_host l.boolean) (drop l.value-index l.values)
