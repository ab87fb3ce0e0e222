use Rattle.std.proofs.Common.{◌≡◌, take}
use Rattle.std.specs.List.{flat_map}
use Rattle.transfer_fwd.specs.Reads.{read_by}
use Rattle.transfer_fwd.proofs.reads.all_reads.Given as goal

abbrev pub invariant-loop-arc : goal.invariant-loop-arc
invariant-loop-arc l = (l.reads.items ≡ flat_map read_by (take l.arc-index l.arc-items))
