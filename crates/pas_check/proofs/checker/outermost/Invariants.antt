use Rattle.std.proofs.Common.{◌≡◌, [], drop, map}
use Rattle.pas_check.specs.Blocks.{all_ended, required}
use Rattle.pas_check.proofs.checker.outermost.Given as goal

abbrev pub invariant-loop-name : goal.invariant-loop-name
invariant-loop-name l = all_ended required [] ≡ all_ended (map (λ n. (n.0.now, n.1)) (drop l.name-index l.name-items)) l.names
