use Rattle.std.proofs.Common.{◌≡◌, drop}
use Rattle.pas_check.specs.Declarations.{led_by, name_claimed}
use Rattle.pas_check.specs.Sight.{sight}
use Rattle.pas_check.proofs.checker.Checker.claim_names.Given as goal

abbrev pub invariant-loop-name : goal.invariant-loop-name
invariant-loop-name l = record {
  value : led_by name_claimed (sight l.fn.self.seen) l.names ≡ led_by name_claimed (sight l.self.seen) (drop l.name-index l.names);
  kept : l.self.made.built ≡ l.fn.self.made.built;
}
