use Rattle.std.proofs.Common.{◌≡◌, drop}
use Rattle.pas_check.specs.Declarations.{const_declared, led_by}
use Rattle.pas_check.specs.Sight.{sight}
use Rattle.pas_check.proofs.checker.Checker.const_part.Given as goal

abbrev pub invariant-loop-decl : goal.invariant-loop-decl
invariant-loop-decl l = record {
  rest : led_by const_declared (sight l.fn.self.seen) l.decls ≡ led_by const_declared (sight l.self.seen) (drop l.decl-index l.decls);
  kept : l.self.made.built ≡ l.fn.self.made.built;
}
