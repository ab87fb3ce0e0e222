use Rattle.std.proofs.Common.{◌≡◌, ◌++◌, drop, map}
use Rattle.pas_check.specs.Block.{const_name}
use Rattle.pas_check.proofs.hiding.push_consts.Given as goal

abbrev pub invariant-loop-decl : goal.invariant-loop-decl
invariant-loop-decl l = l.names ++ map const_name (drop l.decl-index l.decls) ≡ l.initial.names ++ map const_name l.decls
