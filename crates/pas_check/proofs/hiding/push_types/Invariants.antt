use Rattle.std.proofs.Common.{◌≡◌, ◌++◌, drop, map}
use Rattle.pas_check.specs.Block.{type_name}
use Rattle.pas_check.proofs.hiding.push_types.Given as goal

abbrev pub invariant-loop-decl : goal.invariant-loop-decl
invariant-loop-decl l = l.names ++ map type_name (drop l.decl-index l.decls) ≡ l.initial.names ++ map type_name l.decls
