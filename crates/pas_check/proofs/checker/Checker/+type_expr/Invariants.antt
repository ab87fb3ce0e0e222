use Rattle.std.proofs.Common.{◌≡◌, [], drop, map, reverse}
use Rattle.pas_check.specs.Declarations.{index_types, type_test, with_types}
use Rattle.pas_check.specs.Sight.{sight}
use Rattle.pas_check.proofs.checker.Checker.+type_expr.Given as goal

abbrev pub invariant-index_types-loop-index : goal.invariant-index_types-loop-index
invariant-index_types-loop-index l = record {
  kept : sight l.self.seen ≡ with_types (sight l.fn.self.seen) l.self.seen.types.list.list;
  rest : index_types (sight l.fn.self.seen) (map type_test l.indexes) [] ≡ index_types (with_types (sight l.fn.self.seen) l.self.seen.types.list.list) (map type_test (drop l.index-index l.indexes)) (reverse l.numbers.items);
  built : l.self.made.built ≡ l.fn.self.made.built;
}
