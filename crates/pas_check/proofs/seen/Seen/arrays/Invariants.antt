use Rattle.std.proofs.Common.{◌≡◌, reverse, vec_len}
use Rattle.pas_check.specs.Declarations.{arrays_of, with_types}
use Rattle.pas_check.specs.Sight.{sight}
use Rattle.pas_check.proofs.seen.Seen.arrays.Given as goal

abbrev pub invariant-loop-index : goal.invariant-loop-index
invariant-loop-index l = record {
  kept : sight l.self ≡ with_types (sight l.fn.self) l.self.types.list.list;
  rest : arrays_of l.fn.self.types.list.list (reverse l.fn.indexes.items) l.element l.at ≡ arrays_of l.self.types.list.list (reverse l.left.items) l.number l.at;
}

abbrev pub decreases-loop-index : goal.decreases-loop-index
decreases-loop-index l = vec_len l.left
