use Rattle.std.proofs.Common.{◌≡◌, ◌+◌, ◌≤◌, take}
use Rattle.px_base.specs.Place.{place_after}
use Rattle.px_base.proofs.place.pos_of.Given as goal

abbrev pub invariant-loop-byte : goal.invariant-loop-byte
invariant-loop-byte l = record {
  place : l.pos ≡ place_after (take l.byte-index l.byte-items);
  few_lines : l.pos.line ≤ 1 + l.byte-index;
  few_columns : l.pos.col ≤ 1 + l.byte-index;
}
