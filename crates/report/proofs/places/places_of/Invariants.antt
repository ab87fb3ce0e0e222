use Rattle.std.proofs.Common.{◌≡◌, ◌+◌, ◌≤◌, map}
use Rattle.std.specs.List.{range_with_len}
use Rattle.px_base.specs.Place.{place_at}
use Rattle.report.proofs.places.places_of.Given as goal

abbrev pub invariant-loop-byte : goal.invariant-loop-byte
invariant-loop-byte l = record {
  found : l.found.items ≡ map (place_at l.text) (range_with_len 0 l.byte-index);
  place : l.place ≡ place_at l.text l.byte-index;
  few_lines : l.place.line ≤ 1 + l.byte-index;
  few_columns : l.place.col ≤ 1 + l.byte-index;
}
