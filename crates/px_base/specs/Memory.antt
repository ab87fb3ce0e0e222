-- The objects in memory, as contracts see them.
use Rattle.std.specs.Prelude.{ℕ, ◌+◌, ◌-◌, ◌^◌, ◌≤◌, ◌==◌, ◌&&◌, ◌||◌, not, nat_lt, min, List, [], ◌∷◌, ◌++◌, length, take, drop, Bool, Option, Some, None, is_none, unwrap_or, if◌then◌else◌}
use Rattle.std.specs.List.{list_any}
use Rattle.std.specs.Str.{bytes_eq}

-- The numbers of the calls that fail, counted from 1, how many calls there were and how many of them failed.
pub record Calls : Type 0 where
  pub failing : List ℕ
  pub made : ℕ
  pub faults : ℕ

-- before the first call
abbrev pub no_calls : List ℕ → Calls
no_calls failing = record { failing = failing; made = 0; faults = 0 }

-- one more; a count stands still at the end of a `u64`
abbrev pub one_more : ℕ → ℕ
one_more count = if nat_lt count (2 ^ 64 - 1) then count + 1 else count

-- whether the next call is one of those that fail
abbrev pub is_failing : Calls → Bool
is_failing calls = list_any (λ number. number == one_more calls.made) calls.failing

-- after a call that failed or not
abbrev pub after_call : Calls → Bool → Calls
after_call calls failed =
    record calls { made = one_more calls.made; faults = if failed then one_more calls.faults else calls.faults }

-- Bytes, and those of them that are left to be read.
pub record Cursor : Type 0 where
  pub bytes : List ℕ
  pub left : List ℕ

-- A source: the bytes that are left.
pub record SourceState : Type 0 where
  pub left : List ℕ
  pub calls : Calls

-- after a read into this many bytes
abbrev pub source_after : SourceState → ℕ → SourceState
source_after source size =
    let failed = is_failing source.calls in
    record { left = if failed then source.left else drop size source.left; calls = after_call source.calls failed }

-- A shelf: its files by name, and what is left of the picked one.
pub record ShelfState : Type 0 where
  pub files : List (List ℕ × List ℕ)
  pub left : List ℕ
  pub calls : Calls

-- the bytes of the first file with this name
abbrev pub file_named : List (List ℕ × List ℕ) → List ℕ → Option (List ℕ)
file_named [] name = None
file_named (file ∷ files) name = if bytes_eq file.0 name then Some file.1 else file_named files name

-- whether picking this name fails
abbrev pub pick_fails : ShelfState → List ℕ → Bool
pick_fails shelf name = is_failing shelf.calls || is_none (file_named shelf.files name)

-- after picking this name; nothing is picked where that failed
abbrev pub shelf_picked : ShelfState → List ℕ → ShelfState
shelf_picked shelf name =
    let failed = pick_fails shelf name in
    record shelf { left = if failed then [] else unwrap_or (file_named shelf.files name) []; calls = after_call shelf.calls failed }

-- after a read into this many bytes
abbrev pub shelf_after : ShelfState → ℕ → ShelfState
shelf_after shelf size =
    let failed = is_failing shelf.calls in
    record shelf { left = if failed then shelf.left else drop size shelf.left; calls = after_call shelf.calls failed }

-- A sink: the bytes that were taken, how many there may be in all, and how many one call takes at most.
pub record SinkState : Type 0 where
  pub taken : List ℕ
  pub room : ℕ
  pub most : ℕ
  pub calls : Calls

-- how many bytes of a piece a call takes
abbrev pub taken_of : SinkState → List ℕ → ℕ
taken_of sink piece = min (length piece) (min sink.most (sink.room - length sink.taken))

-- whether writing this piece fails
abbrev pub write_fails : SinkState → List ℕ → Bool
write_fails sink piece = is_failing sink.calls || (taken_of sink piece == 0 && not (length piece == 0))

-- after writing this piece
abbrev pub sink_after : SinkState → List ℕ → SinkState
sink_after sink piece =
    let failed = write_fails sink piece in
    record sink { taken = if failed then sink.taken else sink.taken ++ take (taken_of sink piece) piece; calls = after_call sink.calls failed }

-- what a sink in memory keeps: there is memory for all the room, and a call takes at least one byte
pub record IsRoomy (len room capacity most : ℕ) : Type 0 where
  pub within : len ≤ room
  pub kept : room ≤ capacity
  pub some : 1 ≤ most
