-- What statements write, as far as later tests ask: the variables that a routine threatens, and the functions whose names
-- are assigned to (ISO 7185, 6.8.3.9 and 6.6.2).
use Rattle.std.specs.Prelude.{ℕ, nat_eq, List, [], ◌∷◌, ◌++◌, Option, Some, None, if◌then◌else◌}
use Rattle.pas_check.specs.declared.meaning.Variable.{Variable}
use Rattle.pas_check.specs.declared.seen.Made.{Made}

pub record Written : Type 0 where
  -- the whole variables that are written and that are declared outside the block at hand, by the places where they are declared,
  -- in the order of the text
  pub threats : List ℕ
  -- the functions whose names are assigned to, by their headings, in the order of the text
  pub assigned : List ℕ

-- what something writes, after what was written before
abbrev pub Writes : Type 0
Writes = Written → Written

-- one thing after the other
abbrev pub writes_in_turn : {A : Type 0} → (A → Writes) → List A → Writes
writes_in_turn writes [] w = w
writes_in_turn writes (x ∷ rest) w = writes_in_turn writes rest (writes x w)

-- a whole variable is written in a block at a level
abbrev pub writes_whole : ℕ → Option Variable → Writes
writes_whole level None w = w
writes_whole level (Some x) w = if nat_eq x.level level then w else record w { threats = w.threats ++ x.at ∷ [] }

-- the name of a function is assigned to
abbrev pub assigns : Option ℕ → Writes
assigns None w = w
assigns (Some head) w = record w { assigned = w.assigned ++ head ∷ [] }

-- what was written so far
unfoldable pub written : Made → Written
written m = record { threats = m.threats.items; assigned = m.assigned.items }
