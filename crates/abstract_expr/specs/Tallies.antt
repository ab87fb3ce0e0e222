-- What becomes of the verdicts on the checks of a point, in order: whether all hold, and marks of those that may fail.
use Rattle.std.specs.Prelude.{ℕ, ◌+◌, ◌-◌, Bool, true, not, ◌&&◌, ◌||◌, List, fold, length, nat_lt, slice_index_or, slice_set, if◌then◌else◌}
use Rattle.abstract_expr.specs.declared.tally.Tally.{Tally}

pub record Tallied : Type 0 where
  pub tally : Tally
  pub marks : List Bool

abbrev pub tallied : Tally → List Bool → Tallied
tallied tally marks = record { tally = tally; marks = marks }

-- before any verdict
abbrev pub fresh : ℕ → Tally
fresh before = record { before = before; marked = 0; all_hold = true }

-- a mark stays, or is put where the check may fail
abbrev pub with_mark : List Bool → ℕ → Bool → List Bool
with_mark marks n holds = slice_set marks n (slice_index_or marks n true || not holds)

abbrev pub after_verdict : Tallied → Bool → Tallied
after_verdict t holds =
    let all = t.tally.all_hold && holds in
    if nat_lt 0 t.tally.before then record { tally = record { before = t.tally.before - 1; marked = t.tally.marked; all_hold = all }; marks = t.marks }
    else if nat_lt t.tally.marked (length t.marks) then record { tally = record { before = t.tally.before; marked = t.tally.marked + 1; all_hold = all }; marks = with_mark t.marks t.tally.marked holds }
    else record { tally = record { before = t.tally.before; marked = t.tally.marked; all_hold = all }; marks = t.marks }

-- the same, where there is a check
abbrev pub after_verdict_if : Bool → Tallied → Bool → Tallied
after_verdict_if is_check t holds = if is_check then after_verdict t holds else t

-- after verdicts, in order
abbrev pub after_verdicts : List Bool → Tallied → Tallied
after_verdicts verdicts t = fold after_verdict t verdicts
