-- The numbers at which a bound stops on its way to the limit's (widening with thresholds: Blanchet and others, PLDI 2003). They
-- stand in rising order.
use Rattle.std.specs.Prelude.{ℕ, ◌+◌, Bool, not, ◌&&◌, List, [], ◌∷◌, Option, Some, None, unwrap_or, count_by, if◌then◌else◌, ℤ, int_lt, int_le}
use Rattle.std.specs.List.{find}
use Rattle.std.specs.Option.{option_or}
use Rattle.std.specs.Ordering.{int_eq}

-- the last element that passes
abbrev pub find_last : {X : Type 0} → (X → Bool) → List X → Option X
find_last test [] = None
find_last test (x ∷ xs) = option_or (find_last test xs) (if test x then Some x else None)

-- the least step that is at least z, or the end where there is no such step below it
abbrev pub step_up : List ℤ → ℤ → ℤ → ℤ
step_up steps z end = unwrap_or (find (λ s. int_le z s && int_lt s end) steps) end

-- the greatest step that is at most z, or the end where there is no such step above it
abbrev pub step_down : List ℤ → ℤ → ℤ → ℤ
step_down steps z end = unwrap_or (find_last (λ s. int_le s z && int_lt end s) steps) end

-- ---- how often a bound can still move: to each step that lies between it and the end, and to the end

abbrev pub one_if : Bool → ℕ
one_if b = if b then 1 else 0

-- how many steps lie between two numbers
abbrev pub steps_between : List ℤ → ℤ → ℤ → ℕ
steps_between steps low high = count_by (λ s. int_lt low s && int_lt s high) steps

abbrev pub moves_up : List ℤ → ℤ → ℤ → ℕ
moves_up steps z end = steps_between steps z end + one_if (not (int_eq z end))

abbrev pub moves_down : List ℤ → ℤ → ℤ → ℕ
moves_down steps z end = steps_between steps end z + one_if (not (int_eq z end))
