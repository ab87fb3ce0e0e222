-- Functions of values, cell by cell: lists of as many cells stand for the cells of one class.
use Rattle.std.specs.Prelude.{ℕ, ◌+◌, Bool, true, false, ◌&&◌, List, [], ◌∷◌}
use Rattle.interval.specs.declared.val.Val.{Val}
use Rattle.interval.specs.Values.{val_below}

-- f of the values of each cell
abbrev pub each : (Val → Val → Val) → List Val → List Val → List Val
each f [] ws = []
each f (v ∷ vs) [] = []
each f (v ∷ vs) (w ∷ ws) = f v w ∷ each f vs ws

-- f of the values of each cell and of the cell's limit
abbrev pub each_within : (Val → Val → Val → Val) → List Val → List Val → List Val → List Val
each_within f [] ws ls = []
each_within f (v ∷ vs) [] ls = []
each_within f (v ∷ vs) (w ∷ ws) [] = []
each_within f (v ∷ vs) (w ∷ ws) (l ∷ ls) = f v w l ∷ each_within f vs ws ls

-- the value of each cell is below the other one
abbrev pub each_below : List Val → List Val → Bool
each_below [] [] = true
each_below [] (w ∷ ws) = false
each_below (v ∷ vs) [] = false
each_below (v ∷ vs) (w ∷ ws) = val_below v w && each_below vs ws

-- the sum of the ranks of the cells, each in its limit
abbrev pub total : (Val → Val → ℕ) → List Val → List Val → ℕ
total rank [] vs = 0
total rank (l ∷ ls) [] = 0
total rank (l ∷ ls) (v ∷ vs) = rank l v + total rank ls vs
