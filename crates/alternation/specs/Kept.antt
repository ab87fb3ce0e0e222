-- What an analysis keeps between its calls.
use Rattle.std.specs.Prelude.{ℕ, Bool, List, length}
use Rattle.fixpoint.specs.Reversal.{IsReversal, list_at}
use Rattle.weak_order.specs.Edges.{HasEdge}
use Rattle.weak_order.specs.Order.{IsOrderOf, IsWeakOrder, Layout}
use Rattle.alternation.specs.Solved.{dependences}

-- Which nodes each equation reads and is read by, and the order.
pub record Listed : Type 0 where
  -- whether the greatest of several nodes comes first
  pub greatest_first : Bool
  pub reads : List (List ℕ)
  pub read_by : List (List ℕ)
  pub order : Layout

-- The order and those that read a node are those of what each equation reads.
pub record IsListed (l : Listed) : Type 0 where
  pub read_by : IsReversal (length l.reads) (list_at l.reads) l.read_by
  pub order : IsOrderOf (dependences l.reads) l.greatest_first l.order
  pub weak : IsWeakOrder (HasEdge (dependences l.reads)) (length l.reads) l.order
