-- Arcs are the same where their parts are.
use Rattle.std.proofs.Common.{◌≡◌, ℕ, Option, ap, ◌∙◌}
use Rattle.activations.specs.declared.arc.Arc.{Arc}

abbrev pub arc_of : ℕ → ℕ → ℕ → Option ℕ → ℕ → Arc
arc_of from to edge other call = record { from = from; to = to; edge = edge; other = other; call = call }

pub same_arc : (f g t s k : ℕ) (o p : Option ℕ) (n m : ℕ) → f ≡ g → t ≡ s → o ≡ p → n ≡ m → arc_of f t k o n ≡ arc_of g s k p m
same_arc f g t s k o p n m from to other call =
    ap (λ (x : ℕ). arc_of x t k o n) from ∙ ap (λ (x : ℕ). arc_of g x k o n) to ∙ ap (λ (x : Option ℕ). arc_of g s k x n) other ∙ ap (λ (x : ℕ). arc_of g s k p x) call
