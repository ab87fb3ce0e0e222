use Rattle.std.proofs.Common.{◌≡◌, ℕ, Bool, false, nat_eq}
use Rattle.pas_valid.specs.Standing.{mark_count}
use Rattle.pas_valid.proofs.Marks.{Counted}
use Rattle.pas_valid.proofs.standing.assertions.Given as goal

abbrev pub invariant-loop-a : goal.invariant-loop-a
invariant-loop-a l =
    (test : ℕ → Bool) (n : ℕ) → test 0 ≡ false → Counted (λ b. nat_eq n b) (test l.mark) l.list l.a-index (mark_count test l.initial.marks n) (mark_count test l.marks n)
