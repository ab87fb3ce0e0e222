use Rattle.std.proofs.Common.{◌≡◌, ℕ, drop, nat_eq}
use Rattle.indexmap.specs.IndexMap.{get}
use Rattle.pas_check.specs.Placing.{Members, member_marks, noted, outline}
use Rattle.pas_check.proofs.label.note_members.Given as goal

abbrev pub invariant-loop-statement : goal.invariant-loop-statement
invariant-loop-statement l =
    (n : ℕ) → noted n (member_marks (Members l.from l.to l.outermost) (outline l.body)) (get nat_eq l.fn.labels n) ≡ noted n (member_marks (Members l.from l.to l.outermost) (outline (drop l.statement-index l.body))) (get nat_eq l.labels n)
