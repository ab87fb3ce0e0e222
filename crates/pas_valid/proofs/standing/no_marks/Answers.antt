use Rattle.std.proofs.Common.{ℕ, List, ap, ◌∙◌, ◌++◌, ◌∷◌, []}
use Rattle.std.proofs.lemmas.List.{replicate_more}
use Rattle.pas_valid.proofs.standing.no_marks.Goals as goal

pub loop-i-preserved : goal.loop-i-preserved
loop-i-preserved c = c.in_ok-add_mark.ensures ∙ ap (λ (ms : List ℕ). ms ++ 0 ∷ []) c.loop-i.invariant ∙ replicate_more c.loop-i._i 0
