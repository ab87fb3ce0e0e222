-- What the second walk knows in its scene.
use Rattle.std.proofs.Common.{◌≡◌, ℕ, ◌+◌, ◌<◌, ◌≤◌, List, ◌++◌, length, ◌^◌, ap, ◌∙◌, arith}
use Rattle.std.proofs.lemmas.List.{length-map}
use Rattle.control_points.specs.declared.check.Check.{Check}
use Rattle.control_points.specs.declared.edge.Edge.{Edge}
use Rattle.control_points.specs.declared.judging.Judge.{Judge}
use Rattle.control_points.specs.declared.numbering.Mark.{Mark}
use Rattle.control_points.specs.declared.scene.Scene.{Scene}
use Rattle.control_points.specs.Checking.{Faults}
use Rattle.control_points.specs.Drawing.{points_in}
use Rattle.control_points.specs.Judging.{checks_at, judged}
use Rattle.control_points.specs.Wired.{IsBlock, IsGraph}
use Rattle.control_points.proofs.Drawn.{drawn_judged, drawn_weaker, own_block, point_within, source_own}

module _ (s : Scene) where
  pub block : IsBlock (points_in s) s.routine s.entry s.exit
  block = own_block s.program.now s.numbering.now.marks s.numbering.now.entries s.labels.now s.routine s.entry s.exit s.placed

  pub within : (p : ℕ) → s.entry ≤ p → p < s.exit → p < length (points_in s)
  within p low high = point_within (points_in s) p s.routine (source_own (points_in s) s.routine s.entry s.exit p block low high)

  -- after the checks of a point
  pub judged_in : (edges : List Edge) (checks more : List Check) (n : ℕ) (j : Judge) (faults : Faults) → IsGraph s.program.now (points_in s) edges checks n → s.entry ≤ n → n < s.exit → j.point ≡ n → more ≡ checks ++ judged j faults → IsGraph s.program.now (points_in s) edges more n
  judged_in edges checks more n j faults old low high at is =
      drawn_judged s.program.now (points_in s) edges checks more n n faults old (omega arith) (within n low high) (is ∙ ap (λ p. checks ++ checks_at p faults) at)

  pub weaker_in : (edges : List Edge) (checks : List Check) (m n : ℕ) → IsGraph s.program.now (points_in s) edges checks m → m ≤ n → IsGraph s.program.now (points_in s) edges checks n
  weaker_in edges checks m n old le = drawn_weaker s.program.now (points_in s) edges checks m n old le

  -- the exit is a number of a point
  pub exit_fits : s.exit < 2 ^ 32
  exit_fits = omega (arith, point_within (points_in s) s.exit s.routine block.exit_own, length-map s.numbering.now.marks (λ (m : Mark). m.point), s.numbering.now.few)

  -- after the checks of the exit
  pub judged_last : (edges : List Edge) (checks more : List Check) (n : ℕ) (j : Judge) (faults : Faults) → IsGraph s.program.now (points_in s) edges checks n → n ≤ s.exit → j.point ≡ s.exit → more ≡ checks ++ judged j faults → IsGraph s.program.now (points_in s) edges more (s.exit + 1)
  judged_last edges checks more n j faults old high at is =
      weaker_in edges more s.exit (s.exit + 1) (drawn_judged s.program.now (points_in s) edges checks more n s.exit faults old high (point_within (points_in s) s.exit s.routine block.exit_own) (is ∙ ap (λ p. checks ++ checks_at p faults) at)) (omega arith)
