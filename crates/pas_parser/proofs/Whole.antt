-- What is known of the tree of a program that was read.
use Rattle.std.proofs.Common.{◌≡◌, ℕ, ◌-◌, ◌*◌, ◌≤◌, Bool, true, List, length, Ok, Err, IfOk, arith, refl, ◌+◌, ◌<◌, [], ◌∷◌}
use Rattle.pas_lexer.specs.declared.token.Token.{Token}
use Rattle.pas_lexer.specs.Spans.{SpansRise, NumbersFit}
use Rattle.pas_tree.specs.declared.block.Tree.{Tree}
use Rattle.pas_parser.specs.Outcome.{Outcome, Gives}
use Rattle.pas_parser.specs.Program.{program}
use Rattle.pas_parser.specs.Depth.{tree_depth}
use Rattle.pas_parser.specs.Each.{each_tree, fits, within, numbered, NumbersPass}
use Rattle.pas_parser.specs.Grammar.Program.{IsProgram}
use Rattle.pas_tree.specs.Order.{Starts, IsRising, tree_starts}
use Rattle.pas_parser.specs.Parts.{tree_parts}
use Rattle.pas_parser.proofs.Advance as advance
use Rattle.pas_parser.proofs.Counted as counted
use Rattle.pas_parser.proofs.Fitting as fitting
use Rattle.pas_parser.proofs.Ordered as ordered
use Rattle.pas_parser.proofs.Rules.{starts_later, one_within, cover_within, number_fits, number_passes}
use Rattle.pas_parser.proofs.Sound.Program.{program_read}

-- what holds of each tree that is defined holds of what is answered
if_read : (tokens : List Token) (P : Tree → Type 0) → ((tree : Tree) → program tokens ≡ Ok tree → P tree) → (result : Outcome Tree) → Gives (program tokens) result → IfOk result P
if_read tokens P holds (Ok tree) is = holds tree is
if_read tokens P holds (Err fault) is = tt

-- the starts of later and later tokens rise
rising : (tokens : List Token) (len : ℕ) → SpansRise len tokens → (least i j : ℕ) (ns : Starts) → ((k : ℕ) → i ≤ k → k < length tokens → least ≤ ordered.start tokens k) → j ≤ length tokens →
    ordered.Placed tokens i j ns → IsRising least ns
rising tokens len rise least i j [] low le p = tt
rising tokens len rise least i j (n ∷ ns) low le p =
    let inside : p.0 < length tokens = omega (arith, ordered.place_goes_on tokens (p.0 + 1) j ns p.3) in (
      omega (arith, low p.0 p.1 inside, p.2),
      rising tokens len rise (n + 1) (p.0 + 1) j ns (λ k after here. omega (arith, p.2, starts_later tokens len rise p.0 k (omega arith) here)) le p.3,
    )

module _ (tokens : List Token) (result : Outcome Tree) (is : Gives (program tokens) result) where
  pub is_program : IfOk result (λ tree. IsProgram tokens tree)
  is_program = if_read tokens _ (λ tree same. ((program_read tokens).holds tree same).0) result is

  pub is_shallow : IfOk result (λ tree. tree_depth tree ≤ 200)
  is_shallow = if_read tokens _ (λ tree same. ((program_read tokens).holds tree same).1) result is

  pub has_few_parts : IfOk result (λ tree. tree_parts tree ≤ 2 * length tokens)
  has_few_parts = if_read tokens _ (λ tree same. omega (arith, counted.in_program tokens ((program_read tokens).holds tree same).0)) result is

  pub lies_within : (len : ℕ) → SpansRise len tokens → IfOk result (λ tree. each_tree (within len) tree ≡ true)
  lies_within len rise =
      if_read tokens _ (λ tree same. let whole = ((program_read tokens).holds tree same).0 in
      fitting.in_program tokens (within len) (length tokens - 1) (λ i value h. refl)
      (λ i le. one_within tokens len rise i (omega (arith, advance.whole tokens whole))) (λ i j lt le. cover_within tokens len rise i j lt (omega arith)) whole (omega arith)) result is

  pub numbers_pass : (passes : ℕ → Bool) → NumbersPass passes tokens → IfOk result (λ tree. each_tree (numbered passes) tree ≡ true)
  numbers_pass passes all =
      if_read tokens _ (λ tree same. fitting.in_program tokens (numbered passes) (length tokens - 1) (number_passes tokens passes all) (λ i le. refl) (λ i j lt le. refl)
      ((program_read tokens).holds tree same).0 (omega arith)) result is

  pub fits_text : (len : ℕ) → SpansRise len tokens → NumbersFit tokens → IfOk result (λ tree. each_tree (fits len) tree ≡ true)
  fits_text len rise small =
      if_read tokens _ (λ tree same. let whole = ((program_read tokens).holds tree same).0 in
      fitting.in_program tokens (fits len) (length tokens - 1) (number_fits tokens small)
      (λ i le. one_within tokens len rise i (omega (arith, advance.whole tokens whole))) (λ i j lt le. cover_within tokens len rise i j lt (omega arith)) whole (omega arith)) result is

  pub is_ordered : (len : ℕ) → SpansRise len tokens → IfOk result (λ tree. IsRising 0 (tree_starts tree))
  is_ordered len rise =
      if_read tokens _ (λ tree same. rising tokens len rise 0 0 (length tokens) (tree_starts tree) (λ k after here. omega arith) (omega arith)
      (ordered.in_program tokens ((program_read tokens).holds tree same).0).placed) result is
