-- A program that is read is one of the grammar, all tokens belong to it, and it is not deeper than what is allowed.
use Rattle.std.proofs.Common.{◌≡◌, ℕ, ◌+◌, ◌<◌, ◌≤◌, List, length, Option, Some, None, refl, sym, subst, ◌∙◌, inl, inr, slice_get, arith}
use Rattle.std.proofs.lemmas.Option.{none-some, slice_get_cases, slice_get_within}
use Rattle.std.specs.Option.{option_map}
use Rattle.pas_lexer.specs.declared.token.Token.{Token}
use Rattle.pas_lexer.specs.declared.token.TokenKind.{TokenKind}
use Rattle.pas_lexer.specs.declared.token.Symbol.TheVariants as s
use Rattle.pas_lexer.specs.declared.word.Word.TheVariants as w
use Rattle.pas_tree.specs.declared.block.Tree.{Tree}
use Rattle.pas_parser.specs.Look.{kind_at, span_at}
use Rattle.pas_parser.specs.Program as spec
use Rattle.pas_parser.specs.Depth.{tree_depth}
use Rattle.pas_parser.specs.Grammar.Program as g
use Rattle.pas_parser.specs.Grammar.Word.{IsSymbol}
use Rattle.pas_parser.proofs.Sound.Block.{block_read}
use Rattle.pas_parser.proofs.Sound.Constant.{names_read}
use Rattle.pas_parser.proofs.Sound.Word.{Holds, bind, pure, fails, weaken, choose, symbol_read, symbol_here, word_read, ident_read}

module _ (tokens : List Token) where
  parameters_read : (i : ℕ) → Holds (λ j. g.IsParameters tokens i j) (spec.parameters tokens i)
  unfolding spec.parameters
  parameters_read i =
      choose (λ h. bind (names_read tokens (i + 1)) (λ found hf. weaken (symbol_read tokens s.RightParen found.next) (λ next hn. g.parameters (symbol_here tokens s.LeftParen i h) hf hn)))
      (λ h. pure g.no_parameters)

  at_end : (i j : ℕ) → IsSymbol tokens s.Dot i j → kind_at tokens j ≡ None → j ≡ length tokens
  at_end i j h e = omega (arith, inside i (slice_get tokens i) refl h.here, outside j (slice_get tokens j) refl e, h.next)
    where
      inside : {k : TokenKind} (i : ℕ) (o : Option Token) → slice_get tokens i ≡ o → option_map (λ (t : Token). t.kind) o ≡ Some k → i < length tokens
      inside i None e h = absurd (cc)
      inside i (Some t) e h = slice_get_within tokens i t e

      outside : (j : ℕ) (o : Option Token) → slice_get tokens j ≡ o → option_map (λ (t : Token). t.kind) o ≡ None → length tokens ≤ j
      outside j (Some t) e h = absurd (cc)
      outside j None e h = elim (slice_get_cases tokens j).1 [ inl p ↦ absurd (none-some p.0 (sym e ∙ p.2)) | inr p ↦ p.0 ]

  nothing_read : (i j : ℕ) (tree : Tree) → g.IsProgramFrom tokens tree 0 j → tree_depth tree ≤ 200 → IsSymbol tokens s.Dot i j → (o : Option TokenKind) → kind_at tokens j ≡ o →
      Holds (λ t. g.IsProgram tokens t × (tree_depth t ≤ 200)) (spec.nothing_at tokens j tree o)
  unfolding spec.nothing_at
  nothing_read i j tree h low dot None e = pure (subst (λ n. g.IsProgramFrom tokens tree 0 n) (at_end i j dot e) h, low)
  nothing_read i j tree h low dot (Some more) e = fails

  pub program_read : Holds (λ t. g.IsProgram tokens t × (tree_depth t ≤ 200)) (spec.program tokens)
  unfolding spec.program
  program_read =
      bind (word_read tokens w.WProgram 0) (λ name hw. bind (ident_read tokens name) (λ from hi. bind (parameters_read from) (λ semicolon hp. bind (symbol_read tokens s.Semicolon semicolon) (λ first hs.
      bind (block_read tokens 200 first) (λ found hf. bind (symbol_read tokens s.Dot found.next) (λ last hd.
      nothing_read found.next last (record { name = span_at tokens name; block = found.tree }) (g.program hw hi hp hs hf.0 hd) hf.1 hd (kind_at tokens last) refl))))))
