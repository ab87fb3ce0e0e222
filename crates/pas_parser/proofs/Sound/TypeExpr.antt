-- Types that are read are those of the grammar, and no deeper than the levels that were left.
use Rattle.std.proofs.Common.{◌≡◌, ℕ, zero, suc, ◌+◌, ◌≤◌, Bool, true, false, not, ◌||◌, List, refl, arith}
use Rattle.pas_lexer.specs.declared.token.Token.{Token}
use Rattle.pas_lexer.specs.declared.token.Symbol.TheVariants as s
use Rattle.pas_lexer.specs.declared.word.Word.TheVariants as w
use Rattle.pas_tree.specs.declared.type_expr.TypeExpr.{TypeExpr}
use Rattle.pas_parser.specs.Look.{kind_at, span_at, cover, is_word}
use Rattle.pas_parser.specs.Outcome.{Outcome}
use Rattle.pas_parser.specs.declared.reading.Read.{Read}
use Rattle.pas_parser.specs.TypeExpr.{range, index, indexes, array, type_expr}
use Rattle.pas_parser.specs.Depth.{type_step, type_depth}
use Rattle.pas_parser.specs.Grammar.TypeExpr as g
use Rattle.pas_parser.specs.Grammar.Word.{Separated, IsSymbol}
use Rattle.pas_parser.proofs.Layers.{at_type_name, at_range, at_array}
use Rattle.pas_parser.proofs.Sound.Constant.{constant_read}
use Rattle.pas_parser.proofs.Sound.Word.{Holds, bind, pure, fails, weaken, choose, symbol_read, word_read, ident_here, word_here, separated_read}

-- what the tests for an index that is no range say
plain_name : (a b : Bool) → (not a || b) ≡ false → a ≡ true
plain_name true b h = refl
plain_name false b h = absurd (cc)

module _ (tokens : List Token) where
  range_read : (i : ℕ) → Holds (λ r. g.IsIndex tokens r.tree i r.next × (type_depth r.tree ≡ 1)) (range tokens i)
  unfolding range
  range_read i =
      bind (constant_read tokens i) (λ lo hlo. bind (symbol_read tokens s.DotDot lo.next) (λ from hs. bind (constant_read tokens from) (λ hi hhi.
      pure (g.range hlo hs hhi, at_range type_step lo.tree hi.tree (cover tokens i hi.next)))))

  index_read : (i : ℕ) → Holds (λ r. g.IsIndex tokens r.tree i r.next × (type_depth r.tree ≡ 1)) (index tokens i)
  unfolding index
  index_read i =
      choose (λ h. range_read i)
      (λ h. pure (g.named (ident_here tokens i (plain_name _ _ h)), at_type_name type_step (span_at tokens i)))

  indexes_read : (i : ℕ) → Holds (λ r. Separated (IsSymbol tokens s.Comma) (g.IsIndex tokens) r.tree i r.next) (indexes tokens i)
  unfolding indexes
  indexes_read i = separated_read tokens s.Comma (index tokens) (λ i. weaken (index_read i) (λ r h. h.0)) i

  array_read : (levels : ℕ) (element : ℕ → Outcome (Read TypeExpr)) → ((i : ℕ) → Holds (λ r. g.IsType tokens r.tree i r.next × (type_depth r.tree ≤ levels)) (element i)) →
      (i : ℕ) → is_word w.WArray (kind_at tokens i) ≡ true → Holds (λ r. g.IsType tokens r.tree i r.next × (type_depth r.tree ≤ suc levels)) (array tokens element i)
  unfolding array
  array_read levels element reads i here =
      bind (symbol_read tokens s.LeftBracket (i + 1)) (λ first h. bind (indexes_read first) (λ found hf. bind (symbol_read tokens s.RightBracket found.next) (λ close hc.
      bind (word_read tokens w.WOf close) (λ from ho. bind (reads from) (λ part hp.
      let depth = at_array type_step found.tree part.tree (cover tokens i part.next) in
      pure (g.array (word_here tokens w.WArray i here) h hf hc ho hp.0, omega (arith, depth, hp.1)))))))

  pub type_read : (levels i : ℕ) → Holds (λ r. g.IsType tokens r.tree i r.next × (type_depth r.tree ≤ levels)) (type_expr tokens levels i)
  unfolding type_expr
  type_read zero i = fails
  type_read (suc levels) i =
      choose (λ h. array_read levels (type_expr tokens levels) (type_read levels) i h)
      (λ h. weaken (index_read i) (λ r hr. (g.simple hr.0, omega (arith, hr.1))))
