-- Blocks that are read are those of the grammar, and no deeper than the levels that were left.
use Rattle.std.proofs.Common.{◌≡◌, ℕ, zero, suc, ◌+◌, ◌≤◌, Bool, true, false, not, ◌||◌, List, [], ◌∷◌, ◌++◌, map, Option, Some, refl, arith, if◌then◌else◌}
use Rattle.pas_lexer.specs.declared.token.Token.{Token}
use Rattle.pas_lexer.specs.declared.token.TokenKind.{TokenKind}
use Rattle.pas_lexer.specs.declared.token.TokenKind.TheVariants as kind
use Rattle.pas_lexer.specs.declared.token.Symbol.TheVariants as s
use Rattle.pas_lexer.specs.declared.word.Word.{Word}
use Rattle.pas_lexer.specs.declared.word.Word.TheVariants as w
use Rattle.pas_tree.specs.declared.block.Block.{Block}
use Rattle.pas_tree.specs.declared.block.Routine.{Routine}
use Rattle.pas_parser.specs.declared.reading.Read.{Read}
use Rattle.pas_parser.specs.Block as spec
use Rattle.pas_parser.specs.Look.{kind_at, span_at, same_word, is_ident, is_word}
use Rattle.pas_parser.specs.Outcome.{Outcome}
use Rattle.pas_parser.specs.Reading.{listed}
use Rattle.pas_parser.specs.Statement.{statement}
use Rattle.pas_parser.specs.Depth.{greatest, type_decl_depth, var_decl_depth, routine_body_step, block_step, routine_step, block_depth, routine_depth, routine_body_depth}
use Rattle.pas_parser.specs.Grammar.Block as g
use Rattle.pas_parser.specs.Grammar.Word.{IsSymbol, OneOrMore, only}
use Rattle.pas_parser.proofs.Layers as layer
use Rattle.pas_parser.proofs.Sound.Constant.{constant_read, labels_read, names_read}
use Rattle.pas_parser.proofs.Sound.Lists.{lists_more, one_or_more_end}
use Rattle.pas_parser.proofs.Sound.Statement.{sequence_read, statement_read}
use Rattle.pas_parser.proofs.Sound.TypeExpr.{type_read}
use Rattle.pas_parser.proofs.Sound.Word.{Holds, bind, pure, fails, weaken, choose, symbol_read, symbol_here, word_read, word_here, ident_read, ident_here, separated_read}

-- what the tests for a result type say
is_function : (a b : Bool) → (not a || not b) ≡ false → (a ≡ true) × (b ≡ true)
is_function true true h = (refl, refl)
is_function true false h = absurd (cc)
is_function false b h = absurd (cc)

no_depth : {T : Type 0} (xs : List T) → greatest (map (λ x. 0) xs) ≤ 0
no_depth [] = omega arith
no_depth (x ∷ xs) = omega (arith, no_depth xs)

module _ (tokens : List Token) where
  label_part_read : (i : ℕ) → Holds (λ r. g.IsLabelPart tokens r.tree i r.next) (spec.label_part tokens i)
  unfolding spec.label_part
  label_part_read i =
      choose (λ h. bind (labels_read tokens (i + 1)) (λ found hf. bind (symbol_read tokens s.Semicolon found.next) (λ next hn. pure (g.labels (word_here tokens w.WLabel i h) hf hn))))
      (λ h. pure g.no_labels)

  part_read : {T : Type 0} {Declaration : T → ℕ → ℕ → Type 0} (depth : T → ℕ) (m : ℕ) (word : Word) (declaration : ℕ → Outcome (Read T)) →
      ((i : ℕ) → Holds (λ r. Declaration r.tree i r.next × (depth r.tree ≤ m)) (declaration i)) → (i : ℕ) →
      Holds (λ r. g.IsPart tokens word Declaration r.tree i r.next × (greatest (map depth r.tree) ≤ m)) (spec.declaration_part tokens word declaration i)
  unfolding spec.declaration_part spec.declarations
  part_read {Declaration = Declaration} depth m word declaration reads i =
      choose (λ h. bind (reads (i + 1)) (λ first hf. weaken
      (lists_more tokens Declaration (OneOrMore Declaration) depth m (λ next. is_ident (kind_at tokens next)) (λ j. j) declaration (λ j here. reads j)
      (λ xs x i j l hl here hx. one_or_more_end hl hx) (i + 1) (listed first) (only hf.0) (omega (arith, hf.1)))
      (λ r hr. (g.part (word_here tokens word i h) hr.0, hr.1))))
      (λ h. pure (g.no_part, omega arith))

  const_decl_read : (i : ℕ) → Holds (λ r. g.IsConstDecl tokens r.tree i r.next × (0 ≤ 0)) (spec.const_decl tokens i)
  unfolding spec.const_decl
  const_decl_read i =
      bind (ident_read tokens i) (λ equal h. bind (symbol_read tokens s.Equal equal) (λ from he. bind (constant_read tokens from) (λ value hv. bind (symbol_read tokens s.Semicolon value.next) (λ next hn.
      pure (g.const_decl h he hv hn, omega arith)))))

  const_part_read : (i : ℕ) → Holds (λ r. g.IsPart tokens w.WConst (g.IsConstDecl tokens) r.tree i r.next) (spec.const_part tokens i)
  unfolding spec.const_part
  const_part_read i = weaken (part_read {Declaration = g.IsConstDecl tokens} (λ d. 0) 0 w.WConst (spec.const_decl tokens) const_decl_read i) (λ r h. h.0)

  type_decl_read : (levels i : ℕ) → Holds (λ r. g.IsTypeDecl tokens r.tree i r.next × (type_decl_depth r.tree ≤ levels)) (spec.type_decl tokens levels i)
  unfolding spec.type_decl
  type_decl_read levels i =
      bind (ident_read tokens i) (λ equal h. bind (symbol_read tokens s.Equal equal) (λ from he. bind (type_read tokens levels from) (λ found hf. bind (symbol_read tokens s.Semicolon found.next) (λ next hn.
      pure (g.type_decl h he hf.0 hn, hf.1)))))

  type_part_read : (levels i : ℕ) → Holds (λ r. g.IsPart tokens w.WType (g.IsTypeDecl tokens) r.tree i r.next × (greatest (map type_decl_depth r.tree) ≤ levels)) (spec.type_part tokens levels i)
  unfolding spec.type_part
  type_part_read levels i = part_read type_decl_depth levels w.WType (spec.type_decl tokens levels) (type_decl_read levels) i

  var_decl_read : (levels i : ℕ) → Holds (λ r. g.IsVarDecl tokens r.tree i r.next × (var_decl_depth r.tree ≤ levels)) (spec.var_decl tokens levels i)
  unfolding spec.var_decl
  var_decl_read levels i =
      bind (names_read tokens i) (λ names h. bind (symbol_read tokens s.Colon names.next) (λ from hc. bind (type_read tokens levels from) (λ found hf. bind (symbol_read tokens s.Semicolon found.next) (λ next hn.
      pure (g.var_decl h hc hf.0 hn, hf.1)))))

  var_part_read : (levels i : ℕ) → Holds (λ r. g.IsPart tokens w.WVar (g.IsVarDecl tokens) r.tree i r.next × (greatest (map var_decl_depth r.tree) ≤ levels)) (spec.var_part tokens levels i)
  unfolding spec.var_part
  var_part_read levels i = part_read var_decl_depth levels w.WVar (spec.var_decl tokens levels) (var_decl_read levels) i

  -- ---- headings

  section_by_read : (i : ℕ) (test : Bool) → is_word w.WVar (kind_at tokens i) ≡ test → g.IsMode tokens test i (if test then i + 1 else i)
  section_by_read i true h = g.by_var (word_here tokens w.WVar i h)
  section_by_read i false h = g.by_value

  section_read : (i : ℕ) → Holds (λ r. g.IsSection tokens r.tree i r.next) (spec.section tokens i)
  unfolding spec.section
  section_read i =
      bind (names_read tokens _) (λ names h. bind (symbol_read tokens s.Colon names.next) (λ of_type hc. bind (ident_read tokens of_type) (λ next hn.
      pure (g.section (section_by_read i _ refl) h hc hn))))

  formals_read : (i : ℕ) → Holds (λ r. g.IsFormals tokens r.tree i r.next) (spec.formals tokens i)
  unfolding spec.formals spec.sections
  formals_read i =
      choose (λ h. bind (separated_read tokens s.Semicolon (spec.section tokens) section_read (i + 1)) (λ found hf. bind (symbol_read tokens s.RightParen found.next) (λ next hn.
      pure (g.formals (symbol_here tokens s.LeftParen i h) hf hn))))
      (λ h. pure g.no_formals)

  result_by_read : (function : Bool) (i : ℕ) → function ≡ true → IsSymbol tokens s.Colon i (i + 1) → Holds (λ r. g.IsResult tokens function r.tree i r.next) (spec.result_type tokens function i)
  unfolding spec.result_type
  result_by_read true i e h = choose (λ k. pure g.no_result) (λ k. bind (ident_read tokens (i + 1)) (λ next hn. pure (g.result h hn)))
  result_by_read false i e h = absurd (cc)

  result_read : (function : Bool) (i : ℕ) → Holds (λ r. g.IsResult tokens function r.tree i r.next) (spec.result_type tokens function i)
  unfolding spec.result_type
  result_read true i = choose (λ h. pure g.no_result) (λ h. bind (ident_read tokens (i + 1)) (λ next hn. pure (g.result (symbol_here tokens s.Colon i (is_function true _ h).1) hn)))
  result_read false i = pure g.no_result

  routine_word : (o : Option TokenKind) (i : ℕ) → kind_at tokens i ≡ o → spec.begins_routine o ≡ true → g.IsRoutineWord tokens (is_word w.WFunction o) i (i + 1)
  unfolding spec.begins_routine same_word
  routine_word (Some (kind.Word w.WProcedure)) i e h = g.procedure (record { here = e; next = refl })
  routine_word (Some (kind.Word w.WFunction)) i e h = g.function (record { here = e; next = refl })
  routine_word _ i e h = absurd (cc)

  routines_end : {xs : List Routine} {i j k : ℕ} {x : Routine} → g.IsRoutines tokens xs i j → g.IsRoutine tokens x j k → g.IsRoutines tokens (xs ++ x ∷ []) i k
  routines_end g.no_routine y = g.routines y g.no_routine
  routines_end (g.routines x rest) y = g.routines x (routines_end rest y)

  module _ (levels : ℕ) (block : ℕ → Outcome (Read Block)) (reads : (i : ℕ) → Holds (λ r. g.IsBlock tokens r.tree i r.next × (block_depth r.tree ≤ levels)) (block i)) where
    routine_body_read : (i : ℕ) → Holds (λ r. g.IsRoutineBody tokens r.tree i r.next × (routine_body_depth r.tree ≤ levels)) (spec.routine_body tokens block i)
    unfolding spec.routine_body
    routine_body_read i =
        choose (λ h. pure (g.word (ident_here tokens i h), omega (arith, layer.at_word routine_body_step block_step routine_step (span_at tokens i))))
        (λ h. bind (reads i) (λ found hf. pure (g.inner hf.0, omega (arith, layer.at_inner routine_body_step block_step routine_step found.tree, hf.1))))

    routine_read : (i : ℕ) → spec.begins_routine (kind_at tokens i) ≡ true → Holds (λ r. g.IsRoutine tokens r.tree i r.next × (routine_depth r.tree ≤ levels)) (spec.routine tokens block i)
    unfolding spec.routine
    routine_read i here =
        bind (ident_read tokens (i + 1)) (λ from h. bind (formals_read from) (λ params hp. bind (result_read _ params.next) (λ found hr. bind (symbol_read tokens s.Semicolon found.next) (λ first hs.
        bind (routine_body_read first) (λ body hb. bind (symbol_read tokens s.Semicolon body.next) (λ next hn.
        pure (
          g.routine (routine_word (kind_at tokens i) i refl here) h hp hr hs hb.0 hn,
          omega (arith, layer.at_routine routine_body_step block_step routine_step (span_at tokens (i + 1)) (is_word w.WFunction (kind_at tokens i)) params.tree found.tree body.tree, hb.1),
        )))))))

    routines_read : (i : ℕ) → Holds (λ r. g.IsRoutines tokens r.tree i r.next × (greatest (map routine_depth r.tree) ≤ levels)) (spec.routines tokens block i)
    unfolding spec.routines
    routines_read i =
        lists_more tokens (g.IsRoutine tokens) (g.IsRoutines tokens) routine_depth levels (λ next. spec.begins_routine (kind_at tokens next)) (λ j. j) (spec.routine tokens block)
        routine_read (λ xs x i j l hl here hx. routines_end hl hx) i (record { tree = []; next = i }) g.no_routine (omega arith)

    measured_read : (i : ℕ) → Holds (λ r. g.IsBlock tokens r.tree i r.next × (block_depth r.tree ≤ suc levels)) (spec.measured_block tokens block levels i)
    unfolding spec.measured_block
    measured_read i =
        bind (label_part_read i) (λ labels hl. bind (const_part_read labels.next) (λ consts hc. bind (type_part_read levels consts.next) (λ types ht. bind (var_part_read levels types.next) (λ vars hv.
        bind (routines_read vars.next) (λ inner hi. bind (word_read tokens w.WBegin inner.next) (λ first hb. bind (sequence_read tokens levels (statement tokens levels) (statement_read tokens levels) first) (λ found hf.
        bind (word_read tokens w.WEnd found.next) (λ next hn.
        pure (
          g.block hl hc ht.0 hv.0 hi.0 hb hf.0 hn,
          omega (
            arith,
            layer.at_block routine_body_step block_step routine_step labels.tree consts.tree types.tree vars.tree inner.tree (span_at tokens inner.next) found.tree (span_at tokens found.next),
            ht.1,
            hv.1,
            hi.1,
            hf.1,
          ),
        )))))))))

  pub block_read : (levels i : ℕ) → Holds (λ r. g.IsBlock tokens r.tree i r.next × (block_depth r.tree ≤ levels)) (spec.block tokens levels i)
  unfolding spec.block
  block_read zero i = fails
  block_read (suc levels) i = measured_read levels (spec.block tokens levels) (block_read levels) i
