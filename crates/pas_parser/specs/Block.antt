-- Blocks, their declarations (ISO 7185, 6.2) and routines (6.6).
use Rattle.std.specs.Prelude.{ℕ, zero, suc, ◌+◌, Bool, true, false, not, ◌||◌, if◌then◌else◌, List, [], Option, Some, None, Ok, Err}
use Rattle.px_base.specs.declared.place.Span.{Span}
use Rattle.pas_lexer.specs.declared.token.Token.{Token}
use Rattle.pas_lexer.specs.declared.token.TokenKind.{TokenKind}
use Rattle.pas_lexer.specs.declared.token.TokenKind.TheVariants as kind
use Rattle.pas_lexer.specs.declared.token.Symbol.TheVariants as s
use Rattle.pas_lexer.specs.declared.word.Word.{Word}
use Rattle.pas_lexer.specs.declared.word.Word.TheVariants as w
use Rattle.pas_tree.specs.declared.block.Block.{Block, roll-Block}
use Rattle.pas_tree.specs.declared.block.ConstDecl.{ConstDecl}
use Rattle.pas_tree.specs.declared.block.Label.{Label}
use Rattle.pas_tree.specs.declared.block.Routine.{Routine, roll-Routine}
use Rattle.pas_tree.specs.declared.block.RoutineBody.{RoutineBody}
use Rattle.pas_tree.specs.declared.block.RoutineBody.TheVariants as body_of
use Rattle.pas_tree.specs.declared.block.Section.{Section}
use Rattle.pas_tree.specs.declared.block.TypeDecl.{TypeDecl}
use Rattle.pas_tree.specs.declared.block.VarDecl.{VarDecl}
use Rattle.pas_parser.specs.Constant.{constant, idents, labels}
use Rattle.pas_parser.specs.Expr.{refusal}
use Rattle.pas_parser.specs.Look.{kind_at, span_at, is_ident, is_symbol, is_word, expect_ident, expect_symbol, expect_word}
use Rattle.pas_parser.specs.Loop.{parts, separated}
use Rattle.pas_parser.specs.Outcome.{◌>>=◌}
use Rattle.pas_parser.specs.Reading.{listed}
use Rattle.pas_parser.specs.Statement.{Reader, sequence, statement}
use Rattle.pas_parser.specs.TypeExpr.{type_expr}

unfoldable pub begins_block : Option TokenKind → Bool
begins_block (Some (kind.Word w.WLabel)) = true
begins_block (Some (kind.Word w.WConst)) = true
begins_block (Some (kind.Word w.WType)) = true
begins_block (Some (kind.Word w.WVar)) = true
begins_block (Some (kind.Word w.WProcedure)) = true
begins_block (Some (kind.Word w.WFunction)) = true
begins_block (Some (kind.Word w.WBegin)) = true
begins_block _ = false

unfoldable pub begins_routine : Option TokenKind → Bool
begins_routine (Some (kind.Word w.WProcedure)) = true
begins_routine (Some (kind.Word w.WFunction)) = true
begins_routine _ = false

module _ (tokens : List Token) where
  -- `["label" labels ";"]`
  unfoldable pub label_part : Reader tokens (List Label)
  label_part at =
      if is_word w.WLabel (kind_at tokens at)
      then (do
        found ← labels tokens (at + 1)
        next ← expect_symbol tokens s.Semicolon found.next
        Ok (record { tree = found.tree; next = next }))
      else Ok (record { tree = []; next = at })

  -- `declaration {declaration}`, where an identifier begins each
  unfoldable pub declarations : {T : Type 0} → Reader tokens T → Reader tokens (List T)
  declarations declaration at = do
    first ← declaration at
    parts tokens (λ next. is_ident (kind_at tokens next)) declaration (listed first)

  -- `[word declarations]`
  unfoldable pub declaration_part : {T : Type 0} → Word → Reader tokens T → Reader tokens (List T)
  declaration_part word declaration at =
      if is_word word (kind_at tokens at) then declarations declaration (at + 1) else Ok (record { tree = []; next = at })

  -- `ident "=" constant ";"`
  unfoldable pub const_decl : Reader tokens ConstDecl
  const_decl at = do
    equal ← expect_ident tokens at
    from ← expect_symbol tokens s.Equal equal
    value ← constant tokens from
    next ← expect_symbol tokens s.Semicolon value.next
    Ok (record { tree = record { name = span_at tokens at; value = value.tree }; next = next })

  unfoldable pub const_part : Reader tokens (List ConstDecl)
  const_part = declaration_part w.WConst const_decl

  -- `ident "=" type ";"`
  unfoldable pub type_decl : ℕ → Reader tokens TypeDecl
  type_decl levels at = do
    equal ← expect_ident tokens at
    from ← expect_symbol tokens s.Equal equal
    found ← type_expr tokens levels from
    next ← expect_symbol tokens s.Semicolon found.next
    Ok (record { tree = record { name = span_at tokens at; of_type = found.tree }; next = next })

  unfoldable pub type_part : ℕ → Reader tokens (List TypeDecl)
  type_part levels = declaration_part w.WType (type_decl levels)

  -- `idents ":" type ";"`
  unfoldable pub var_decl : ℕ → Reader tokens VarDecl
  var_decl levels at = do
    names ← idents tokens at
    from ← expect_symbol tokens s.Colon names.next
    found ← type_expr tokens levels from
    next ← expect_symbol tokens s.Semicolon found.next
    Ok (record { tree = record { names = names.tree; of_type = found.tree }; next = next })

  unfoldable pub var_part : ℕ → Reader tokens (List VarDecl)
  var_part levels = declaration_part w.WVar (var_decl levels)

  -- `["var"] idents ":" ident`
  unfoldable pub section : Reader tokens Section
  section at = do
    names ← idents tokens (if is_word w.WVar (kind_at tokens at) then at + 1 else at)
    of_type ← expect_symbol tokens s.Colon names.next
    next ← expect_ident tokens of_type
    Ok (record { tree = record { by_var = is_word w.WVar (kind_at tokens at); names = names.tree; of_type = span_at tokens of_type }; next = next })

  -- `section {";" section}`
  unfoldable pub sections : Reader tokens (List Section)
  sections = separated tokens s.Semicolon section

  -- `["(" sections ")"]`
  unfoldable pub formals : Reader tokens (List Section)
  formals at =
      if is_symbol s.LeftParen (kind_at tokens at)
      then (do
        found ← sections (at + 1)
        next ← expect_symbol tokens s.RightParen found.next
        Ok (record { tree = found.tree; next = next }))
      else Ok (record { tree = []; next = at })

  -- `[":" ident]`, which only a function has
  unfoldable pub result_type : Bool → Reader tokens (Option Span)
  result_type function at =
      if not function || not (is_symbol s.Colon (kind_at tokens at))
      then Ok (record { tree = None; next = at })
      else (do
        next ← expect_ident tokens (at + 1)
        Ok (record { tree = Some (span_at tokens (at + 1)); next = next }))

  -- `block` reads a block inside this one.
  module _ (block : Reader tokens Block) where
    -- `block | ident`
    unfoldable pub routine_body : Reader tokens RoutineBody
    routine_body at =
        if is_ident (kind_at tokens at)
        then Ok (record { tree = body_of.Word (span_at tokens at); next = at + 1 })
        else (do
          found ← block at
          Ok (record { tree = body_of.Block found.tree; next = found.next }))

    -- a procedure or a function with the semicolon after it
    unfoldable pub routine : Reader tokens Routine
    routine at = do
      from ← expect_ident tokens (at + 1)
      params ← formals from
      found ← result_type (is_word w.WFunction (kind_at tokens at)) params.next
      first ← expect_symbol tokens s.Semicolon found.next
      body ← routine_body first
      next ← expect_symbol tokens s.Semicolon body.next
      Ok (record {
        tree = roll-Routine (record {
          name = span_at tokens (at + 1);
          function = is_word w.WFunction (kind_at tokens at);
          formals = params.tree;
          result = found.tree;
          body = body.tree;
        });
        next = next;
      })

    -- `{routine ";"}`
    unfoldable pub routines : Reader tokens (List Routine)
    routines at = parts tokens (λ next. begins_routine (kind_at tokens next)) routine (record { tree = []; next = at })

    -- the declarations and the statement part, with the levels that their parts have
    unfoldable pub measured_block : ℕ → Reader tokens Block
    measured_block levels at = do
      labels ← label_part at
      consts ← const_part labels.next
      types ← type_part levels consts.next
      vars ← var_part levels types.next
      inner ← routines vars.next
      first ← expect_word tokens w.WBegin inner.next
      found ← sequence tokens (statement tokens levels) first
      next ← expect_word tokens w.WEnd found.next
      Ok (record {
        tree = roll-Block (record {
          labels = labels.tree;
          consts = consts.tree;
          types = types.tree;
          vars = vars.tree;
          routines = inner.tree;
          «begin» = span_at tokens inner.next;
          body = found.tree;
          «end» = span_at tokens found.next;
        });
        next = next;
      })

  -- a block, which is a level of its own
  unfoldable pub block : ℕ → Reader tokens Block
  block zero at = Err (refusal (begins_block (kind_at tokens at)) at)
  block (suc levels) at = measured_block (block levels) levels at
