-- Blocks, their declarations (ISO 7185, 6.2) and routines (6.6).
use Rattle.std.specs.Prelude.{ℕ, Bool, true, false, List, [], ◌∷◌, Option, Some, None}
use Rattle.px_base.specs.declared.place.Span.{Span}
use Rattle.pas_lexer.specs.declared.token.Token.{Token}
use Rattle.pas_lexer.specs.declared.token.Symbol.TheVariants as s
use Rattle.pas_lexer.specs.declared.word.Word.{Word}
use Rattle.pas_lexer.specs.declared.word.Word.TheVariants as w
use Rattle.pas_tree.specs.declared.block.Block.{Block, roll-Block}
use Rattle.pas_tree.specs.declared.block.ConstDecl.{ConstDecl}
use Rattle.pas_tree.specs.declared.block.Label.{Label}
use Rattle.pas_tree.specs.declared.block.Routine.{Routine, roll-Routine}
use Rattle.pas_tree.specs.declared.block.RoutineBody.{RoutineBody}
use Rattle.pas_tree.specs.declared.block.RoutineBody.TheVariants as body_of
use Rattle.pas_tree.specs.declared.block.Section.{Section}
use Rattle.pas_tree.specs.declared.block.TypeDecl.{TypeDecl}
use Rattle.pas_tree.specs.declared.block.VarDecl.{VarDecl}
use Rattle.pas_tree.specs.declared.constant.Constant.{Constant}
use Rattle.pas_tree.specs.declared.statement.Statement.{Statement}
use Rattle.pas_tree.specs.declared.type_expr.TypeExpr.{TypeExpr}
use Rattle.pas_parser.specs.Look.{span_at}
use Rattle.pas_parser.specs.Grammar.Word.{IsSymbol, IsWord, IsIdent, OneOrMore, Separated}
use Rattle.pas_parser.specs.Grammar.Constant.{IsConstant, IsLabels, IsNames}
use Rattle.pas_parser.specs.Grammar.Statement.{IsSequence}
use Rattle.pas_parser.specs.Grammar.TypeExpr.{IsType}

module _ (tokens : List Token) where
  -- ["label" number {"," number} ";"]
  pub data IsLabelPart : List Label → ℕ → ℕ → Type 0 where
    no_labels : {i : ℕ} → IsLabelPart [] i i
    labels : {i j k l : ℕ} {labels : List Label} → IsWord tokens w.WLabel i j → IsLabels tokens labels j k → IsSymbol tokens s.Semicolon k l → IsLabelPart labels i l

  -- [word declaration {declaration}]
  pub data IsPart {T : Type 0} (word : Word) (Declaration : T → ℕ → ℕ → Type 0) : List T → ℕ → ℕ → Type 0 where
    no_part : {i : ℕ} → IsPart word Declaration [] i i
    part : {i j k : ℕ} {declarations : List T} → IsWord tokens word i j → OneOrMore Declaration declarations j k → IsPart word Declaration declarations i k

  -- ident "=" constant ";"
  pub data IsConstDecl : ConstDecl → ℕ → ℕ → Type 0 where
    const_decl : {i j k l m : ℕ} {value : Constant} → IsIdent tokens i j → IsSymbol tokens s.Equal j k → IsConstant tokens value k l → IsSymbol tokens s.Semicolon l m →
        IsConstDecl (record { name = span_at tokens i; value = value }) i m

  -- ident "=" type ";"
  pub data IsTypeDecl : TypeDecl → ℕ → ℕ → Type 0 where
    type_decl : {i j k l m : ℕ} {of_type : TypeExpr} → IsIdent tokens i j → IsSymbol tokens s.Equal j k → IsType tokens of_type k l → IsSymbol tokens s.Semicolon l m →
        IsTypeDecl (record { name = span_at tokens i; of_type = of_type }) i m

  -- ident {"," ident} ":" type ";"
  pub data IsVarDecl : VarDecl → ℕ → ℕ → Type 0 where
    var_decl : {i j k l m : ℕ} {names : List Span} {of_type : TypeExpr} → IsNames tokens names i j → IsSymbol tokens s.Colon j k → IsType tokens of_type k l → IsSymbol tokens s.Semicolon l m →
        IsVarDecl (record { names = names; of_type = of_type }) i m

  -- ["var"]
  pub data IsMode : Bool → ℕ → ℕ → Type 0 where
    by_value : {i : ℕ} → IsMode false i i
    by_var : {i j : ℕ} → IsWord tokens w.WVar i j → IsMode true i j

  -- section = ["var"] ident {"," ident} ":" ident
  pub data IsSection : Section → ℕ → ℕ → Type 0 where
    section : {i j k l m : ℕ} {names : List Span} {by_var : Bool} → IsMode by_var i j → IsNames tokens names j k → IsSymbol tokens s.Colon k l → IsIdent tokens l m →
        IsSection (record { by_var = by_var; names = names; of_type = span_at tokens l }) i m

  -- formals = ["(" section {";" section} ")"]
  pub data IsFormals : List Section → ℕ → ℕ → Type 0 where
    no_formals : {i : ℕ} → IsFormals [] i i
    formals : {i j k l : ℕ} {sections : List Section} → IsSymbol tokens s.LeftParen i j → Separated (IsSymbol tokens s.Semicolon) IsSection sections j k → IsSymbol tokens s.RightParen k l → IsFormals sections i l

  -- "procedure" | "function"
  pub data IsRoutineWord : Bool → ℕ → ℕ → Type 0 where
    procedure : {i j : ℕ} → IsWord tokens w.WProcedure i j → IsRoutineWord false i j
    function : {i j : ℕ} → IsWord tokens w.WFunction i j → IsRoutineWord true i j

  -- [":" ident], which only a function has
  pub data IsResult : Bool → Option Span → ℕ → ℕ → Type 0 where
    no_result : {function : Bool} {i : ℕ} → IsResult function None i i
    result : {i j k : ℕ} → IsSymbol tokens s.Colon i j → IsIdent tokens j k → IsResult true (Some (span_at tokens j)) i k

  mutual
    -- The parts of a block in their order: labels, constants, types, variables, routines, "begin" sequence "end".
    pub data IsBlock : Block → ℕ → ℕ → Type 0 where
      block : {i j k l m n o p q : ℕ} {labels : List Label} {consts : List ConstDecl} {types : List TypeDecl} {vars : List VarDecl} {routines : List Routine} {body : List Statement} →
          IsLabelPart labels i j → IsPart w.WConst IsConstDecl consts j k → IsPart w.WType IsTypeDecl types k l → IsPart w.WVar IsVarDecl vars l m → IsRoutines routines m n →
          IsWord tokens w.WBegin n o → IsSequence tokens body o p → IsWord tokens w.WEnd p q →
          IsBlock (roll-Block (record { labels = labels; consts = consts; types = types; vars = vars; routines = routines; «begin» = span_at tokens n; body = body; «end» = span_at tokens p })) i q

    -- {routine}
    pub data IsRoutines : List Routine → ℕ → ℕ → Type 0 where
      no_routine : {i : ℕ} → IsRoutines [] i i
      routines : {i j k : ℕ} {x : Routine} {xs : List Routine} → IsRoutine x i j → IsRoutines xs j k → IsRoutines (x ∷ xs) i k

    -- ("procedure" | "function") ident formals [":" ident] ";" (block | ident) ";"
    pub data IsRoutine : Routine → ℕ → ℕ → Type 0 where
      routine : {i j k l m n o p : ℕ} {function : Bool} {formals : List Section} {result : Option Span} {body : RoutineBody} →
          IsRoutineWord function i j → IsIdent tokens j k → IsFormals formals k l → IsResult function result l m → IsSymbol tokens s.Semicolon m n → IsRoutineBody body n o → IsSymbol tokens s.Semicolon o p →
          IsRoutine (roll-Routine (record { name = span_at tokens j; function = function; formals = formals; result = result; body = body })) i p

    -- block | ident
    pub data IsRoutineBody : RoutineBody → ℕ → ℕ → Type 0 where
      word : {i j : ℕ} → IsIdent tokens i j → IsRoutineBody (body_of.Word (span_at tokens i)) i j
      inner : {i j : ℕ} {block : Block} → IsBlock block i j → IsRoutineBody (body_of.Block block) i j
