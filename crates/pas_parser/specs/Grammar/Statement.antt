-- Statements (ISO 7185, 6.8) with their labels and assertions.
use Rattle.std.specs.Prelude.{◌≢◌, ℕ, Bool, true, false, List, [], ◌∷◌, Option, Some, None}
use Rattle.pas_lexer.specs.declared.token.Token.{Token}
use Rattle.pas_lexer.specs.declared.token.TokenKind.TheVariants as kind
use Rattle.pas_lexer.specs.declared.token.Symbol.TheVariants as s
use Rattle.pas_lexer.specs.declared.word.Word.TheVariants as w
use Rattle.pas_tree.specs.declared.block.Label.{Label}
use Rattle.pas_tree.specs.declared.constant.Constant.{Constant}
use Rattle.pas_tree.specs.declared.expr.Access.{Access}
use Rattle.pas_tree.specs.declared.expr.Actual.{Actual}
use Rattle.pas_tree.specs.declared.expr.Expr.{Expr}
use Rattle.pas_tree.specs.declared.statement.Assertion.{Assertion}
use Rattle.pas_tree.specs.declared.statement.Body.{Body}
use Rattle.pas_tree.specs.declared.statement.Body.TheVariants as b
use Rattle.pas_tree.specs.declared.statement.Element.{Element, roll-Element}
use Rattle.pas_tree.specs.declared.statement.Statement.{Statement, roll-Statement}
use Rattle.pas_parser.specs.Look.{kind_at, span_at, cover}
use Rattle.pas_parser.specs.Grammar.Word.{IsToken, IsSymbol, IsWord, IsIdent, Many}
use Rattle.pas_parser.specs.Grammar.Constant.{IsLabel, IsConstants}
use Rattle.pas_parser.specs.Grammar.Expr.{IsExpr, IsAccess, IsArguments}

module _ (tokens : List Token) where
  -- [label ":"]
  pub data IsLabelPart : Option Label → ℕ → ℕ → Type 0 where
    unlabelled : {i : ℕ} → IsLabelPart None i i
    labelled : {i j k : ℕ} {label : Label} → IsLabel tokens label i j → IsSymbol tokens s.Colon j k → IsLabelPart (Some label) i k

  -- assertion = "{%" expr ["?"] "%}"
  pub data IsAssertion : Assertion → ℕ → ℕ → Type 0 where
    always : {i j k l : ℕ} {cond : Expr} → IsToken tokens kind.AssertStart i j → IsExpr tokens cond j k → IsToken tokens kind.AssertEnd k l →
        IsAssertion (record { cond = cond; sometime = false; span = cover tokens i l }) i l
    sometime : {i j k l m : ℕ} {cond : Expr} → IsToken tokens kind.AssertStart i j → IsExpr tokens cond j k → IsToken tokens kind.Query k l → IsToken tokens kind.AssertEnd l m →
        IsAssertion (record { cond = cond; sometime = true; span = cover tokens i m }) i m

  -- "to" | "downto"
  pub data IsDirection : Bool → ℕ → ℕ → Type 0 where
    up : {i j : ℕ} → IsWord tokens w.WTo i j → IsDirection false i j
    down : {i j : ℕ} → IsWord tokens w.WDownto i j → IsDirection true i j

  -- An `if` without an `else` is not followed by `else` (ISO 7185, 6.8.3.4): so each `else` is that of the nearest `if`.
  abbrev pub NoElse : ℕ → Type 0
  NoElse i = kind_at tokens i ≢ Some (kind.Word w.WElse)

  mutual
    -- statement = [label ":"] {assertion} [body]
    pub data IsStatement : Statement → ℕ → ℕ → Type 0 where
      statement : {i j k l : ℕ} {label : Option Label} {asserts : List Assertion} {body : Body} → IsLabelPart label i j → Many IsAssertion asserts j k → IsBody body k l →
          IsStatement (roll-Statement (record { label = label; asserts = asserts; body = body; at = span_at tokens k })) i l

    pub data IsBody : Body → ℕ → ℕ → Type 0 where
      empty : {i : ℕ} → IsBody b.Empty i i
      -- ident arguments
      call : {i j k : ℕ} {actuals : List Actual} → IsIdent tokens i j → IsArguments tokens actuals j k → IsBody (b.Call (span_at tokens i) actuals) i k
      -- access ":=" expr
      assign : {i j k l : ℕ} {target : Access} {x : Expr} → IsAccess tokens target i j → IsSymbol tokens s.Assign j k → IsExpr tokens x k l → IsBody (b.Assign target x) i l
      -- "goto" label
      goto : {i j k : ℕ} {label : Label} → IsWord tokens w.WGoto i j → IsLabel tokens label j k → IsBody (b.Goto label) i k
      -- "begin" sequence "end"
      compound : {i j k l : ℕ} {body : List Statement} → IsWord tokens w.WBegin i j → IsSequence body j k → IsWord tokens w.WEnd k l → IsBody (b.Begin body) i l
      -- "if" expr "then" statement ["else" statement]
      if_then : {i j k l m : ℕ} {cond : Expr} {chosen : Statement} → IsWord tokens w.WIf i j → IsExpr tokens cond j k → IsWord tokens w.WThen k l → IsStatement chosen l m → NoElse m →
          IsBody (b.If cond chosen None) i m
      if_else : {i j k l m n o : ℕ} {cond : Expr} {chosen other : Statement} → IsWord tokens w.WIf i j → IsExpr tokens cond j k → IsWord tokens w.WThen k l → IsStatement chosen l m →
          IsWord tokens w.WElse m n → IsStatement other n o → IsBody (b.If cond chosen (Some other)) i o
      -- "case" expr "of" element {";" element} [";"] "end"
      case : {i j k l m n o : ℕ} {of : Expr} {arms : List Element} → IsWord tokens w.WCase i j → IsExpr tokens of j k → IsWord tokens w.WOf k l → IsElements arms l m →
          IsLastSemicolon m n → IsWord tokens w.WEnd n o → IsBody (b.Case of arms) i o
      -- "while" expr "do" statement
      while : {i j k l m : ℕ} {cond : Expr} {body : Statement} → IsWord tokens w.WWhile i j → IsExpr tokens cond j k → IsWord tokens w.WDo k l → IsStatement body l m →
          IsBody (b.While cond body) i m
      -- "repeat" sequence "until" expr
      repeat : {i j k l m : ℕ} {body : List Statement} {cond : Expr} → IsWord tokens w.WRepeat i j → IsSequence body j k → IsWord tokens w.WUntil k l → IsExpr tokens cond l m →
          IsBody (b.Repeat body (span_at tokens k) cond) i m
      -- "for" ident ":=" expr ("to" | "downto") expr "do" statement
      for : {i j k l m n o p q : ℕ} {first last : Expr} {down : Bool} {body : Statement} → IsWord tokens w.WFor i j → IsIdent tokens j k → IsSymbol tokens s.Assign k l → IsExpr tokens first l m →
          IsDirection down m n → IsExpr tokens last n o → IsWord tokens w.WDo o p → IsStatement body p q → IsBody (b.For (span_at tokens j) first down last body) i q

    -- sequence = statement {";" statement}
    pub data IsSequence : List Statement → ℕ → ℕ → Type 0 where
      one_statement : {i j : ℕ} {x : Statement} → IsStatement x i j → IsSequence (x ∷ []) i j
      more_statements : {i j k l : ℕ} {x : Statement} {xs : List Statement} → IsStatement x i j → IsSymbol tokens s.Semicolon j k → IsSequence xs k l → IsSequence (x ∷ xs) i l

    -- element {";" element}
    pub data IsElements : List Element → ℕ → ℕ → Type 0 where
      one_element : {i j : ℕ} {x : Element} → IsElement x i j → IsElements (x ∷ []) i j
      more_elements : {i j k l : ℕ} {x : Element} {xs : List Element} → IsElement x i j → IsSymbol tokens s.Semicolon j k → IsElements xs k l → IsElements (x ∷ xs) i l

    -- element = constant {"," constant} ":" statement
    pub data IsElement : Element → ℕ → ℕ → Type 0 where
      element : {i j k l : ℕ} {consts : List Constant} {body : Statement} → IsConstants tokens consts i j → IsSymbol tokens s.Colon j k → IsStatement body k l →
          IsElement (roll-Element (record { consts = consts; body = body })) i l

    -- [";"]
    pub data IsLastSemicolon : ℕ → ℕ → Type 0 where
      no_semicolon : {i : ℕ} → IsLastSemicolon i i
      semicolon : {i j : ℕ} → IsSymbol tokens s.Semicolon i j → IsLastSemicolon i j
