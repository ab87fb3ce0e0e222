-- Constants, labels and lists of identifiers that are read are those of the grammar.
use Rattle.std.proofs.Common.{◌≡◌, ℕ, ◌+◌, List, Option, Some, None, refl}
use Rattle.pas_lexer.specs.declared.token.Token.{Token}
use Rattle.pas_lexer.specs.declared.token.TokenKind.{TokenKind}
use Rattle.pas_lexer.specs.declared.token.TokenKind.TheVariants as kind
use Rattle.pas_lexer.specs.declared.token.Symbol.TheVariants as s
use Rattle.pas_tree.specs.declared.constant.Sign.{Sign}
use Rattle.pas_parser.specs.Constant.{label, label_by, constant_value, constant_value_by, constant, constant_by, ident, idents, labels, constants}
use Rattle.pas_parser.specs.Look.{kind_at}
use Rattle.pas_parser.specs.Operator.{sign}
use Rattle.pas_parser.specs.Grammar.Word.{IsName}
use Rattle.pas_parser.specs.Grammar.Constant as g
use Rattle.pas_parser.proofs.Sound.Word.{Holds, bind, pure, fails, ident_read, separated_read}

module _ (tokens : List Token) where
  label_by_read : (i : ℕ) (o : Option TokenKind) → kind_at tokens i ≡ o → Holds (λ r. g.IsLabel tokens r.tree i r.next) (label_by tokens i o)
  unfolding label_by
  label_by_read i None h = fails
  label_by_read i (Some (kind.Number value)) h = pure (g.label (record { here = h; next = refl }))
  label_by_read i (Some _) h = fails

  pub label_read : (i : ℕ) → Holds (λ r. g.IsLabel tokens r.tree i r.next) (label tokens i)
  unfolding label
  label_read i = label_by_read i (kind_at tokens i) refl

  constant_value_by_read : (i : ℕ) (o : Option TokenKind) → kind_at tokens i ≡ o → Holds (λ r. g.IsConstantValue tokens r.tree i r.next) (constant_value_by tokens i o)
  unfolding constant_value_by
  constant_value_by_read i None h = fails
  constant_value_by_read i (Some (kind.Number value)) h = pure (g.number (record { here = h; next = refl }))
  constant_value_by_read i (Some kind.Ident) h = pure (g.named (record { here = h; next = refl }))
  constant_value_by_read i (Some _) h = fails

  constant_value_read : (i : ℕ) → Holds (λ r. g.IsConstantValue tokens r.tree i r.next) (constant_value tokens i)
  unfolding constant_value
  constant_value_read i = constant_value_by_read i (kind_at tokens i) refl

  constant_by_read : (i : ℕ) (o : Option Sign) → sign (kind_at tokens i) ≡ o → Holds (λ r. g.IsConstant tokens r.tree i r.next) (constant_by tokens i o)
  unfolding constant_by
  constant_by_read i None h = bind (constant_value_read i) (λ found hf. pure (g.plain hf))
  constant_by_read i (Some before) h = bind (constant_value_read (i + 1)) (λ found hf. pure (g.signed (record { here = h; next = refl }) hf))

  pub constant_read : (i : ℕ) → Holds (λ r. g.IsConstant tokens r.tree i r.next) (constant tokens i)
  unfolding constant
  constant_read i = constant_by_read i (sign (kind_at tokens i)) refl

  name_read : (i : ℕ) → Holds (λ r. IsName tokens r.tree i r.next) (ident tokens i)
  unfolding ident
  name_read i = bind (ident_read tokens i) (λ next h. pure (record { token = h; place = refl }))

  pub names_read : (i : ℕ) → Holds (λ r. g.IsNames tokens r.tree i r.next) (idents tokens i)
  unfolding idents
  names_read i = separated_read tokens s.Comma (ident tokens) name_read i

  pub labels_read : (i : ℕ) → Holds (λ r. g.IsLabels tokens r.tree i r.next) (labels tokens i)
  unfolding labels
  labels_read i = separated_read tokens s.Comma (label tokens) label_read i

  pub constants_read : (i : ℕ) → Holds (λ r. g.IsConstants tokens r.tree i r.next) (constants tokens i)
  unfolding constants
  constants_read i = separated_read tokens s.Comma (constant tokens) constant_read i
