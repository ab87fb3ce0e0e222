-- The loop over the operators of one precedence.
use Rattle.std.proofs.Common.{◌≡◌, ℕ, ◌+◌, ◌<◌, ◌≤◌, true, false, List, length, Option, Some, None, Ok, Err, sym, ap, ◌∙◌, nat_le, arith, if◌then◌else◌}
use Rattle.std.proofs.lemmas.Bool.{lt-leb}
use Rattle.std.proofs.lemmas.Bool.Decides.{nat_tests}
use Rattle.px_base.specs.declared.operator.BinOp.{BinOp}
use Rattle.pas_lexer.specs.declared.token.Token.{Token}
use Rattle.pas_lexer.specs.declared.token.TokenKind.{TokenKind}
use Rattle.pas_tree.specs.declared.expr.Expr.{Expr}
use Rattle.pas_parser.specs.declared.fault.ParseFault.{ParseFault}
use Rattle.pas_parser.specs.declared.fault.ParseFault.TheVariants.{TooDeep}
use Rattle.pas_parser.specs.declared.reading.Measured.{Measured}
use Rattle.pas_parser.specs.Expr.{binary, operation, operation_by, operations}
use Rattle.pas_parser.specs.Look.{kind_at}
use Rattle.pas_parser.specs.Outcome.{Outcome, ◌>>=◌}
use Rattle.pas_parser.specs.Reading.{deeper}
use Rattle.pas_parser.proofs.Loops.{Goes, goes_on, goes_wrong, goes_to_end}

-- what the loop keeps
pub record Applies (tokens : List Token) (operator : Option TokenKind → Option BinOp) (levels at : ℕ) (operand : ℕ → Outcome (Measured Expr))
    (whole : Outcome (Measured Expr)) (left : Measured Expr) : Type 0 where
  pub goes : Goes (operation tokens operator levels at operand) whole (length tokens) left.next left

module _ (tokens : List Token) (operator : Option TokenKind → Option BinOp) (levels at : ℕ) (operand : ℕ → Outcome (Measured Expr)) where
  step_at : (left : Measured Expr) (op : BinOp) → operator (kind_at tokens left.next) ≡ Some op → left.height < levels →
      operation tokens operator levels at operand left ≡ Some (operand (left.next + 1) >>= λ right. Ok (deeper (binary tokens at op left right)))
  unfolding operation operation_by
  step_at left op here low =
      let test : nat_le levels left.height ≡ false = lt-leb levels left.height low in
      ap (operation_by tokens levels at operand left) here ∙
      ap (λ b. Some (if b then Err (TooDeep left.next) else (operand (left.next + 1) >>= λ right. Ok (deeper (binary tokens at op left right))))) test

module _ {tokens : List Token} {operator : Option TokenKind → Option BinOp} {levels at : ℕ} {operand : ℕ → Outcome (Measured Expr)} {whole : Outcome (Measured Expr)} where
  pub applies_start : (left : Measured Expr) → operations tokens operator levels at operand left ≡ whole → Applies tokens operator levels at operand whole left
  unfolding operations
  applies_start left rest = record { goes = record { turns = length tokens; enough = omega arith; rest = rest } }

  pub applies_more : (left right longer : Measured Expr) (op : BinOp) → Applies tokens operator levels at operand whole left →
      operator (kind_at tokens left.next) ≡ Some op → left.next < length tokens → left.height < levels →
      operand (left.next + 1) ≡ Ok right → longer ≡ deeper (binary tokens at op left right) → left.next < longer.next →
      Applies tokens operator levels at operand whole longer
  applies_more left right longer op a here inside low got same moves = record {
    goes =
        goes_on longer.next left longer a.goes
        (step_at tokens operator levels at operand left op here low ∙ ap (λ o. Some (o >>= λ r. Ok (deeper (binary tokens at op left r)))) got ∙ ap (λ l. Some (Ok l)) (sym same))
        inside moves;
  }

  pub applies_wrong : (left : Measured Expr) (op : BinOp) (fault : ParseFault) → Applies tokens operator levels at operand whole left →
      operator (kind_at tokens left.next) ≡ Some op → left.next < length tokens → left.height < levels →
      operand (left.next + 1) ≡ Err fault → whole ≡ Err fault
  applies_wrong left op fault a here inside low got =
      goes_wrong left fault a.goes
      (step_at tokens operator levels at operand left op here low ∙ ap (λ o. Some (o >>= λ r. Ok (deeper (binary tokens at op left r)))) got) inside

  pub applies_too_deep : (left : Measured Expr) (op : BinOp) → Applies tokens operator levels at operand whole left →
      operator (kind_at tokens left.next) ≡ Some op → left.next < length tokens → levels ≤ left.height → whole ≡ Err (TooDeep left.next)
  unfolding operation operation_by
  applies_too_deep left op a here inside high =
      let test : nat_le levels left.height ≡ true = grind (arith, nat_tests) in
      goes_wrong left (TooDeep left.next) a.goes
      (ap (operation_by tokens levels at operand left) here ∙
      ap (λ b. Some (if b then Err (TooDeep left.next) else (operand (left.next + 1) >>= λ right. Ok (deeper (binary tokens at op left right))))) test) inside

  pub applies_end : (left : Measured Expr) → Applies tokens operator levels at operand whole left → operator (kind_at tokens left.next) ≡ None → whole ≡ Ok left
  unfolding operation operation_by
  applies_end left a here = goes_to_end left a.goes (ap (operation_by tokens levels at operand left) here)
