-- What is read with a number of levels, by what is read with one less.
use Rattle.std.proofs.Common.{◌≡◌, ℕ, suc, ◌-◌, ◌<◌, List, Ok, Err, ap, arith}
use Rattle.pas_lexer.specs.declared.token.Token.{Token}
use Rattle.pas_parser.specs.Expr.{up_to, none, begins_expr, begins_factor, refusal, expr, expr_over, comparison, factor, term, simple}
use Rattle.pas_parser.specs.Look.{kind_at}
use Rattle.pas_parser.specs.Outcome.{◌>>=◌}
use Rattle.pas_parser.specs.Reading.{deeper}

pub above : {X : Type 0} (f : ℕ → X) (levels : ℕ) → 0 < levels → f levels ≡ f (suc (levels - 1))
above f levels some = let e : levels ≡ suc (levels - 1) = omega arith in ap f e

module _ (tokens : List Token) (levels : ℕ) where
  pub factor_below : 0 < levels → (up_to tokens levels).factor ≡ factor tokens (levels - 1)
  unfolding up_to factor
  factor_below some = above (λ n. (up_to tokens n).factor) levels some

  pub term_below : 0 < levels → (up_to tokens levels).term ≡ term tokens (levels - 1)
  unfolding up_to term
  term_below some = above (λ n. (up_to tokens n).term) levels some

  pub simple_below : 0 < levels → (up_to tokens levels).simple ≡ simple tokens (levels - 1)
  unfolding up_to simple
  simple_below some = above (λ n. (up_to tokens n).simple) levels some

  pub expr_above : (at : ℕ) → 0 < levels → expr tokens levels at ≡ (comparison tokens (simple tokens (levels - 1)) at >>= λ found. Ok (deeper found))
  unfolding expr expr_over
  expr_above at some = ap (λ f. comparison tokens f at >>= λ found. Ok (deeper found)) (simple_below some)

  pub no_expr : (at : ℕ) → levels ≡ 0 → expr tokens levels at ≡ Err (refusal (begins_expr (kind_at tokens at)) at)
  unfolding expr expr_over up_to none comparison
  no_expr at no_level = ap (λ n. expr tokens n at) no_level

  pub no_factor : (at : ℕ) → levels ≡ 0 → (up_to tokens levels).factor at ≡ Err (refusal (begins_factor (kind_at tokens at)) at)
  unfolding up_to none
  no_factor at no_level = ap (λ n. (up_to tokens n).factor at) no_level
