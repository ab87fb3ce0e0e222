-- A part of a rule that may come any number of times.
use Rattle.std.specs.Prelude.{ℕ, zero, suc, ◌+◌, Bool, true, false, List, length, Option, Some, None, Ok}
use Rattle.pas_lexer.specs.declared.token.Token.{Token}
use Rattle.pas_lexer.specs.declared.token.Symbol.{Symbol}
use Rattle.pas_parser.specs.declared.reading.Read.{Read}
use Rattle.pas_parser.specs.declared.reading.Measured.{Measured}
use Rattle.pas_parser.specs.Look.{kind_at, is_symbol}
use Rattle.pas_parser.specs.Outcome.{Outcome, ◌>>=◌}
use Rattle.pas_parser.specs.Reading.{listed, extended, gathered, joined}

abbrev pub when : {S : Type 0} → Bool → Outcome S → Option (Outcome S)
when true longer = Some longer
when false longer = None

abbrev pub go_on : {S : Type 0} → Option (Outcome S) → S → (S → Outcome S) → Outcome S
go_on None so_far rest = Ok so_far
go_on (Some longer) so_far rest = longer >>= rest

-- `more` reads the part after what has been read, or is None where the next token doesn't begin it. Each time takes a
-- token at least, so that the number of tokens is enough turns.
unfoldable pub repeat : {S : Type 0} → (S → Option (Outcome S)) → ℕ → S → Outcome S
repeat more zero so_far = Ok so_far
repeat more (suc turns) so_far = go_on (more so_far) so_far (repeat more turns)

-- one part after what has been read: `next` is the place that has been reached, `begins` tells whether the part begins
-- there, and `add` puts it to the others
unfoldable pub more : {S X : Type 0} → (S → ℕ) → (S → X → S) → (ℕ → Bool) → (ℕ → Outcome X) → S → Option (Outcome S)
more next add begins part so_far = when (begins (next so_far)) (do
  found ← part (next so_far)
  Ok (add so_far found))

module _ (tokens : List Token) where
  -- `{part}`
  unfoldable pub parts : {T : Type 0} → (ℕ → Bool) → (ℕ → Outcome (Read T)) → Read (List T) → Outcome (Read (List T))
  parts begins part = repeat (more (λ list. list.next) extended begins part) (length tokens)

  -- `item {symbol item}`
  unfoldable pub separated : {T : Type 0} → Symbol → (ℕ → Outcome (Read T)) → ℕ → Outcome (Read (List T))
  separated symbol item at = do
    first ← item at
    parts (λ next. is_symbol symbol (kind_at tokens next)) (λ next. item (next + 1)) (listed first)

  -- the same of parts with heights
  unfoldable pub separated_measured : {T : Type 0} → Symbol → (ℕ → Outcome (Measured T)) → ℕ → Outcome (Measured (List T))
  separated_measured symbol item at = do
    first ← item at
    repeat (more (λ list. list.next) joined (λ next. is_symbol symbol (kind_at tokens next)) (λ next. item (next + 1))) (length tokens) (gathered first)
