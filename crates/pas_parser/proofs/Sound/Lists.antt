-- Lists of parts that are read, with a bound on their depth.
use Rattle.std.proofs.Common.{◌≡◌, ℕ, ◌+◌, ◌≤◌, Bool, true, List, [], ◌∷◌, ◌++◌, map, length, arith}
use Rattle.pas_lexer.specs.declared.token.Token.{Token}
use Rattle.pas_lexer.specs.declared.token.Symbol.{Symbol}
use Rattle.pas_parser.specs.declared.reading.Read.{Read}
use Rattle.pas_parser.specs.Look.{kind_at, is_symbol}
use Rattle.pas_parser.specs.Loop.{parts, separated}
use Rattle.pas_parser.specs.Outcome.{Outcome}
use Rattle.pas_parser.specs.Reading.{listed}
use Rattle.pas_parser.specs.Depth.{greatest}
use Rattle.pas_parser.specs.Grammar.Word.{IsSymbol, OneOrMore, only, and_then}
use Rattle.pas_parser.proofs.Sound.Expr.{greatest_end}
use Rattle.pas_parser.proofs.Sound.Word.{Holds, bind, weaken, all_parts, symbol_here}

pub one_or_more_end : {T : Type 0} {Item : T → ℕ → ℕ → Type 0} {xs : List T} {i j k : ℕ} {x : T} → OneOrMore Item xs i j → Item x j k → OneOrMore Item (xs ++ x ∷ []) i k
one_or_more_end (only x) y = and_then x (only y)
one_or_more_end (and_then x rest) y = and_then x (one_or_more_end rest y)

module _ (tokens : List Token) {T : Type 0} (Item : T → ℕ → ℕ → Type 0) (Lists : List T → ℕ → ℕ → Type 0) (depth : T → ℕ) (m : ℕ) where
  -- Parts after some that are read already: `from` is the place of a part that a token at this place announces.
  pub lists_more : (begins : ℕ → Bool) (from : ℕ → ℕ) (part : ℕ → Outcome (Read T)) → ((i : ℕ) → begins i ≡ true → Holds (λ r. Item r.tree (from i) r.next × (depth r.tree ≤ m)) (part i)) →
      ((xs : List T) (x : T) (i j l : ℕ) → Lists xs i j → begins j ≡ true → Item x (from j) l → Lists (xs ++ x ∷ []) i l) →
      (i : ℕ) (so_far : Read (List T)) → Lists so_far.tree i so_far.next → greatest (map depth so_far.tree) ≤ m →
      Holds (λ r. Lists r.tree i r.next × (greatest (map depth r.tree) ≤ m)) (parts tokens begins part so_far)
  unfolding parts
  lists_more begins from part reads grows i so_far h low =
      all_parts _ _ _ _
      (λ list here hl. weaken (reads list.next here) (λ x hx. (grows list.tree x.tree i list.next x.next hl.0 here hx.0, greatest_end depth list.tree x.tree m hl.1 hx.1)))
      (length tokens) so_far (h, low)

  -- `item {symbol item}`
  pub separated_low : (symbol : Symbol) (item : ℕ → Outcome (Read T)) → ((i : ℕ) → Holds (λ r. Item r.tree i r.next × (depth r.tree ≤ m)) (item i)) →
      ((x : T) (i j : ℕ) → Item x i j → Lists (x ∷ []) i j) →
      ((xs : List T) (x : T) (i j k l : ℕ) → Lists xs i j → IsSymbol tokens symbol j k → Item x k l → Lists (xs ++ x ∷ []) i l) →
      (i : ℕ) → Holds (λ r. Lists r.tree i r.next × (greatest (map depth r.tree) ≤ m)) (separated tokens symbol item i)
  unfolding separated
  separated_low symbol item reads one grows i =
      bind (reads i) (λ first h. lists_more (λ next. is_symbol symbol (kind_at tokens next)) (λ j. j + 1) (λ next. item (next + 1)) (λ j here. reads (j + 1))
      (λ xs x i j l hl here hx. grows xs x i j (j + 1) l hl (symbol_here tokens symbol j here) hx) i (listed first) (one first.tree i first.next h.0) (omega (arith, h.1)))
