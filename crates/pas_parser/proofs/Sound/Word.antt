-- What holds of each tree that is read: the steps of a reader one after the other, and its loops.
use Rattle.std.proofs.Common.{◌≡◌, ℕ, zero, suc, ◌+◌, Bool, true, false, List, [], ◌∷◌, ◌++◌, length, Option, Some, None, Ok, Err, refl, ap, subst, rules, if◌then◌else◌}
use denote.Enum.Bare.{same_true}
use Rattle.pas_lexer.specs.contracts.token.Symbol as symbol_type
use Rattle.pas_lexer.specs.contracts.word.Word as word_type
use Rattle.pas_lexer.specs.declared.token.Token.{Token}
use Rattle.pas_lexer.specs.declared.token.TokenKind.{TokenKind}
use Rattle.pas_lexer.specs.declared.token.TokenKind.TheVariants as kind
use Rattle.pas_lexer.specs.declared.token.Symbol.{Symbol}
use Rattle.pas_lexer.specs.declared.word.Word.{Word}
use Rattle.pas_parser.specs.declared.fault.ParseFault.{ParseFault}
use Rattle.pas_parser.specs.declared.reading.Read.{Read}
use Rattle.pas_parser.specs.Look.{kind_at, same_symbol, same_word, is_symbol, is_word, is_ident, expect_symbol, expect_word, expect_ident}
use Rattle.pas_parser.specs.Loop.{repeat, when, go_on, more, parts, separated}
use Rattle.pas_parser.specs.Outcome.{Outcome, ◌>>=◌}
use Rattle.pas_parser.specs.Reading.{listed}
use Rattle.pas_parser.specs.Grammar.Word.{IsSymbol, IsWord, IsIdent, Many, no_more, one_more, Separated, last_one, and_more}

-- P holds of what was read, if it was read
pub record Holds {A : Type 0} (P : A → Type 0) (o : Outcome A) : Type 0 where
  pub holds : (a : A) → o ≡ Ok a → P a

bound : {A B : Type 0} (o : Outcome A) (f : A → Outcome B) (b : B) → (o >>= f) ≡ Ok b → (a : A) × (o ≡ Ok a) × (f a ≡ Ok b)
bound (Ok a) f b h = (a, refl, h)
bound (Err x) f b h = absurd (cc)

-- one step and then the rest
pub bind : {A B : Type 0} {P : A → Type 0} {Q : B → Type 0} {o : Outcome A} {f : A → Outcome B} → Holds P o → ((a : A) → P a → Holds Q (f a)) → Holds Q (o >>= f)
bind {o = o} {f = f} h k = record { holds = λ b e. let p = bound o f b e in (k p.0 (h.holds p.0 p.1)).holds b p.2 }

abbrev Same : (A : Type 0) → Outcome A → Outcome A → Type 0
Same A o p = o ≡ p

same_ok : {A : Type 0} (a b : A) → Same A (Ok a) (Ok b) → a ≡ b
same_ok a b e = cc

not_ok : {A : Type 0} (fault : ParseFault) (a : A) → Same A (Err fault) (Ok a) → ⊥
not_ok fault a e = cc

pub pure : {A : Type 0} {P : A → Type 0} {a : A} → P a → Holds P (Ok a)
pure {P = P} {a = a} h = record { holds = λ b e. subst P (same_ok a b e) h }

pub fails : {A : Type 0} {P : A → Type 0} {fault : ParseFault} → Holds {A = A} P (Err fault)
fails {fault = fault} = record { holds = λ b e. absurd (not_ok fault b e) }

pub weaken : {A : Type 0} {P Q : A → Type 0} {o : Outcome A} → Holds P o → ((a : A) → P a → Q a) → Holds Q o
weaken h k = record { holds = λ a e. k a (h.holds a e) }

-- a choice
pub choose : {A : Type 0} {P : A → Type 0} {test : Bool} {x y : Outcome A} → (test ≡ true → Holds P x) → (test ≡ false → Holds P y) → Holds P (if test then x else y)
choose {P = P} {test = test} {x = x} {y = y} h k = at test refl
  where
    at : (b : Bool) → test ≡ b → Holds P (if b then x else y)
    at true e = h e
    at false e = k e

turn : {S : Type 0} {P : S → Type 0} {s : S} {rest : S → Outcome S} (m : Option (Outcome S)) → ((o : Outcome S) → m ≡ Some o → Holds P o) → ((a : S) → P a → Holds P (rest a)) → P s → Holds P (go_on m s rest)
turn None keeps after h = pure h
turn (Some o) keeps after h = bind (keeps o refl) after

-- a loop: what holds at the start, and of each longer list, holds at the end
pub repeats : {S : Type 0} {P : S → Type 0} (step : S → Option (Outcome S)) → ((s : S) (o : Outcome S) → step s ≡ Some o → P s → Holds P o) →
    (turns : ℕ) (s : S) → P s → Holds P (repeat step turns s)
unfolding repeat
repeats step keeps zero s h = pure h
repeats step keeps (suc turns) s h = turn (step s) (λ o e. keeps s o e h) (λ a ha. repeats step keeps turns a ha) h

module _ {S X : Type 0} {P : S → Type 0} (next : S → ℕ) (add : S → X → S) (begins : ℕ → Bool) (part : ℕ → Outcome X) (keeps : (s : S) → begins (next s) ≡ true → P s → Holds (λ x. P (add s x)) (part (next s))) where
  one_part : (s : S) (b : Bool) (o : Outcome S) → begins (next s) ≡ b → when b (part (next s) >>= λ x. Ok (add s x)) ≡ Some o → P s → Holds P o
  one_part s true o here e h =
      let same : (part (next s) >>= λ x. Ok (add s x)) ≡ o = cc in
      subst (Holds P) same (bind (keeps s here h) (λ x hx. pure hx))
  one_part s false o here e h = absurd (cc)

  -- a loop over parts of one kind
  pub all_parts : (turns : ℕ) (s : S) → P s → Holds P (repeat (more next add begins part) turns s)
  unfolding more
  all_parts turns s h = repeats (more next add begins part) (λ s o e h. one_part s (begins (next s)) o refl e h) turns s h

module _ (tokens : List Token) where
  symbol_of : (symbol : Symbol) (o : Option TokenKind) → is_symbol symbol o ≡ true → o ≡ Some (kind.Symbol symbol)
  unfolding same_symbol
  symbol_of symbol None h = absurd (cc)
  symbol_of symbol (Some (kind.Symbol found)) h = ap (λ s. Some (kind.Symbol s)) (same_true symbol_type.the_type (search rules) found symbol h)
  symbol_of symbol (Some _) h = absurd (cc)

  word_of : (looked_for : Word) (o : Option TokenKind) → is_word looked_for o ≡ true → o ≡ Some (kind.Word looked_for)
  unfolding same_word
  word_of looked_for None h = absurd (cc)
  word_of looked_for (Some (kind.Word found)) h = ap (λ s. Some (kind.Word s)) (same_true word_type.the_type (search rules) found looked_for h)
  word_of looked_for (Some _) h = absurd (cc)

  ident_of : (o : Option TokenKind) → is_ident o ≡ true → o ≡ Some kind.Ident
  ident_of None h = absurd (cc)
  ident_of (Some kind.Ident) h = refl
  ident_of (Some _) h = absurd (cc)

  pub symbol_here : (symbol : Symbol) (i : ℕ) → is_symbol symbol (kind_at tokens i) ≡ true → IsSymbol tokens symbol i (i + 1)
  symbol_here symbol i h = record { here = symbol_of symbol _ h; next = refl }

  pub word_here : (word : Word) (i : ℕ) → is_word word (kind_at tokens i) ≡ true → IsWord tokens word i (i + 1)
  word_here word i h = record { here = word_of word _ h; next = refl }

  pub ident_here : (i : ℕ) → is_ident (kind_at tokens i) ≡ true → IsIdent tokens i (i + 1)
  ident_here i h = record { here = ident_of _ h; next = refl }

  pub symbol_read : (symbol : Symbol) (i : ℕ) → Holds (λ j. IsSymbol tokens symbol i j) (expect_symbol tokens symbol i)
  unfolding expect_symbol
  symbol_read symbol i = choose (λ h. pure (symbol_here symbol i h)) (λ h. fails)

  pub word_read : (word : Word) (i : ℕ) → Holds (λ j. IsWord tokens word i j) (expect_word tokens word i)
  unfolding expect_word
  word_read word i = choose (λ h. pure (word_here word i h)) (λ h. fails)

  pub ident_read : (i : ℕ) → Holds (λ j. IsIdent tokens i j) (expect_ident tokens i)
  unfolding expect_ident
  ident_read i = choose (λ h. pure (ident_here i h)) (λ h. fails)

-- ---- lists

module _ {T : Type 0} {Item : T → ℕ → ℕ → Type 0} where
  pub many_end : {xs : List T} {i j k : ℕ} {x : T} → Many Item xs i j → Item x j k → Many Item (xs ++ x ∷ []) i k
  many_end no_more y = one_more y no_more
  many_end (one_more x rest) y = one_more x (many_end rest y)

  pub separated_end : {Separator : ℕ → ℕ → Type 0} {xs : List T} {i j k l : ℕ} {x : T} → Separated Separator Item xs i j → Separator j k → Item x k l → Separated Separator Item (xs ++ x ∷ []) i l
  separated_end (last_one x) s y = and_more x s (last_one y)
  separated_end (and_more x s rest) s' y = and_more x s (separated_end rest s' y)

module _ (tokens : List Token) {T : Type 0} {Item : T → ℕ → ℕ → Type 0} where
  -- `item {symbol item}`
  pub separated_read : (symbol : Symbol) (item : ℕ → Outcome (Read T)) → ((i : ℕ) → Holds (λ r. Item r.tree i r.next) (item i)) → (i : ℕ) →
      Holds (λ r. Separated (IsSymbol tokens symbol) Item r.tree i r.next) (separated tokens symbol item i)
  unfolding separated parts
  separated_read symbol item reads i =
      bind (reads i) (λ first h. all_parts _ _ _ _
      (λ list here so_far. weaken (reads (list.next + 1)) (λ x hx. separated_end so_far (symbol_here tokens symbol list.next here) hx))
      (length tokens) (listed first) (last_one h))

  -- `{item}`, after some that are read already
  pub many_read : (begins : ℕ → Bool) (item : ℕ → Outcome (Read T)) → ((i : ℕ) → begins i ≡ true → Holds (λ r. Item r.tree i r.next) (item i)) → (i : ℕ) (so_far : Read (List T)) →
      Many Item so_far.tree i so_far.next → Holds (λ r. Many Item r.tree i r.next) (parts tokens begins item so_far)
  unfolding parts
  many_read begins item reads i so_far h =
      all_parts _ _ _ _ (λ list here so_far. weaken (reads list.next here) (λ x hx. many_end so_far hx)) (length tokens) so_far h
