-- What a string stands for, byte by byte.
use Rattle.std.proofs.Common.{◌≡◌, ℕ, ◌+◌, ◌-◌, ◌<◌, ◌≤◌, Bool, true, false, List, [], ◌∷◌, ◌++◌, length, get_or, drop, take, ap, refl, sym, ◌∙◌, nat_eq, add-one, append_assoc}
use Rattle.std.proofs.Math.Seq.{drop-cons}
use Rattle.std.proofs.lemmas.List.{append-nil, drop_all}
use Rattle.std.specs.Prelude.{◌&&◌, if◌then◌else◌}
use Rattle.pas_check.specs.StatementForms.{after_quote, quote, undoubled, unquoted}

-- what the bytes that are left stand for; a quote at their head may be one that is left out
abbrev pub left_in : Bool → List ℕ → List ℕ
left_in true rest = after_quote rest
left_in false rest = undoubled rest

after_other : (x : ℕ) (rest : List ℕ) → nat_eq x quote ≡ false → undoubled (x ∷ rest) ≡ x ∷ undoubled rest
unfolding undoubled
after_other x [] other = refl
after_other x (y ∷ rest) other = ap (λ (b : Bool). if b && nat_eq y quote then x ∷ undoubled rest else x ∷ undoubled (y ∷ rest)) other

by_second : (x y : ℕ) (rest : List ℕ) (b : Bool) → nat_eq y quote ≡ b → (if b then x ∷ undoubled rest else x ∷ undoubled (y ∷ rest)) ≡ x ∷ (if b then undoubled rest else y ∷ undoubled rest)
by_second x y rest true is = refl
by_second x y rest false is = ap (λ zs. x ∷ zs) (after_other y rest is)

after_one : (x : ℕ) (rest : List ℕ) → nat_eq x quote ≡ true → undoubled (x ∷ rest) ≡ x ∷ after_quote rest
unfolding undoubled
after_one x [] one = refl
after_one x (y ∷ rest) one = ap (λ (b : Bool). if b && nat_eq y quote then x ∷ undoubled rest else x ∷ undoubled (y ∷ rest)) one ∙ by_second x y rest (nat_eq y quote) refl

kept_byte : (skip : Bool) (x : ℕ) (rest : List ℕ) (b : Bool) → nat_eq x quote ≡ b → (b && skip) ≡ false → left_in skip (x ∷ rest) ≡ x ∷ left_in b rest
kept_byte true x rest true is one = absurd (cc)
kept_byte true x rest false is other = ap (λ (b : Bool). if b then undoubled rest else x ∷ undoubled rest) is
kept_byte false x rest true is other = after_one x rest is
kept_byte false x rest false is other = after_other x rest is

pub quotes_begin : (string bytes items : List ℕ) → bytes ≡ [] → items ≡ take (length string - 1) string → unquoted string ≡ bytes ++ left_in true (drop 0 items)
quotes_begin string bytes items none is = ap after_quote (sym is) ∙ ap (λ ys. ys ++ after_quote items) (sym none)

pub no_skip : (b skip : Bool) → skip ≡ false → (b && skip) ≡ false
no_skip true skip is = is
no_skip false skip is = refl

module _ (string bytes items : List ℕ) (k : ℕ) (h : k < length items) where
  byte_next : drop k items ≡ get_or items k 0 ∷ drop (k + 1) items
  byte_next = rw add-one (drop-cons items k 0 h)

  -- the byte at hand is kept; after a quote the next one is left out
  pub kept : (skip : Bool) (more : List ℕ) → string ≡ bytes ++ left_in skip (drop k items) → (nat_eq (get_or items k 0) quote && skip) ≡ false → more ≡ bytes ++ get_or items k 0 ∷ []
      → string ≡ more ++ left_in (nat_eq (get_or items k 0) quote) (drop (k + 1) items)
  kept skip more so other pushed =
      let x = get_or items k 0 in
      so ∙ ap (λ ys. bytes ++ left_in skip ys) byte_next ∙ ap (λ ys. bytes ++ ys) (kept_byte skip x (drop (k + 1) items) (nat_eq x quote) refl other)
      ∙ sym (append_assoc bytes (x ∷ []) (left_in (nat_eq x quote) (drop (k + 1) items))) ∙ ap (λ ys. ys ++ left_in (nat_eq x quote) (drop (k + 1) items)) (sym pushed)

nothing_left : (bytes : List ℕ) (skip : Bool) → bytes ++ left_in skip [] ≡ bytes
unfolding undoubled
nothing_left bytes true = append-nil bytes
nothing_left bytes false = append-nil bytes

-- no byte is left
pub all_kept : (string bytes items : List ℕ) (k : ℕ) (skip : Bool) → string ≡ bytes ++ left_in skip (drop k items) → length items ≤ k → bytes ≡ string
all_kept string bytes items k skip so h = sym (so ∙ ap (λ ys. bytes ++ left_in skip ys) (drop_all k items h) ∙ nothing_left bytes skip)
