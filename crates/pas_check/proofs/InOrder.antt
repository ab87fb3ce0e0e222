-- Parts that are built one after the other, from a place in a list on.
use Rattle.std.proofs.Common.{◌≡◌, ℕ, ◌+◌, ◌<◌, ◌≤◌, List, [], ◌∷◌, ◌++◌, length, get_or, drop, map, Option, Some, None, refl, sym, ap, ◌∙◌, append_assoc}
use Rattle.std.proofs.lemmas.List.{append-nil, drop_all}
use Rattle.pas_check.specs.declared.built.Built.{Built}
use Rattle.pas_check.specs.Built.{Builds, ◌>>=◌, in_order}
use Rattle.pas_check.proofs.Passing.{drop_next}

-- what was built before, and then the others
abbrev pub after : {B : Type 0} → List B → Option (List B × Built) → Option (List B × Built)
after ys None = None
after ys (Some p) = Some (ys ++ p.0, p.1)

pub after_nothing : {B : Type 0} (o : Option (List B × Built)) → o ≡ after [] o
after_nothing None = refl
after_nothing (Some p) = refl

pub after_more : {B : Type 0} (ys : List B) (y : B) (o : Option (List B × Built)) → after ys (o >>= (λ zs. Some (y ∷ zs.0, zs.1))) ≡ after (ys ++ y ∷ []) o
after_more ys y None = refl
after_more ys y (Some p) = ap (λ zs. Some (zs, p.1)) (sym (append_assoc ys (y ∷ []) p.0))

module _ {A B : Type 0} (form : A → Builds B) where
  -- the part at hand is built, and there is one more
  part_goes : (start : Option (List B × Built)) (ys : List B) (x : A) (rest : List A) (b : Built) (y : B) (c : Built) (more : List B) → more ≡ ys ++ y ∷ []
      → start ≡ after ys (in_order form (x ∷ rest) b) → form x b ≡ Some (y, c) → start ≡ after more (in_order form rest c)
  part_goes start ys x rest b y c more pushed so is =
      so ∙ ap (λ (o : Option (B × Built)). after ys (o >>= (λ z. in_order form rest z.1 >>= (λ zs. Some (z.0 ∷ zs.0, zs.1))))) is ∙ after_more ys y (in_order form rest c)
      ∙ ap (λ zs. after zs (in_order form rest c)) (sym pushed)

  -- ---- of the elements of a list

  pub order_begins : (ys : List B) (xs : List A) (b : Built) → ys ≡ [] → in_order form xs b ≡ after ys (in_order form (drop 0 xs) b)
  order_begins ys xs b none = after_nothing (in_order form xs b) ∙ ap (λ zs. after zs (in_order form xs b)) (sym none)

  pub order_goes : (start : Option (List B × Built)) (ys : List B) (xs : List A) (k : ℕ) (x : A) (b : Built) (y : B) (c : Built) (more : List B) → start ≡ after ys (in_order form (drop k xs) b)
      → k < length xs → x ≡ get_or xs k x → form x b ≡ Some (y, c) → more ≡ ys ++ y ∷ [] → start ≡ after more (in_order form (drop (k + 1) xs) c)
  order_goes start ys xs k x b y c more so h e is pushed =
      part_goes start ys x (drop (k + 1) xs) b y c more pushed (so ∙ ap (λ zs. after ys (in_order form zs b)) (drop_next xs k x h e)) is

  pub order_ends : (start : Option (List B × Built)) (ys : List B) (xs : List A) (k : ℕ) (b : Built) → start ≡ after ys (in_order form (drop k xs) b) → length xs ≤ k → start ≡ Some (ys, b)
  order_ends start ys xs k b so h = so ∙ ap (λ zs. after ys (in_order form zs b)) (drop_all k xs h) ∙ ap (λ zs. Some (zs, b)) (append-nil ys)

-- ---- of what is shown of the elements

module _ {A B C : Type 0} (form : A → Builds B) (shown : C → A) where
  pub shown_begins : (ys : List B) (xs : List C) (b : Built) → ys ≡ [] → in_order form (map shown xs) b ≡ after ys (in_order form (map shown (drop 0 xs)) b)
  shown_begins ys xs b none = after_nothing (in_order form (map shown xs) b) ∙ ap (λ zs. after zs (in_order form (map shown xs) b)) (sym none)

  pub shown_goes : (start : Option (List B × Built)) (ys : List B) (xs : List C) (k : ℕ) (x : C) (b : Built) (y : B) (c : Built) (more : List B) → start ≡ after ys (in_order form (map shown (drop k xs)) b)
      → k < length xs → x ≡ get_or xs k x → form (shown x) b ≡ Some (y, c) → more ≡ ys ++ y ∷ [] → start ≡ after more (in_order form (map shown (drop (k + 1) xs)) c)
  shown_goes start ys xs k x b y c more so h e is pushed =
      part_goes form start ys (shown x) (map shown (drop (k + 1) xs)) b y c more pushed (so ∙ ap (λ zs. after ys (in_order form (map shown zs) b)) (drop_next xs k x h e)) is

  pub shown_ends : (start : Option (List B × Built)) (ys : List B) (xs : List C) (k : ℕ) (b : Built) → start ≡ after ys (in_order form (map shown (drop k xs)) b) → length xs ≤ k → start ≡ Some (ys, b)
  shown_ends start ys xs k b so h = so ∙ ap (λ zs. after ys (in_order form (map shown zs) b)) (drop_all k xs h) ∙ ap (λ zs. Some (zs, b)) (append-nil ys)
