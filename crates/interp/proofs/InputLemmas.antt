-- The items of an input from its front: what a byte or a word there gives, before what follows gives.
use Rattle.std.proofs.Common.{◌≡◌, ℕ, zero, suc, ◌+◌, ◌*◌, ◌-◌, ◌<◌, ◌≤◌, Bool, true, false, ◌&&◌, ◌||◌, ◌==◌, cond, List, [], ◌∷◌, ◌++◌, length, map, take, drop, get_or, refl, sym, ap, ◌∙◌, subst, arith, append_assoc, Option, Some, None, fold}
use Rattle.std.specs.List.{filter, list_all}
use Rattle.std.proofs.lemmas.Bool.{true≢false, and_parts, leb-true, ne_eqb, lt-leb}
use Rattle.control_points.specs.declared.item.Item.{Item}
use Rattle.control_points.specs.declared.item.Item.TheVariants.{LineEnd}
use Rattle.interp.specs.InputItems.{in_front, parts, is_line_feed, is_between, is_blank, is_word, word_item, joined, line_items, items_of, decimal_value, is_digit, magnitude, number_item, signed}
use Rattle.control_points.specs.Runs.{IsInput, IsInputItem}
use Rattle.std.specs.List.{position_or_len, prefix_len}
use Rattle.std.specs.Prelude.{not, nat_le}
use Rattle.std.proofs.lemmas.Int.{ints}
use Rattle.std.proofs.lemmas.List.{take_more, take-append-drop}
use Rattle.std.proofs.lemmas.List.Sums.{fold_more, fold-append}
use Rattle.std.proofs.lemmas.Option.{none-some}
use Rattle.std.proofs.lemmas.List.Elements.{All-push}

-- there is a first part
pub record First (xs : List (List ℕ)) : Type 0 where
  pub part : List ℕ
  pub rest : List (List ℕ)
  pub is : xs ≡ part ∷ rest

no_first : First [] → ⊥
no_first f = let e = f.is in cc

abbrev first_in_front : (b : ℕ) (xs : List (List ℕ)) → First (in_front b xs)
first_in_front b [] = record { part = b ∷ []; rest = []; is = refl }
first_in_front b (p ∷ ps) = record { part = b ∷ p; rest = ps; is = refl }

abbrev first_if : (c : Bool) (b : ℕ) (xs : List (List ℕ)) → First (cond c ([] ∷ xs) (in_front b xs))
first_if true b xs = record { part = []; rest = xs; is = refl }
first_if false b xs = first_in_front b xs

abbrev pub first_part : (separates : ℕ → Bool) (bytes : List ℕ) → First (parts separates bytes)
first_part separates [] = record { part = []; rest = []; is = refl }
first_part separates (b ∷ bytes) = first_if (separates b) b (parts separates bytes)

-- ---- a line end

joined_end : (line : List Item) (lines : List (List Item)) → joined ([] ∷ line ∷ lines) ≡ LineEnd ∷ joined (line ∷ lines)
joined_end line lines = refl

after_feed : (xs : List (List ℕ)) → First xs → joined ([] ∷ map line_items xs) ≡ LineEnd ∷ joined (map line_items xs)
after_feed [] f = absurd (no_first f)
after_feed (x ∷ xs) f = refl

pub items_of-feed : (bytes : List ℕ) → items_of (10 ∷ bytes) ≡ LineEnd ∷ items_of bytes
items_of-feed bytes = after_feed (parts is_line_feed bytes) (first_part is_line_feed bytes)

-- ---- blanks

blank_line : (b : ℕ) (line : List ℕ) → is_blank b ≡ true → line_items (b ∷ line) ≡ line_items line
blank_line b line h = ap (λ c. map word_item (filter is_word (cond c ([] ∷ parts is_blank line) (in_front b (parts is_blank line))))) h

joined_same : (x y : List Item) (lines : List (List Item)) → x ≡ y → joined (x ∷ lines) ≡ joined (y ∷ lines)
joined_same x y lines e = ap (λ z. joined (z ∷ lines)) e

blank_front : (b : ℕ) (xs : List (List ℕ)) → is_blank b ≡ true → First xs → joined (map line_items (in_front b xs)) ≡ joined (map line_items xs)
blank_front b [] h f = absurd (no_first f)
blank_front b (x ∷ xs) h f = joined_same (line_items (b ∷ x)) (line_items x) (map line_items xs) (blank_line b x h)

pub items_of-blank : (b : ℕ) (bytes : List ℕ) → is_line_feed b ≡ false → is_blank b ≡ true → items_of (b ∷ bytes) ≡ items_of bytes
items_of-blank b bytes e h =
    ap (λ c. joined (map line_items (cond c ([] ∷ parts is_line_feed bytes) (in_front b (parts is_line_feed bytes))))) e
    ∙ blank_front b (parts is_line_feed bytes) h (first_part is_line_feed bytes)

-- ---- words

-- no byte of the list passes
abbrev pub Lacks : (ℕ → Bool) → List ℕ → Type 0
Lacks p [] = Unit {0}
Lacks p (b ∷ bytes) = (p b ≡ false) × Lacks p bytes

-- a list is empty, or its first byte passes
abbrev pub Begins : (ℕ → Bool) → List ℕ → Type 0
Begins p [] = Unit {0}
Begins p (b ∷ bytes) = p b ≡ true

-- bytes that do not separate stand before the first part
parts-append : (separates : ℕ → Bool) (w bytes : List ℕ) (part : List ℕ) (rest : List (List ℕ)) → Lacks separates w → parts separates bytes ≡ part ∷ rest → parts separates (w ++ bytes) ≡ (w ++ part) ∷ rest
parts-append separates [] bytes part rest h e = e
parts-append separates (b ∷ w) bytes part rest h e =
    ap (λ c. cond c ([] ∷ parts separates (w ++ bytes)) (in_front b (parts separates (w ++ bytes)))) h.0
    ∙ ap (in_front b) (parts-append separates w bytes part rest h.1 e)

-- the part before a byte that separates is empty
parts-begins : (separates : ℕ → Bool) (bytes : List ℕ) → Begins separates bytes → (rest : List (List ℕ)) × (parts separates bytes ≡ [] ∷ rest)
parts-begins separates [] h = ([], refl)
parts-begins separates (b ∷ bytes) h = (parts separates bytes, ap (λ c. cond c ([] ∷ parts separates bytes) (in_front b (parts separates bytes))) h)

word_then : (w : List ℕ) (rest : List (List ℕ)) → is_word w ≡ true → filter is_word (w ∷ rest) ≡ w ∷ filter is_word rest
word_then w rest h = ap (λ c. cond c (w ∷ filter is_word rest) (filter is_word rest)) h

-- a line that begins with a word
word_line : (w line : List ℕ) → is_word w ≡ true → Lacks is_blank w → Begins is_blank line → line_items (w ++ line) ≡ word_item w ∷ line_items line
word_line w line h l b =
    let r = parts-begins is_blank line b in
    ap (λ xs. map word_item (filter is_word xs)) (parts-append is_blank w line [] r.0 l r.1 ∙ ap (λ x. x ∷ r.0) (append_nil w))
    ∙ ap (map word_item) (word_then w r.0 h)
    ∙ ap (λ xs. word_item w ∷ map word_item (filter is_word xs)) (sym r.1)
  where
    append_nil : (xs : List ℕ) → xs ++ [] ≡ xs
    append_nil [] = refl
    append_nil (x ∷ xs) = ap (λ ys. x ∷ ys) (append_nil xs)

joined_word : (x : Item) (line : List Item) (lines : List (List Item)) → joined ((x ∷ line) ∷ lines) ≡ x ∷ joined (line ∷ lines)
joined_word x line [] = refl
joined_word x line (next ∷ lines) = refl

lacks_feed : (w : List ℕ) → Lacks is_between w → Lacks is_line_feed w
lacks_feed [] h = tt
lacks_feed (b ∷ w) h = (or_left (is_line_feed b) (is_blank b) h.0, lacks_feed w h.1)
  where
    or_left : (x y : Bool) → (x || y) ≡ false → x ≡ false
    or_left true y e = e
    or_left false y e = refl

lacks_blank : (w : List ℕ) → Lacks is_between w → Lacks is_blank w
lacks_blank [] h = tt
lacks_blank (b ∷ w) h = (or_right (is_line_feed b) (is_blank b) h.0, lacks_blank w h.1)
  where
    or_right : (x y : Bool) → (x || y) ≡ false → y ≡ false
    or_right true y e = absurd (true≢false e)
    or_right false y e = e

-- the rest of a line after a word is empty, or begins with a blank
begins_line : (bytes : List ℕ) → Begins is_between bytes → Begins is_blank (first_part is_line_feed bytes).part
begins_line [] h = tt
begins_line (b ∷ bytes) h = begins_by (is_line_feed b) b bytes h
  where
    begins_front : (b : ℕ) (xs : List (List ℕ)) → is_blank b ≡ true → Begins is_blank (first_in_front b xs).part
    begins_front b [] h = h
    begins_front b (x ∷ xs) h = h

    begins_by : (c : Bool) (b : ℕ) (bytes : List ℕ) → (c || is_blank b) ≡ true → Begins is_blank (first_if c b (parts is_line_feed bytes)).part
    begins_by true b bytes h = tt
    begins_by false b bytes h = begins_front b (parts is_line_feed bytes) h

pub items_of-word : (w bytes : List ℕ) → is_word w ≡ true → Lacks is_between w → Begins is_between bytes → items_of (w ++ bytes) ≡ word_item w ∷ items_of bytes
items_of-word w bytes h l b =
    let f = first_part is_line_feed bytes in
    ap (λ xs. joined (map line_items xs)) (parts-append is_line_feed w bytes f.part f.rest (lacks_feed w l) f.is)
    ∙ joined_same _ _ (map line_items f.rest) (word_line w f.part h (lacks_blank w l) (begins_line bytes b))
    ∙ joined_word (word_item w) (line_items f.part) (map line_items f.rest)
    ∙ ap (λ xs. word_item w ∷ joined (map line_items xs)) (sym f.is)

-- ---- digits

pub decimal_grows : (a : ℕ) (xs : List ℕ) → a ≤ fold (λ n b. n * 10 + (b - 48)) a xs
decimal_grows a [] = omega arith
decimal_grows a (x ∷ xs) = omega (arith, decimal_grows (a * 10 + (x - 48)) xs)

-- one more digit makes a value at least ten times as great
pub decimal_more : (xs : List ℕ) (i : ℕ) → i < length xs → decimal_value (take i xs) * 10 ≤ decimal_value xs
decimal_more xs i h =
    let f : ℕ → ℕ → ℕ = λ n b. n * 10 + (b - 48) in
    let e : fold f 0 (take (i + 1) xs) ≡ fold f 0 (take i xs) * 10 + (get_or xs i 0 - 48) = fold_more f 0 xs i 0 h in
    let g : fold f 0 xs ≡ fold f (fold f 0 (take (i + 1) xs)) (drop (i + 1) xs) = ap (fold f 0) (sym (take-append-drop (i + 1) xs)) ∙ fold-append f 0 (take (i + 1) xs) (drop (i + 1) xs) in
    omega (arith, e, g, decimal_grows (fold f 0 (take (i + 1) xs)) (drop (i + 1) xs))

pub not_all : (p : ℕ → Bool) (xs : List ℕ) (i : ℕ) → i < length xs → p (get_or xs i 0) ≡ false → list_all p xs ≡ false
not_all p [] i h e = absurd (omega arith)
not_all p (x ∷ xs) zero h e = ap (λ b. b && list_all p xs) e
not_all p (x ∷ xs) (suc i) h e = ap (λ b. p x && b) (not_all p xs i (omega arith) e) ∙ and_false (p x)
  where
    and_false : (b : Bool) → (b && false) ≡ false
    and_false true = refl
    and_false false = refl

pub all_more : (p : ℕ → Bool) (xs : List ℕ) (i : ℕ) → i < length xs → list_all p (take i xs) ≡ true → p (get_or xs i 0) ≡ true → list_all p (take (i + 1) xs) ≡ true
all_more p xs i h e f = ap (list_all p) (take_more xs i 0 h) ∙ all_push (take i xs) (get_or xs i 0) e f
  where
    all_push : (ys : List ℕ) (y : ℕ) → list_all p ys ≡ true → p y ≡ true → list_all p (ys ++ y ∷ []) ≡ true
    all_push [] y e f = ap (λ b. b && true) f
    all_push (z ∷ ys) y e f = let a = and_parts (p z) (list_all p ys) e in ap (λ b. b && list_all p (ys ++ y ∷ [])) a.0 ∙ all_push ys y a.1 f

-- ---- the first word

lacks_if : (p : ℕ → Bool) (x : ℕ) (xs : List ℕ) → Lacks p (take (position_or_len p xs) xs) → (b : Bool) → p x ≡ b → Lacks p (take (prefix_len (λ x. not (p x)) (x ∷ xs)) (x ∷ xs))
lacks_if p x xs rest true e = subst (λ c. Lacks p (take (cond (not c) (1 + position_or_len p xs) 0) (x ∷ xs))) (sym e) tt
lacks_if p x xs rest false e =
    let n : suc (position_or_len p xs) ≡ 1 + position_or_len p xs = omega arith in
    let here : Lacks p (take (suc (position_or_len p xs)) (x ∷ xs)) = (e, rest) in
    subst (λ c. Lacks p (take (cond (not c) (1 + position_or_len p xs) 0) (x ∷ xs))) (sym e) (subst (λ m. Lacks p (take m (x ∷ xs))) n here)

pub lacks_before : (p : ℕ → Bool) (xs : List ℕ) → Lacks p (take (position_or_len p xs) xs)
lacks_before p [] = tt
lacks_before p (x ∷ xs) = lacks_if p x xs (lacks_before p xs) (p x) refl

begins_if : (p : ℕ → Bool) (x : ℕ) (xs : List ℕ) → Begins p (drop (position_or_len p xs) xs) → (b : Bool) → p x ≡ b → Begins p (drop (prefix_len (λ x. not (p x)) (x ∷ xs)) (x ∷ xs))
begins_if p x xs rest true e = subst (λ c. Begins p (drop (cond (not c) (1 + position_or_len p xs) 0) (x ∷ xs))) (sym e) e
begins_if p x xs rest false e =
    let n : suc (position_or_len p xs) ≡ 1 + position_or_len p xs = omega arith in
    let here : Begins p (drop (suc (position_or_len p xs)) (x ∷ xs)) = rest in
    subst (λ c. Begins p (drop (cond (not c) (1 + position_or_len p xs) 0) (x ∷ xs))) (sym e) (subst (λ m. Begins p (drop m (x ∷ xs))) n here)

pub begins_after : (p : ℕ → Bool) (xs : List ℕ) → Begins p (drop (position_or_len p xs) xs)
begins_after p [] = tt
begins_after p (x ∷ xs) = begins_if p x xs (begins_after p xs) (p x) refl

-- ---- numbers of the language

magnitude_small : (digits : List ℕ) (n : ℕ) → magnitude digits ≡ Some n → n ≤ 2147483647
magnitude_small digits n e = small (is_word digits && list_all is_digit digits) (nat_le (decimal_value digits) 2147483647) refl e
  where
    small : (b c : Bool) → nat_le (decimal_value digits) 2147483647 ≡ c → cond (b && c) (Some (decimal_value digits)) None ≡ Some n → n ≤ 2147483647
    small false c f e = absurd (none-some n e)
    small true false f e = absurd (none-some n e)
    small true true f e = let g : decimal_value digits ≡ n = cc in omega (arith, leb-true _ _ f)

pub number_is_input : (negative : Bool) (digits : List ℕ) → IsInputItem (number_item (signed negative) (magnitude digits))
number_is_input negative digits = by_cases negative (magnitude digits) refl
  where
    by_cases : (negative : Bool) (o : Option ℕ) → magnitude digits ≡ o → IsInputItem (number_item (signed negative) o)
    by_cases negative None e = tt
    by_cases true (Some n) e = let h = magnitude_small digits n e in (omega (arith, ints), omega (arith, ints))
    by_cases false (Some n) e = let h = magnitude_small digits n e in (omega (arith, ints), omega (arith, ints))

pub word_is_input : (w : List ℕ) → IsInputItem (word_item w)
word_is_input [] = tt
word_is_input (b ∷ w) = by_sign (b == 45) (b == 43)
  where
    by_sign : (x y : Bool) → IsInputItem (cond x (number_item (signed true) (magnitude w)) (cond y (number_item (signed false) (magnitude w)) (number_item (signed false) (magnitude (b ∷ w)))))
    by_sign true y = number_is_input true w
    by_sign false true = number_is_input false w
    by_sign false false = number_is_input false (b ∷ w)

pub input_push : (items : List Item) (x : Item) → IsInput items → IsInputItem x → IsInput (items ++ x ∷ [])
input_push items x h k = All-push IsInputItem items x h k

-- ---- a step of the reading

-- what is told so far, and what the rest gives, is what all bytes give
abbrev pub Told : List Item → List ℕ → List ℕ → Type 0
Told items rest bytes = items ++ items_of rest ≡ items_of bytes

told_more : (old new : List Item) (x : Item) (rest others bytes : List ℕ) → items_of rest ≡ x ∷ items_of others → new ≡ old ++ x ∷ [] → Told old rest bytes → Told new others bytes
told_more old new x rest others bytes e f h =
    ap (λ xs. xs ++ items_of others) f ∙ append_assoc old (x ∷ []) (items_of others) ∙ ap (λ xs. old ++ xs) (sym e) ∙ h

pub told_feed : (old new : List Item) (rest others bytes : List ℕ) (first : ℕ) → rest ≡ first ∷ others → first ≡ 10 → new ≡ old ++ LineEnd ∷ [] → Told old rest bytes → Told new others bytes
told_feed old new rest others bytes first e f g h = told_more old new LineEnd rest others bytes (ap items_of (e ∙ ap (λ b. b ∷ others) f) ∙ items_of-feed others) g h

pub told_blank : (items : List Item) (rest others bytes : List ℕ) (first : ℕ) → rest ≡ first ∷ others → is_between first ≡ true → (first ≡ 10 → ⊥) → Told items rest bytes → Told items others bytes
told_blank items rest others bytes first e f n h =
    let l : is_line_feed first ≡ false = ne_eqb first 10 n in
    let b : is_blank first ≡ true = sym (ap (λ c. c || is_blank first) l) ∙ f in
    ap (λ xs. items ++ xs) (sym (ap items_of e ∙ items_of-blank first others l b)) ∙ h

begins_there : (first : ℕ) (others : List ℕ) → is_between first ≡ false → is_word (take (position_or_len is_between (first ∷ others)) (first ∷ others)) ≡ true
begins_there first others f =
    let n : suc (position_or_len is_between others) ≡ 1 + position_or_len is_between others = omega arith in
    let here : is_word (take (suc (position_or_len is_between others)) (first ∷ others)) ≡ true = refl in
    subst (λ c. is_word (take (cond (not c) (1 + position_or_len is_between others) 0) (first ∷ others)) ≡ true) (sym f)
    (subst (λ m. is_word (take m (first ∷ others)) ≡ true) n here)

begins_word : (rest others : List ℕ) (first : ℕ) → rest ≡ first ∷ others → is_between first ≡ false → is_word (take (position_or_len is_between rest) rest) ≡ true
begins_word rest others first e f = subst (λ xs. is_word (take (position_or_len is_between xs) xs) ≡ true) (sym e) (begins_there first others f)

pub told_word : (old new : List Item) (rest others bytes word after : List ℕ) (first n : ℕ) (x : Item) → rest ≡ first ∷ others → is_between first ≡ false → n ≡ position_or_len is_between rest
    → word ≡ take n rest → after ≡ drop n rest → x ≡ word_item word → new ≡ old ++ x ∷ [] → Told old rest bytes → Told new after bytes
told_word old new rest others bytes word after first n x e f l w a i g h =
    let m = position_or_len is_between rest in
    let p : items_of rest ≡ word_item (take m rest) ∷ items_of (drop m rest) =
    ap items_of (sym (take-append-drop m rest)) ∙ items_of-word (take m rest) (drop m rest) (begins_word rest others first e f) (lacks_before is_between rest) (begins_after is_between rest) in
    let q : items_of rest ≡ x ∷ items_of after =
    p ∙ ap (λ k. word_item (take k rest) ∷ items_of (drop k rest)) (sym l)
    ∙ ap (λ v. word_item v ∷ items_of (drop n rest)) (sym w) ∙ ap (λ v. word_item word ∷ items_of v) (sym a) ∙ ap (λ y. y ∷ items_of after) (sym i) in
    told_more old new x rest after bytes q g h

pub none_by_digits : (digits : List ℕ) → list_all is_digit digits ≡ false → ◌≡◌ {A = Option ℕ} None (magnitude digits)
none_by_digits digits e = sym (ap (λ b. cond ((is_word digits && b) && nat_le (decimal_value digits) 2147483647) (Some (decimal_value digits)) None) e ∙ no (is_word digits))
  where
    no : (b : Bool) → ◌≡◌ {A = Option ℕ} (cond ((b && false) && nat_le (decimal_value digits) 2147483647) (Some (decimal_value digits)) None) None
    no true = refl
    no false = refl

pub none_by_size : (digits : List ℕ) → 2147483647 < decimal_value digits → ◌≡◌ {A = Option ℕ} None (magnitude digits)
none_by_size digits h =
    sym (ap (λ b. cond ((is_word digits && list_all is_digit digits) && b) (Some (decimal_value digits)) None) (lt-leb (decimal_value digits) 2147483647 h) ∙ no (is_word digits && list_all is_digit digits))
  where
    no : (b : Bool) → ◌≡◌ {A = Option ℕ} (cond (b && false) (Some (decimal_value digits)) None) None
    no true = refl
    no false = refl
