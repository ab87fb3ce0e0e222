-- Counting labels and assertions while a list of parts is walked.
use Rattle.std.proofs.Common.{◌≡◌, ◌≢◌, ℕ, zero, suc, ◌+◌, ◌<◌, ◌≤◌, Bool, true, false, not, cond, List, [], ◌∷◌, ◌++◌, length, get_or, drop, map, set, replicate, nat_eq, nat_lt, refl, sym, ap, subst, ◌∙◌, arith, add-zero, Some}
use Rattle.std.proofs.lemmas.Bool.{eqb-true, eq-eqb, ne_eqb, lt-ltb, ltb-true, ltb-false, true≢false}
use Rattle.std.proofs.lemmas.List.{drop_all}
use Rattle.std.proofs.lemmas.Option.{slice_get-get_or, slice_get_within}
use Rattle.std.proofs.lemmas.List.{get_or-set_same, length-set, length-append}
use Rattle.std.specs.HashSet.{contains}
use Rattle.std.specs.List.{sum, count_by, slice_get}
use Rattle.std.proofs.lemmas.List.Sums.{sum_by-cons}
use Rattle.pas_program.specs.declared.routine.Assert.{Assert}
use Rattle.pas_program.specs.declared.routine.Routine.{Routine}
use Rattle.pas_program.specs.Labels.{count_asserted, count_labelled}
use Rattle.pas_program.specs.Tables.{holds_of}
use Rattle.pas_valid.specs.Standing.{Labels, LabelsAre, counted_if, has_label, is_mark_of, is_marked, label_count, mark_count, one_if}
use Rattle.pas_valid.proofs.Lists.{drop_first, drop_next, sum-cons}

-- ---- a walk over a list that adds so much for each element

abbrev pub Tallied : {A : Type 0} → (A → ℕ) → List A → ℕ → ℕ → ℕ → Type 0
Tallied size xs k before now = now + sum (map size (drop k xs)) ≡ before + sum (map size xs)

pub tallied_first : {A : Type 0} (size : A → ℕ) (xs : List A) (before : ℕ) → Tallied size xs 0 before before
tallied_first size xs before = ap (λ ys. before + sum (map size ys)) (drop_first xs)

pub tallied_next : {A : Type 0} (size : A → ℕ) (xs : List A) (k before now after : ℕ) (x : A) → k < length xs → x ≡ get_or xs k x → after ≡ now + size x → Tallied size xs k before now → Tallied size xs (k + 1) before after
tallied_next size xs k before now after x h e s w =
    let d : sum (map size (drop k xs)) ≡ size x + sum (map size (drop (k + 1) xs)) = ap (λ ys. sum (map size ys)) (drop_next xs k x h e) ∙ sum-cons (size x) (map size (drop (k + 1) xs)) in
    omega (arith, w, d, s)

pub tallied_last : {A : Type 0} (size : A → ℕ) (xs : List A) (k before now : ℕ) → length xs ≤ k → Tallied size xs k before now → now ≡ before + sum (map size xs)
tallied_last size xs k before now h w = let d : sum (map size (drop k xs)) ≡ 0 = ap (λ ys. sum (map size ys)) (drop_all k xs h) in omega (arith, w, d)

no_sum : {A : Type 0} (xs : List A) → sum (map (λ x. 0) xs) ≡ 0
no_sum [] = refl
no_sum (x ∷ xs) = let p = no_sum xs in let q = sum-cons 0 (map (λ y. 0) xs) in omega (arith, p, q)

pub counted_sum : {A : Type 0} (b : Bool) (f : A → ℕ) (xs : List A) → sum (map (λ x. counted_if b (f x)) xs) ≡ counted_if b (sum (map f xs))
counted_sum true f xs = refl
counted_sum false f xs = no_sum xs

-- What is noted of the parts of a list: how often each label and each assertion stands in them.
pub record Noted {A : Type 0} (labelled asserted : ℕ → A → ℕ) (xs : List A) (k mark : ℕ) (labels_before labels_now : Labels) (marks_before marks_now : List ℕ) : Type 0 where
  pub labels : (n : ℕ) → Tallied (labelled n) xs k (label_count labels_before n) (label_count labels_now n)
  pub asserts : (test : ℕ → Bool) (a : ℕ) → test 0 ≡ false → Tallied (λ x. counted_if (test mark) (asserted a x)) xs k (mark_count test marks_before a) (mark_count test marks_now a)

module _ {A : Type 0} (labelled asserted : ℕ → A → ℕ) (xs : List A) (mark : ℕ) (labels_before : Labels) (marks_before : List ℕ) where
  pub noted_first : Noted labelled asserted xs 0 mark labels_before labels_before marks_before marks_before
  noted_first = record {
    labels = λ n. tallied_first (labelled n) xs (label_count labels_before n);
    asserts = λ test a none. tallied_first (λ x. counted_if (test mark) (asserted a x)) xs (mark_count test marks_before a);
  }

  pub noted_next : (k : ℕ) (labels after_labels : Labels) (marks after_marks : List ℕ) (x : A) → k < length xs → x ≡ get_or xs k x
      → ((n : ℕ) → label_count after_labels n ≡ label_count labels n + labelled n x)
      → ((test : ℕ → Bool) (a : ℕ) → test 0 ≡ false → mark_count test after_marks a ≡ mark_count test marks a + counted_if (test mark) (asserted a x))
      → Noted labelled asserted xs k mark labels_before labels marks_before marks → Noted labelled asserted xs (k + 1) mark labels_before after_labels marks_before after_marks
  noted_next k labels after_labels marks after_marks x h e p q w = record {
    labels = λ n. tallied_next (labelled n) xs k _ _ _ x h e (p n) (w.labels n);
    asserts = λ test a none. tallied_next (λ y. counted_if (test mark) (asserted a y)) xs k _ _ _ x h e (q test a none) (w.asserts test a none);
  }

  pub labels_last : (k : ℕ) (labels : Labels) (marks : List ℕ) → length xs ≤ k → Noted labelled asserted xs k mark labels_before labels marks_before marks
      → (n : ℕ) → label_count labels n ≡ label_count labels_before n + sum (map (labelled n) xs)
  labels_last k labels marks h w n = tallied_last (labelled n) xs k _ _ h (w.labels n)

  pub asserts_last : (k : ℕ) (labels : Labels) (marks : List ℕ) → length xs ≤ k → Noted labelled asserted xs k mark labels_before labels marks_before marks
      → (test : ℕ → Bool) (a : ℕ) → test 0 ≡ false → mark_count test marks a ≡ mark_count test marks_before a + counted_if (test mark) (sum (map (asserted a) xs))
  asserts_last k labels marks h w test a none =
      tallied_last (λ x. counted_if (test mark) (asserted a x)) xs k _ _ h (w.asserts test a none) ∙ ap (λ m. mark_count test marks_before a + m) (counted_sum (test mark) (asserted a) xs)

-- ---- numbers of a list that pass a test

abbrev pub Counted : (ℕ → Bool) → Bool → List ℕ → ℕ → ℕ → ℕ → Type 0
Counted p b xs k before now = now + counted_if b (count_by p (drop k xs)) ≡ before + counted_if b (count_by p xs)

counted_none : (b : Bool) → counted_if b 0 ≡ 0
counted_none true = refl
counted_none false = refl

counted_add : (b : Bool) (m n : ℕ) → counted_if b (m + n) ≡ counted_if b m + counted_if b n
counted_add true m n = refl
counted_add false m n = refl

pub counted_first : (p : ℕ → Bool) (b : Bool) (xs : List ℕ) (before : ℕ) → Counted p b xs 0 before before
counted_first p b xs before = ap (λ ys. before + counted_if b (count_by p ys)) (drop_first xs)

pub counted_next : (p : ℕ → Bool) (b : Bool) (xs : List ℕ) (k before now after : ℕ) (x : ℕ) → k < length xs → x ≡ get_or xs k x → after ≡ now + counted_if b (one_if (p x)) → Counted p b xs k before now → Counted p b xs (k + 1) before after
counted_next p b xs k before now after x h e s w =
    let d : counted_if b (count_by p (drop k xs)) ≡ counted_if b (one_if (p x)) + counted_if b (count_by p (drop (k + 1) xs)) =
    ap (λ ys. counted_if b (count_by p ys)) (drop_next xs k x h e) ∙ ap (counted_if b) (sum_by-cons (λ y. one_if (p y)) x (drop (k + 1) xs)) ∙ counted_add b (one_if (p x)) (count_by p (drop (k + 1) xs)) in
    omega (arith, w, d, s)

pub counted_last : (p : ℕ → Bool) (b : Bool) (xs : List ℕ) (k before now : ℕ) → length xs ≤ k → Counted p b xs k before now → now ≡ before + counted_if b (count_by p xs)
counted_last p b xs k before now h w =
    let d : counted_if b (count_by p (drop k xs)) ≡ 0 = ap (λ ys. counted_if b (count_by p ys)) (drop_all k xs h) ∙ counted_none b in
    omega (arith, w, d)

some_same : {A : Type 0} (x y : A) → Some x ≡ Some y → x ≡ y
some_same x y e = cc

-- an element is the same whatever stands past the end
pub at_any : {A : Type 0} (xs : List A) (k : ℕ) (d e : A) → k < length xs → get_or xs k d ≡ get_or xs k e
at_any xs k d e h = some_same _ _ (sym (slice_get-get_or xs k d h) ∙ slice_get-get_or xs k e h)

-- ---- one label

eqb_flip : (a b : ℕ) (c d : Bool) → nat_eq a b ≡ c → nat_eq b a ≡ d → c ≡ d
eqb_flip a b true true p q = refl
eqb_flip a b true false p q = absurd (true≢false (sym (eq-eqb b a (sym (eqb-true a b p))) ∙ q))
eqb_flip a b false true p q = absurd (true≢false (sym (eq-eqb a b (sym (eqb-true b a q))) ∙ p))
eqb_flip a b false false p q = refl

-- one more where it is the one that was added
one_more : (same had has : Bool) → has ≡ cond same true had → (same ≡ true → had ≡ false) → one_if has ≡ one_if had + one_if same
one_more true had has e fresh = ap one_if e ∙ sym (ap (λ b. one_if b + 1) (fresh refl))
one_more false had has e fresh = ap one_if e ∙ sym (add-zero (one_if had))

not_true : (b : Bool) → true ≡ not b → b ≡ false
not_true true e = e
not_true false e = refl

pub label_added : (s t : Labels) (v n : ℕ) → true ≡ not (contains nat_eq s v) → contains nat_eq t n ≡ cond (nat_eq v n) true (contains nat_eq s n) → label_count t n ≡ label_count s n + one_if (nat_eq n v)
label_added s t v n fresh e =
    one_more (nat_eq v n) (contains nat_eq s n) (contains nat_eq t n) e (λ same. subst (λ m. contains nat_eq s m ≡ false) (eqb-true v n same) (not_true _ fresh))
    ∙ ap (λ b. label_count s n + one_if b) (eqb_flip v n _ _ refl refl)

-- ---- one mark

set_other : (xs : List ℕ) (i b m : ℕ) → b ≢ i → slice_get (set xs i m) b ≡ slice_get xs b
set_other [] i b m h = refl
set_other (x ∷ xs) zero zero m h = absurd (h refl)
set_other (x ∷ xs) zero (suc b) m h = refl
set_other (x ∷ xs) (suc i) zero m h = refl
set_other (x ∷ xs) (suc i) (suc b) m h = set_other xs i b m (λ e. h (ap suc e))

set_same : (xs : List ℕ) (i m : ℕ) → i < length xs → slice_get (set xs i m) i ≡ Some m
set_same xs i m h = let l = length-set xs i m in slice_get-get_or (set xs i m) i 0 (omega (arith, l)) ∙ ap Some (get_or-set_same xs i m 0 h)

counted_one : (b : Bool) → one_if b ≡ 0 + counted_if b 1
counted_one true = refl
counted_one false = refl

mark_cases : (marks : List ℕ) (i m b : ℕ) (test : ℕ → Bool) (same : Bool) → nat_eq b i ≡ same → test 0 ≡ false → i < length marks → get_or marks i 0 ≡ 0
    → mark_count test (set marks i m) b ≡ mark_count test marks b + counted_if (test m) (one_if same)
mark_cases marks i m b test true e none h zero_there =
    let at = eqb-true b i e in
    let after = ap (λ k. mark_count test (set marks i m) k) at ∙ ap (λ o. one_if (holds_of test o)) (set_same marks i m h) in
    let before = ap (λ k. mark_count test marks k) at ∙ ap (λ o. one_if (holds_of test o)) (slice_get-get_or marks i 0 h ∙ ap Some zero_there) ∙ ap one_if none in
    after ∙ counted_one (test m) ∙ ap (λ n. n + counted_if (test m) 1) (sym before)
mark_cases marks i m b test false e none h zero_there =
    ap (λ o. one_if (holds_of test o)) (set_other marks i b m (λ at. true≢false (sym (eq-eqb b i at) ∙ e)))
    ∙ sym (add-zero (mark_count test marks b)) ∙ ap (λ n. mark_count test marks b + n) (sym (counted_none (test m)))

pub mark_set : (marks : List ℕ) (i m : ℕ) → i < length marks → get_or marks i 0 ≡ 0 → (test : ℕ → Bool) (b : ℕ) → test 0 ≡ false → mark_count test (set marks i m) b ≡ mark_count test marks b + counted_if (test m) (one_if (nat_eq b i))
mark_set marks i m h zero_there test b none = mark_cases marks i m b test (nat_eq b i) refl none h zero_there

pub unmarked : (n : ℕ) (test : ℕ → Bool) (a : ℕ) → test 0 ≡ false → mark_count test (replicate n 0) a ≡ 0
unmarked zero test a none = refl
unmarked (suc n) test zero none = ap one_if none
unmarked (suc n) test (suc a) none = unmarked n test a none

-- ---- all routines

-- What is known after k routines: their labels, and which assertions stand in them.
pub record Stood (routines : List Routine) (sets : List Labels) (marks : List ℕ) (k : ℕ) : Type 0 where
  pub many : length sets ≡ k
  pub labels : (r n : ℕ) (d : Routine) → r < k → slice_get routines r ≡ Some d → has_label sets r n ≡ true → count_labelled n d.body ≡ 1
  pub once : (a : ℕ) → Tallied (λ (d : Routine). count_asserted a d.body) routines k 0 (mark_count is_marked marks a)
  pub own : (a r : ℕ) (d : Routine) → r < k → slice_get routines r ≡ Some d → mark_count (is_mark_of r) marks a ≡ count_asserted a d.body
  pub later : (a r : ℕ) → k ≤ r → mark_count (is_mark_of r) marks a ≡ 0

pub stood_first : (routines : List Routine) (marks : List ℕ) → marks ≡ replicate (length marks) 0 → Stood routines [] marks 0
stood_first routines marks e =
    let none : (test : ℕ → Bool) (a : ℕ) → test 0 ≡ false → mark_count test marks a ≡ 0 = λ test a n. ap (λ ms. mark_count test ms a) e ∙ unmarked (length marks) test a n in
    record {
      many = refl;
      labels = λ r n d h. absurd (omega arith);
      once = λ a. subst (λ m. Tallied (λ (d : Routine). count_asserted a d.body) routines 0 0 m) (sym (none is_marked a refl)) (tallied_first (λ (d : Routine). count_asserted a d.body) routines 0);
      own = λ a r d h. absurd (omega arith);
      later = λ a r h. none (is_mark_of r) a (ne_eqb 0 (suc r) (λ z. absurd (omega (arith, z))));
    }

get_front : {A : Type 0} (xs : List A) (x : A) (k : ℕ) → k < length xs → slice_get (xs ++ x ∷ []) k ≡ slice_get xs k
get_front [] x k h = absurd (omega arith)
get_front (y ∷ xs) x zero h = refl
get_front (y ∷ xs) x (suc k) h = get_front xs x k (omega (arith, h))

get_back : {A : Type 0} (xs : List A) (x : A) → slice_get (xs ++ x ∷ []) (length xs) ≡ Some x
get_back [] x = refl
get_back (y ∷ xs) x = get_back xs x

one_if_true : (b : Bool) → b ≡ true → one_if b ≡ 1
one_if_true b e = ap one_if e

module _ (routines : List Routine) (sets : List Labels) (labels : Labels) (marks after : List ℕ) (k : ℕ) (d : Routine) (inside : k < length routines) (is : d ≡ get_or routines k d)
    (labelled : (n : ℕ) → label_count labels n ≡ count_labelled n d.body)
    (asserted : (test : ℕ → Bool) (a : ℕ) → test 0 ≡ false → mark_count test after a ≡ mark_count test marks a + counted_if (test (k + 1)) (count_asserted a d.body))
    (s : Stood routines sets marks k) where
  found : slice_get routines k ≡ Some d
  found = slice_get-get_or routines k d inside ∙ ap Some (sym is)

  label_here : (n : ℕ) → has_label (sets ++ labels ∷ []) k n ≡ true → count_labelled n d.body ≡ 1
  label_here n h =
      let at : slice_get (sets ++ labels ∷ []) k ≡ Some labels = ap (slice_get (sets ++ labels ∷ [])) (sym s.many) ∙ get_back sets labels in
      sym (labelled n) ∙ one_if_true (contains nat_eq labels n) (sym (ap (holds_of (λ (t : Labels). contains nat_eq t n)) at) ∙ h)

  label_at : (r n : ℕ) (e : Routine) (b : Bool) → nat_lt r k ≡ b → r < k + 1 → slice_get routines r ≡ Some e → has_label (sets ++ labels ∷ []) r n ≡ true → count_labelled n e.body ≡ 1
  label_at r n e true below h at has =
      let lt = ltb-true r k below in
      let m = s.many in
      s.labels r n e lt at (sym (ap (holds_of (λ (t : Labels). contains nat_eq t n)) (get_front sets labels r (omega (arith, lt, m)))) ∙ has)
  label_at r n e false below h at has =
      let same : k ≡ r = let l = ltb-false r k below in omega (arith, l) in
      let value : d ≡ e = some_same d e (sym found ∙ ap (slice_get routines) same ∙ at) in
      subst (λ (x : Routine). count_labelled n x.body ≡ 1) value (label_here n (subst (λ j. has_label (sets ++ labels ∷ []) j n ≡ true) (sym same) has))

  own_at : (a r : ℕ) (e : Routine) (b : Bool) → nat_lt r k ≡ b → r < k + 1 → slice_get routines r ≡ Some e → mark_count (is_mark_of r) after a ≡ count_asserted a e.body
  own_at a r e true below h at =
      let lt = ltb-true r k below in
      let none = ne_eqb 0 (suc r) (λ z. absurd (omega (arith, z))) in
      let other : is_mark_of r (k + 1) ≡ false = ne_eqb (k + 1) (suc r) (λ z. absurd (omega (arith, z, lt))) in
      let step = asserted (is_mark_of r) a none in
      let no_more = ap (λ b. counted_if b (count_asserted a d.body)) other in
      let before = s.own a r e lt at in
      omega (arith, step, no_more, before)
  own_at a r e false below h at =
      let same : k ≡ r = let l = ltb-false r k below in omega (arith, l) in
      let value : d ≡ e = some_same d e (sym found ∙ ap (slice_get routines) same ∙ at) in
      let none = ne_eqb 0 (suc r) (λ z. absurd (omega (arith, z))) in
      let this : is_mark_of r (k + 1) ≡ true = eq-eqb (k + 1) (suc r) (omega (arith, same)) in
      let step = asserted (is_mark_of r) a none in
      let more = ap (λ b. counted_if b (count_asserted a d.body)) this in
      let before = s.later a r (omega (arith, same)) in
      let all : mark_count (is_mark_of r) after a ≡ count_asserted a d.body = omega (arith, step, more, before) in
      all ∙ ap (λ (x : Routine). count_asserted a x.body) value

  pub stood_next : Stood routines (sets ++ labels ∷ []) after (k + 1)
  stood_next = record {
    many = let l = length-append sets (labels ∷ []) in let m = s.many in omega (arith, l, m);
    labels = λ r n e h at has. label_at r n e (nat_lt r k) refl h at has;
    once = λ a.
        let this : is_marked (k + 1) ≡ true = lt-ltb 0 (k + 1) (omega arith) in
        let more : mark_count is_marked after a ≡ mark_count is_marked marks a + count_asserted a d.body =
        asserted is_marked a refl ∙ ap (λ b. mark_count is_marked marks a + counted_if b (count_asserted a d.body)) this in
        tallied_next (λ (e : Routine). count_asserted a e.body) routines k 0 _ _ d inside is more (s.once a);
    own = λ a r e h at. own_at a r e (nat_lt r k) refl h at;
    later = λ a r h.
        let none = ne_eqb 0 (suc r) (λ z. absurd (omega (arith, z))) in
        let other : is_mark_of r (k + 1) ≡ false = ne_eqb (k + 1) (suc r) (λ z. absurd (omega (arith, z, h))) in
        let step = asserted (is_mark_of r) a none in
        let no_more = ap (λ b. counted_if b (count_asserted a d.body)) other in
        let before = s.later a r (omega (arith, h)) in
        omega (arith, step, no_more, before);
  }

module _ (routines : List Routine) (sets : List Labels) (marks : List ℕ) (k : ℕ) (outside : length routines ≤ k) (s : Stood routines sets marks k) where
  pub labels_are : LabelsAre routines sets
  labels_are = record { each = λ r n d at has. let l = slice_get_within routines r d at in s.labels r n d (omega (arith, l, outside)) at has }

  pub once_all : (a : ℕ) → mark_count is_marked marks a ≡ sum (map (λ (d : Routine). count_asserted a d.body) routines)
  once_all a = let t = tallied_last (λ (d : Routine). count_asserted a d.body) routines k 0 (mark_count is_marked marks a) outside (s.once a) in omega (arith, t)

  pub own_all : (a r : ℕ) (d : Routine) → slice_get routines r ≡ Some d → mark_count (is_mark_of r) marks a ≡ count_asserted a d.body
  own_all a r d at = let l = slice_get_within routines r d at in s.own a r d (omega (arith, l, outside)) at

-- ---- assertions that have the mark of their routine

module _ (routines : List Routine) (asserts : List Assert) (marks : List ℕ) (marked : (a : ℕ) (d : Assert) → slice_get asserts a ≡ Some d → slice_get marks a ≡ Some (suc d.routine)) where
  pub stands_once : ((a : ℕ) → mark_count is_marked marks a ≡ sum (map (λ (d : Routine). count_asserted a d.body) routines)) → (a : ℕ) → a < length asserts → sum (map (λ (d : Routine). count_asserted a d.body) routines) ≡ 1
  stands_once once a h =
      let d = get_first asserts a h in
      sym (once a) ∙ ap (λ o. one_if (holds_of is_marked o)) (marked a d.0 d.1) ∙ one_if_true (is_marked (suc (d.0).routine)) (lt-ltb 0 (suc (d.0).routine) (omega arith))
    where
      get_first : (xs : List Assert) (k : ℕ) → k < length xs → (x : Assert) × (slice_get xs k ≡ Some x)
      get_first [] k h = absurd (omega arith)
      get_first (x ∷ xs) k h = (get_or (x ∷ xs) k x, slice_get-get_or (x ∷ xs) k x h)

  pub stands_in_own : ((a r : ℕ) (d : Routine) → slice_get routines r ≡ Some d → mark_count (is_mark_of r) marks a ≡ count_asserted a d.body) → (a : ℕ) (d : Assert) (e : Routine) → slice_get asserts a ≡ Some d → slice_get routines d.routine ≡ Some e → count_asserted a e.body ≡ 1
  stands_in_own own a d e at found =
      sym (own a d.routine e found) ∙ ap (λ o. one_if (holds_of (is_mark_of d.routine) o)) (marked a d at) ∙ one_if_true (is_mark_of d.routine (suc d.routine)) (eq-eqb _ _ refl)
