-- The links of a call, in rising order of the caller's cells.
use Rattle.std.proofs.Common.{◌≡◌, ℕ, zero, suc, ◌+◌, ◌-◌, ◌<◌, ◌≤◌, Bool, true, false, ◌||◌, cond, List, [], ◌∷◌, ◌++◌, get_or, length, map, Some, None, nat_eq, nat_lt, refl, sym, ap, ◌∙◌, subst, arith}
use Rattle.std.specs.List.{All, IsDistinct, cons_option, filter, filter_map, list_any, position, position_or_len, range_with_len}
use Rattle.std.specs.List.Sorted.{IsPermutation, IsSorted}
use Rattle.std.specs.Ordering.{is_lt, nat_cmp}
use Rattle.std.specs.declared.cmp.Ordering.TheVariants.{Less, Equal, Greater}
use Rattle.std.specs.Prelude.{if◌then◌else◌}
use Rattle.std.proofs.lemmas.Bool.Decides.{nat_tests}
use Rattle.std.proofs.lemmas.Grind.{common_steps}
use Rattle.std.proofs.lemmas.List.Elements.{All-cons, All-head, All-nil, All-tail, All-weaker, filter_agree, filter_map-append}
use Rattle.std.proofs.lemmas.List.Folds.{list_any_none}
use Rattle.std.proofs.lemmas.List.Sorted.{All-permutation, list_any-IsPermutation}
use Rattle.std.proofs.lemmas.List.{map-append}
use Rattle.std.proofs.lemmas.Option.{cond_some}
use Rattle.std.proofs.lemmas.Map.Keys.{IsDistinct-IsPermutation}
use Rattle.pas_program.specs.Scopes.{contains}
use Rattle.alias_class.specs.declared.bind.Link.{Link}
use Rattle.alias_class.specs.declared.passing.Passing.{Passing}
use Rattle.alias_class.specs.Calls.{Sharing, link_of, shared_cell}
use Rattle.alias_class.specs.Passings.{IsForeign, shared_link, sharing_of}
use Rattle.alias_class.proofs.Lists.{member_at}

-- an inherited cell has one number in both
abbrev pub inherited_link : ℕ → Link
inherited_link c = record { caller = c; callee = c }

flips : (x y : ℕ) → nat_eq x y ≡ nat_eq y x
flips x y = grind (arith, nat_tests)

-- ---- numbers in rising order

abbrev pub Rising : List ℕ → Type 0
Rising [] = Unit {0}
Rising (n ∷ ns) = All (λ m. n < m) ns × Rising ns

not_less : (x y : ℕ) → is_lt (nat_cmp x y) ≡ false → y ≤ x
not_less x y e = by (nat_lt x y) refl e
  where
    by : (b : Bool) → nat_lt x y ≡ b → is_lt (cond b Less (cond (nat_eq x y) Equal Greater)) ≡ false → y ≤ x
    by true less e = absurd (grind arith)
    by false more e = grind (arith, nat_tests)

tail_sorted : (n : ℕ) (ns : List ℕ) → IsSorted nat_cmp (n ∷ ns) → IsSorted nat_cmp ns
tail_sorted n ns sorted k d low high =
    let at : suc k + 1 ≡ suc (k + 1) = omega arith in
    subst (λ (j : ℕ). is_lt (nat_cmp (get_or (n ∷ ns) j d) (get_or ns k d)) ≡ false) at (sorted (suc k) d (omega arith) (omega arith))

-- a sorted list without repeats rises
pub rising : (ns : List ℕ) → IsSorted nat_cmp ns → IsDistinct nat_eq ns → Rising ns
unfolding IsDistinct
rising [] sorted apart = tt
rising (n ∷ []) sorted apart = (All-nil (λ m. n < m), tt)
rising (n ∷ m ∷ ns) sorted apart =
    let rest = rising (m ∷ ns) (tail_sorted n (m ∷ ns) sorted) apart.1 in
    let order = not_less m n (sorted 0 0 (omega arith) (omega arith)) in
    let other = apart.0.0 in
    let less : n < m = grind (arith, nat_tests) in
    (All-cons (λ k. n < k) m ns less (All-weaker (λ k. m < k) (λ k. n < k) (λ k h. omega arith) ns rest.0), rest)

-- ---- the members of a range that are in a list

out_of : (k : ℕ) (ns : List ℕ) → All (λ m. k < m) ns → list_any (nat_eq k) ns ≡ false
out_of k ns all = list_any_none (nat_eq k) ns (All-weaker (λ m. k < m) (λ m. nat_eq k m ≡ false) (λ m h. grind (arith, nat_tests)) ns all)

filter_same : (p q : ℕ → Bool) (a n : ℕ) → ((k : ℕ) → a ≤ k → p k ≡ q k) → filter p (range_with_len a n) ≡ filter q (range_with_len a n)
filter_same p q a zero h = refl
filter_same p q a (suc n) h = ap (λ (b : Bool). cond b (a ∷ filter p (range_with_len (a + 1) n)) (filter p (range_with_len (a + 1) n))) (h a (omega arith))
    ∙ ap (λ (ks : List ℕ). cond (q a) (a ∷ ks) ks) (filter_same p q (a + 1) n (λ k less. h k (omega arith)))

module _ (a n m : ℕ) (ns : List ℕ) where
  -- the first member of the range is the first of the list
  here : nat_eq a m ≡ true → All (λ k. m < k) ns → filter (λ c. list_any (nat_eq c) ns) (range_with_len (a + 1) n) ≡ ns → filter (λ c. list_any (nat_eq c) (m ∷ ns)) (range_with_len a (suc n)) ≡ m ∷ ns
  here e above rest =
      let same : a ≡ m = grind (arith, nat_tests) in
      let kept = filter (λ c. list_any (nat_eq c) (m ∷ ns)) (range_with_len (a + 1) n) in
      ap (λ (b : Bool). cond (b || list_any (nat_eq a) ns) (a ∷ kept) kept) e
      ∙ ap (λ (ks : List ℕ). a ∷ ks) (filter_same (λ c. list_any (nat_eq c) (m ∷ ns)) (λ c. list_any (nat_eq c) ns) (a + 1) n without ∙ rest)
      ∙ ap (λ (k : ℕ). k ∷ ns) same
    where
      without : (k : ℕ) → a + 1 ≤ k → (nat_eq k m || list_any (nat_eq k) ns) ≡ list_any (nat_eq k) ns
      without k less = other (nat_eq k m) (grind (arith, nat_tests))
        where
          other : (b : Bool) → b ≡ false → (b || list_any (nat_eq k) ns) ≡ list_any (nat_eq k) ns
          other false e = refl
          other true e = absurd (grind arith)

  -- or it is none of the list
  there : nat_eq a m ≡ false → a ≤ m → All (λ k. m < k) ns → filter (λ c. list_any (nat_eq c) (m ∷ ns)) (range_with_len (a + 1) n) ≡ m ∷ ns → filter (λ c. list_any (nat_eq c) (m ∷ ns)) (range_with_len a (suc n)) ≡ m ∷ ns
  there e low above rest =
      let kept = filter (λ c. list_any (nat_eq c) (m ∷ ns)) (range_with_len (a + 1) n) in
      let more : a < m = grind (arith, nat_tests) in
      let others : list_any (nat_eq a) ns ≡ false = out_of a ns (All-weaker (λ k. m < k) (λ k. a < k) (λ k h. omega arith) ns above) in
      ap (λ (b : Bool). cond (b || list_any (nat_eq a) ns) (a ∷ kept) kept) e
      ∙ ap (λ (b : Bool). cond b (a ∷ kept) kept) others
      ∙ rest

none_in : (a n : ℕ) → filter (λ c. false) (range_with_len a n) ≡ []
none_in a zero = refl
none_in a (suc n) = none_in (a + 1) n

pub range_filter : (a n : ℕ) (ns : List ℕ) → Rising ns → All (λ m. a ≤ m) ns → All (λ m. m < a + n) ns → filter (λ c. list_any (nat_eq c) ns) (range_with_len a n) ≡ ns
range_filter a zero [] r low high = refl
range_filter a zero (m ∷ ns) r low high = absurd (let below = All-head (λ m. m < a + 0) m ns high in let above = All-head (λ m. a ≤ m) m ns low in omega arith)
range_filter a (suc n) [] r low high = none_in (a + 1) n
range_filter a (suc n) (m ∷ ns) r low high =
    let first = All-head (λ m. a ≤ m) m ns low in
    let shifted : (ks : List ℕ) → All (λ m. m < a + suc n) ks → All (λ m. m < a + 1 + n) ks = λ ks h. All-weaker (λ m. m < a + suc n) (λ m. m < a + 1 + n) (λ m p. omega arith) ks h in
    by (nat_eq a m) refl
    (λ e. let same : a ≡ m = grind (arith, nat_tests) in
    range_filter (a + 1) n ns r.1 (All-weaker (λ k. m < k) (λ k. a + 1 ≤ k) (λ k h. omega arith) ns r.0) (shifted ns (All-tail (λ m. m < a + suc n) m ns high)))
    (λ e. let more : a + 1 ≤ m = grind (arith, nat_tests) in
    range_filter (a + 1) n (m ∷ ns) r (All-cons (λ k. a + 1 ≤ k) m ns more (All-weaker (λ k. m < k) (λ k. a + 1 ≤ k) (λ k h. omega arith) ns r.0)) (shifted (m ∷ ns) high))
    first
  where
    by : (b : Bool) → nat_eq a m ≡ b
        → (nat_eq a m ≡ true → filter (λ c. list_any (nat_eq c) ns) (range_with_len (a + 1) n) ≡ ns)
        → (nat_eq a m ≡ false → filter (λ c. list_any (nat_eq c) (m ∷ ns)) (range_with_len (a + 1) n) ≡ m ∷ ns)
        → a ≤ m → filter (λ c. list_any (nat_eq c) (m ∷ ns)) (range_with_len a (suc n)) ≡ m ∷ ns
    by true e inside outside first = here a n m ns e r.0 (inside e)
    by false e inside outside first = there a n m ns e first r.0 (outside e)

-- ---- the links of all cells of the caller

range_split : (a n m : ℕ) → range_with_len a (n + m) ≡ range_with_len a n ++ range_with_len (a + n) m
range_split a zero m =
    let none : zero + m ≡ m = omega arith in
    let same : a ≡ a + zero = omega arith in
    ap (range_with_len a) none ∙ ap (λ (k : ℕ). range_with_len k m) same
range_split a (suc n) m =
    let more : suc n + m ≡ suc (n + m) = omega arith in
    let same : a + 1 + n ≡ a + suc n = omega arith in
    ap (range_with_len a) more ∙ ap (λ (ks : List ℕ). a ∷ ks) (range_split (a + 1) n m) ∙ ap (λ (k : ℕ). a ∷ (range_with_len (a + 1) n ++ range_with_len k m)) same

module _ (s : Sharing) where
  inherited_links : (a n : ℕ) → a + n ≤ s.inherited → filter_map (link_of s) (range_with_len a n) ≡ map inherited_link (range_with_len a n)
  inherited_links a zero h = refl
  inherited_links a (suc n) h = by (nat_lt a s.inherited) (grind (arith, nat_tests)) ∙ ap (λ (xs : List Link). inherited_link a ∷ xs) (inherited_links (a + 1) n (omega arith))
    where
      by : (b : Bool) → b ≡ true → cons_option (if b then Some (record { caller = a; callee = a }) else (if list_any (λ d. nat_eq a d) s.foreign then Some (record { caller = a; callee = shared_cell s a }) else None)) (filter_map (link_of s) (range_with_len (a + 1) n))
          ≡ inherited_link a ∷ filter_map (link_of s) (range_with_len (a + 1) n)
      by true e = refl
      by false e = absurd (grind arith)

  foreign_links : (a n : ℕ) → s.inherited ≤ a → filter_map (link_of s) (range_with_len a n) ≡ map (shared_link s) (filter (λ c. list_any (nat_eq c) s.foreign) (range_with_len a n))
  foreign_links a zero h = refl
  foreign_links a (suc n) h = by (nat_lt a s.inherited) (list_any (nat_eq a) s.foreign) (grind (arith, nat_tests)) (foreign_links (a + 1) n (omega arith))
    where
      by : (b c : Bool) → b ≡ false → filter_map (link_of s) (range_with_len (a + 1) n) ≡ map (shared_link s) (filter (λ c. list_any (nat_eq c) s.foreign) (range_with_len (a + 1) n))
          → cons_option (if b then Some (record { caller = a; callee = a }) else (if c then Some (record { caller = a; callee = shared_cell s a }) else None)) (filter_map (link_of s) (range_with_len (a + 1) n))
          ≡ map (shared_link s) (cond c (a ∷ filter (λ c. list_any (nat_eq c) s.foreign) (range_with_len (a + 1) n)) (filter (λ c. list_any (nat_eq c) s.foreign) (range_with_len (a + 1) n)))
      by true c e rest = absurd (grind arith)
      by false true e rest = ap (λ (xs : List Link). shared_link s a ∷ xs) rest
      by false false e rest = rest

  pub all_links : (sorted : List ℕ) (count : ℕ) → IsDistinct nat_eq s.foreign → IsPermutation s.foreign sorted → IsSorted nat_cmp sorted → s.inherited ≤ count → All (λ c. s.inherited ≤ c) s.foreign → All (λ c. c < count) s.foreign
      → map inherited_link (range_with_len 0 s.inherited) ++ map (shared_link s) sorted ≡ filter_map (link_of s) (range_with_len 0 count)
  all_links sorted count apart moved order few behind below =
      let i = s.inherited in
      let rest = count - i in
      let whole : count ≡ i + rest = omega arith in
      let start : 0 + i ≡ i = omega arith in
      let rises = rising sorted order (IsDistinct-IsPermutation nat_eq flips s.foreign sorted moved apart) in
      let low = All-permutation (λ c. s.inherited ≤ c) s.foreign sorted moved behind in
      let high = All-weaker (λ c. c < count) (λ c. c < i + rest) (λ c h. omega arith) sorted (All-permutation (λ c. c < count) s.foreign sorted moved below) in
      let kept : filter (λ c. list_any (nat_eq c) s.foreign) (range_with_len i rest) ≡ sorted =
      filter_agree (λ c. list_any (nat_eq c) s.foreign) (λ c. list_any (nat_eq c) sorted) (λ c. list_any-IsPermutation (nat_eq c) s.foreign sorted moved) (range_with_len i rest) ∙ range_filter i rest sorted rises low high in
      sym
      (ap (λ (n : ℕ). filter_map (link_of s) (range_with_len 0 n)) whole
      ∙ ap (filter_map (link_of s)) (range_split 0 i rest)
      ∙ ap (λ (k : ℕ). filter_map (link_of s) (range_with_len 0 i ++ range_with_len k rest)) start
      ∙ filter_map-append (link_of s) (range_with_len 0 i) (range_with_len i rest)
      ∙ ap (λ (xs : List Link). xs ++ filter_map (link_of s) (range_with_len i rest)) (inherited_links 0 i (omega arith))
      ∙ ap (λ (xs : List Link). map inherited_link (range_with_len 0 i) ++ xs) (foreign_links i rest (omega arith) ∙ ap (map (shared_link s)) kept))

-- ---- the link of one foreign cell

pub foreign_is : (p : Passing) (cell : ℕ) → IsForeign p cell → (rank : ℕ) → position (nat_eq cell) p.foreign.keys ≡ Some rank → ◌≡◌ {A = Link} (record { caller = cell; callee = p.first_foreign + rank }) (shared_link (sharing_of p) cell)
foreign_is p cell foreign rank at = by (nat_lt cell p.inherited) (let behind = foreign.behind in grind (arith, nat_tests))
  where
    found : position_or_len (nat_eq cell) p.foreign.keys ≡ rank
    found = (cond_some (nat_lt (position_or_len (nat_eq cell) p.foreign.keys) (length p.foreign.keys)) (position_or_len (nat_eq cell) p.foreign.keys) rank at).1

    by : (b : Bool) → b ≡ false → ◌≡◌ {A = Link} (record { caller = cell; callee = p.first_foreign + rank }) (record { caller = cell; callee = if b then cell else p.first_foreign + position_or_len (λ d. nat_eq cell d) p.foreign.keys })
    by true e = absurd (grind arith)
    by false e = ap (λ (n : ℕ). record { caller = cell; callee = p.first_foreign + n }) (sym found)

-- each of some cells that are the foreign ones in another order
pub foreign_each : (p : Passing) (cells sorted : List ℕ) → cells ≡ p.foreign.keys → IsPermutation cells sorted → All (λ c. p.inherited ≤ c) p.foreign.keys → All (IsForeign p) sorted
foreign_each p cells sorted same moved behind =
    All-permutation (IsForeign p) cells sorted moved
    (subst (All (IsForeign p)) (sym same) (λ k d h. record { behind = behind k d h; listed = listed k d h }))
  where
    listed : (k d : ℕ) → k < length p.foreign.keys → contains (get_or p.foreign.keys k d) p.foreign.keys ≡ true
    listed k d h = let same : get_or p.foreign.keys k 0 ≡ get_or p.foreign.keys k d = grind (arith, common_steps) in subst (λ (n : ℕ). contains n p.foreign.keys ≡ true) same (member_at p.foreign.keys k h)

pub inherited_push : (n : ℕ) → map inherited_link (range_with_len 0 (n + 1)) ≡ map inherited_link (range_with_len 0 n) ++ inherited_link n ∷ []
inherited_push n =
    let start : 0 + n ≡ n = omega arith in
    ap (map inherited_link) (range_split 0 n 1) ∙ ap (λ (k : ℕ). map inherited_link (range_with_len 0 n ++ range_with_len k 1)) start ∙ map-append inherited_link (range_with_len 0 n) (n ∷ [])
