-- The classes that are known when those of a first part have made their calls are a beginning of all classes: so a flow has an unfolding or too many
-- cells, and never both.
use Rattle.std.proofs.Common.{◌≡◌, ◌⊎◌, inl, inr, ℕ, zero, suc, ◌+◌, ◌-◌, ◌<◌, ◌≤◌, Bool, true, false, ◌||◌, ◌&&◌, List, [], ◌∷◌, ◌++◌, fold, length, take, drop, get_or, refl, sym, ap, subst, ◌∙◌, arith, append_assoc, length-append}
use Rattle.std.specs.Prelude.{Contains, nat_eq, if◌then◌else◌}
use Rattle.std.specs.Bool.{beq}
use Rattle.std.specs.List.{flat_map, list_any, sum_by}
use Rattle.std.proofs.Math.Seq.{take-add}
use Rattle.std.proofs.lemmas.Bool.{cases_lt}
use Rattle.std.proofs.lemmas.Bool.Decides.{nat_tests}
use Rattle.std.proofs.lemmas.Grind.{flat_map-append}
use Rattle.std.proofs.lemmas.List.{append-nil, get_or-append_right, get_or-take, length-take-le, take-append-drop, take-append-le}
use Rattle.std.proofs.lemmas.List.Concat.{get_or-flat_map}
use Rattle.std.proofs.lemmas.List.Folds.{length-flat_map-take, list_any-append}
use Rattle.std.proofs.lemmas.List.Sums.{fold-append, sum-map, sum_by-append}
use Rattle.std.proofs.lemmas.Option.{unwrap_or-slice_get}
use Rattle.activations.specs.Calls.{callees}
use Rattle.activations.specs.Drawn.{Drawn, IsUnfolding}
use Rattle.activations.specs.Unfolding.{AreKnown, IsTooMany, Unfolding, size_of, size_of_class, unfolding_of}
use Rattle.alias_class.specs.Classes.{Class, Entry, class_at, same_bind, same_binds, same_class, same_entry}
use Rattle.alias_class.specs.Distinct.{first_occurrences, with_member}
use Rattle.alias_class.specs.declared.bind.Bind.{Bind}
use Rattle.control_points.specs.declared.flow.Flow.{Flow}

false_true : {b : Bool} → b ≡ true → b ≡ false → ⊥
false_true is other = absurd (cc (is, other))

first_false : (a b : Bool) → (a || b) ≡ false → a ≡ false
first_false false b e = refl
first_false true b e = e

first_true : (a b : Bool) → a ≡ true → (a || b) ≡ true
first_true true b e = refl
first_true false b e = absurd (cc (e))

module _ {A : Type 0} (same : A → A → Bool) where
  -- What is put behind members is none of them.
  record Adds (found whole : List A) : Type 0 where
    more : List A
    is : whole ≡ found ++ more
    new : (i : ℕ) (d : A) → i < length more → list_any (same (get_or more i d)) found ≡ false

  new_behind : (found more : List A) (x : A) → list_any (same x) found ≡ false → ((i : ℕ) (d : A) → i < length more → list_any (same (get_or more i d)) (found ++ x ∷ []) ≡ false)
      → (i : ℕ) (d : A) → i < length (x ∷ more) → list_any (same (get_or (x ∷ more) i d)) found ≡ false
  new_behind found more x first rest zero d less = first
  new_behind found more x first rest (suc i) d less =
      let y = get_or more i d in
      first_false (list_any (same y) found) (list_any (same y) (x ∷ [])) (sym (list_any-append (same y) found (x ∷ [])) ∙ rest i d (omega arith))

  adds_by : (found : List A) (x : A) (xs : List A) → ((before : List A) → Adds before (fold (with_member same) before xs)) → (b : Bool) → list_any (same x) found ≡ b
      → Adds found (fold (with_member same) (if b then found else found ++ x ∷ []) xs)
  adds_by found x xs rest true e = rest found
  adds_by found x xs rest false e =
      let r = rest (found ++ x ∷ []) in
      record { more = x ∷ r.more; is = r.is ∙ append_assoc found (x ∷ []) r.more; new = new_behind found r.more x e r.new }

  adds : (xs found : List A) → Adds found (fold (with_member same) found xs)
  adds [] found = record { more = []; is = sym (append-nil found); new = λ i d less. absurd (omega arith) }
  adds (x ∷ xs) found = adds_by found x xs (adds xs) (list_any (same x) found) refl

  kept : (found xs : List A) (y : A) → list_any (same y) found ≡ true → list_any (same y) (fold (with_member same) found xs) ≡ true
  kept found xs y e =
      let a = adds xs found in
      ap (list_any (same y)) a.is ∙ list_any-append (same y) found a.more ∙ first_true (list_any (same y) found) (list_any (same y) a.more) e

  module _ (reflexive : (x : A) → same x x ≡ true) where
    itself_by : (found : List A) (x : A) (b : Bool) → list_any (same x) found ≡ b → list_any (same x) (if b then found else found ++ x ∷ []) ≡ true
    itself_by found x true e = e
    itself_by found x false e =
        list_any-append (same x) found (x ∷ []) ∙ ap (λ (b : Bool). list_any (same x) found || (b || false)) (reflexive x) ∙ ap (λ (b : Bool). b || true) e

    member : (xs found : List A) (i : ℕ) (d : A) → i < length xs → list_any (same (get_or xs i d)) (fold (with_member same) found xs) ≡ true
    member [] found i d less = absurd (omega arith)
    member (x ∷ xs) found zero d less = kept (with_member same found x) xs x (itself_by found x (list_any (same x) found) refl)
    member (x ∷ xs) found (suc i) d less = member xs (with_member same found x) i d (omega arith)

    -- ---- what is known where so many have made their calls

    module _ (r d : A) (k : A → List A) where
      abbrev callers : List A → ℕ → List A
      callers c i = r ∷ flat_map k (take i c)

      abbrev met : List A → ℕ → List A
      met c i = first_occurrences same (callers c i)

      pub record Known (c : List A) (n : ℕ) : Type 0 where
        pub listed : c ≡ met c n
        pub called : (i : ℕ) → suc i < length c → (j : ℕ) × (j ≤ i) × (j < n) × Contains (k (get_or c j d)) (get_or c (suc i) d)

      -- the first of a list are met, and then what the rest adds
      met_more : (c : List A) (i m : ℕ) → Adds (met c i) (met c (i + m))
      met_more c i m =
          let rest = flat_map k (take m (drop i c)) in
          let parts : flat_map k (take (i + m) c) ≡ flat_map k (take i c) ++ rest = ap (flat_map k) (take-add i m c) ∙ flat_map-append k (take i c) (take m (drop i c)) in
          subst (Adds (met c i)) (sym (ap (λ (xs : List A). first_occurrences same (r ∷ xs)) parts ∙ fold-append (with_member same) [] (callers c i) rest)) (adds rest (met c i))

      begun : (c : List A) (n i : ℕ) → Known c n → i ≤ n → Adds (met c i) c
      begun c n i known few =
          subst (Adds (met c i)) (sym (known.listed ∙ ap (met c) (let e : n ≡ i + (n - i) = omega arith in e))) (met_more c i (n - i))

      -- a class that a known one calls is met
      is_met : (c : List A) (i j : ℕ) (y : A) → j < i → i ≤ length c → Contains (k (get_or c j d)) y → list_any (same y) (met c i) ≡ true
      is_met c i j y before few (n, less, at) =
          let xs = take i c in
          let size : length xs ≡ i = length-take-le i c few in
          let here : get_or xs j d ≡ get_or c j d = get_or-take i c j d before in
          let less_here : n < length (k (get_or xs j d)) = subst (λ (x : A). n < length (k x)) (sym here) less in
          let place = length (flat_map k (take j xs)) + n in
          let there : get_or (flat_map k xs) place y ≡ y =
          get_or-flat_map k xs j n d y (omega (arith, size)) less_here ∙ ap (λ (x : A). get_or (k x) n y) here ∙ at in
          let inside : place < length (flat_map k xs) = omega (arith, length-flat_map-take k xs j d (omega (arith, size))) in
          subst (λ (x : A). list_any (same x) (met c i) ≡ true) there (member (callers c i) [] (suc place) y (omega arith))

      -- more are met than have made their calls
      grows : (c : List A) (n i : ℕ) → Known c n → i ≤ n → i < length c → i < length (met c i)
      grows c n zero known few less = omega arith
      grows c n (suc i) known few less = by (cases_lt (suc i) (length (met c (suc i))))
        where
          by : (suc i < length (met c (suc i))) ⊎ (length (met c (suc i)) ≤ suc i) → suc i < length (met c (suc i))
          by (inl more) = more
          by (inr none) =
              let a = begun c n (suc i) known few in
              let caller = known.called i less in
              let y = get_or c (suc i) d in
              let size : length c ≡ length (met c (suc i)) + length a.more = ap length a.is ∙ length-append (met c (suc i)) a.more in
              let at : y ≡ get_or a.more (suc i - length (met c (suc i))) d =
              ap (λ (xs : List A). get_or xs (suc i) d) a.is ∙ get_or-append_right (met c (suc i)) a.more (length (met c (suc i))) (suc i) d refl none in
              let old = is_met c (suc i) caller.0 y (omega (arith, caller.1)) (omega arith) caller.3 in
              absurd (false_true old (ap (λ (x : A). list_any (same x) (met c (suc i))) at ∙ a.new (suc i - length (met c (suc i))) d (omega (arith, size, none, less))))

      one_more : (c e : List A) (n m i : ℕ) → Known c n → Known e m → i ≤ n → i ≤ m → i < length c → i < length e → take i c ≡ take i e → take (suc i) c ≡ take (suc i) e
      one_more c e n m i known other few_n few_m less_c less_e same_so_far =
          let f : met c i ≡ met e i = ap (λ (xs : List A). first_occurrences same (r ∷ flat_map k xs)) same_so_far in
          let a = begun c n i known few_n in
          let b = begun e m i other few_m in
          let long = grows c n i known few_n less_c in
          ap (take (suc i)) a.is ∙ take-append-le (suc i) (met c i) a.more (omega (arith, long)) ∙ ap (take (suc i)) f
          ∙ sym (take-append-le (suc i) (met e i) b.more (omega (arith, grows e m i other few_m less_e))) ∙ sym (ap (take (suc i)) b.is)

      agree : (c e : List A) (n m i : ℕ) → Known c n → Known e m → i ≤ n → i ≤ m → i < length c → i < length e → take (suc i) c ≡ take (suc i) e
      agree c e n m zero known other few_n few_m less_c less_e = one_more c e n m zero known other few_n few_m less_c less_e refl
      agree c e n m (suc i) known other few_n few_m less_c less_e =
          one_more c e n m (suc i) known other few_n few_m less_c less_e (agree c e n m i known other (omega arith) (omega arith) (omega arith) (omega arith))

      -- those known where a class stands behind all callers begin the whole list, which is longer
      same_begin : (c whole : List A) (n l : ℕ) → Known c n → n < length c → Known whole (length whole) → l ≤ n → l ≤ length whole → take l c ≡ take l whole
      same_begin c whole n zero known there other few few_of = refl
      same_begin c whole n (suc l) known there other few few_of = agree c whole n (length whole) l known other (omega arith) (omega arith) (omega arith) (omega arith)

      pub begins : (c whole : List A) (n : ℕ) → Known c n → n < length c → Known whole (length whole) → take (suc n) c ≡ take (suc n) whole
      begins c whole n known there other = by (cases_lt n (length whole))
        where
          by : (n < length whole) ⊎ (length whole ≤ n) → take (suc n) c ≡ take (suc n) whole
          by (inl less) = agree c whole n (length whole) n known other (omega arith) (omega arith) there less
          by (inr past) =
              let l = length whole in
              let start : take l c ≡ take l whole = same_begin c whole n l known there other past (omega arith) in
              let f : met c l ≡ whole = ap (λ (xs : List A). first_occurrences same (r ∷ flat_map k xs)) start ∙ sym other.listed in
              absurd (omega (arith, grows c n l known past (omega arith), ap length f))

-- ---- each class is the same as itself

both : (a b : Bool) → a ≡ true → b ≡ true → a && b ≡ true
both true b h g = g
both false b h g = h

beq_reflexive : (a : Bool) → beq a a ≡ true
beq_reflexive true = refl
beq_reflexive false = refl

nat_reflexive : (n : ℕ) → nat_eq n n ≡ true
nat_reflexive n = grind (arith, nat_tests)

binds_reflexive : (bs : List Bind) → same_binds bs bs ≡ true
binds_reflexive [] = refl
binds_reflexive (b ∷ rest) =
    both (same_bind b b) (same_binds rest rest) (both (beq b.whole b.whole) (nat_eq b.cell b.cell) (beq_reflexive b.whole) (nat_reflexive b.cell)) (binds_reflexive rest)

entry_reflexive : (e : Entry) → same_entry e e ≡ true
entry_reflexive e =
    both (nat_eq e.routine e.routine && nat_eq e.site e.site) (same_binds e.bindings e.bindings)
    (both (nat_eq e.routine e.routine) (nat_eq e.site e.site) (nat_reflexive e.routine) (nat_reflexive e.site)) (binds_reflexive e.bindings)

class_reflexive : (c : Class) → same_class c c ≡ true
class_reflexive [] = refl
class_reflexive (e ∷ c) = both (same_entry e e) (same_class c c) (entry_reflexive e) (class_reflexive c)

-- ---- unfoldings

abbrev callees_in : Unfolding → Class → List Class
callees_in u = callees u.points u.edges u.outline

known_of : (u : Unfolding) (n : ℕ) → AreKnown u n → Known same_class class_reflexive [] [] (callees_in u) u.classes n
known_of u n known = record {
  listed = known.listed;
  called = λ i less.
      let caller = known.called i less in
      let one : class_at u.classes caller.0 ≡ get_or u.classes caller.0 [] = unwrap_or-slice_get u.classes caller.0 [] in
      let other : class_at u.classes (suc i) ≡ get_or u.classes (suc i) [] = unwrap_or-slice_get u.classes (suc i) [] in (
        caller.0,
        caller.1,
        caller.2,
        subst (λ (x : Class). Contains (callees_in u x) (get_or u.classes (suc i) [])) one (subst (Contains (callees_in u (class_at u.classes caller.0))) other caller.3),
      );
}

size_of_part : (u : Unfolding) (n : ℕ) (classes : List Class) → size_of u (take n classes) ≤ size_of u classes
size_of_part u n classes =
    let s = size_of_class u in
    let whole : sum_by s (take n classes ++ drop n classes) ≡ sum_by s classes = ap (sum_by s) (take-append-drop n classes) in
    omega (arith, sum-map s (take n classes), sum-map s classes, whole, sum_by-append s (take n classes) (drop n classes))

pub unfolded_or_too_large : (f : Flow) (g : Drawn) (classes : List Class) (cells : ℕ) → IsUnfolding f g → IsTooMany (unfolding_of f classes) cells → ⊥
unfolded_or_too_large f g classes cells is many =
    let u = unfolding_of f g.table.classes in
    let whole = is.unfolded.whole in
    let first = begins same_class class_reflexive [] [] (callees_in u) classes g.table.classes many.before (known_of (unfolding_of f classes) many.before many.known) many.there
    (known_of u (length g.table.classes) whole) in
    absurd (omega (arith, many.sum, many.above, is.unfolded.within, ap (size_of u) first, size_of_part u (suc many.before) g.table.classes))
