-- Places that are put into a list, one after another.
use Rattle.std.proofs.Common.{◌≡◌, ◌≢◌, ℕ, zero, suc, ◌+◌, ◌<◌, ◌≤◌, Bool, true, false, ◌||◌, not, cond, List, [], ◌∷◌, length, get_or, get_or-set_other, get_or-set_same, length-set, set, take, nat_eq, refl, sym, ap, ◌∙◌, subst, arith}
use Rattle.std.specs.List.{position_or_len}
use Rattle.std.specs.Prelude.{slice_index}
use Rattle.std.proofs.lemmas.Bool.Decides.{nat_tests}
use Rattle.std.proofs.lemmas.Grind.{common_steps}
use Rattle.std.proofs.lemmas.List.{take_more}
use Rattle.std.proofs.lemmas.List.Folds.{list_any-append}
use Rattle.pas_program.specs.Scopes.{contains, is_distinct}
use Rattle.alias_class.proofs.Lists.{and_left, and_right, member_at, not_true}

-- the places of the first n variables were put
pub record IsPlacedTo (vars : List ℕ) (n : ℕ) (old new : List ℕ) : Type 0 where
  pub long : length new ≡ length old
  pub placed : (v : ℕ) → contains v (take n vars) ≡ true → slice_index new v ≡ position_or_len (λ w. nat_eq v w) vars
  pub others : (v : ℕ) → contains v (take n vars) ≡ false → slice_index new v ≡ slice_index old v

-- ---- members of lists without repeats

differs : (n m : ℕ) (ns : List ℕ) → contains m ns ≡ false → contains n ns ≡ true → nat_eq n m ≡ false
differs n m ns out within = by (nat_eq n m) refl
  where
    by : (b : Bool) → nat_eq n m ≡ b → b ≡ false
    by true e = let same : n ≡ m = grind (arith, nat_tests) in absurd (let e : true ≡ false = sym within ∙ ap (λ (k : ℕ). contains k ns) same ∙ out in grind arith)
    by false e = refl

pub place_at : (ns : List ℕ) (k : ℕ) → is_distinct ns ≡ true → k < length ns → position_or_len (λ w. nat_eq (get_or ns k 0) w) ns ≡ k
place_at [] k d h = absurd (omega arith)
place_at (n ∷ ns) zero d h = by (nat_eq n n) (grind (arith, nat_tests))
  where
    by : (b : Bool) → b ≡ true → cond (not b) (1 + position_or_len (λ w. nat_eq n w) ns) 0 ≡ 0
    by true e = refl
    by false e = absurd (grind arith)
place_at (n ∷ ns) (suc k) d h =
    let out = not_true (contains n ns) (and_left (not (contains n ns)) (is_distinct ns) d) in
    by (nat_eq (get_or ns k 0) n) (differs (get_or ns k 0) n ns out (member_at ns k (omega arith))) (place_at ns k (and_right (not (contains n ns)) (is_distinct ns) d) (omega arith))
  where
    by : (b : Bool) → b ≡ false → position_or_len (λ w. nat_eq (get_or ns k 0) w) ns ≡ k → cond (not b) (1 + position_or_len (λ w. nat_eq (get_or ns k 0) w) ns) 0 ≡ suc k
    by true e rest = absurd (grind arith)
    by false e rest = omega arith

-- ---- one after another

or_left : (a b : Bool) → b ≡ false → (a || (b || false)) ≡ true → a ≡ true
or_left true b e h = refl
or_left false true e h = absurd (grind arith)
or_left false false e h = h

or_neither : (a b : Bool) → b ≡ true → (a || (b || false)) ≡ false → ⊥
or_neither true b e h = grind arith
or_neither false true e h = grind arith
or_neither false false e h = grind arith

neither_left : (a b : Bool) → (a || (b || false)) ≡ false → a ≡ false
neither_left true b h = h
neither_left false b h = refl

pub none_placed : (vars old : List ℕ) → IsPlacedTo vars 0 old old
none_placed vars old = record { long = refl; placed = λ v e. absurd (grind (arith, common_steps)); others = λ v e. refl }

pub one_placed : (vars : List ℕ) (n : ℕ) (old new : List ℕ) → is_distinct vars ≡ true → n < length vars → get_or vars n 0 < length new → IsPlacedTo vars n old new → IsPlacedTo vars (n + 1) old (set new (get_or vars n 0) n)
one_placed vars n old new distinct h below p =
    record {
      long = length-set new v n ∙ p.long;
      placed = λ u e. here u (nat_eq u v) refl (sym (more u) ∙ e);
      others = λ u e. there u (nat_eq u v) refl (sym (more u) ∙ e);
    }
  where
    v : ℕ
    v = get_or vars n 0

    more : (u : ℕ) → contains u (take (n + 1) vars) ≡ (contains u (take n vars) || (nat_eq u v || false))
    more u = ap (contains u) (take_more vars n 0 h) ∙ list_any-append (nat_eq u) (take n vars) (v ∷ [])

    here : (u : ℕ) (b : Bool) → nat_eq u v ≡ b → (contains u (take n vars) || (nat_eq u v || false)) ≡ true → slice_index (set new v n) u ≡ position_or_len (λ w. nat_eq u w) vars
    here u true same e =
        let equal : get_or vars n 0 ≡ u = grind (arith, nat_tests) in
        let written : get_or (set new (get_or vars n 0) n) (get_or vars n 0) 0 ≡ n = rw get_or-set_same in
        subst (λ (w : ℕ). slice_index (set new v n) w ≡ position_or_len (λ x. nat_eq w x) vars) equal (written ∙ sym (place_at vars n distinct h))
    here u false other e =
        let apart : u ≢ get_or vars n 0 = grind (arith, nat_tests) in
        let kept : get_or (set new (get_or vars n 0) n) u 0 ≡ get_or new u 0 = rw get_or-set_other in
        kept ∙ p.placed u (or_left (contains u (take n vars)) (nat_eq u v) other e)

    there : (u : ℕ) (b : Bool) → nat_eq u v ≡ b → (contains u (take n vars) || (nat_eq u v || false)) ≡ false → slice_index (set new v n) u ≡ slice_index old u
    there u true same e = absurd (or_neither (contains u (take n vars)) (nat_eq u v) same e)
    there u false other e =
        let apart : u ≢ get_or vars n 0 = grind (arith, nat_tests) in
        let kept : get_or (set new (get_or vars n 0) n) u 0 ≡ get_or new u 0 = rw get_or-set_other in
        kept ∙ p.others u (neither_left (contains u (take n vars)) (nat_eq u v) e)

pub all_placed : (vars : List ℕ) (n : ℕ) (old new : List ℕ) → length vars ≤ n → IsPlacedTo vars n old new → (v : ℕ) → contains v vars ≡ true → slice_index new v ≡ position_or_len (λ w. nat_eq v w) vars
all_placed vars n old new h p v e = p.placed v (grind (arith, common_steps))

pub all_others : (vars : List ℕ) (n : ℕ) (old new : List ℕ) → length vars ≤ n → IsPlacedTo vars n old new → (v : ℕ) → contains v vars ≡ false → slice_index new v ≡ slice_index old v
all_others vars n old new h p v e = p.others v (grind (arith, common_steps))
