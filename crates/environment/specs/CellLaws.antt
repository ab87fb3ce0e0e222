-- The laws of values cell by cell, from those of one value.
use Rattle.std.specs.Prelude.{◌≡◌, ◌≢◌, ℕ, suc, ◌*◌, ◌<◌, ◌≤◌, Bool, true, false, not, ◌&&◌, List, [], ◌∷◌, length, IsTrue, IsFalse, Option, Some, None, ℤ}
use Rattle.std.proofs.Common.{arith, refl, inl, inr, ap, ◌∙◌}
use Rattle.std.proofs.Math.Nat.{mul-suc}
use Rattle.std.proofs.lemmas.Bool.{and_parts, and_from, or_parts, or_from, cases_Bool, cases_lt, false≢true}
use Rattle.std.proofs.lemmas.Int.{ints}
use Rattle.interval.specs.declared.itv.Itv.{Itv}
use Rattle.interval.specs.declared.val.Val.{Val}
use Rattle.interval.specs.Intervals.{is_empty, IsIn}
use Rattle.interval.specs.Values.{Allows, allows_nothing, val_below, val_meet, val_widen, val_narrow}
use Rattle.interval.specs.ValueLaws.{val_laws, val_meet_of_below, val_widen_of_below}
use Rattle.environment.specs.Pointwise.{each, each_within, each_below, total}
use Rattle.environment.specs.Environments.{MayHold, CoversCells, has_empty_cell}

-- ---- a value allows something exactly where it allows some content

full : (itv : Itv) → IsFalse (is_empty itv) → IsIn itv itv.lo
full itv h = grind (arith, ints)

content : (undef : Bool) (itv : Itv) → IsFalse (not undef && is_empty itv) → (p : Option ℤ) × Allows (record { undef = undef; itv = itv }) p
content true itv h = (None, refl)
content false itv h = (Some itv.lo, full itv h)

pub some_content : (v : Val) → IsFalse (allows_nothing v) → (p : Option ℤ) × Allows v p
some_content v h = content v.undef v.itv h

pub something : (v : Val) (p : Option ℤ) → Allows v p → IsFalse (allows_nothing v)
something v p a =
    elim (cases_Bool (allows_nothing v)) [ inl h ↦ absurd (val_laws.bottom_has_none v p h a) | inr h ↦ h ]

-- so does each value above it
pub something_above : (v w : Val) → IsTrue (val_below v w) → IsFalse (allows_nothing v) → IsFalse (allows_nothing w)
something_above v w below h =
    let found : (p : Option ℤ) × Allows v p = some_content v h in
    something w found.0 (val_laws.below_has v w found.0 refl below found.1)

may_hold_above : (v w : Val) (es : List (Option ℤ)) → IsTrue (val_below v w) → MayHold v es → MayHold w es
may_hold_above v w [] below h = h
may_hold_above v w (e ∷ es) below h =
    (val_laws.below_has v w e refl below h.0, λ k d lt. val_laws.below_has v w _ refl below (h.1 k d lt))

may_hold_both : (u v w : Val) (es : List (Option ℤ)) → ((p : Option ℤ) → Allows v p → Allows w p → Allows u p) → MayHold v es → MayHold w es → MayHold u es
may_hold_both u v w [] both a b = a
may_hold_both u v w (e ∷ es) both a b = (both e a.0 b.0, λ k d lt. both _ (a.1 k d lt) (b.1 k d lt))

may_hold_something : (v : Val) (es : List (Option ℤ)) → MayHold v es → IsFalse (allows_nothing v)
may_hold_something v [] h = absurd h
may_hold_something v (e ∷ es) h = something v e h.0

-- ---- as many values in each list

pub data Alike : List Val → List Val → Type 0 where
  none : Alike [] []
  more : (v w : Val) {vs ws : List Val} → Alike vs ws → Alike (v ∷ vs) (w ∷ ws)

pub alike : (vs ws : List Val) → length vs ≡ length ws → Alike vs ws
alike [] [] e = none
alike [] (w ∷ ws) e = absurd (omega arith)
alike (v ∷ vs) [] e = absurd (omega arith)
alike (v ∷ vs) (w ∷ ws) e = more v w (alike vs ws (omega arith))

-- P holds of the values and the limit of each cell
pub data Along (P : Val → Val → Val → Type 0) : List Val → List Val → List Val → Type 0 where
  none : Along P [] [] []
  more : (v w l : Val) {vs ws ls : List Val} → P v w l → Along P vs ws ls → Along P (v ∷ vs) (w ∷ ws) (l ∷ ls)

-- the values lie within the limit
abbrev pub Within : Val → Val → Val → Type 0
Within v w l = IsTrue (val_below v l) × IsTrue (val_below w l)

abbrev pub Anyhow : Val → Val → Val → Type 0
Anyhow v w l = Unit {0}

pub along : (vs ws ls : List Val) → length vs ≡ length ls → length ws ≡ length ls → Along Anyhow vs ws ls
along [] [] [] e f = none
along [] [] (l ∷ ls) e f = absurd (omega arith)
along [] (w ∷ ws) [] e f = absurd (omega arith)
along [] (w ∷ ws) (l ∷ ls) e f = absurd (omega arith)
along (v ∷ vs) [] [] e f = absurd (omega arith)
along (v ∷ vs) [] (l ∷ ls) e f = absurd (omega arith)
along (v ∷ vs) (w ∷ ws) [] e f = absurd (omega arith)
along (v ∷ vs) (w ∷ ws) (l ∷ ls) e f = more v w l tt (along vs ws ls (omega arith) (omega arith))

pub within : (vs ws ls : List Val) → IsTrue (each_below vs ls) → IsTrue (each_below ws ls) → Along Within vs ws ls
within [] [] [] a b = none
within [] [] (l ∷ ls) a b = absurd (false≢true a)
within [] (w ∷ ws) [] a b = absurd (false≢true b)
within [] (w ∷ ws) (l ∷ ls) a b = absurd (false≢true a)
within (v ∷ vs) [] [] a b = absurd (false≢true a)
within (v ∷ vs) [] (l ∷ ls) a b = absurd (false≢true b)
within (v ∷ vs) (w ∷ ws) [] a b = absurd (false≢true a)
within (v ∷ vs) (w ∷ ws) (l ∷ ls) a b =
    let first = and_parts _ _ a in
    let second = and_parts _ _ b in
    more v w l (first.0, second.0) (within vs ws ls first.1 second.1)

-- ---- the order

pub below_itself : (vs : List Val) → IsTrue (each_below vs vs)
below_itself [] = refl
below_itself (v ∷ vs) = and_from _ _ (val_laws.below_itself v) (below_itself vs)

pub below_both : (vs ws : List Val) → IsTrue (each_below vs ws) → IsTrue (each_below ws vs) → vs ≡ ws
below_both [] [] a b = refl
below_both [] (w ∷ ws) a b = absurd (false≢true a)
below_both (v ∷ vs) [] a b = absurd (false≢true a)
below_both (v ∷ vs) (w ∷ ws) a b =
    let up = and_parts _ _ a in
    let down = and_parts _ _ b in
    ap (λ u. u ∷ vs) (val_laws.below_both v w refl up.0 down.0) ∙ ap (λ us. w ∷ us) (below_both vs ws up.1 down.1)

pub length_below : (vs ws : List Val) → IsTrue (each_below vs ws) → length vs ≡ length ws
length_below [] [] h = refl
length_below [] (w ∷ ws) h = absurd (false≢true h)
length_below (v ∷ vs) [] h = absurd (false≢true h)
length_below (v ∷ vs) (w ∷ ws) h = ap suc (length_below vs ws (and_parts _ _ h).1)

pub covers_above : (vs ws : List Val) (store : List (List (Option ℤ))) → IsTrue (each_below vs ws) → CoversCells vs store → CoversCells ws store
covers_above [] [] store h c = c
covers_above [] (w ∷ ws) store h c = absurd (false≢true h)
covers_above (v ∷ vs) [] store h c = absurd (false≢true h)
covers_above (v ∷ vs) (w ∷ ws) [] h c = c
covers_above (v ∷ vs) (w ∷ ws) (es ∷ store) h c =
    let parts = and_parts _ _ h in
    (may_hold_above v w es parts.0 c.0, covers_above vs ws store parts.1 c.1)

-- cells above some that allow something do so too
pub something_above_each : (vs ws : List Val) → IsTrue (each_below vs ws) → IsFalse (has_empty_cell vs) → IsFalse (has_empty_cell ws)
something_above_each [] [] h k = refl
something_above_each [] (w ∷ ws) h k = absurd (false≢true h)
something_above_each (v ∷ vs) [] h k = absurd (false≢true h)
something_above_each (v ∷ vs) (w ∷ ws) h k =
    let below = and_parts _ _ h in
    let full = or_parts (allows_nothing v) (has_empty_cell vs) k in
    or_from _ _ (something_above v w below.0 full.0) (something_above_each vs ws below.1 full.1)

-- what covers a store has no cell that allows nothing
pub covers_something : (vs : List Val) (store : List (List (Option ℤ))) → CoversCells vs store → IsFalse (has_empty_cell vs)
covers_something [] store c = refl
covers_something (v ∷ vs) [] c = absurd c
covers_something (v ∷ vs) (es ∷ store) c =
    or_from (allows_nothing v) (has_empty_cell vs) (may_hold_something v es c.0) (covers_something vs store c.1)

-- ---- functions of two values

module _ (f : Val → Val → Val) where
  pub length-each : {vs ws : List Val} → Alike vs ws → length (each f vs ws) ≡ length vs
  length-each none = refl
  length-each (more v w rest) = ap suc (length-each rest)

  pub each_above_left : ((v w : Val) → IsTrue (val_below v (f v w))) → {vs ws : List Val} → Alike vs ws → IsTrue (each_below vs (each f vs ws))
  each_above_left law none = refl
  each_above_left law (more v w rest) = and_from _ _ (law v w) (each_above_left law rest)

  pub each_above_right : ((v w : Val) → IsTrue (val_below w (f v w))) → {vs ws : List Val} → Alike vs ws → IsTrue (each_below ws (each f vs ws))
  each_above_right law none = refl
  each_above_right law (more v w rest) = and_from _ _ (law v w) (each_above_right law rest)

  pub each_below_left : ((v w : Val) → IsTrue (val_below (f v w) v)) → {vs ws : List Val} → Alike vs ws → IsTrue (each_below (each f vs ws) vs)
  each_below_left law none = refl
  each_below_left law (more v w rest) = and_from _ _ (law v w) (each_below_left law rest)

  pub each_below_right : ((v w : Val) → IsTrue (val_below (f v w) w)) → {vs ws : List Val} → Alike vs ws → IsTrue (each_below (each f vs ws) ws)
  each_below_right law none = refl
  each_below_right law (more v w rest) = and_from _ _ (law v w) (each_below_right law rest)

  pub covers_each : ((v w : Val) (p : Option ℤ) → Allows v p → Allows w p → Allows (f v w) p)
      → {vs ws : List Val} → Alike vs ws → (store : List (List (Option ℤ))) → CoversCells vs store → CoversCells ws store → CoversCells (each f vs ws) store
  covers_each law none store a b = a
  covers_each law (more v w rest) [] a b = a
  covers_each law (more v w rest) (es ∷ store) a b =
      (may_hold_both (f v w) v w es (law v w) a.0 b.0, covers_each law rest store a.1 b.1)

-- cells that lie below the others stay in the meet
pub meet_of_below : (vs ws : List Val) → IsTrue (each_below vs ws) → each val_meet vs ws ≡ vs
meet_of_below [] [] h = refl
meet_of_below [] (w ∷ ws) h = absurd (false≢true h)
meet_of_below (v ∷ vs) [] h = absurd (false≢true h)
meet_of_below (v ∷ vs) (w ∷ ws) h =
    let below = and_parts _ _ h in
    ap (λ u. u ∷ each val_meet vs ws) (val_meet_of_below v w below.0) ∙ ap (λ us. v ∷ us) (meet_of_below vs ws below.1)

pub widen_of_below : (steps : List ℤ) (vs ws ls : List Val) → IsTrue (each_below ws vs) → IsTrue (each_below vs ls) → each_within (val_widen steps) vs ws ls ≡ vs
widen_of_below steps [] [] [] h k = refl
widen_of_below steps [] [] (l ∷ ls) h k = absurd (false≢true k)
widen_of_below steps [] (w ∷ ws) ls h k = absurd (false≢true h)
widen_of_below steps (v ∷ vs) [] ls h k = absurd (false≢true h)
widen_of_below steps (v ∷ vs) (w ∷ ws) [] h k = absurd (false≢true k)
widen_of_below steps (v ∷ vs) (w ∷ ws) (l ∷ ls) h k =
    let below = and_parts _ _ h in
    let within = and_parts _ _ k in
    ap (λ u. u ∷ each_within (val_widen steps) vs ws ls) (val_widen_of_below steps v w l below.0) ∙
    ap (λ us. v ∷ us) (widen_of_below steps vs ws ls below.1 within.1)

-- ---- functions of two values and a limit

module _ (P : Val → Val → Val → Type 0) (f : Val → Val → Val → Val) where
  pub length-each_within : {vs ws ls : List Val} → Along P vs ws ls → length (each_within f vs ws ls) ≡ length vs
  length-each_within none = refl
  length-each_within (more v w l p rest) = ap suc (length-each_within rest)

  pub within_above_left : ((v w l : Val) → P v w l → IsTrue (val_below v (f v w l))) → {vs ws ls : List Val} → Along P vs ws ls
      → IsTrue (each_below vs (each_within f vs ws ls))
  within_above_left law none = refl
  within_above_left law (more v w l p rest) = and_from _ _ (law v w l p) (within_above_left law rest)

  pub within_above_right : ((v w l : Val) → P v w l → IsTrue (val_below w (f v w l))) → {vs ws ls : List Val} → Along P vs ws ls
      → IsTrue (each_below ws (each_within f vs ws ls))
  within_above_right law none = refl
  within_above_right law (more v w l p rest) = and_from _ _ (law v w l p) (within_above_right law rest)

  pub within_limits : ((v w l : Val) → P v w l → IsTrue (val_below (f v w l) l)) → {vs ws ls : List Val} → Along P vs ws ls
      → IsTrue (each_below (each_within f vs ws ls) ls)
  within_limits law none = refl
  within_limits law (more v w l p rest) = and_from _ _ (law v w l p) (within_limits law rest)

  pub within_below : ((v w l : Val) → P v w l → IsTrue (val_below (f v w l) v)) → {vs ws ls : List Val} → Along P vs ws ls
      → IsTrue (each_below (each_within f vs ws ls) vs)
  within_below law none = refl
  within_below law (more v w l p rest) = and_from _ _ (law v w l p) (within_below law rest)

  pub covers_within : ((v w l : Val) (p : Option ℤ) → Allows v p → Allows w p → Allows (f v w l) p)
      → {vs ws ls : List Val} → Along P vs ws ls → (store : List (List (Option ℤ))) → CoversCells vs store → CoversCells ws store
      → CoversCells (each_within f vs ws ls) store
  covers_within law none store a b = a
  covers_within law (more v w l p rest) [] a b = a
  covers_within law (more v w l p rest) (es ∷ store) a b =
      (may_hold_both (f v w l) v w es (law v w l) a.0 b.0, covers_within law rest store a.1 b.1)

pub narrow_again : {vs ws ls : List Val} → Along Anyhow vs ws ls
    → each_within val_narrow (each_within val_narrow vs ws ls) ws ls ≡ each_within val_narrow vs ws ls
narrow_again none = refl
narrow_again (more v w l {vs = vs} {ws = ws} {ls = ls} p rest) =
    ap (λ u. u ∷ each_within val_narrow (each_within val_narrow vs ws ls) ws ls) (val_laws.narrow_again v w l (record { left = refl; right = refl })) ∙
    ap (λ us. val_narrow v w l ∷ us) (narrow_again rest)

pub meet_below_narrow : {vs ws ls : List Val} → Along Anyhow vs ws ls → IsTrue (each_below (each val_meet vs ws) (each_within val_narrow vs ws ls))
meet_below_narrow none = refl
meet_below_narrow (more v w l p rest) =
    and_from _ _ (val_laws.meet_below_narrow v w l (record { left = refl; right = refl })) (meet_below_narrow rest)

-- ---- ranks

pub total_bound : (rank : Val → Val → ℕ) (most : ℕ) → ((l v : Val) → rank l v ≤ most) → (ls vs : List Val) → total rank ls vs ≤ most * length ls
total_bound rank most bound [] vs = omega arith
total_bound rank most bound (l ∷ ls) [] = omega arith
total_bound rank most bound (l ∷ ls) (v ∷ vs) = rw mul-suc (omega (arith, bound l v, total_bound rank most bound ls vs))

module _ (P : Val → Val → Val → Type 0) (f : Val → Val → Val → Val) (rank : Val → Val → ℕ)
    (law : (v w l : Val) → P v w l → f v w l ≢ v → rank l (f v w l) < rank l v) where
  -- the rank of a cell never rises
  kept_or_falls : (v w l : Val) → P v w l → rank l (f v w l) ≤ rank l v
  kept_or_falls v w l p =
      elim (cases_lt (rank l v) (rank l (f v w l))) [
        | inl rises ↦ absurd (omega (arith, law v w l p (λ e. omega (arith, ap (rank l) e))))
        | inr h ↦ h
      ]

  total_kept_or_falls : {vs ws ls : List Val} → Along P vs ws ls → total rank ls (each_within f vs ws ls) ≤ total rank ls vs
  total_kept_or_falls none = omega arith
  total_kept_or_falls (more v w l p rest) = omega (arith, kept_or_falls v w l p, total_kept_or_falls rest)

  -- where a cell changes, the sum of the ranks falls
  pub total_falls : {vs ws ls : List Val} → Along P vs ws ls → each_within f vs ws ls ≢ vs → total rank ls (each_within f vs ws ls) < total rank ls vs
  total_falls none differs = absurd (differs refl)
  total_falls (more v w l {vs = vs} {ws = ws} {ls = ls} p rest) differs =
      let first_falls : f v w l ≢ v → rank l (f v w l) < rank l v = law v w l p in
      let rest_falls : f v w l ≡ v → total rank ls (each_within f vs ws ls) < total rank ls vs =
      λ e. total_falls rest (λ e'. differs (ap (λ u. u ∷ each_within f vs ws ls) e ∙ ap (λ us. v ∷ us) e')) in
      elim (cases_lt (rank l (f v w l)) (rank l v)) [
        | inl h ↦ omega (arith, h, total_kept_or_falls rest)
        | inr h ↦ elim (cases_lt (total rank ls (each_within f vs ws ls)) (total rank ls vs)) [
          | inl k ↦ omega (arith, k, kept_or_falls v w l p)
          | inr k ↦ absurd (omega (arith, first_falls (λ e. omega (arith, rest_falls e, k)), h))
        ]
      ]
