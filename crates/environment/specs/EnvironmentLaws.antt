-- The laws of environments as a lattice.
use Rattle.std.specs.Prelude.{◌≡◌, ◌≢◌, ◌+◌, ◌*◌, ◌<◌, ◌≤◌, Bool, true, false, not, List, length, IsTrue, Option, ℤ, if◌then◌else◌}
use Rattle.std.proofs.Common.{arith, refl, ap, subst, inl, inr, ◌∙◌, sym}
use Rattle.std.proofs.lemmas.Bool.{cases_Bool, false≢true}
use Rattle.std.proofs.lemmas.List.{length-replicate}
use Rattle.lattice.specs.Lattice.{AreSteps, IsElement, IsLattice, AreAlike, AreWithin}
use Rattle.interval.specs.declared.val.Val.{Val}
use Rattle.interval.specs.Values.{nothing, val_join, val_meet, val_widen, val_narrow, val_growth, val_shrinkage, val_ops}
use Rattle.interval.specs.ValueLaws.{val_laws}
use Rattle.environment.specs.Pointwise.{each, each_within, each_below, total}
use Rattle.environment.specs.Environments.{Environment, cell_count, is_reachable, settled, has_empty_cell, IsProper, limits, growth, shrinkage, CoversCells, Covers, env_below, env_join, env_meet, env_widen, env_narrow, env_ops}
use Rattle.environment.specs.Environments.Environment.{Unreachable, Reachable}
use Rattle.environment.specs.CellLaws.{alike, Along, Within, Anyhow, along, within, below_itself, below_both, covers_above, covers_something, something_above_each, meet_of_below, widen_of_below, narrow_again, meet_below_narrow, length-each, each_above_left, each_above_right, each_below_left, each_below_right, covers_each, length-each_within, within_above_left, within_above_right, within_limits, within_below, covers_within, total_bound, total_falls}

-- ---- what is unreachable where a cell allows nothing

settled_as : (vs : List Val) (P : Environment → Type 0) → P (Unreachable (length vs)) → P (Reachable vs) → P (settled vs)
settled_as vs P empty full =
    elim (has_empty_cell vs) as (λ b. P (if b then Unreachable (length vs) else Reachable vs)) [ true ↦ empty | false ↦ full ]

pub count-settled : (vs : List Val) → cell_count (settled vs) ≡ length vs
count-settled vs = settled_as vs (λ m. cell_count m ≡ length vs) refl refl

settled_below : (us vs : List Val) → IsTrue (each_below us vs) → IsTrue (env_below (settled us) (Reachable vs))
settled_below us vs h = settled_as us (λ m. IsTrue (env_below m (Reachable vs))) refl h

covers_settled : (vs : List Val) (store : List (List (Option ℤ))) → CoversCells vs store → Covers (settled vs) store
covers_settled vs store c =
    let P : Bool → Type 0 = λ b. Covers (if b then Unreachable (length vs) else Reachable vs) store in
    subst P (sym (covers_something vs store c)) c

-- ---- the bottom and the order

has_none : (x : Environment) (store : List (List (Option ℤ))) → IsTrue (not (is_reachable x)) → ¬ Covers x store
has_none (Unreachable n) store h c = c
has_none (Reachable vs) store h c = false≢true h

bottom_below : (x y : Environment) → IsTrue (not (is_reachable x)) → IsTrue (env_below x y)
bottom_below (Unreachable n) y h = refl
bottom_below (Reachable vs) y h = absurd (false≢true h)

env_below_itself : (x : Environment) → IsTrue (env_below x x)
env_below_itself (Unreachable n) = refl
env_below_itself (Reachable vs) = below_itself vs

below_has : (x y : Environment) (store : List (List (Option ℤ))) → IsTrue (env_below x y) → Covers x store → Covers y store
below_has (Unreachable n) y store h c = absurd c
below_has (Reachable vs) (Unreachable n) store h c = absurd (false≢true h)
below_has (Reachable vs) (Reachable ws) store h c = covers_above vs ws store h c

env_below_both : (x y : Environment) → cell_count x ≡ cell_count y → IsTrue (env_below x y) → IsTrue (env_below y x) → x ≡ y
env_below_both (Unreachable n) (Unreachable m) e a b = ap Unreachable e
env_below_both (Unreachable n) (Reachable ws) e a b = absurd (false≢true b)
env_below_both (Reachable vs) (Unreachable n) e a b = absurd (false≢true a)
env_below_both (Reachable vs) (Reachable ws) e a b = ap Reachable (below_both vs ws a b)

-- ---- the join

join_shape : (x y : Environment) → cell_count x ≡ cell_count y → cell_count (env_join x y) ≡ cell_count x
join_shape (Unreachable n) y e = sym e
join_shape (Reachable vs) (Unreachable n) e = refl
join_shape (Reachable vs) (Reachable ws) e = length-each val_join (alike vs ws e)

join_left : (x y : Environment) → cell_count x ≡ cell_count y → IsTrue (env_below x (env_join x y))
join_left (Unreachable n) y e = refl
join_left (Reachable vs) (Unreachable n) e = below_itself vs
join_left (Reachable vs) (Reachable ws) e =
    each_above_left val_join (λ v w. val_laws.join_above_left v w refl) (alike vs ws e)

join_right : (x y : Environment) → cell_count x ≡ cell_count y → IsTrue (env_below y (env_join x y))
join_right (Unreachable n) y e = env_below_itself y
join_right (Reachable vs) (Unreachable n) e = refl
join_right (Reachable vs) (Reachable ws) e =
    each_above_right val_join (λ v w. val_laws.join_above_right v w refl) (alike vs ws e)

-- ---- the meet

meet_shape : (x y : Environment) → cell_count x ≡ cell_count y → cell_count (env_meet x y) ≡ cell_count x
meet_shape (Unreachable n) y e = refl
meet_shape (Reachable vs) (Unreachable n) e = sym e
meet_shape (Reachable vs) (Reachable ws) e = count-settled (each val_meet vs ws) ∙ length-each val_meet (alike vs ws e)

meet_left : (x y : Environment) → cell_count x ≡ cell_count y → IsTrue (env_below (env_meet x y) x)
meet_left (Unreachable n) y e = refl
meet_left (Reachable vs) (Unreachable n) e = refl
meet_left (Reachable vs) (Reachable ws) e =
    settled_below (each val_meet vs ws) vs (each_below_left val_meet (λ v w. val_laws.meet_below_left v w refl) (alike vs ws e))

meet_right : (x y : Environment) → cell_count x ≡ cell_count y → IsTrue (env_below (env_meet x y) y)
meet_right (Unreachable n) y e = refl
meet_right (Reachable vs) (Unreachable n) e = refl
meet_right (Reachable vs) (Reachable ws) e =
    settled_below (each val_meet vs ws) ws (each_below_right val_meet (λ v w. val_laws.meet_below_right v w refl) (alike vs ws e))

meet_has : (x y : Environment) (store : List (List (Option ℤ))) → cell_count x ≡ cell_count y → Covers x store → Covers y store → Covers (env_meet x y) store
meet_has (Unreachable n) y store e a b = absurd a
meet_has (Reachable vs) (Unreachable n) store e a b = absurd b
meet_has (Reachable vs) (Reachable ws) store e a b =
    covers_settled (each val_meet vs ws) store
    (covers_each val_meet (λ v w p. val_laws.meet_has v w p refl) (alike vs ws e) store a b)

-- what an environment can be is what a meet leaves
settled_meet : (vs : List Val) → env_meet (settled vs) (settled vs) ≡ settled vs
settled_meet vs =
    settled_as vs (λ m. (settled vs ≡ m → env_meet m m ≡ m)) (λ _. refl)
    (λ e. ap settled (meet_of_below vs vs (below_itself vs)) ∙ e) refl

meet_element : (x y : Environment) → IsElement env_ops (env_meet x y)
meet_element (Unreachable n) y = refl
meet_element (Reachable vs) (Unreachable n) = refl
meet_element (Reachable vs) (Reachable ws) = settled_meet (each val_meet vs ws)

meet_of_lower : (x y : Environment) → cell_count x ≡ cell_count y → IsElement env_ops x → IsTrue (env_below x y) → env_meet x y ≡ x
meet_of_lower (Unreachable n) y e k h = refl
meet_of_lower (Reachable vs) (Unreachable n) e k h = absurd (false≢true h)
meet_of_lower (Reachable vs) (Reachable ws) e k h = ap settled (meet_of_below vs ws h ∙ sym (meet_of_below vs vs (below_itself vs))) ∙ k

-- each cell of an element allows something, and the other way round
pub proper_element : (x : Environment) → IsProper x → IsElement env_ops x
proper_element (Unreachable n) h = refl
proper_element (Reachable vs) h =
    ap settled (meet_of_below vs vs (below_itself vs)) ∙ ap (λ b. if b then Unreachable (length vs) else Reachable vs) h

-- ---- the widening

within_limit : (v w l : Val) → Within v w l → AreWithin val_ops v w l
within_limit v w l h = record { left = refl; right = refl; left_below = h.0; right_below = h.1 }

module _ (steps : List ℤ) (rise : AreSteps steps) where
  widen_shape : (x y l : Environment) → AreWithin env_ops x y l → cell_count (env_widen steps x y l) ≡ cell_count l
  widen_shape (Unreachable n) y l h = h.right
  widen_shape (Reachable vs) (Unreachable n) l h = h.left
  widen_shape (Reachable vs) (Reachable ws) (Unreachable n) h = absurd (false≢true h.left_below)
  widen_shape (Reachable vs) (Reachable ws) (Reachable ls) h =
      length-each_within Within (val_widen steps) (within vs ws ls h.left_below h.right_below) ∙ h.left

  widen_left : (x y l : Environment) → AreWithin env_ops x y l → IsTrue (env_below x (env_widen steps x y l))
  widen_left (Unreachable n) y l h = refl
  widen_left (Reachable vs) (Unreachable n) l h = below_itself vs
  widen_left (Reachable vs) (Reachable ws) (Unreachable n) h = absurd (false≢true h.left_below)
  widen_left (Reachable vs) (Reachable ws) (Reachable ls) h =
      within_above_left Within (val_widen steps) (λ v w l p. val_laws.widen_above_left v w l steps (within_limit v w l p) rise)
      (within vs ws ls h.left_below h.right_below)

  widen_right : (x y l : Environment) → AreWithin env_ops x y l → IsTrue (env_below y (env_widen steps x y l))
  widen_right (Unreachable n) y l h = env_below_itself y
  widen_right (Reachable vs) (Unreachable n) l h = refl
  widen_right (Reachable vs) (Reachable ws) (Unreachable n) h = absurd (false≢true h.left_below)
  widen_right (Reachable vs) (Reachable ws) (Reachable ls) h =
      within_above_right Within (val_widen steps) (λ v w l p. val_laws.widen_above_right v w l steps (within_limit v w l p) rise)
      (within vs ws ls h.left_below h.right_below)

  widen_within : (x y l : Environment) → AreWithin env_ops x y l → IsTrue (env_below (env_widen steps x y l) l)
  widen_within (Unreachable n) y l h = h.right_below
  widen_within (Reachable vs) (Unreachable n) l h = h.left_below
  widen_within (Reachable vs) (Reachable ws) (Unreachable n) h = absurd (false≢true h.left_below)
  widen_within (Reachable vs) (Reachable ws) (Reachable ls) h =
      within_limits Within (val_widen steps) (λ v w l p. val_laws.widen_within v w l steps (within_limit v w l p) rise)
      (within vs ws ls h.left_below h.right_below)

  widen_of_lower : (x y l : Environment) → AreWithin env_ops x y l → IsTrue (env_below y x) → env_widen steps x y l ≡ x
  widen_of_lower (Unreachable n) (Unreachable m) l h k = ap Unreachable (h.right ∙ sym h.left)
  widen_of_lower (Unreachable n) (Reachable ws) l h k = absurd (false≢true k)
  widen_of_lower (Reachable vs) (Unreachable n) l h k = refl
  widen_of_lower (Reachable vs) (Reachable ws) (Unreachable n) h k = absurd (false≢true h.left_below)
  widen_of_lower (Reachable vs) (Reachable ws) (Reachable ls) h k = ap Reachable (widen_of_below steps vs ws ls k h.left_below)

pub length-limits : (l : Environment) → length (limits l) ≡ cell_count l
length-limits (Unreachable n) = length-replicate n nothing
length-limits (Reachable ls) = refl

growth_within : (steps : List ℤ) (l : Environment) (vs : List Val) → total (val_growth steps) (limits l) vs ≤ (4 + 2 * length steps) * cell_count l
growth_within steps l vs =
    rw (sym (length-limits l)) (total_bound (val_growth steps) (4 + 2 * length steps) (λ l v. val_laws.widening_bound v l steps refl) (limits l) vs)

widen_falls : (steps : List ℤ) → AreSteps steps → (x y l : Environment) → AreWithin env_ops x y l → env_widen steps x y l ≢ x
    → growth steps l (env_widen steps x y l) < growth steps l x
widen_falls steps rise (Unreachable n) (Unreachable m) l h differs = absurd (differs (ap Unreachable (h.right ∙ sym h.left)))
widen_falls steps rise (Unreachable n) (Reachable ws) l h differs = rw h.left (omega (arith, growth_within steps l ws))
widen_falls steps rise (Reachable vs) (Unreachable n) l h differs = absurd (differs refl)
widen_falls steps rise (Reachable vs) (Reachable ws) (Unreachable n) h differs = absurd (false≢true h.left_below)
widen_falls steps rise (Reachable vs) (Reachable ws) (Reachable ls) h differs =
    total_falls Within (val_widen steps) (val_growth steps) (λ v w l p. val_laws.widen_falls v w l steps (within_limit v w l p) rise)
    (within vs ws ls h.left_below h.right_below) (λ e. differs (ap Reachable e))

-- ---- the narrowing

alike_limit : (v w l : Val) → AreAlike val_ops v w l
alike_limit v w l = record { left = refl; right = refl }

along_limits : (vs ws : List Val) (l : Environment) → AreAlike env_ops (Reachable vs) (Reachable ws) l → Along Anyhow vs ws (limits l)
along_limits vs ws l h = along vs ws (limits l) (h.left ∙ sym (length-limits l)) (h.right ∙ sym (length-limits l))

narrow_shape : (x y l : Environment) → AreAlike env_ops x y l → cell_count (env_narrow x y l) ≡ cell_count l
narrow_shape (Unreachable n) y l h = h.left
narrow_shape (Reachable vs) (Unreachable n) l h = h.right
narrow_shape (Reachable vs) (Reachable ws) l h =
    count-settled (each_within val_narrow vs ws (limits l)) ∙ length-each_within Anyhow val_narrow (along_limits vs ws l h) ∙ h.left

narrow_has : (x y l : Environment) (store : List (List (Option ℤ))) → AreAlike env_ops x y l → Covers x store → Covers y store → Covers (env_narrow x y l) store
narrow_has (Unreachable n) y l store h a b = absurd a
narrow_has (Reachable vs) (Unreachable n) l store h a b = absurd b
narrow_has (Reachable vs) (Reachable ws) l store h a b =
    covers_settled (each_within val_narrow vs ws (limits l)) store
    (covers_within Anyhow val_narrow (λ v w l p. val_laws.narrow_has v w l p (alike_limit v w l)) (along_limits vs ws l h) store a b)

narrow_below : (x y l : Environment) → AreAlike env_ops x y l → IsTrue (env_below (env_narrow x y l) x)
narrow_below (Unreachable n) y l h = refl
narrow_below (Reachable vs) (Unreachable n) l h = refl
narrow_below (Reachable vs) (Reachable ws) l h =
    settled_below (each_within val_narrow vs ws (limits l)) vs
    (within_below Anyhow val_narrow (λ v w l p. val_laws.narrow_below v w l (alike_limit v w l)) (along_limits vs ws l h))

narrow_bottom : (x y l : Environment) → IsTrue (not (is_reachable x)) → IsTrue (not (is_reachable (env_narrow x y l)))
narrow_bottom (Unreachable n) y l h = refl
narrow_bottom (Reachable vs) y l h = absurd (false≢true h)

narrow_falls : (x y l : Environment) → AreAlike env_ops x y l → env_narrow x y l ≢ x → shrinkage l (env_narrow x y l) < shrinkage l x
narrow_falls (Unreachable n) y l h differs = absurd (differs refl)
narrow_falls (Reachable vs) (Unreachable n) l h differs = omega arith
narrow_falls (Reachable vs) (Reachable ws) l h differs =
    settled_as (each_within val_narrow vs ws (limits l)) (λ m. m ≢ Reachable vs → shrinkage l m < shrinkage l (Reachable vs))
    (λ _. omega arith)
    (λ changes. omega (
      arith,
      total_falls Anyhow val_narrow val_shrinkage (λ v w l p. val_laws.narrow_falls v w l (alike_limit v w l))
          (along_limits vs ws l h) (λ e. changes (ap Reachable e)),
    ))
    differs

-- what a narrowing leaves stays when it is repeated
settled_again : (us ws : List Val) (l : Environment) → each_within val_narrow us ws (limits l) ≡ us → env_narrow (settled us) (Reachable ws) l ≡ settled us
settled_again us ws l again = settled_as us (λ m. (settled us ≡ m → env_narrow m (Reachable ws) l ≡ m)) (λ _. refl) (λ e. ap settled again ∙ e) refl

narrow_once_more : (x y l : Environment) → AreAlike env_ops x y l → env_narrow (env_narrow x y l) y l ≡ env_narrow x y l
narrow_once_more (Unreachable n) y l h = refl
narrow_once_more (Reachable vs) (Unreachable n) l h = refl
narrow_once_more (Reachable vs) (Reachable ws) l h =
    settled_again (each_within val_narrow vs ws (limits l)) ws l (narrow_again (along_limits vs ws l h))

-- where a cell of the narrowing allows nothing, so does that of the meet
settled_both : (us vs : List Val) → IsTrue (each_below us vs) → IsTrue (env_below (settled us) (settled vs))
settled_both us vs h =
    elim (cases_Bool (has_empty_cell us)) [
      | inl empty ↦ rw empty refl
      | inr full ↦ rw (full, something_above_each us vs h full) h
    ]

meet_narrow : (x y l : Environment) → AreAlike env_ops x y l → IsTrue (env_below (env_meet x y) (env_narrow x y l))
meet_narrow (Unreachable n) y l h = refl
meet_narrow (Reachable vs) (Unreachable n) l h = refl
meet_narrow (Reachable vs) (Reachable ws) l h =
    settled_both (each val_meet vs ws) (each_within val_narrow vs ws (limits l)) (meet_below_narrow (along_limits vs ws l h))

-- ---- the ranks

growth_bound : (steps : List ℤ) (x l : Environment) → cell_count x ≡ cell_count l → growth steps l x ≤ 1 + (4 + 2 * length steps) * cell_count l
growth_bound steps (Unreachable n) l e = rw e (omega arith)
growth_bound steps (Reachable vs) l e = omega (arith, growth_within steps l vs)

shrinkage_bound : (steps : List ℤ) (x l : Environment) → cell_count x ≡ cell_count l → shrinkage l x ≤ 1 + (4 + 2 * length steps) * cell_count l
shrinkage_bound steps (Unreachable n) l e = omega arith
shrinkage_bound steps (Reachable vs) l e =
    rw (sym (length-limits l)) (omega (arith, total_bound val_shrinkage (4 + 2 * length steps) (λ l v. val_laws.narrowing_bound v l steps refl) (limits l) vs))

pub env_laws : IsLattice env_ops Covers
env_laws = record {
  bottom_shape = λ _. refl;
  bottom_is_bottom = λ _. refl;
  bottom_has_none = has_none;
  bottom_below = λ x y _. bottom_below x y;
  below_itself = env_below_itself;
  below_has = λ x y store _. below_has x y store;
  below_both = env_below_both;
  join_shape = join_shape;
  join_above_left = join_left;
  join_above_right = join_right;
  join_has_left = λ x y store e. below_has x (env_join x y) store (join_left x y e);
  join_has_right = λ x y store e. below_has y (env_join x y) store (join_right x y e);
  meet_shape = meet_shape;
  meet_below_left = meet_left;
  meet_below_right = meet_right;
  meet_has = meet_has;
  meet_element = λ x y _. meet_element x y;
  meet_of_below = meet_of_lower;
  widen_shape = λ x y l steps h rise. widen_shape steps rise x y l h;
  widen_above_left = λ x y l steps h rise. widen_left steps rise x y l h;
  widen_above_right = λ x y l steps h rise. widen_right steps rise x y l h;
  widen_within = λ x y l steps h rise. widen_within steps rise x y l h;
  widen_falls = λ x y l steps h rise. widen_falls steps rise x y l h;
  widen_of_below = λ x y l steps h rise. widen_of_lower steps rise x y l h;
  narrow_shape = narrow_shape;
  narrow_has = narrow_has;
  narrow_below = narrow_below;
  narrow_bottom = λ x y l _. narrow_bottom x y l;
  narrow_falls = narrow_falls;
  narrow_again = narrow_once_more;
  meet_below_narrow = meet_narrow;
  widening_bound = λ x l steps. growth_bound steps x l;
  narrowing_bound = λ x l steps. shrinkage_bound steps x l;
}
