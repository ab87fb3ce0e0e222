-- A pass over the cells, of which the first i are done.
use Rattle.std.proofs.Common.{◌≡◌, ◌≢◌, ℕ, zero, suc, ◌+◌, ◌<◌, ◌≤◌, Bool, true, List, [], ◌∷◌, ◌++◌, length, get_or, set, take, drop, refl, sym, ap, ◌∙◌, subst, arith, append_assoc, add-zero, IsTrue, IsFalse}
use Rattle.std.specs.Bool.{OnTrue, OnFalse}
use Rattle.std.proofs.lemmas.List.{take_more_set, drop-set-lt, drop_more, drop-drop, drop_all, take_all, append-nil, get_or-drop, get_or-set_same, set-get_or}
use Rattle.std.proofs.lemmas.List.Folds.{list_any-append}
use Rattle.std.proofs.lemmas.Bool.{and_parts, or_parts, or_left, or_right, false≢true}
use Rattle.interval.specs.declared.val.Val.{Val}
use Rattle.interval.specs.Values.{allows_nothing, val_below}
use Rattle.environment.specs.Pointwise.{each, each_within, each_below}
use Rattle.environment.specs.Environments.{has_empty_cell}

-- the list at a place that was read
read_at : (vs : List Val) (i : ℕ) (v d : Val) → v ≡ get_or vs i d → i < length vs → drop i vs ≡ v ∷ drop (i + 1) vs
read_at vs i v d v_is lt = drop_more vs i d lt ∙ ap (λ u. u ∷ drop (i + 1) vs) (sym v_is)

shift : (vs before after : List Val) (i : ℕ) (y : Val) → i < length vs → before ≡ y ∷ after → take (i + 1) (set vs i y) ++ after ≡ take i vs ++ before
shift vs before after i y lt e =
    ap (λ us. us ++ after) (take_more_set vs i y lt) ∙ append_assoc (take i vs) (y ∷ []) after ∙ ap (λ us. take i vs ++ us) (sym e)

-- ---- what the first i cells hold, and what f makes of the others

abbrev pub done : (Val → Val → Val) → List Val → List Val → ℕ → List Val
done f vs ws i = take i vs ++ each f (drop i vs) (drop i ws)

pub done_more : (f : Val → Val → Val) (vs ws : List Val) (i : ℕ) (v w y d e : Val) → v ≡ get_or vs i d → w ≡ get_or ws i e → y ≡ f v w
    → i < length vs → i < length ws → done f (set vs i y) ws (i + 1) ≡ done f vs ws i
done_more f vs ws i v w y d e v_is w_is y_is lt lt' =
    ap (λ us. take (i + 1) (set vs i y) ++ each f us (drop (i + 1) ws)) (drop-set-lt (i + 1) vs i y (omega arith)) ∙
    shift vs (each f (drop i vs) (drop i ws)) (each f (drop (i + 1) vs) (drop (i + 1) ws)) i y lt
    (ap (λ us. each f us (drop i ws)) (read_at vs i v d v_is lt) ∙
    ap (each f (v ∷ drop (i + 1) vs)) (read_at ws i w e w_is lt') ∙
    ap (λ u. u ∷ each f (drop (i + 1) vs) (drop (i + 1) ws)) (sym y_is))

pub done_all : (f : Val → Val → Val) (vs ws : List Val) (i : ℕ) → length vs ≤ i → done f vs ws i ≡ vs
done_all f vs ws i le =
    ap (λ us. take i vs ++ each f us (drop i ws)) (drop_all i vs le) ∙ append-nil (take i vs) ∙ take_all i vs le

-- ---- the same with limits

abbrev pub done_within : (Val → Val → Val → Val) → List Val → List Val → List Val → ℕ → List Val
done_within f vs ws ls i = take i vs ++ each_within f (drop i vs) (drop i ws) (drop i ls)

pub done_within_more : (f : Val → Val → Val → Val) (vs ws ls : List Val) (i : ℕ) (v w l y d e k : Val)
    → v ≡ get_or vs i d → w ≡ get_or ws i e → l ≡ get_or ls i k → y ≡ f v w l
    → i < length vs → i < length ws → i < length ls → done_within f (set vs i y) ws ls (i + 1) ≡ done_within f vs ws ls i
done_within_more f vs ws ls i v w l y d e k v_is w_is l_is y_is lt lt' lt'' =
    ap (λ us. take (i + 1) (set vs i y) ++ each_within f us (drop (i + 1) ws) (drop (i + 1) ls)) (drop-set-lt (i + 1) vs i y (omega arith)) ∙
    shift vs (each_within f (drop i vs) (drop i ws) (drop i ls)) (each_within f (drop (i + 1) vs) (drop (i + 1) ws) (drop (i + 1) ls)) i y lt
    (ap (λ us. each_within f us (drop i ws) (drop i ls)) (read_at vs i v d v_is lt) ∙
    ap (λ us. each_within f (v ∷ drop (i + 1) vs) us (drop i ls)) (read_at ws i w e w_is lt') ∙
    ap (each_within f (v ∷ drop (i + 1) vs) (w ∷ drop (i + 1) ws)) (read_at ls i l k l_is lt'') ∙
    ap (λ u. u ∷ each_within f (drop (i + 1) vs) (drop (i + 1) ws) (drop (i + 1) ls)) (sym y_is))

pub done_within_all : (f : Val → Val → Val → Val) (vs ws ls : List Val) (i : ℕ) → length vs ≤ i → done_within f vs ws ls i ≡ vs
done_within_all f vs ws ls i le =
    ap (λ us. take i vs ++ each_within f us (drop i ws) (drop i ls)) (drop_all i vs le) ∙ append-nil (take i vs) ∙ take_all i vs le

-- ---- the cells from i on are as they were

each_below_drop : (vs ws : List Val) (i : ℕ) → IsTrue (each_below vs ws) → IsTrue (each_below (drop i vs) (drop i ws))
each_below_drop vs ws zero h = h
each_below_drop [] [] (suc i) h = refl
each_below_drop [] (w ∷ ws) (suc i) h = absurd (false≢true h)
each_below_drop (v ∷ vs) [] (suc i) h = absurd (false≢true h)
each_below_drop (v ∷ vs) (w ∷ ws) (suc i) h = each_below_drop vs ws i (and_parts _ _ h).1

full_drop : (vs : List Val) (i : ℕ) → IsFalse (has_empty_cell vs) → IsFalse (has_empty_cell (drop i vs))
full_drop vs zero h = h
full_drop [] (suc i) h = refl
full_drop (v ∷ vs) (suc i) h = full_drop vs i (or_parts (allows_nothing v) (has_empty_cell vs) h).1

pub below_at : (vs us ws : List Val) (i : ℕ) (v w d e : Val) → drop i vs ≡ drop i us → IsTrue (each_below us ws)
    → v ≡ get_or vs i d → w ≡ get_or ws i e → i < length vs → i < length ws → IsTrue (val_below v w)
below_at vs us ws i v w d e untouched h v_is w_is lt lt' =
    let P : List Val → Type 0 = λ xs. IsTrue (each_below xs (drop i ws)) in
    let Q : List Val → Type 0 = λ ys. IsTrue (each_below (v ∷ drop (i + 1) vs) ys) in
    let first : P (v ∷ drop (i + 1) vs) = subst P (sym untouched ∙ read_at vs i v d v_is lt) (each_below_drop us ws i h) in
    (and_parts _ _ (subst Q (read_at ws i w e w_is lt') first)).0

pub untouched_more : (vs us : List Val) (i : ℕ) (y : Val) → drop i vs ≡ drop i us → drop (i + 1) (set vs i y) ≡ drop (i + 1) us
untouched_more vs us i y untouched =
    drop-set-lt (i + 1) vs i y (omega arith) ∙ sym (drop-drop 1 i vs) ∙ ap (drop 1) untouched ∙ drop-drop 1 i us

-- they allow something where all cells did so
pub full_at : (vs us : List Val) (i : ℕ) (v d : Val) → drop i vs ≡ drop i us → IsFalse (has_empty_cell us) → v ≡ get_or vs i d → i < length vs
    → IsFalse (allows_nothing v)
full_at vs us i v d untouched full v_is lt =
    let P : List Val → Type 0 = λ xs. IsFalse (has_empty_cell xs) in
    let here : P (v ∷ drop (i + 1) vs) = subst P (sym untouched ∙ read_at vs i v d v_is lt) (full_drop us i full) in
    (or_parts (allows_nothing v) (has_empty_cell (drop (i + 1) vs)) here).0

-- ---- whether a cell changed

pub record IsFlag (flag : Bool) (vs us : List Val) : Type 0 where
  pub changed : OnTrue flag (vs ≢ us)
  pub same : OnFalse flag (vs ≡ us)

same_at : (vs us : List Val) (i : ℕ) (d : Val) → drop i vs ≡ drop i us → get_or vs i d ≡ get_or us i d
same_at vs us i d untouched =
    ap (λ k. get_or vs k d) (sym (add-zero i)) ∙ sym (get_or-drop i vs 0 d) ∙ ap (λ xs. get_or xs 0 d) untouched ∙ get_or-drop i us 0 d ∙
    ap (λ k. get_or us k d) (add-zero i)

-- where the value of the i-th cell changes
pub flag_raised : (flag : Bool) (vs us : List Val) (i : ℕ) (y d : Val) → flag ≡ true → drop i vs ≡ drop i us → i < length vs → y ≢ get_or vs i d
    → IsFlag flag (set vs i y) us
flag_raised flag vs us i y d raised untouched lt differs =
    let P : Bool → Type 0 = λ b. IsFlag b (set vs i y) us in
    subst P (sym raised) (record {
      changed = λ e. differs (sym (get_or-set_same vs i y d lt) ∙ ap (λ xs. get_or xs i d) e ∙ sym (same_at vs us i d untouched));
      same = tt;
    })

-- where it does not
pub flag_kept : (flag before : Bool) (vs us : List Val) (i : ℕ) (y d : Val) → flag ≡ before → y ≡ get_or vs i d → IsFlag before vs us → IsFlag flag (set vs i y) us
flag_kept flag before vs us i y d flag_is y_is h =
    let same : set vs i y ≡ vs = ap (set vs i) y_is ∙ set-get_or vs i d in
    let P : Bool → Type 0 = λ b. IsFlag b (set vs i y) us in
    let Q : List Val → Type 0 = λ xs. IsFlag before xs us in
    subst P (sym flag_is) (subst Q (sym same) h)

-- a cell that is not written
pub not_written : (vs : List Val) (i : ℕ) (v d : Val) → v ≡ get_or vs i d → vs ≡ set vs i v
not_written vs i v d v_is = sym (ap (set vs i) v_is ∙ set-get_or vs i d)

-- ---- a cell that allows nothing

pub emptied : (vs rest : List Val) (i : ℕ) (y : Val) → i < length vs → IsTrue (allows_nothing y) → IsTrue (has_empty_cell (take (i + 1) (set vs i y) ++ rest))
emptied vs rest i y lt h =
    rw (take_more_set vs i y lt, list_any-append allows_nothing (take i vs ++ y ∷ []) rest, list_any-append allows_nothing (take i vs) (y ∷ []), h)
    (or_left _ _ (or_right _ _ refl))

pub something_more : (vs : List Val) (i : ℕ) (y : Val) → i < length vs → IsFalse (has_empty_cell (take i vs)) → IsFalse (allows_nothing y)
    → IsFalse (has_empty_cell (take (i + 1) (set vs i y)))
something_more vs i y lt h k =
    rw (take_more_set vs i y lt, list_any-append allows_nothing (take i vs) (y ∷ []), h, k) refl
