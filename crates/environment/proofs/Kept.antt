-- What the values of an environment say of its slots, and how a change of the slots keeps them right.
use Rattle.std.proofs.Common.{◌≡◌, ℕ, zero, suc, ◌<◌, ◌≤◌, Bool, true, false, not, cond, List, [], ◌∷◌, ◌++◌, length, get_or, set, take, drop, replicate, ℤ, ◌⊎◌, ◌||◌, inl, inr, refl, sym, ap, ◌∙◌, subst, arith, IsTrue, IsFalse}
use Rattle.std.proofs.lemmas.List.{length-set, length-replicate, get_or_read, take_at}
use Rattle.std.proofs.lemmas.Int.{ints}
use Rattle.std.proofs.lemmas.Bool.{false≢true, not-true, not-false, or_parts, or_from}
use Rattle.lattice.specs.Lattice.{AreSteps}
use Rattle.interval.specs.declared.itv.Itv.{Itv}
use Rattle.interval.specs.declared.val.Val.{Val}
use Rattle.interval.specs.Intervals.{is_empty, empty, interval}
use Rattle.interval.specs.Values.{allows_nothing, nothing, narrow, narrowed_low, narrowed_high, val_join, val_widen, val_narrow}
use Rattle.interval.specs.ValueLaws.{val_laws, same_parts}
use Rattle.environment.specs.Pointwise.{each, each_within, each_below}
use Rattle.environment.specs.Environments.{Environment, cell_count, is_reachable, has_empty_cell, undefined, settled, limits, after_set, after_weak_set, env_below, env_narrow}
use Rattle.environment.specs.Environments.Environment.{Unreachable, Reachable}
use Rattle.environment.specs.CellLaws.{something_above, something_above_each, length_below, alike, Within, within, Anyhow, along, each_above_left, within_above_left, length-each_within}
use Rattle.environment.specs.EnvironmentLaws.{length-limits, count-settled}
use Rattle.environment.specs.Kept.{Roomy, kept, IsKept}

-- ---- how the fields lie behind the value

pub settled_full : (vs : List Val) → IsFalse (has_empty_cell vs) → settled vs ≡ Reachable vs
settled_full vs full = ap (λ b. cond b (Unreachable (length vs)) (Reachable vs)) full

pub count-kept : (r : Bool) (n room : ℕ) (vs : List Val) → (IsTrue r → length vs ≡ n) → cell_count (kept r n room vs).env ≡ n
count-kept true n room vs counted = count-settled vs ∙ counted refl
count-kept false n room vs counted = refl

pub was_reachable : (r : Bool) (n room : ℕ) (vs : List Val) (e : Roomy) → kept r n room vs ≡ e → IsTrue (is_reachable e.env) → r ≡ true
was_reachable true n room vs e view h = refl
was_reachable false n room vs e view h = absurd (false≢true (ap (λ m. is_reachable m.env) view ∙ h))

-- where the fields say reachable or unreachable, so is the environment
pub reached : (r : Bool) (n room : ℕ) (vs : List Val) (e : Roomy) → kept r n room vs ≡ e → (IsTrue r → IsFalse (has_empty_cell vs)) → r ≡ true → e.env ≡ Reachable vs
reached r n room vs e view something h =
    ap (λ m. m.env) (sym view) ∙ ap (λ b. (kept b n room vs).env) h ∙ settled_full vs (something h)

pub unreached : (r : Bool) (n room : ℕ) (vs : List Val) (e : Roomy) → kept r n room vs ≡ e → r ≡ false → e.env ≡ Unreachable n
unreached r n room vs e view h = ap (λ m. m.env) (sym view) ∙ ap (λ b. (kept b n room vs).env) h

-- ---- a change of one cell

set_something : (vs : List Val) (i : ℕ) (v : Val) → IsFalse (has_empty_cell vs) → IsFalse (allows_nothing v) → IsFalse (has_empty_cell (set vs i v))
set_something [] i v h k = refl
set_something (w ∷ vs) zero v h k = or_from _ _ k (or_parts (allows_nothing w) (has_empty_cell vs) h).1
set_something (w ∷ vs) (suc i) v h k =
    let parts = or_parts (allows_nothing w) (has_empty_cell vs) h in
    or_from _ _ parts.0 (set_something vs i v parts.1 k)

pub something_at : (vs : List Val) (i : ℕ) (d : Val) → IsFalse (has_empty_cell vs) → i < length vs → IsFalse (allows_nothing (get_or vs i d))
something_at [] i d h lt = absurd (omega arith)
something_at (w ∷ vs) zero d h lt = (or_parts (allows_nothing w) (has_empty_cell vs) h).0
something_at (w ∷ vs) (suc i) d h lt = something_at vs i d (or_parts (allows_nothing w) (has_empty_cell vs) h).1 (omega arith)

module _ (r : Bool) (n room capacity : ℕ) (vs : List Val) (e : Roomy) (i : ℕ) (v : Val) (view : kept r n room vs ≡ e)
    (k : IsKept r n room capacity vs) (reachable : IsTrue (is_reachable e.env)) (in_range : i < cell_count e.env) where
  was : r ≡ true
  was = was_reachable r n room vs e view reachable

  env_is : e.env ≡ Reachable vs
  env_is = reached r n room vs e view k.something was

  pub in_cells : i < length vs
  in_cells = subst (λ env. i < cell_count env) env_is in_range

  set_kept : (b : Bool) (w : Val) → (IsTrue b → IsFalse (allows_nothing w)) → IsKept b n room capacity (set vs i w)
  set_kept b w some = record {
    fits = k.fits;
    has_memory = k.has_memory;
    counted = λ _. length-set vs i w ∙ k.counted was;
    something = λ e. set_something vs i w (k.something was) (some e);
  }

  -- after a set
  pub set_is_kept : (b : Bool) → b ≡ allows_nothing v → IsKept (not b) n room capacity (set vs i v)
  set_is_kept b b_is = set_kept (not b) v (λ h. sym b_is ∙ not-true b h)

  pub set_value : (b : Bool) → b ≡ allows_nothing v → cond (not b) (settled (set vs i v)) (Unreachable n) ≡ after_set e.env i v
  set_value true b_is =
      ap Unreachable (sym (k.counted was)) ∙ ap (λ c. cond c (Unreachable (length vs)) (Reachable (set vs i v))) b_is ∙ ap (λ env. after_set env i v) (sym env_is)
  set_value false b_is =
      settled_full (set vs i v) (set_something vs i v (k.something was) (sym b_is)) ∙
      ap (λ c. cond c (Unreachable (length vs)) (Reachable (set vs i v))) b_is ∙ ap (λ env. after_set env i v) (sym env_is)

  -- after a weak set
  joined_something : IsFalse (allows_nothing (val_join (get_or vs i nothing) v))
  joined_something =
      something_above (get_or vs i nothing) (val_join (get_or vs i nothing) v) (val_laws.join_above_left (get_or vs i nothing) v refl) (something_at vs i nothing (k.something was) in_cells)

  same_join : (u w : Val) → u ≡ get_or vs i u → w ≡ val_join u v → w ≡ val_join (get_or vs i nothing) v
  same_join u w u_is w_is = w_is ∙ ap (λ u. val_join u v) (get_or_read vs i u in_cells u_is nothing)

  pub weak_set_is_kept : (u w : Val) → u ≡ get_or vs i u → w ≡ val_join u v → IsKept r n room capacity (set vs i w)
  weak_set_is_kept u w u_is w_is = set_kept r w (λ _. rw (same_join u w u_is w_is) joined_something)

  pub weak_set_value : (u w : Val) → u ≡ get_or vs i u → w ≡ val_join u v
      → cond r (settled (set vs i w)) (Unreachable n) ≡ after_weak_set e.env i v
  weak_set_value u w u_is w_is =
      let kept_full : IsKept r n room capacity (set vs i w) = weak_set_is_kept u w u_is w_is in
      ap (λ c. cond c (settled (set vs i w)) (Unreachable n)) was ∙ settled_full (set vs i w) (kept_full.something was) ∙
      ap (λ u. Reachable (set vs i u)) (same_join u w u_is w_is) ∙
      ap (λ env. after_weak_set env i v) (sym env_is)

-- ---- a pass over the cells, which the list takes back

pub same_items : (vs ws : List Val) (len : ℕ) → length ws ≡ length vs → len ≡ length vs → take len (ws ++ drop (length ws) vs) ≡ ws
same_items vs ws len e f = take_at ws (drop (length ws) vs) len (e ∙ sym f)

-- cells above those that were there
pub pass_is_kept : (r : Bool) (n room capacity len : ℕ) (vs ws : List Val) → IsKept r n room capacity vs → r ≡ true → len ≡ length vs
    → IsTrue (each_below vs ws) → IsKept r n room capacity (take len (ws ++ drop (length ws) vs))
pass_is_kept r n room capacity len vs ws k was len_is below =
    let same : length ws ≡ length vs = sym (length_below vs ws below) in
    rw (same_items vs ws len same len_is) (record {
      fits = k.fits;
      has_memory = k.has_memory;
      counted = λ e. same ∙ k.counted e;
      something = λ e. something_above_each vs ws below (k.something e);
    })

pub pass_value : (r : Bool) (n len : ℕ) (vs ws : List Val) → r ≡ true → len ≡ length vs → IsTrue (each_below vs ws) → IsFalse (has_empty_cell vs)
    → cond r (settled (take len (ws ++ drop (length ws) vs))) (Unreachable n) ≡ Reachable ws
pass_value r n len vs ws was len_is below full =
    ap (λ b. cond b (settled (take len (ws ++ drop (length ws) vs))) (Unreachable n)) was ∙
    ap settled (same_items vs ws len (sym (length_below vs ws below)) len_is) ∙ settled_full ws (something_above_each vs ws below full)

-- ---- all cells undefined

started_something : (n : ℕ) → IsFalse (has_empty_cell (replicate n undefined))
started_something zero = refl
started_something (suc n) = started_something n

pub start_value : (n : ℕ) (vs : List Val) → vs ≡ replicate n undefined → settled vs ≡ Reachable (replicate n undefined)
start_value n vs vs_is = ap settled vs_is ∙ settled_full (replicate n undefined) (started_something n)

pub start_is_kept : (n room capacity : ℕ) (vs : List Val) → n ≤ room → room ≤ capacity → vs ≡ replicate n undefined → IsKept true n room capacity vs
start_is_kept n room capacity vs fits has_memory vs_is = record {
  fits = fits;
  has_memory = has_memory;
  counted = λ _. ap length vs_is ∙ length-replicate n undefined;
  something = λ _. ap has_empty_cell vs_is ∙ started_something n;
}

-- ---- two reached environments

pub as_long : (x y : Environment) (vs ws : List Val) → x ≡ Reachable vs → y ≡ Reachable ws → cell_count x ≡ cell_count y → length vs ≡ length ws
as_long x y vs ws h k same = ap cell_count (sym h) ∙ same ∙ ap cell_count k

pub within_reached : (x : Environment) (l : Roomy) (vs ls : List Val) (r : Bool) (n room : ℕ) → x ≡ Reachable vs → kept r n room ls ≡ l → (IsTrue r → IsFalse (has_empty_cell ls))
    → IsTrue (env_below x l.env) → IsTrue (each_below vs ls)
within_reached x l vs ls true n room h view something below =
    ap (env_below (Reachable vs)) (sym (settled_full ls (something refl))) ∙ ap (λ env. env_below env (settled ls)) (sym h) ∙ ap (λ m. env_below x m.env) view ∙ below
within_reached x l vs ls false n room h view something below =
    absurd (false≢true (ap (λ env. env_below env (Unreachable n)) (sym h) ∙ ap (λ m. env_below x m.env) view ∙ below))

pub limit_reached : (x : Environment) (l : Roomy) (vs ls : List Val) (r : Bool) (n room : ℕ) → x ≡ Reachable vs → kept r n room ls ≡ l → (IsTrue r → IsFalse (has_empty_cell ls))
    → IsTrue (env_below x l.env) → l.env ≡ Reachable ls
limit_reached x l vs ls true n room h view something below = reached true n room ls l view something refl
limit_reached x l vs ls false n room h view something below =
    absurd (false≢true (ap (λ env. env_below env (Unreachable n)) (sym h) ∙ ap (λ m. env_below x m.env) view ∙ below))

pub widen_above : (steps : List ℤ) (vs ws ls us : List Val) → AreSteps steps → IsTrue (each_below vs ls) → IsTrue (each_below ws ls)
    → us ≡ each_within (val_widen steps) vs ws ls → IsTrue (each_below vs us)
widen_above steps vs ws ls us rise h k us_is =
    rw us_is (within_above_left Within (val_widen steps)
    (λ v w l p. val_laws.widen_above_left v w l steps (record { left = refl; right = refl; left_below = p.0; right_below = p.1 }) rise)
    (within vs ws ls h k))

pub join_above : (vs ws us : List Val) → length vs ≡ length ws → us ≡ each val_join vs ws → IsTrue (each_below vs us)
join_above vs ws us same us_is =
    rw us_is (each_above_left val_join (λ v w. val_laws.join_above_left v w refl) (alike vs ws same))

-- a pass that stops at a cell that allows nothing
pub pass_settles : (going : Bool) (n len : ℕ) (vs ws us : List Val) → going ≡ not (has_empty_cell us) → (IsTrue going → ws ≡ us)
    → length vs ≡ n → len ≡ length vs → length ws ≡ length vs → length us ≡ length vs
    → cond going (settled (take len (ws ++ drop (length ws) vs))) (Unreachable n) ≡ settled us
pass_settles true n len vs ws us going_is ws_is n_is len_is ws_long us_long =
    ap settled (same_items vs ws len ws_long len_is ∙ ws_is refl)
pass_settles false n len vs ws us going_is ws_is n_is len_is ws_long us_long =
    ap Unreachable (sym n_is ∙ sym us_long) ∙
    ap (λ b. cond b (Unreachable (length us)) (Reachable us)) (sym (not-false (has_empty_cell us) (sym going_is)))

-- ---- a narrowing within a limit

low_within_itself : (x y : Itv) → narrowed_low x y y ≡ narrowed_low x y empty
low_within_itself x y = grind (arith, ints)

high_within_itself : (x y : Itv) → narrowed_high x y y ≡ narrowed_high x y empty
high_within_itself x y = grind (arith, ints)

itv_within_itself : (x y : Itv) → narrow x y y ≡ narrow x y empty
itv_within_itself x y =
    ap (λ a. cond (is_empty x || is_empty y) empty (interval a (narrowed_high x y y))) (low_within_itself x y) ∙
    ap (λ b. cond (is_empty x || is_empty y) empty (interval (narrowed_low x y empty) b)) (high_within_itself x y)

-- no bound moves within y itself, as within a limit that has none
narrow_within_itself : (vs ws : List Val) → length vs ≡ length ws → each_within val_narrow vs ws ws ≡ each_within val_narrow vs ws (replicate (length ws) nothing)
narrow_within_itself [] ws e = refl
narrow_within_itself (v ∷ vs) [] e = absurd (omega arith)
narrow_within_itself (v ∷ vs) (w ∷ ws) e =
    ap (λ u. u ∷ each_within val_narrow vs ws ws) (same_parts (val_narrow v w w) (val_narrow v w nothing) refl (itv_within_itself v.itv w.itv)) ∙
    ap (λ us. val_narrow v w nothing ∷ us) (narrow_within_itself vs ws (omega arith))

pub same_limits : (l : Environment) (vs ws ls : List Val) → length vs ≡ cell_count l → length ws ≡ cell_count l
    → (l ≡ Reachable ls) ⊎ ((m : ℕ) × (l ≡ Unreachable m) × (ls ≡ ws)) → each_within val_narrow vs ws ls ≡ each_within val_narrow vs ws (limits l)
same_limits l vs ws ls e f (inl reachable) = ap (λ l. each_within val_narrow vs ws (limits l)) (sym reachable)
same_limits l vs ws ls e f (inr (m, unreachable, same)) =
    ap (each_within val_narrow vs ws) same ∙ narrow_within_itself vs ws (e ∙ sym f) ∙
    ap (λ k. each_within val_narrow vs ws (replicate k nothing)) (f ∙ ap cell_count unreachable) ∙
    ap (λ l. each_within val_narrow vs ws (limits l)) (sym unreachable)

-- a narrowing that leaves each cell with something
pub narrow_value : (x y l : Environment) (r : Bool) (n len : ℕ) (vs ws us : List Val) → x ≡ Reachable vs → y ≡ Reachable ws → r ≡ true → len ≡ length vs
    → length us ≡ length vs → us ≡ each_within val_narrow vs ws (limits l)
    → cond r (settled (take len (us ++ drop (length us) vs))) (Unreachable n) ≡ env_narrow x y l
narrow_value x y l r n len vs ws us x_is y_is was len_is us_long us_is =
    ap (λ b. cond b (settled (take len (us ++ drop (length us) vs))) (Unreachable n)) was ∙
    ap settled (same_items vs us len us_long len_is ∙ us_is) ∙
    ap (λ y. env_narrow (Reachable vs) y l) (sym y_is) ∙ ap (λ x. env_narrow x y l) (sym x_is)

-- a narrowing that leaves a cell with nothing
pub narrow_emptied : (x y l : Environment) (vs ws : List Val) (n : ℕ) → x ≡ Reachable vs → y ≡ Reachable ws → length vs ≡ n → cell_count x ≡ cell_count l
    → cell_count y ≡ cell_count l → IsTrue (has_empty_cell (each_within val_narrow vs ws (limits l))) → Unreachable n ≡ env_narrow x y l
narrow_emptied x y l vs ws n x_is y_is n_is same same' empty =
    let us : List Val = each_within val_narrow vs ws (limits l) in
    let vs_long : length vs ≡ length (limits l) = ap cell_count (sym x_is) ∙ same ∙ sym (length-limits l) in
    let ws_long : length ws ≡ length (limits l) = ap cell_count (sym y_is) ∙ same' ∙ sym (length-limits l) in
    ap Unreachable (sym n_is ∙ sym (length-each_within Anyhow val_narrow (along vs ws (limits l) vs_long ws_long))) ∙
    ap (λ b. cond b (Unreachable (length us)) (Reachable us)) (sym empty) ∙
    ap (λ y. env_narrow (Reachable vs) y l) (sym y_is) ∙ ap (λ x. env_narrow x y l) (sym x_is)
