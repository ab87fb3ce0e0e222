-- The first cells of an environment, copied one by one.
use Rattle.std.proofs.Common.{◌≡◌, ℕ, zero, suc, ◌+◌, ◌<◌, ◌≤◌, Bool, true, false, List, [], ◌∷◌, take, length, replicate, refl, ap, subst, ◌∙◌, arith}
use Rattle.std.proofs.lemmas.List.{length-replicate}
use Rattle.std.specs.Prelude.{IsFalse, IsTrue, slice_index_or, slice_set, if◌then◌else◌}
use Rattle.interval.specs.declared.val.Val.{Val}
use Rattle.interval.specs.Values.{allows_nothing, nothing}
use Rattle.environment.specs.Environments.{Environment, after_set, cell_count, is_reachable, started, undefined, value_at, values}
use Rattle.environment.specs.Environments.Environment.{Reachable, Unreachable}
use Rattle.transfer_fwd.specs.Crossings.{kept_cells}

-- the first values of a list, and so many undefined ones
abbrev pub first_cells : List Val → ℕ → ℕ → List Val
first_cells vs zero left = replicate left undefined
first_cells [] (suc n) left = []
first_cells (v ∷ vs) (suc n) left = v ∷ first_cells vs n left

all_first : (vs : List Val) (n : ℕ) → first_cells vs n 0 ≡ take n vs
all_first vs zero = refl
all_first [] (suc n) = refl
all_first (v ∷ vs) (suc n) = ap (λ ws. v ∷ ws) (all_first vs n)

first_long : (vs : List Val) (n left : ℕ) → n ≤ length vs → length (first_cells vs n left) ≡ n + left
first_long vs zero left h = length-replicate left undefined ∙ omega arith
first_long [] (suc n) left h = absurd (omega (arith, h))
first_long (v ∷ vs) (suc n) left h = let rest = first_long vs n left (omega (arith, h)) in omega (arith, rest)

first_set : (vs : List Val) (n left : ℕ) (d : Val) → n < length vs → slice_set (first_cells vs n (suc left)) n (slice_index_or vs n d) ≡ first_cells vs (suc n) left
first_set [] n left d h = absurd (omega (arith, h))
first_set (v ∷ vs) zero left d h = refl
first_set (v ∷ vs) (suc n) left d h = ap (λ ws. v ∷ ws) (first_set vs n left d (omega (arith, h)))

-- so many cells of `from` were copied
pub record IsCopied (from env : Environment) (cells n : ℕ) : Type 0 where
  pub left : ℕ
  pub all : n + left ≡ cells
  pub is : env ≡ Reachable (first_cells (values from) n left)

reached_cells : (from : Environment) → is_reachable from ≡ true → cell_count from ≡ length (values from)
reached_cells (Unreachable n) h = absurd (grind arith)
reached_cells (Reachable vs) h = refl

pub none_copied : (from env : Environment) (cells : ℕ) → env ≡ started cells → IsCopied from env cells 0
none_copied from env cells is = record { left = cells; all = omega arith; is = is }

pub copied_reachable : (from env : Environment) (cells n : ℕ) → IsCopied from env cells n → IsTrue (is_reachable env)
copied_reachable from env cells n copied = ap is_reachable copied.is

pub copied_count : (from env : Environment) (cells n : ℕ) → IsTrue (is_reachable from) → cells ≤ cell_count from → IsCopied from env cells n → cell_count env ≡ cells
copied_count from env cells n reached few copied =
    let long = first_long (values from) n copied.left (omega (arith, copied.all, few, reached_cells from reached)) in
    ap cell_count copied.is ∙ long ∙ copied.all

set_by : (vs : List Val) (cell : ℕ) (v : Val) (b : Bool) → allows_nothing v ≡ b → b ≡ false → (if b then Unreachable (length vs) else Reachable (slice_set vs cell v)) ≡ Reachable (slice_set vs cell v)
set_by vs cell v true is h = absurd (grind (arith, h))
set_by vs cell v false is h = refl

next_by : (from : Environment) (cells n left : ℕ) → n + left ≡ cells → n < cells → IsTrue (is_reachable from) → cells ≤ cell_count from → IsFalse (allows_nothing (value_at from n))
    → (rest : ℕ) × (n + 1 + rest ≡ cells) × (after_set (Reachable (first_cells (values from) n left)) n (value_at from n) ≡ Reachable (first_cells (values from) (n + 1) rest))
next_by from cells n zero all below reached few some = absurd (omega (arith, all, below))
next_by from cells n (suc left) all below reached few some =
    let next : suc n ≡ n + 1 = omega arith in (
      left,
      omega (arith, all),
      set_by (first_cells (values from) n (suc left)) n (value_at from n) (allows_nothing (value_at from n)) refl some
          ∙ ap Reachable (first_set (values from) n left nothing (omega (arith, below, few, reached_cells from reached)) ∙ ap (λ (m : ℕ). first_cells (values from) m left) next),
    )

pub one_copied : (from env after : Environment) (v : Val) (cells n : ℕ) → IsCopied from env cells n → n < cells → IsTrue (is_reachable from) → cells ≤ cell_count from
    → v ≡ value_at from n → IsFalse (allows_nothing v) → after ≡ after_set env n v → IsCopied from after cells (n + 1)
one_copied from env after v cells n copied below reached few is some set =
    let next = next_by from cells n copied.left copied.all below reached few (subst (λ (w : Val). IsFalse (allows_nothing w)) is some) in
    record {
      left = next.0;
      all = next.1;
      is = set ∙ ap (λ (e : Environment). after_set e n v) copied.is ∙ ap (λ (w : Val). after_set (Reachable (first_cells (values from) n copied.left)) n w) is ∙ next.2;
    }

kept_is : (from : Environment) (cells : ℕ) → is_reachable from ≡ true → Reachable (take cells (values from)) ≡ kept_cells cells from
kept_is (Unreachable n) cells h = absurd (grind arith)
kept_is (Reachable vs) cells h = refl

pub all_copied : (from env : Environment) (cells n : ℕ) → IsCopied from env cells n → cells ≤ n → IsTrue (is_reachable from) → env ≡ kept_cells cells from
all_copied from env cells n copied last reached =
    let done : n ≡ cells = omega (arith, copied.all, last) in
    let none : copied.left ≡ 0 = omega (arith, copied.all, last) in
    copied.is ∙ ap (λ (m : ℕ). Reachable (first_cells (values from) m copied.left)) done ∙ ap (λ (m : ℕ). Reachable (first_cells (values from) cells m)) none
    ∙ ap Reachable (all_first (values from) cells) ∙ kept_is from cells reached

pub unreached : (from : Environment) (cells : ℕ) → is_reachable from ≡ false → Unreachable cells ≡ kept_cells cells from
unreached (Unreachable n) cells h = refl
unreached (Reachable vs) cells h = absurd (grind arith)
