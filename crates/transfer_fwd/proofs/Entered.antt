-- What a call gives to the class that it enters.
use Rattle.std.proofs.Common.{◌≡◌, ◌⊎◌, ℕ, zero, suc, ◌<◌, ◌||◌, Bool, true, false, List, [], ◌∷◌, length, Option, Some, None, refl, sym, ap, ◌∙◌, inl, inr, arith}
use Rattle.std.specs.Prelude.{if◌then◌else◌, slice_index_or, slice_set, slice_get}
use Rattle.std.proofs.lemmas.Bool.{and_parts, false≢true}
use Rattle.std.proofs.lemmas.List.{length-set}
use Rattle.std.proofs.lemmas.Option.{slice_get_within}
use Rattle.alias_class.specs.declared.bind.Link.{Link}
use Rattle.environment.specs.Environments.{Environment, after_set, cell_count, env_join, has_empty_cell, is_reachable, value_at, values}
use Rattle.environment.specs.Environments.Environment.{Reachable, Unreachable}
use Rattle.interval.specs.declared.val.Val.{Val}
use Rattle.interval.specs.Values.{allows_nothing, nothing}
use Rattle.pas_program.specs.declared.expr.Actual.{Actual}
use Rattle.pas_program.specs.declared.expr.Actual.TheViews.{out-Actual}
use Rattle.pas_program.specs.declared.program.Program.{Program}
use Rattle.pas_program.specs.declared.variable.VarDef.{VarDef}
use Rattle.pas_program.specs.Checked.{tables}
use Rattle.pas_program.specs.Tables.{holds_of}
use Rattle.pas_program.specs.Typed.{Passed, are_passed_to, is_passed_to}
use Rattle.abstract_expr.specs.Expressions.{Scope}
use Rattle.transfer_fwd.specs.Crossings.{formal_given, formals_given, given, linked_in, passed_value}

pub or_false : (a b : Bool) → (a || b) ≡ false → (a ≡ false) × (b ≡ false)
or_false true b e = absurd (false≢true (sym e))
or_false false b e = (refl, e)

-- ---- a cell

given_count : (first : Bool) (cell : ℕ) (v : Val) (n : ℕ) → given first cell v (Unreachable n) ≡ Unreachable n
given_count true cell v n = refl
given_count false cell v n = refl

module _ (first : Bool) (outside inside : Scope) (left : Environment) where
  -- where there are no more actuals or no more formals
  pub given_none : (actuals : List Actual) (formals : List ℕ) (env : Environment) → (length actuals ≡ 0) ⊎ (length formals ≡ 0) → formals_given first outside inside left actuals formals env ≡ env
  given_none [] formals env h = refl
  given_none (a ∷ actuals) [] env h = refl
  given_none (a ∷ actuals) (v ∷ formals) env (inl e) = absurd (omega arith)
  given_none (a ∷ actuals) (v ∷ formals) env (inr e) = absurd (omega arith)

  formal_unreached : (v : ℕ) (o : Option Val) (n : ℕ) → formal_given first inside v o (Unreachable n) ≡ Unreachable n
  formal_unreached v None n = refl
  formal_unreached v (Some x) n = given_count first (inside.bind v).cell x n

  -- an entry that is not reached stays so
  pub formals_unreached : (actuals : List Actual) (formals : List ℕ) (n : ℕ) → formals_given first outside inside left actuals formals (Unreachable n) ≡ Unreachable n
  formals_unreached [] formals n = refl
  formals_unreached (a ∷ actuals) [] n = refl
  formals_unreached (a ∷ actuals) (v ∷ formals) n =
      ap (formals_given first outside inside left actuals formals) (formal_unreached v (passed_value outside left v (out-Actual a)) n) ∙ formals_unreached actuals formals n

-- a value that allows nothing lets no entry be reached
emptied : (cell : ℕ) (v : Val) (vs : List Val) → allows_nothing v ≡ true → after_set (Reachable vs) cell v ≡ Unreachable (length vs)
emptied cell v vs e = ap (λ (b : Bool). if b then Unreachable (length vs) else Reachable (slice_set vs cell v)) e

module _ (outside inside : Scope) (left : Environment) where
  nothing_given : (v : ℕ) (o : Option Val) (vs : List Val) → holds_of allows_nothing o ≡ true → formal_given true inside v o (Reachable vs) ≡ Unreachable (length vs)
  nothing_given v None vs e = absurd (false≢true e)
  nothing_given v (Some x) vs e = emptied (inside.bind v).cell x vs e

  pub stops : (a : Actual) (actuals : List Actual) (v : ℕ) (formals : List ℕ) (vs : List Val) → holds_of allows_nothing (passed_value outside left v (out-Actual a)) ≡ true → is_reachable (formals_given true outside inside left (a ∷ actuals) (v ∷ formals) (Reachable vs)) ≡ false
  stops a actuals v formals vs e =
      ap (λ env. is_reachable (formals_given true outside inside left actuals formals env)) (nothing_given v (passed_value outside left v (out-Actual a)) vs e)
      ∙ ap is_reachable (formals_unreached true outside inside left actuals formals (length vs))

-- whether it is reached does not depend on what the cells had
module _ (outside inside : Scope) (left : Environment) where
  pub reached_alike : (actuals : List Actual) (formals : List ℕ) (vs ws : List Val) → is_reachable (formals_given true outside inside left actuals formals (Reachable vs)) ≡ is_reachable (formals_given true outside inside left actuals formals (Reachable ws))
  reached_alike [] formals vs ws = refl
  reached_alike (a ∷ actuals) [] vs ws = refl
  reached_alike (a ∷ actuals) (v ∷ formals) vs ws = by (passed_value outside left v (out-Actual a)) (reached_alike actuals formals)
    where
      by : (o : Option Val) → ((vs ws : List Val) → is_reachable (formals_given true outside inside left actuals formals (Reachable vs)) ≡ is_reachable (formals_given true outside inside left actuals formals (Reachable ws)))
          → is_reachable (formals_given true outside inside left actuals formals (formal_given true inside v o (Reachable vs))) ≡ is_reachable (formals_given true outside inside left actuals formals (formal_given true inside v o (Reachable ws)))
      by None rest = rest vs ws
      by (Some x) rest = test (allows_nothing x)
        where
          test : (b : Bool) → is_reachable (formals_given true outside inside left actuals formals (if b then Unreachable (length vs) else Reachable (slice_set vs (inside.bind v).cell x)))
              ≡ is_reachable (formals_given true outside inside left actuals formals (if b then Unreachable (length ws) else Reachable (slice_set ws (inside.bind v).cell x)))
          test true = ap is_reachable (formals_unreached true outside inside left actuals formals (length vs)) ∙ sym (ap is_reachable (formals_unreached true outside inside left actuals formals (length ws)))
          test false = rest (slice_set vs (inside.bind v).cell x) (slice_set ws (inside.bind v).cell x)

-- ---- formals

-- a formal to which an actual is passed is a variable
pub formal_within : (p : Program) (a : Passed) (rest : List Passed) (v : ℕ) (formals : List ℕ) → are_passed_to (tables p) (a ∷ rest) (v ∷ formals) ≡ true → v < length p.vars
formal_within p a rest v formals e = by (slice_get p.vars v) refl (and_parts (holds_of (is_passed_to (tables p) a) (slice_get p.vars v)) _ e).0
  where
    by : (o : Option VarDef) → slice_get p.vars v ≡ o → holds_of (is_passed_to (tables p) a) o ≡ true → v < length p.vars
    by None at h = absurd (false≢true h)
    by (Some d) at h = slice_get_within p.vars v d at

-- ---- how many cells

given_keeps : (first : Bool) (cell : ℕ) (v : Val) (env : Environment) → cell_count (given first cell v env) ≡ cell_count env
given_keeps first cell v (Unreachable n) = ap cell_count (given_count first cell v n)
given_keeps true cell v (Reachable vs) = by (allows_nothing v)
  where
    by : (b : Bool) → cell_count (if b then Unreachable (length vs) else Reachable (slice_set vs cell v)) ≡ length vs
    by true = refl
    by false = length-set vs cell v
given_keeps false cell v (Reachable vs) = length-set vs cell _

pub links_keep : (first : Bool) (left : Environment) (links : List Link) (env : Environment) → cell_count (linked_in first left links env) ≡ cell_count env
links_keep first left [] env = refl
links_keep first left (l ∷ links) env = links_keep first left links (given first l.callee (value_at left l.caller) env) ∙ given_keeps first l.callee (value_at left l.caller) env

module _ (first : Bool) (outside inside : Scope) (left : Environment) where
  formal_keeps : (v : ℕ) (o : Option Val) (env : Environment) → cell_count (formal_given first inside v o env) ≡ cell_count env
  formal_keeps v None env = refl
  formal_keeps v (Some x) env = given_keeps first (inside.bind v).cell x env

  pub formals_keep : (actuals : List Actual) (formals : List ℕ) (env : Environment) → cell_count (formals_given first outside inside left actuals formals env) ≡ cell_count env
  formals_keep [] formals env = refl
  formals_keep (a ∷ actuals) [] env = refl
  formals_keep (a ∷ actuals) (v ∷ formals) env =
      formals_keep actuals formals (formal_given first inside v (passed_value outside left v (out-Actual a)) env) ∙ formal_keeps v (passed_value outside left v (out-Actual a)) env

-- ---- an environment that is not reached

pub unreached_is : (env : Environment) (n : ℕ) → is_reachable env ≡ false → cell_count env ≡ n → env ≡ Unreachable n
unreached_is (Unreachable m) n e c = ap Unreachable c
unreached_is (Reachable vs) n e c = absurd (false≢true (sym e))

pub join_nowhere : (env : Environment) (n : ℕ) → cell_count env ≡ n → env ≡ env_join env (Unreachable n)
join_nowhere (Unreachable m) n c = ap Unreachable c
join_nowhere (Reachable vs) n c = refl

pub join_first : (env entry : Environment) → is_reachable env ≡ false → entry ≡ env_join env entry
join_first (Unreachable m) entry e = refl
join_first (Reachable vs) entry e = absurd (false≢true (sym e))

-- ---- linked cells hold something

something_at : (vs : List Val) (k : ℕ) → has_empty_cell vs ≡ false → k < length vs → allows_nothing (slice_index_or vs k nothing) ≡ false
something_at [] k e h = absurd (omega arith)
something_at (v ∷ vs) zero e h = (or_false (allows_nothing v) (has_empty_cell vs) e).0
something_at (v ∷ vs) (suc k) e h = something_at vs k (or_false (allows_nothing v) (has_empty_cell vs) e).1 (omega arith)

pub holds_something : (env : Environment) (k : ℕ) → is_reachable env ≡ true → has_empty_cell (values env) ≡ false → k < cell_count env → allows_nothing (value_at env k) ≡ false
holds_something (Unreachable n) k e p h = absurd (false≢true e)
holds_something (Reachable vs) k e p h = something_at vs k p h

pub record IsReached (env : Environment) : Type 0 where
  pub cells : List Val
  pub is : env ≡ Reachable cells

pub links_reach : (left : Environment) (links : List Link) → ((i : ℕ) (l : Link) → slice_get links i ≡ Some l → allows_nothing (value_at left l.caller) ≡ false) → (vs : List Val) → IsReached (linked_in true left links (Reachable vs))
links_reach left [] each vs = record { cells = vs; is = refl }
links_reach left (l ∷ links) each vs =
    let set = slice_set vs l.callee (value_at left l.caller) in
    let here : given true l.callee (value_at left l.caller) (Reachable vs) ≡ Reachable set = ap (λ (b : Bool). if b then Unreachable (length vs) else Reachable set) (each 0 l refl) in
    let rest = links_reach left links (λ i m e. each (suc i) m e) set in
    record { cells = rest.cells; is = ap (linked_in true left links) here ∙ rest.is }

pub reached_is : (env : Environment) → is_reachable env ≡ true → IsReached env
reached_is (Unreachable n) e = absurd (false≢true e)
reached_is (Reachable vs) e = record { cells = vs; is = refl }
