-- Where each cell is joined once to a value, and the entry has that value, the outcome is their join.
use Rattle.std.proofs.Common.{◌≡◌, ◌≢◌, ℕ, suc, ◌<◌, ◌&&◌, ◌||◌, not, Bool, true, false, List, [], ◌∷◌, length, get_or, get_or-set_other, get_or-set_same, nat_eq, Option, Some, None, refl, sym, ap, ◌∙◌, subst, arith}
use Rattle.std.specs.List.{list_any}
use Rattle.std.specs.Prelude.{is_some, replicate, slice_get, slice_set, if◌then◌else◌}
use Rattle.std.proofs.lemmas.Bool.{eq-eqb, eqb-true, false≢true}
use Rattle.std.proofs.lemmas.List.{length-replicate, length-set}
use Rattle.std.proofs.lemmas.Grind.{common_steps}
use Rattle.alias_class.specs.declared.bind.Link.{Link}
use Rattle.environment.specs.Environments.{Environment, env_join, is_reachable, undefined, value_at}
use Rattle.environment.specs.Environments.Environment.{Reachable, Unreachable}
use Rattle.environment.specs.Pointwise.{each}
use Rattle.interval.specs.declared.val.Val.{Val}
use Rattle.interval.specs.Values.{allows_nothing, nothing, val_join}
use Rattle.pas_program.specs.declared.expr.Actual.{Actual}
use Rattle.pas_program.specs.declared.expr.Actual.TheViews.{out-Actual}
use Rattle.pas_program.specs.declared.variable.VarDef.{VarDef}
use Rattle.pas_program.specs.Scopes.{is_formal}
use Rattle.pas_program.specs.Tables.{holds_of}
use Rattle.abstract_expr.specs.Expressions.{Scope}
use Rattle.transfer_fwd.specs.Crossings.{formal_given, formals_given, given, linked_in, may_all_be_undefined, passed_value}
use Rattle.transfer_fwd.proofs.Entered.{formals_unreached, or_false}

-- Cells that are done are joined; the others are as they were, and undefined in the entry.
pub record Joins (ws : List Val) (done : ℕ → Bool) (out entry : Environment) : Type 0 where
  pub outs : List Val
  pub ins : List Val
  pub out_is : out ≡ Reachable outs
  pub entry_is : entry ≡ Reachable ins
  pub long_out : length outs ≡ length ws
  pub long_in : length ins ≡ length ws
  pub joined : (k : ℕ) → k < length ws → done k ≡ true → get_or outs k nothing ≡ val_join (get_or ws k nothing) (get_or ins k nothing)
  pub kept : (k : ℕ) → k < length ws → done k ≡ false → get_or outs k nothing ≡ get_or ws k nothing
  pub blank : (k : ℕ) → k < length ws → done k ≡ false → get_or ins k nothing ≡ undefined

apart : (k cell : ℕ) → nat_eq k cell ≡ false → k ≢ cell
apart k cell e same = false≢true (sym e ∙ eq-eqb k cell same)

-- the joined values, where one more cell is done
module _ (ws : List Val) (done : ℕ → Bool) (out entry : Environment) (j : Joins ws done out entry) (cell : ℕ) (less : cell < length ws) (fresh : done cell ≡ false) where
  out_other : (k : ℕ) (v : Val) → nat_eq k cell ≡ false → get_or (slice_set j.outs cell v) k nothing ≡ get_or j.outs k nothing
  out_other k v e = get_or-set_other j.outs cell k v nothing (apart k cell e)

  in_other : (k : ℕ) (v : Val) → nat_eq k cell ≡ false → get_or (slice_set j.ins cell v) k nothing ≡ get_or j.ins k nothing
  in_other k v e = get_or-set_other j.ins cell k v nothing (apart k cell e)

  out_here : (v : Val) → get_or (slice_set j.outs cell (val_join (get_or j.outs cell nothing) v)) cell nothing ≡ val_join (get_or ws cell nothing) v
  out_here v =
      let long = j.long_out in
      get_or-set_same j.outs cell (val_join (get_or j.outs cell nothing) v) nothing (omega arith) ∙ ap (λ (u : Val). val_join u v) (j.kept cell less fresh)

  step_at : (v : Val) (k : ℕ) → k < length ws → (b : Bool) → nat_eq k cell ≡ b → (b || done k) ≡ true
      → get_or (slice_set j.outs cell (val_join (get_or j.outs cell nothing) v)) k nothing ≡ val_join (get_or ws k nothing) (get_or (slice_set j.ins cell v) k nothing)
  step_at v k h true t e =
      let same : k ≡ cell = eqb-true k cell t in
      let long = j.long_in in
      let is : get_or (slice_set j.ins cell v) cell nothing ≡ v = get_or-set_same j.ins cell v nothing (omega arith) in
      subst (λ (n : ℕ). get_or (slice_set j.outs cell (val_join (get_or j.outs cell nothing) v)) n nothing ≡ val_join (get_or ws n nothing) (get_or (slice_set j.ins cell v) n nothing)) (sym same)
      (out_here v ∙ ap (val_join (get_or ws cell nothing)) (sym is))
  step_at v k h false t e = out_other k (val_join (get_or j.outs cell nothing) v) t ∙ j.joined k h e ∙ ap (val_join (get_or ws k nothing)) (sym (in_other k v t))

  blank_at : (k : ℕ) → k < length ws → (b : Bool) → nat_eq k cell ≡ b → (b || done k) ≡ true
      → get_or (slice_set j.outs cell (val_join (get_or j.outs cell nothing) undefined)) k nothing ≡ val_join (get_or ws k nothing) (get_or j.ins k nothing)
  blank_at k h true t e =
      let same : k ≡ cell = eqb-true k cell t in
      subst (λ (n : ℕ). get_or (slice_set j.outs cell (val_join (get_or j.outs cell nothing) undefined)) n nothing ≡ val_join (get_or ws n nothing) (get_or j.ins n nothing)) (sym same)
      (out_here undefined ∙ ap (val_join (get_or ws cell nothing)) (sym (j.blank cell less fresh)))
  blank_at k h false t e = out_other k (val_join (get_or j.outs cell nothing) undefined) t ∙ j.joined k h e

  -- a value goes into both
  pub step : (v : Val) → allows_nothing v ≡ false → Joins ws (λ k. nat_eq k cell || done k) (given false cell v out) (given true cell v entry)
  step v some =
      let new = val_join (get_or j.outs cell nothing) v in
      record {
        outs = slice_set j.outs cell new;
        ins = slice_set j.ins cell v;
        out_is = ap (given false cell v) j.out_is;
        entry_is = ap (given true cell v) j.entry_is ∙ ap (λ (b : Bool). if b then Unreachable (length j.ins) else Reachable (slice_set j.ins cell v)) some;
        long_out = length-set j.outs cell new ∙ j.long_out;
        long_in = length-set j.ins cell v ∙ j.long_in;
        joined = λ k h e. step_at v k h (nat_eq k cell) refl e;
        kept = λ k h e. (let parts = or_false (nat_eq k cell) (done k) e in out_other k new parts.0 ∙ j.kept k h parts.1);
        blank = λ k h e. (let parts = or_false (nat_eq k cell) (done k) e in in_other k v parts.0 ∙ j.blank k h parts.1);
      }

  -- the entry has nothing there
  pub step_blank : Joins ws (λ k. nat_eq k cell || done k) (given false cell undefined out) entry
  step_blank =
      let new = val_join (get_or j.outs cell nothing) undefined in
      record {
        outs = slice_set j.outs cell new;
        ins = j.ins;
        out_is = ap (given false cell undefined) j.out_is;
        entry_is = j.entry_is;
        long_out = length-set j.outs cell new ∙ j.long_out;
        long_in = j.long_in;
        joined = λ k h e. blank_at k h (nat_eq k cell) refl e;
        kept = λ k h e. (let parts = or_false (nat_eq k cell) (done k) e in out_other k new parts.0 ∙ j.kept k h parts.1);
        blank = λ k h e. (let parts = or_false (nat_eq k cell) (done k) e in j.blank k h parts.1);
      }

-- ---- the beginning and the end

pub begin : (ws : List Val) → Joins ws (λ k. false) (Reachable ws) (Reachable (replicate (length ws) undefined))
begin ws = record {
  outs = ws;
  ins = replicate (length ws) undefined;
  out_is = refl;
  entry_is = refl;
  long_out = refl;
  long_in = length-replicate (length ws) undefined;
  joined = λ k h e. absurd (false≢true e);
  kept = λ k h e. refl;
  blank = λ k h e. replicated (length ws) k h;
}
  where
    replicated : (n k : ℕ) → k < n → get_or (replicate n undefined) k nothing ≡ undefined
    replicated n k h = grind (arith, common_steps)

each_is : (ws ins outs : List Val) → length outs ≡ length ws → length ins ≡ length ws → ((k : ℕ) → k < length ws → get_or outs k nothing ≡ val_join (get_or ws k nothing) (get_or ins k nothing)) → outs ≡ each val_join ws ins
each_is [] [] [] a b e = refl
each_is [] [] (o ∷ outs) a b e = absurd (omega arith)
each_is [] (i ∷ ins) outs a b e = absurd (omega arith)
each_is (w ∷ ws) [] outs a b e = absurd (omega arith)
each_is (w ∷ ws) (i ∷ ins) [] a b e = absurd (omega arith)
each_is (w ∷ ws) (i ∷ ins) (o ∷ outs) a b e =
    ap (λ (x : Val). x ∷ outs) (e 0 (omega arith)) ∙ ap (λ (xs : List Val). val_join w i ∷ xs) (each_is ws ins outs (omega arith) (omega arith) (λ k h. e (suc k) (omega arith)))

-- where all cells are done
pub all_joined : (ws : List Val) (done : ℕ → Bool) (out entry : Environment) → Joins ws done out entry → ((k : ℕ) → k < length ws → done k ≡ true) → out ≡ env_join (Reachable ws) entry
all_joined ws done out entry j all =
    j.out_is ∙ ap Reachable (each_is ws j.ins j.outs j.long_out j.long_in (λ k h. j.joined k h (all k h))) ∙ ap (env_join (Reachable ws)) (sym j.entry_is)

-- ---- links

-- whether a cell is one to which a link leads
abbrev pub is_linked : List Link → ℕ → Bool
is_linked links k = list_any (λ (l : Link). nat_eq k l.callee) links

-- Links that lead to different cells, none of which is done, and give each of them something.
pub record AreFresh (ws : List Val) (done : ℕ → Bool) (left : Environment) (links : List Link) : Type 0 where
  pub within : (i : ℕ) (l : Link) → slice_get links i ≡ Some l → l.callee < length ws
  pub fresh : (i : ℕ) (l : Link) → slice_get links i ≡ Some l → done l.callee ≡ false
  pub differ : (i k : ℕ) (l m : Link) → slice_get links i ≡ Some l → slice_get links k ≡ Some m → l.callee ≡ m.callee → i ≡ k
  pub something : (i : ℕ) (l : Link) → slice_get links i ≡ Some l → allows_nothing (value_at left l.caller) ≡ false

redone : (ws : List Val) (done other : ℕ → Bool) (out entry : Environment) → ((k : ℕ) → other k ≡ done k) → Joins ws done out entry → Joins ws other out entry
redone ws done other out entry same j = record {
  outs = j.outs;
  ins = j.ins;
  out_is = j.out_is;
  entry_is = j.entry_is;
  long_out = j.long_out;
  long_in = j.long_in;
  joined = λ k h e. j.joined k h (sym (same k) ∙ e);
  kept = λ k h e. j.kept k h (sym (same k) ∙ e);
  blank = λ k h e. j.blank k h (sym (same k) ∙ e);
}

moved : (a b c : Bool) → ((a || b) || c) ≡ (b || (a || c))
moved true true c = refl
moved true false c = refl
moved false true c = refl
moved false false c = refl

neither : (a b : Bool) → a ≡ false → b ≡ false → (a || b) ≡ false
neither true b e f = e
neither false b e f = f

pub links_joined : (ws : List Val) (left : Environment) (links : List Link) (done : ℕ → Bool) (out entry : Environment) → AreFresh ws done left links → Joins ws done out entry → Joins ws (λ k. is_linked links k || done k) (linked_in false left links out) (linked_in true left links entry)
links_joined ws left [] done out entry fresh j = redone ws done (λ k. done k) out entry (λ k. refl) j
links_joined ws left (l ∷ links) done out entry fresh j =
    let v = value_at left l.caller in
    let one = step ws done out entry j l.callee (fresh.within 0 l refl) (fresh.fresh 0 l refl) v (fresh.something 0 l refl) in
    let rest : AreFresh ws (λ k. nat_eq k l.callee || done k) left links = record {
      within = λ i m e. fresh.within (suc i) m e;
      fresh = λ i m e. neither (nat_eq m.callee l.callee) (done m.callee) (other i m e (nat_eq m.callee l.callee) refl) (fresh.fresh (suc i) m e);
      differ = λ i k m n e f same. (let next = fresh.differ (suc i) (suc k) m n e f same in omega arith);
      something = λ i m e. fresh.something (suc i) m e;
    } in
    redone ws (λ k. is_linked links k || (nat_eq k l.callee || done k)) (λ k. is_linked (l ∷ links) k || done k) (linked_in false left links (given false l.callee v out)) (linked_in true left links (given true l.callee v entry)) (λ k. moved (nat_eq k l.callee) (is_linked links k) (done k))
    (links_joined ws left links (λ k. nat_eq k l.callee || done k) (given false l.callee v out) (given true l.callee v entry) rest one)
  where
    other : (i : ℕ) (m : Link) → slice_get links i ≡ Some m → (b : Bool) → nat_eq m.callee l.callee ≡ b → nat_eq m.callee l.callee ≡ false
    other i m e true t = absurd (let same = fresh.differ 0 (suc i) l m refl e (sym (eqb-true m.callee l.callee t)) in omega arith)
    other i m e false t = t

-- ---- formals

module _ (outside inside : Scope) (left : Environment) where
  -- whether a cell is that of a value parameter
  abbrev pub is_given : List Actual → List ℕ → ℕ → Bool
  is_given [] formals k = false
  is_given (a ∷ actuals) [] k = false
  is_given (a ∷ actuals) (v ∷ formals) k = (is_some (passed_value outside left v (out-Actual a)) && nat_eq k (inside.bind v).cell) || is_given actuals formals k

  -- value parameters with different cells, none of which is done
  abbrev pub AreOpen : List Val → (ℕ → Bool) → List Actual → List ℕ → Type 0
  AreOpen ws done [] formals = Unit {0}
  AreOpen ws done (a ∷ actuals) [] = Unit {0}
  AreOpen ws done (a ∷ actuals) (v ∷ formals) =
      (is_some (passed_value outside left v (out-Actual a)) ≡ true → ((inside.bind v).cell < length ws) × ((done (inside.bind v).cell ≡ false) × (is_given actuals formals (inside.bind v).cell ≡ false)))
      × AreOpen ws done actuals formals

  -- one more is done that is none of them
  still_open : (ws : List Val) (done : ℕ → Bool) (cell : ℕ) (actuals : List Actual) (formals : List ℕ) → is_given actuals formals cell ≡ false → AreOpen ws done actuals formals → AreOpen ws (λ k. nat_eq k cell || done k) actuals formals
  still_open ws done cell [] formals out free = tt
  still_open ws done cell (a ∷ actuals) [] out free = tt
  still_open ws done cell (a ∷ actuals) (v ∷ formals) out free =
      let parts = or_false (is_some (passed_value outside left v (out-Actual a)) && nat_eq cell (inside.bind v).cell) (is_given actuals formals cell) out in (
        λ e. ((free.0 e).0, (neither (nat_eq (inside.bind v).cell cell) (done (inside.bind v).cell) (other (is_some (passed_value outside left v (out-Actual a))) e parts.0 (nat_eq (inside.bind v).cell cell) refl) (free.0 e).1.0, (free.0 e).1.1)),
        still_open ws done cell actuals formals parts.1 free.1,
      )
    where
      other : (b : Bool) → b ≡ true → (b && nat_eq cell (inside.bind v).cell) ≡ false → (t : Bool) → nat_eq (inside.bind v).cell cell ≡ t → nat_eq (inside.bind v).cell cell ≡ false
      other false e f t g = absurd (false≢true e)
      other true e f false g = g
      other true e f true g = absurd (let same : cell ≡ (inside.bind v).cell = sym (eqb-true (inside.bind v).cell cell g) in false≢true (sym f ∙ eq-eqb cell (inside.bind v).cell same))

  pub formals_joined : (ws : List Val) (actuals : List Actual) (formals : List ℕ) (done : ℕ → Bool) (out entry : Environment) → AreOpen ws done actuals formals → Joins ws done out entry
      → is_reachable (formals_given true outside inside left actuals formals entry) ≡ true
      → Joins ws (λ k. is_given actuals formals k || done k) (formals_given false outside inside left actuals formals out) (formals_given true outside inside left actuals formals entry)
  formals_joined ws [] formals done out entry free j e = redone ws done (λ k. done k) out entry (λ k. refl) j
  formals_joined ws (a ∷ actuals) [] done out entry free j e = redone ws done (λ k. done k) out entry (λ k. refl) j
  formals_joined ws (a ∷ actuals) (v ∷ formals) done out entry free j e = by (passed_value outside left v (out-Actual a)) free.0 e (formals_joined ws actuals formals)
    where
      by : (o : Option Val) → (is_some o ≡ true → ((inside.bind v).cell < length ws) × ((done (inside.bind v).cell ≡ false) × (is_given actuals formals (inside.bind v).cell ≡ false)))
          → is_reachable (formals_given true outside inside left actuals formals (formal_given true inside v o entry)) ≡ true
          → ((done : ℕ → Bool) (out entry : Environment) → AreOpen ws done actuals formals → Joins ws done out entry → is_reachable (formals_given true outside inside left actuals formals entry) ≡ true
          → Joins ws (λ k. is_given actuals formals k || done k) (formals_given false outside inside left actuals formals out) (formals_given true outside inside left actuals formals entry))
          → Joins ws (λ k. ((is_some o && nat_eq k (inside.bind v).cell) || is_given actuals formals k) || done k)
          (formals_given false outside inside left actuals formals (formal_given false inside v o out)) (formals_given true outside inside left actuals formals (formal_given true inside v o entry))
      by None here e rest = rest done out entry free.1 j e
      by (Some x) here e rest = test (allows_nothing x) refl
        where
          test : (b : Bool) → allows_nothing x ≡ b
              → Joins ws (λ k. (nat_eq k (inside.bind v).cell || is_given actuals formals k) || done k)
              (formals_given false outside inside left actuals formals (given false (inside.bind v).cell x out)) (formals_given true outside inside left actuals formals (given true (inside.bind v).cell x entry))
          test true t =
              absurd
              (let none : given true (inside.bind v).cell x entry ≡ Unreachable (length j.ins) = ap (given true (inside.bind v).cell x) j.entry_is ∙ ap (λ (b : Bool). if b then Unreachable (length j.ins) else Reachable (slice_set j.ins (inside.bind v).cell x)) t in
              false≢true
              (sym (ap (λ env. is_reachable (formals_given true outside inside left actuals formals env)) none ∙ ap is_reachable (formals_unreached true outside inside left actuals formals (length j.ins))) ∙ e))
          test false t =
              let one = step ws done out entry j (inside.bind v).cell (here refl).0 (here refl).1.0 x t in
              redone ws (λ k. is_given actuals formals k || (nat_eq k (inside.bind v).cell || done k)) (λ k. (nat_eq k (inside.bind v).cell || is_given actuals formals k) || done k)
              (formals_given false outside inside left actuals formals (given false (inside.bind v).cell x out)) (formals_given true outside inside left actuals formals (given true (inside.bind v).cell x entry))
              (λ k. moved (nat_eq k (inside.bind v).cell) (is_given actuals formals k) (done k))
              (rest (λ k. nat_eq k (inside.bind v).cell || done k) (given false (inside.bind v).cell x out) (given true (inside.bind v).cell x entry) (still_open ws done (inside.bind v).cell actuals formals (here refl).1.1 free.1) one e)

-- ---- the other variables

abbrev pub is_parameter : Scope → ℕ → Bool
is_parameter inside v = holds_of (λ (d : VarDef). is_formal d.kind) (inside.tables.var_at v)

module _ (inside : Scope) where
  -- whether a cell is that of a variable that is no parameter
  abbrev pub is_left : List ℕ → ℕ → Bool
  is_left [] k = false
  is_left (v ∷ vars) k = (not (is_parameter inside v) && nat_eq k (inside.bind v).cell) || is_left vars k

  abbrev pub AreLeft : List Val → (ℕ → Bool) → List ℕ → Type 0
  AreLeft ws done [] = Unit {0}
  AreLeft ws done (v ∷ vars) = (is_parameter inside v ≡ false → ((inside.bind v).cell < length ws) × ((done (inside.bind v).cell ≡ false) × (is_left vars (inside.bind v).cell ≡ false))) × AreLeft ws done vars

  still_left : (ws : List Val) (done : ℕ → Bool) (cell : ℕ) (vars : List ℕ) → is_left vars cell ≡ false → AreLeft ws done vars → AreLeft ws (λ k. nat_eq k cell || done k) vars
  still_left ws done cell [] out free = tt
  still_left ws done cell (v ∷ vars) out free =
      let parts = or_false (not (is_parameter inside v) && nat_eq cell (inside.bind v).cell) (is_left vars cell) out in
      (λ e. ((free.0 e).0, (neither (nat_eq (inside.bind v).cell cell) (done (inside.bind v).cell) (other (is_parameter inside v) e parts.0 (nat_eq (inside.bind v).cell cell) refl) (free.0 e).1.0, (free.0 e).1.1)), still_left ws done cell vars parts.1 free.1)
    where
      other : (b : Bool) → b ≡ false → (not b && nat_eq cell (inside.bind v).cell) ≡ false → (t : Bool) → nat_eq (inside.bind v).cell cell ≡ t → nat_eq (inside.bind v).cell cell ≡ false
      other true e f t g = absurd (false≢true (sym e))
      other false e f false g = g
      other false e f true g = absurd (let same : cell ≡ (inside.bind v).cell = sym (eqb-true (inside.bind v).cell cell g) in false≢true (sym f ∙ eq-eqb cell (inside.bind v).cell same))

  pub vars_joined : (ws : List Val) (vars : List ℕ) (done : ℕ → Bool) (out entry : Environment) → AreLeft ws done vars → Joins ws done out entry → Joins ws (λ k. is_left vars k || done k) (may_all_be_undefined inside vars out) entry
  vars_joined ws [] done out entry free j = redone ws done (λ k. done k) out entry (λ k. refl) j
  vars_joined ws (v ∷ vars) done out entry free j = by (is_parameter inside v) refl free.0 (vars_joined ws vars)
    where
      by : (b : Bool) → is_parameter inside v ≡ b → (b ≡ false → ((inside.bind v).cell < length ws) × ((done (inside.bind v).cell ≡ false) × (is_left vars (inside.bind v).cell ≡ false)))
          → ((done : ℕ → Bool) (out entry : Environment) → AreLeft ws done vars → Joins ws done out entry → Joins ws (λ k. is_left vars k || done k) (may_all_be_undefined inside vars out) entry)
          → Joins ws (λ k. ((not b && nat_eq k (inside.bind v).cell) || is_left vars k) || done k) (may_all_be_undefined inside vars (if b then out else given false (inside.bind v).cell undefined out)) entry
      by true e here rest = rest done out entry free.1 j
      by false e here rest =
          let h = here refl in
          let one = step_blank ws done out entry j (inside.bind v).cell h.0 h.1.0 in
          redone ws (λ k. is_left vars k || (nat_eq k (inside.bind v).cell || done k)) (λ k. (nat_eq k (inside.bind v).cell || is_left vars k) || done k)
          (may_all_be_undefined inside vars (given false (inside.bind v).cell undefined out)) entry
          (λ k. moved (nat_eq k (inside.bind v).cell) (is_left vars k) (done k))
          (rest (λ k. nat_eq k (inside.bind v).cell || done k) (given false (inside.bind v).cell undefined out) entry (still_left ws done (inside.bind v).cell vars h.1.1 free.1) one)
