-- The actuals of a call, one after another.
use Rattle.std.proofs.Common.{◌≡◌, ℕ, zero, suc, ◌+◌, ◌<◌, ◌≤◌, Bool, true, false, ◌&&◌, ◌||◌, List, [], ◌∷◌, map, length, set, refl, sym, ap, ◌∙◌, subst, arith, get_or, ℤ, Option, Some, cond, inl, inr, nat_eq}
use Rattle.std.proofs.Math.ListN.{length-set}
use Rattle.std.specs.List.{slice_get}
use Rattle.std.specs.Option.{option_map}
use Rattle.std.proofs.lemmas.Bool.{true≢false, and_parts, eqb-true, eq-eqb}
use Rattle.std.proofs.lemmas.Bool.Decides.{eqb_tells}
use Rattle.std.proofs.lemmas.Option.{none-some, slice_get_within, slice_get-get_or, get_or_from_slice_get}
use Rattle.pas_program.specs.declared.expr.Actual.{Actual}
use Rattle.pas_program.specs.declared.program.Program.{Program}
use Rattle.pas_program.specs.declared.routine.Routine.{Routine}
use Rattle.pas_program.specs.declared.variable.VarDef.{VarDef}
use Rattle.pas_program.specs.declared.variable.VarKind.{VarKind}
use Rattle.pas_program.specs.declared.variable.VarKind.TheVariants as kind
use Rattle.pas_program.specs.Scopes.{contains, is_formal}
use Rattle.pas_program.specs.Checked.{tables}
use Rattle.pas_program.specs.Tables.{Tables, head_of, holds_of, is_kind}
use Rattle.pas_program.specs.Typed.{are_passed_to, is_passed_to, passed}
use Rattle.interp.specs.declared.call.Argument.{Argument}
use Rattle.interp.specs.declared.call.Argument.TheVariants as argument
use Rattle.interp.specs.declared.frame.Frame.{Frame}
use Rattle.control_points.specs.declared.flow.Flow.{Flow}
use Rattle.interp.specs.Calls.{AreLinked, HasNew, IsGiven, IsGivenLink, are_passed}
use Rattle.interp.specs.Layouts.{links_of, need_in, extent_before, count_of}
use Rattle.interp.specs.Machines.{end_of}
use Rattle.interp.proofs.Called.{contained}
use Rattle.interp.proofs.Chains.{holds_some}
use Rattle.interp.proofs.Laying.{slice_get-set_same, slice_get-set_other}
use Rattle.interp.proofs.Lists.{same_some, sum_between}
use Rattle.interp.proofs.Lying.{equal_by}
use Rattle.interp.proofs.Storage.{need_own}

-- ---- actuals fit formals

pub record PassedAt (t : Tables) (a : Actual) (formals : List ℕ) (i : ℕ) : Type 0 where
  pub formal : ℕ
  pub known : slice_get formals i ≡ Some formal
  pub fits : holds_of (is_passed_to t (passed t a)) (t.var_at formal) ≡ true

pub passed_at : (t : Tables) (actuals : List Actual) (formals : List ℕ) (i : ℕ) (a : Actual) → are_passed_to t (map (passed t) actuals) formals ≡ true → slice_get actuals i ≡ Some a → PassedAt t a formals i
passed_at t [] formals i a h e = absurd (none-some a e)
passed_at t (x ∷ actuals) [] i a h e = absurd (true≢false (sym h))
passed_at t (x ∷ actuals) (f ∷ formals) zero a h e =
    let s = same_some x a e in
    record { formal = f; known = refl; fits = subst (λ x. holds_of (is_passed_to t (passed t x)) (t.var_at f) ≡ true) s (and_parts _ _ h).0 }
passed_at t (x ∷ actuals) (f ∷ formals) (suc i) a h e =
    let w = passed_at t actuals formals i a (and_parts _ _ h).1 e in
    record { formal = w.formal; known = w.known; fits = w.fits }

-- ---- formals

pub contains_at : (ns : List ℕ) (j v : ℕ) → slice_get ns j ≡ Some v → contains v ns ≡ true
contains_at [] j v e = absurd (none-some v e)
contains_at (n ∷ ns) zero v e = ap (λ b. b || contains v ns) (eq-eqb v n (sym (same_some n v e)))
contains_at (n ∷ ns) (suc j) v e = or_true (nat_eq v n) (contains v ns) (contains_at ns j v e)
  where
    or_true : (a b : Bool) → b ≡ true → (a || b) ≡ true
    or_true true b h = refl
    or_true false b h = h

pub formal_own : (p : Program) (r : ℕ) (d : Routine) (j v : ℕ) (x : VarDef) → slice_get p.routines r ≡ Some d → slice_get d.formals j ≡ Some v → slice_get p.vars v ≡ Some x → x.routine ≡ r
formal_own p r d j v x e f g =
    let all = (p.in_scope.lists r d e).formals_all v x g in
    eqb-true x.routine r (and_parts _ _ (sym all ∙ contains_at d.formals j v f)).0

pub formal_there : (p : Program) (r : ℕ) (d : Routine) (v : ℕ) (x : VarDef) → slice_get p.routines r ≡ Some d → slice_get p.vars v ≡ Some x → x.routine ≡ r → is_kind kind.Var x.kind ≡ true → (j : ℕ) × (slice_get d.formals j ≡ Some v)
formal_there p r d v x e g o k =
    let all = (p.in_scope.lists r d e).formals_all v x g in
    contained v d.formals (all ∙ both (nat_eq x.routine r) (is_formal x.kind) (eq-eqb x.routine r o) (formal_kind x.kind k))
  where
    both : (a b : Bool) → a ≡ true → b ≡ true → (a && b) ≡ true
    both a b h g = ap (λ c. c && b) h ∙ g

    formal_kind : (k : VarKind) → is_kind kind.Var k ≡ true → is_formal k ≡ true
    formal_kind kind.Local h = absurd (true≢false (sym h))
    formal_kind kind.Value h = refl
    formal_kind kind.Var h = refl
    formal_kind kind.Result h = absurd (true≢false (sym h))
    formal_kind kind.Slot h = absurd (true≢false (sym h))
    formal_kind kind.Bound h = absurd (true≢false (sym h))

-- two variable parameters with one link are one
pub link_once : (p : Program) (r u v : ℕ) (x y : VarDef) → slice_get p.vars u ≡ Some x → slice_get p.vars v ≡ Some y → x.routine ≡ r → y.routine ≡ r → is_kind kind.Var x.kind ≡ true → is_kind kind.Var y.kind ≡ true
    → (extent_before p r u).links ≡ (extent_before p r v).links → u ≡ v
link_once p r u v x y e f o q k l s =
    let one : links_of x ≡ 1 = ap {B = ℕ} (λ b. cond b 1 0) k in
    let two : links_of y ≡ 1 = ap {B = ℕ} (λ b. cond b 1 0) l in
    equal_by u v
    (λ c. omega (arith, sum_between (need_in r links_of) p.vars u v x c e, need_own r links_of x o, one, s))
    (λ c. omega (arith, sum_between (need_in r links_of) p.vars v u y c f, need_own r links_of y q, two, s))

-- ---- links

-- the variable parameters among the first n formals stand for what lies below
abbrev pub LinkedSoFar : Program → List Frame → List ℕ → ℕ → List ℕ → Type 0
LinkedSoFar p frames formals n links =
    (j v a : ℕ) (x : VarDef) → j < n → slice_get formals j ≡ Some v → slice_get p.vars v ≡ Some x → is_kind kind.Var x.kind ≡ true
    → slice_get links ((end_of p frames).links + (extent_before p x.routine v).links) ≡ Some a → a + count_of p x.of_type ≤ (end_of p frames).scalars

pub not_last : (p : Program) (j i v f : ℕ) (x y : VarDef) (formals : List ℕ) → j < i + 1 → slice_get formals j ≡ Some v → slice_get formals i ≡ Some f → slice_get p.vars v ≡ Some x → slice_get p.vars f ≡ Some y
    → is_kind kind.Var x.kind ≡ true → is_kind kind.Var y.kind ≡ false → j < i
not_last p j i v f x y formals l e known g var k n =
    let d : j ≡ i → ⊥ = λ c.
    let w = same_some v f (sym e ∙ ap (slice_get formals) c ∙ known) in
    let s = same_some x y (sym g ∙ ap (slice_get p.vars) w ∙ var) in
    true≢false (sym k ∙ ap (λ (z : VarDef). is_kind kind.Var z.kind) s ∙ n) in
    omega (arith, d)

-- one more formal, which was given its argument
pub given_more : (p : Program) (frames : List Frame) (r i f : ℕ) (y : VarDef) (formals old new : List ℕ) (g : Argument)
    → ((j v : ℕ) (x : VarDef) → slice_get formals j ≡ Some v → slice_get p.vars v ≡ Some x → x.routine ≡ r) → slice_get formals i ≡ Some f → slice_get p.vars f ≡ Some y
    → IsGiven p frames y g → IsGivenLink p frames f g old new → LinkedSoFar p frames formals i old
    → (j v a : ℕ) (x : VarDef) → j < i + 1 → slice_get formals j ≡ Some v → slice_get p.vars v ≡ Some x → is_kind kind.Var x.kind ≡ true
    → slice_get new ((end_of p frames).links + (extent_before p x.routine v).links) ≡ Some a → a + count_of p x.of_type ≤ (end_of p frames).scalars
given_more p frames r i f y formals old new (argument.Variable b) own known var given link so_far j v a x l e g k m =
    let o = own j v x e g in
    let q = own i f y known var in
    elim (eqb_tells v f) [
      | inl w ↦
          let s : x ≡ y = same_some x y (sym g ∙ ap (slice_get p.vars) w.1 ∙ var) in
          let there = (end_of p frames).links + (extent_before p y.routine f).links in
          let at : (end_of p frames).links + (extent_before p x.routine v).links ≡ there =
          ap (λ (z : VarDef). (end_of p frames).links + (extent_before p z.routine v).links) s ∙ ap (λ v. (end_of p frames).links + (extent_before p y.routine v).links) w.1 in
          let n : slice_get (set old there b) there ≡ Some a = sym (ap (λ xs. slice_get xs there) (link y var)) ∙ ap (slice_get new) (sym at) ∙ m in
          let c : b ≡ a = written old there a b n in
          let t = ap (λ (z : VarDef). count_of p z.of_type) s in
          let h = given.1 in omega arith
      | inr w ↦
          let there = (end_of p frames).links + (extent_before p y.routine f).links in
          let here = (end_of p frames).links + (extent_before p x.routine v).links in
          let apart : here ≡ there → ⊥ = λ c. w.1 (link_once p r v f x y g var o q k given.0
          (let xr = ap (λ r. (extent_before p r v).links) o in let yr = ap (λ r. (extent_before p r f).links) q in omega arith)) in
          let n : slice_get old here ≡ Some a = sym (ap (λ xs. slice_get xs here) (link y var) ∙ slice_get-set_other old there here b apart) ∙ m in
          so_far j v a x (before j i v f formals l e known w.1) e g k n
    ]
  where
    before : (j i v f : ℕ) (formals : List ℕ) → j < i + 1 → slice_get formals j ≡ Some v → slice_get formals i ≡ Some f → (v ≡ f → ⊥) → j < i
    before j i v f formals l e k n =
        let d : j ≡ i → ⊥ = λ c. n (same_some v f (sym e ∙ ap (slice_get formals) c ∙ k)) in
        omega (arith, d)

    written : (xs : List ℕ) (i a b : ℕ) → slice_get (set xs i b) i ≡ Some a → b ≡ a
    written xs i a b e =
        let l = slice_get_within (set xs i b) i a e in
        same_some b a (sym (slice_get-set_same xs i b (let m = length-set xs i b in omega arith)) ∙ e)
given_more p frames r i f y formals old new (argument.Number z) own known var given link so_far j v a x l e g k m =
    so_far j v a x (not_last p j i v f x y formals l e known g var k given.0) e g k (ap (λ xs. slice_get xs ((end_of p frames).links + (extent_before p x.routine v).links)) (sym link) ∙ m)
given_more p frames r i f y formals old new (argument.Array b n) own known var given link so_far j v a x l e g k m =
    so_far j v a x (not_last p j i v f x y formals l e known g var k given.0) e g k (ap (λ xs. slice_get xs ((end_of p frames).links + (extent_before p x.routine v).links)) (sym link) ∙ m)

-- ---- the loop over the actuals

pub passed_here : (p : Program) (routine : ℕ) (d : Routine) (actuals : List Actual) (formals : List ℕ) (i : ℕ) (a : Actual) → slice_get p.routines routine ≡ Some d → formals ≡ d.formals
    → holds_of (are_passed (tables p) actuals) ((tables p).head_at routine) ≡ true → i < length actuals → a ≡ get_or actuals i a → PassedAt (tables p) a formals i
passed_here p routine d actuals formals i a e f h l is =
    let fits : are_passed_to (tables p) (map (passed (tables p)) actuals) d.formals ≡ true = sym (ap (λ o. holds_of (are_passed (tables p) actuals) (option_map head_of o)) e) ∙ h in
    passed_at (tables p) actuals formals i a (ap (are_passed_to (tables p) (map (passed (tables p)) actuals)) f ∙ fits) (slice_get-get_or actuals i a l ∙ ap Some (sym is))

as_long : (t : Tables) (actuals : List Actual) (formals : List ℕ) → are_passed_to t (map (passed t) actuals) formals ≡ true → length formals ≤ length actuals
as_long t actuals [] h = omega arith
as_long t [] (f ∷ formals) h = absurd (true≢false (sym h))
as_long t (a ∷ actuals) (f ∷ formals) h = let r = as_long t actuals formals (and_parts (holds_of (is_passed_to t (passed t a)) (t.var_at f)) _ h).1 in omega arith

pub passed_all : (p : Program) (routine : ℕ) (d : Routine) (actuals : List Actual) (formals : List ℕ) → slice_get p.routines routine ≡ Some d → formals ≡ d.formals
    → holds_of (are_passed (tables p) actuals) ((tables p).head_at routine) ≡ true → length formals ≤ length actuals
passed_all p routine d actuals formals e f h =
    let fits : are_passed_to (tables p) (map (passed (tables p)) actuals) d.formals ≡ true = sym (ap (λ o. holds_of (are_passed (tables p) actuals) (option_map head_of o)) e) ∙ h in
    as_long (tables p) actuals formals (ap (are_passed_to (tables p) (map (passed (tables p)) actuals)) f ∙ fits)

-- a formal by its place in the list
pub record FormalIs (p : Program) (routine : ℕ) (a : Actual) (formals : List ℕ) (i f : ℕ) : Type 0 where
  pub known : slice_get formals i ≡ Some f
  pub var : VarDef
  pub there : slice_get p.vars f ≡ Some var
  pub in_range : f < length p.vars
  pub fits : holds_of (is_passed_to (tables p) (passed (tables p) a)) (slice_get p.vars f) ≡ true
  pub own : (j v : ℕ) (x : VarDef) → slice_get formals j ≡ Some v → slice_get p.vars v ≡ Some x → x.routine ≡ routine

pub formal_is : (p : Program) (routine : ℕ) (d : Routine) (actuals : List Actual) (formals : List ℕ) (i : ℕ) (a : Actual) → slice_get p.routines routine ≡ Some d → formals ≡ d.formals
    → holds_of (are_passed (tables p) actuals) ((tables p).head_at routine) ≡ true → i < length actuals → a ≡ get_or actuals i a → FormalIs p routine a formals i (get_or formals i 0)
formal_is p routine d actuals formals i a e f h l is =
    let w = passed_here p routine d actuals formals i a e f h l is in
    let same : get_or formals i 0 ≡ w.formal = get_or_from_slice_get formals i w.formal 0 w.known in
    let fits : holds_of (is_passed_to (tables p) (passed (tables p) a)) (slice_get p.vars (get_or formals i 0)) ≡ true = ap (λ v. holds_of (is_passed_to (tables p) (passed (tables p) a)) (slice_get p.vars v)) same ∙ w.fits in
    let x = holds_some (is_passed_to (tables p) (passed (tables p) a)) (slice_get p.vars (get_or formals i 0)) fits in
    record {
      known = w.known ∙ ap Some (sym same);
      var = x.0;
      there = x.1;
      in_range = slice_get_within p.vars (get_or formals i 0) x.0 x.1;
      fits = fits;
      own = λ j v y k m. formal_own p routine d j v y e (sym (ap (λ fs. slice_get fs j) f) ∙ k) m;
    }

-- ---- the same after a change that keeps flow and activations

pub room_kept : (f g : Flow) (xs ys : List Frame) (routine : ℕ) (links links' : List ℕ) (scalars scalars' : List (Option ℤ)) → g ≡ f → ys ≡ xs → length links' ≡ length links → length scalars' ≡ length scalars
    → HasNew f.program xs routine links scalars → HasNew g.program ys routine links' scalars'
room_kept f g xs ys routine links links' scalars scalars' e h l s r =
    let here : HasNew f.program xs routine links' scalars' = record { scalars_room = omega (arith, r.scalars_room, s); links_room = omega (arith, r.links_room, l) } in
    subst (λ (g : Flow). HasNew g.program ys routine links' scalars') (sym e) (subst (λ ys. HasNew f.program ys routine links' scalars') (sym h) here)

pub given_length : (p : Program) (frames : List Frame) (f : ℕ) (y : VarDef) (g : Argument) (old new : List ℕ) → slice_get p.vars f ≡ Some y → IsGivenLink p frames f g old new → length new ≡ length old
given_length p frames f y (argument.Number z) old new e h = ap length h
given_length p frames f y (argument.Array a n) old new e h = ap length h
given_length p frames f y (argument.Variable a) old new e h = ap length (h y e) ∙ length-set old _ a

pub so_far_moved : (f g : Flow) (xs ys : List Frame) (formals : List ℕ) (n : ℕ) (links : List ℕ) → g ≡ f → ys ≡ xs → LinkedSoFar f.program xs formals n links → LinkedSoFar g.program ys formals n links
so_far_moved f g xs ys formals n links e h l = subst (λ (g : Flow). LinkedSoFar g.program ys formals n links) (sym e) (subst (λ ys. LinkedSoFar f.program ys formals n links) (sym h) l)

pub all_linked : (f g : Flow) (xs ys : List Frame) (routine : ℕ) (d : Routine) (formals : List ℕ) (n : ℕ) (links : List ℕ) → g ≡ f → ys ≡ xs → slice_get f.program.routines routine ≡ Some d → formals ≡ d.formals
    → length formals ≤ n → LinkedSoFar g.program ys formals n links → AreLinked f.program xs routine links
all_linked f g xs ys routine d formals n links e h k s l so_far v a x known own var m =
    let so = so_far_moved g f ys xs formals n links (sym e) (sym h) so_far in
    let w = formal_there f.program routine d v x k known own var in
    let at : slice_get formals w.0 ≡ Some v = ap (λ fs. slice_get fs w.0) s ∙ w.1 in
    so w.0 v a x (omega (arith, slice_get_within formals w.0 v at, l)) at known var (ap (λ r. slice_get links ((end_of f.program xs).links + (extent_before f.program r v).links)) own ∙ m)
