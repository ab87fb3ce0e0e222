-- The actuals of a call, one after another: what they give by the meaning, and in the storage behind all activations.
use Rattle.std.proofs.Common.{◌≡◌, ℕ, zero, suc, ◌+◌, ◌<◌, ◌≤◌, true, false, not, List, [], ◌∷◌, ◌++◌, length, drop, refl, sym, ap, ◌∙◌, subst, arith, ℤ, Option, Some, None, inl, inr, Ok, Err, nat_eq, nat_lt}
use Rattle.std.specs.List.{slice_get}
use Rattle.std.specs.Option.{option_map}
use Rattle.std.proofs.lemmas.Bool.{true≢false, and_parts, cases_Bool, cond-true, cond-false, eq-eqb, ne_eqb, ltb-true, ltb-false}
use Rattle.std.proofs.lemmas.Bool.Decides.{eqb_tells}
use Rattle.std.proofs.lemmas.List.{append-nil, append_assoc, drop_all}
use Rattle.std.proofs.lemmas.Option.{none-some, slice_get_within}
use Rattle.pas_program.specs.declared.expr.Actual.{Actual}
use Rattle.pas_program.specs.declared.expr.Actual.TheViews.{out-Actual}
use Rattle.pas_program.specs.declared.program.Program.{Program}
use Rattle.pas_program.specs.declared.routine.Routine.{Routine}
use Rattle.pas_program.specs.declared.variable.VarDef.{VarDef}
use Rattle.pas_program.specs.declared.variable.VarKind.TheVariants as kind
use Rattle.pas_program.specs.Checked.{tables}
use Rattle.pas_program.specs.Scopes.{contains, is_distinct}
use Rattle.pas_program.specs.Tables.{head_of, is_kind}
use Rattle.control_points.proofs.ValidPlaces.{var_type_is}
use Rattle.control_points.specs.declared.fault.Fault.{Fault}
use Rattle.control_points.specs.declared.flow.Flow.{Flow}
use Rattle.control_points.specs.Actions.{Change, Passing, both, formals_of, no_passing, pass, pass_to}
use Rattle.control_points.specs.Evaluation.{Answer, then_with, var_type}
use Rattle.control_points.specs.Finding.{bound_to}
use Rattle.control_points.specs.Flows.{chart_of}
use Rattle.control_points.specs.States.{Binding, State}
use Rattle.control_points.specs.Steps.{change, change_all}
use Rattle.control_points.specs.Storage.{Place, Store, keep_below, put, put_copy, whole}
use Rattle.interp.specs.declared.call.Argument.{Argument}
use Rattle.interp.specs.declared.call.Argument.TheVariants as argument
use Rattle.interp.specs.declared.frame.Extent.{Extent}
use Rattle.interp.specs.declared.frame.Frame.{Frame}
use Rattle.interp.specs.Calls.{HasNew, IsGiven, IsGivenLink}
use Rattle.interp.specs.Layouts.{count_of, extent_before}
use Rattle.interp.specs.Machines.{AreFrames, end_of}
use Rattle.interp.specs.Passed.{AreAllPassed, AreUndefined, HasPassed, IsGivenScalars, IsLinkedTo, IsPassed, IsPassedAs, IsStoredFor}
use Rattle.interp.specs.Places.{Lies}
use Rattle.interp.specs.Standing.{StoreIs}
use Rattle.interp.proofs.Landing.{lies_depth, lies_moved}
use Rattle.interp.proofs.LandingCalls.{AreSameTo, pushed_back, pushed_same}
use Rattle.interp.proofs.LandingStores.{pasted_before, store_copy, store_set}
use Rattle.interp.proofs.Laying.{slice_get-set_same, slice_get-set_other}
use Rattle.interp.proofs.Lists.{same_some, slice_get-last, slice_get-snoc}
use Rattle.interp.proofs.Lying.{lies_whole}
use Rattle.interp.proofs.Passing.{contains_at, formal_there, link_once, not_last}
use Rattle.interp.proofs.Storage.{links_within, scalars_within}

-- ---- lists

pub drop_at : {A : Type 0} (xs : List A) (i : ℕ) (x : A) → slice_get xs i ≡ Some x → drop i xs ≡ x ∷ drop (i + 1) xs
drop_at [] i x e = absurd (none-some x e)
drop_at (y ∷ xs) zero x e = ap (λ z. z ∷ xs) (same_some y x e)
drop_at (y ∷ xs) (suc i) x e = let f : suc (i + 1) ≡ suc i + 1 = omega arith in drop_at xs i x e ∙ ap (λ n. x ∷ drop n (y ∷ xs)) f

-- numbers of which none stands twice
twice : (n : ℕ) (ns : List ℕ) → not (contains n ns) ≡ true → contains n ns ≡ true → ⊥
twice n ns a b = true≢false (sym a ∙ ap not b)

pub distinct_once : (ns : List ℕ) → is_distinct ns ≡ true → (i j v : ℕ) → slice_get ns i ≡ Some v → slice_get ns j ≡ Some v → i ≡ j
distinct_once [] h i j v e f = absurd (none-some v e)
distinct_once (n ∷ ns) h zero zero v e f = refl
distinct_once (n ∷ ns) h zero (suc j) v e f = absurd (twice n ns (and_parts (not (contains n ns)) _ h).0 (ap (λ m. contains m ns) (same_some n v e) ∙ contains_at ns j v f))
distinct_once (n ∷ ns) h (suc i) zero v e f = absurd (twice n ns (and_parts (not (contains n ns)) _ h).0 (ap (λ m. contains m ns) (same_some n v f) ∙ contains_at ns i v e))
distinct_once (n ∷ ns) h (suc i) (suc j) v e f = ap suc (distinct_once ns (and_parts (not (contains n ns)) _ h).1 i j v e f)

-- ---- what is given, by the meaning

both_twice : (p q r : Passing) → both p (both q r) ≡ both (both p q) r
both_twice p q r = λ i. record { changes = sym (append_assoc p.changes q.changes r.changes) i; bindings = sym (append_assoc p.bindings q.bindings r.bindings) i }

both_nothing : (p : Passing) → both p no_passing ≡ p
both_nothing p = λ i. record { changes = append-nil p.changes i; bindings = append-nil p.bindings i }

nothing_first : (x : Answer Passing) → x ≡ then_with x (λ r. Ok (both no_passing r))
nothing_first (Ok r) = refl
nothing_first (Err f) = refl

then_both : (x : Answer Passing) (p q : Passing) → then_with (then_with x (λ r. Ok (both q r))) (λ r. Ok (both p r)) ≡ then_with x (λ r. Ok (both (both p q) r))
then_both (Ok r) p q = ap (λ (y : Passing). let z : Answer Passing = Ok y in z) (both_twice p q r)
then_both (Err f) p q = refl

changes_twice : (xs ys : List Change) (store : Store) → change_all (xs ++ ys) store ≡ change_all ys (change_all xs store)
changes_twice [] ys store = refl
changes_twice (x ∷ xs) ys store = changes_twice xs ys (change x store)

bound_first : (v : ℕ) (xs ys : List Binding) (q : Place) → bound_to v xs ≡ Some q → bound_to v (xs ++ ys) ≡ Some q
bound_first v [] ys q h = absurd (none-some q h)
bound_first v (b ∷ xs) ys q h =
    elim (cases_Bool (nat_eq b.formal v)) [
      | inl e ↦ cond-true (nat_eq b.formal v) (Some b.place) (bound_to v (xs ++ ys)) e ∙ sym (cond-true (nat_eq b.formal v) (Some b.place) (bound_to v xs) e) ∙ h
      | inr e ↦
          cond-false (nat_eq b.formal v) (Some b.place) (bound_to v (xs ++ ys)) e
          ∙ bound_first v xs ys q (sym (cond-false (nat_eq b.formal v) (Some b.place) (bound_to v xs) e) ∙ h)
    ]

bound_later : (v : ℕ) (xs ys : List Binding) → bound_to v xs ≡ None → bound_to v (xs ++ ys) ≡ bound_to v ys
bound_later v [] ys h = refl
bound_later v (b ∷ xs) ys h =
    elim (cases_Bool (nat_eq b.formal v)) [
      | inl e ↦ absurd (none-some b.place (sym h ∙ cond-true (nat_eq b.formal v) (Some b.place) (bound_to v xs) e))
      | inr e ↦
          cond-false (nat_eq b.formal v) (Some b.place) (bound_to v (xs ++ ys)) e
          ∙ bound_later v xs ys (sym (cond-false (nat_eq b.formal v) (Some b.place) (bound_to v xs) e) ∙ h)
    ]

bound_here : (v : ℕ) (q : Place) → bound_to v (record { formal = v; place = q } ∷ []) ≡ Some q
bound_here v q = cond-true (nat_eq v v) (Some q) None (eq-eqb v v refl)

bound_other : (u v : ℕ) (q : Place) → (u ≡ v → ⊥) → bound_to v (record { formal = u; place = q } ∷ []) ≡ None
bound_other u v q h = cond-false (nat_eq u v) (Some q) None (ne_eqb u v h)

-- ---- the store

-- nothing is given yet
pub store_begun : (flow : Flow) (frames : List Frame) (g : Frame) (n : ℕ) → n ≡ length frames → (scalars : List (Option ℤ)) (store : Store) → g.base ≡ end_of flow.program frames → AreUndefined (end_of flow.program frames).scalars scalars
    → StoreIs flow.program frames scalars store → StoreIs flow.program (frames ++ g ∷ []) scalars (keep_below n store)
store_begun flow frames g n long scalars store b fresh s = record {
  held = λ q a t l k. elim (cases_Bool (nat_lt q.depth n)) [
    | inl e ↦
        let d = ltb-true q.depth n e in
        cond-true (nat_lt q.depth n) (store q) None e
        ∙ s.held q a t (lies_moved flow.program (frames ++ g ∷ []) frames (length frames) (pushed_back frames g) q a t (omega arith) l) k
    | inr e ↦
        let low = ltb-false q.depth n e in
        cond-false (nat_lt q.depth n) (store q) None e ∙ sym (fresh a (new_address q a t l (omega arith)))
  ];
  nothing_else = λ q z e. elim (cases_Bool (nat_lt q.depth n)) [
    | inl h ↦
        let d = ltb-true q.depth n h in
        let w = s.nothing_else q z (sym (cond-true (nat_lt q.depth n) (store q) None h) ∙ e) in
        (w.0, w.1, lies_moved flow.program frames (frames ++ g ∷ []) (length frames) (pushed_same frames g) q w.0 w.1 (omega arith) w.2, w.3)
    | inr h ↦ absurd (none-some z (sym (cond-false (nat_lt q.depth n) (store q) None h) ∙ e))
  ];
}
  where
    new_address : (q : Place) (a t : ℕ) (l : Lies flow.program (frames ++ g ∷ []) q a t) → length frames ≤ q.depth → (end_of flow.program frames).scalars ≤ a
    new_address q a t l low = elim (slice_get-snoc frames g q.depth l.frame l.activation) [
      | inl w ↦ absurd (let h = w.0 in omega arith)
      | inr w ↦ let f = ap (λ (x : Frame). x.base.scalars) w.1 in let c = ap (λ (x : Extent). x.scalars) b in let e = l.address in omega arith
    ]

-- one formal of the new activation
module _ (flow : Flow) (frames : List Frame) (v : ℕ) (x : VarDef) (known : slice_get flow.program.vars v ≡ Some x) (links : List ℕ) (scalars : List (Option ℤ)) (room : HasNew flow.program frames x.routine links scalars) where
  abbrev place_for : ℕ
  place_for = (end_of flow.program frames).scalars + (extent_before flow.program x.routine v).scalars

  formal_room : is_kind kind.Var x.kind ≡ false → place_for + count_of flow.program x.of_type ≤ length scalars
  formal_room k = let w = scalars_within flow.program x.routine v x known refl k in let r = room.scalars_room in omega arith

  pub scalars_given : (g : Argument) (new : List (Option ℤ)) → IsGiven flow.program frames x g → IsGivenScalars flow.program frames v g scalars new → AreSameTo (end_of flow.program frames).scalars scalars new
  scalars_given (argument.Number z) new i e k h = ap (λ xs. slice_get xs k) (e x known) ∙ slice_get-set_other scalars place_for k (Some z) (λ f. omega (arith, f, h))
  scalars_given (argument.Array a n) new i e k h =
      let r = formal_room i.0 in
      let m = i.1 in
      let l = i.2 in
      let s = room.scalars_room in
      ap (λ xs. slice_get xs k) (e x known) ∙ pasted_before scalars place_for a n (omega arith) (omega arith) k (omega arith)
  scalars_given (argument.Variable a) new i e k h = ap (λ xs. slice_get xs k) e

  pub links_given : (g : Argument) (new : List ℕ) → IsGivenLink flow.program frames v g links new → AreSameTo (end_of flow.program frames).links links new
  links_given (argument.Number z) new e k h = ap (λ xs. slice_get xs k) e
  links_given (argument.Array a n) new e k h = ap (λ xs. slice_get xs k) e
  links_given (argument.Variable a) new e k h = ap (λ xs. slice_get xs k) (e x known) ∙ slice_get-set_other links ((end_of flow.program frames).links + (extent_before flow.program x.routine v).links) k a (λ f. omega (arith, f, h))

  module _ (g : Frame) (base : g.base ≡ end_of flow.program frames) (own : x.routine ≡ g.routine) (there : AreFrames flow (frames ++ g ∷ [])) (store : Store) (s : StoreIs flow.program (frames ++ g ∷ []) scalars store) where
    formal_lies : is_kind kind.Var x.kind ≡ false → Lies flow.program (frames ++ g ∷ []) (whole (length frames) v) place_for x.of_type
    formal_lies k =
        subst (λ (y : Extent). Lies flow.program (frames ++ g ∷ []) (whole (length frames) v) (y.scalars + (extent_before flow.program x.routine v).scalars) x.of_type) base
        (lies_whole flow.program (frames ++ g ∷ []) (length frames) v g x (slice_get-last frames g) known own k)

    pub store_given : (arg : Argument) (new : List (Option ℤ)) (given : Passing) → IsGiven flow.program frames x arg → IsPassed flow.program frames (length frames) v x.of_type given arg → IsGivenScalars flow.program frames v arg scalars new
        → StoreIs flow.program (frames ++ g ∷ []) new (change_all given.changes store)
    store_given (argument.Number z) new given i d e =
        let r = formal_room i.0 in
        let one = i.1 in
        subst (λ (q : Passing). StoreIs flow.program (frames ++ g ∷ []) new (change_all q.changes store)) (sym d.0)
        (subst (λ xs. StoreIs flow.program (frames ++ g ∷ []) xs (put store (whole (length frames) v) (Some z))) (sym (e x known))
        (store_set flow (frames ++ g ∷ []) there scalars store (whole (length frames) v) place_for x.of_type (Some z) (omega arith) (formal_lies i.0) d.1 s))
    store_given (argument.Array a n) new given i d e =
        let r = formal_room i.0 in
        let m = i.1 in
        let l = i.2 in
        let f = room.scalars_room in
        subst (λ (q : Passing). StoreIs flow.program (frames ++ g ∷ []) new (change_all q.changes store)) (sym d.1)
        (subst (λ xs. StoreIs flow.program (frames ++ g ∷ []) xs (put_copy store (whole (length frames) v) d.0)) (sym (e x known))
        (store_copy flow (frames ++ g ∷ []) there scalars store (whole (length frames) v) d.0 place_for a x.of_type n (formal_lies i.0)
        (lies_moved flow.program frames (frames ++ g ∷ []) (length frames) (pushed_same frames g) d.0 a x.of_type (lies_depth flow.program frames d.0 a x.of_type d.2) d.2) m (omega arith) (omega arith) s))
    store_given (argument.Variable a) new given i d e =
        subst (λ (q : Passing). StoreIs flow.program (frames ++ g ∷ []) new (change_all q.changes store)) (sym d.1)
        (subst (λ xs. StoreIs flow.program (frames ++ g ∷ []) xs store) (sym e) s)

-- ---- the actuals so far

pub record PassedSoFar (flow : Flow) (frames : List Frame) (routine : ℕ) (s : State) (actuals : List Actual) (formals : List ℕ) (i : ℕ) (links : List ℕ) (scalars : List (Option ℤ)) : Type 0 where
  pub given : Passing
  pub meant : pass (chart_of flow) s actuals formals ≡ then_with (pass (chart_of flow) s (drop i actuals) (drop i formals)) (λ rest. Ok (both given rest))
  pub stored : IsStoredFor flow frames routine scalars s given
  pub linked : (j v : ℕ) (x : VarDef) → j < i → slice_get formals j ≡ Some v → slice_get flow.program.vars v ≡ Some x → is_kind kind.Var x.kind ≡ true → IsLinkedTo flow.program frames links given.bindings v x
  pub unbound : (j v : ℕ) → i ≤ j → slice_get formals j ≡ Some v → bound_to v given.bindings ≡ None

module _ (flow : Flow) (frames : List Frame) (routine : ℕ) (s : State) (long : length s.stack ≡ length frames) (actuals : List Actual) (formals : List ℕ) where
  pub none_passed : (links : List ℕ) (scalars : List (Option ℤ)) → AreUndefined (end_of flow.program frames).scalars scalars → StoreIs flow.program frames scalars s.store → PassedSoFar flow frames routine s actuals formals 0 links scalars
  none_passed links scalars fresh t = record {
    given = no_passing;
    meant = nothing_first (pass (chart_of flow) s actuals formals);
    stored = λ g b r h. store_begun flow frames g (length s.stack) long scalars s.store b fresh t;
    linked = λ j v x l. absurd (omega arith);
    unbound = λ j v l e. refl;
  }

  module _ (i : ℕ) (a : Actual) (v : ℕ) (actual : slice_get actuals i ≡ Some a) (formal : slice_get formals i ≡ Some v) (links : List ℕ) (scalars : List (Option ℤ)) (so_far : PassedSoFar flow frames routine s actuals formals i links scalars) where
    -- the meaning, one actual further
    pub one_further : pass (chart_of flow) s actuals formals
        ≡ then_with (then_with (pass_to (chart_of flow) s v (out-Actual a)) (λ first. then_with (pass (chart_of flow) s (drop (i + 1) actuals) (drop (i + 1) formals)) (λ rest. Ok (both first rest)))) (λ rest. Ok (both so_far.given rest))
    one_further =
        so_far.meant
        ∙ ap (λ xs. then_with (pass (chart_of flow) s xs (drop i formals)) (λ rest. Ok (both so_far.given rest))) (drop_at actuals i a actual)
        ∙ ap (λ ns. then_with (pass (chart_of flow) s (a ∷ drop (i + 1) actuals) ns) (λ rest. Ok (both so_far.given rest))) (drop_at formals i v formal)

    pub is_passed : (answer : Answer Passing) (arg : Argument) (t : ℕ) → IsPassedAs flow.program frames (length s.stack) v t answer (Ok arg) → (given : Passing) × (answer ≡ Ok given) × IsPassed flow.program frames (length s.stack) v t given arg
    is_passed (Ok given) arg t h = (given, refl, h)
    is_passed (Err f) arg t h = absurd h

    pub is_fault : (answer : Answer Passing) (f : Fault) (t : ℕ) → IsPassedAs flow.program frames (length s.stack) v t answer (Err f) → answer ≡ Err f
    is_fault (Ok given) f t h = absurd h
    is_fault (Err g) f t h = ap (λ (g : Fault). let y : Answer Passing = Err g in y) h

    pub fault_passed : (f : Fault) (t : ℕ) → IsPassedAs flow.program frames (length s.stack) v t (pass_to (chart_of flow) s v (out-Actual a)) (Err f) → pass (chart_of flow) s actuals formals ≡ Err f
    fault_passed f t h =
        one_further
        ∙ ap (λ x. then_with (then_with x (λ first. then_with (pass (chart_of flow) s (drop (i + 1) actuals) (drop (i + 1) formals)) (λ rest. Ok (both first rest)))) (λ rest. Ok (both so_far.given rest))) (is_fault _ f t h)

    module _ (x : VarDef) (known : slice_get flow.program.vars v ≡ Some x) (own : x.routine ≡ routine) (all_own : (j u : ℕ) (y : VarDef) → slice_get formals j ≡ Some u → slice_get flow.program.vars u ≡ Some y → y.routine ≡ routine)
        (once : is_distinct formals ≡ true) (room : HasNew flow.program frames x.routine links scalars) (arg : Argument) (safe : IsGiven flow.program frames x arg)
        (links' : List ℕ) (scalars' : List (Option ℤ)) (into : IsGivenScalars flow.program frames v arg scalars scalars') (link : IsGivenLink flow.program frames v arg links links') where
      -- a variable parameter before this formal
      linked_before : (bindings : List Binding) (j u : ℕ) (y : VarDef) → j < i → slice_get formals j ≡ Some u → slice_get flow.program.vars u ≡ Some y → is_kind kind.Var y.kind ≡ true → links' ≡ links
          → IsLinkedTo flow.program frames links' (so_far.given.bindings ++ bindings) u y
      linked_before bindings j u y l e f k same =
          let b = so_far.linked j u y l e f k in
          record {
            place = b.place;
            address = b.address;
            bound = bound_first u so_far.given.bindings bindings b.place b.bound;
            link = ap (λ xs. slice_get xs ((end_of flow.program frames).links + (extent_before flow.program y.routine u).links)) same ∙ b.link;
            lies = b.lies;
          }

      -- the binding that a variable parameter gets, and its link
      linked_more : (arg : Argument) (given : Passing) → IsGiven flow.program frames x arg → IsGivenLink flow.program frames v arg links links' → IsPassed flow.program frames (length s.stack) v x.of_type given arg
          → (j u : ℕ) (y : VarDef) → j < i + 1 → slice_get formals j ≡ Some u → slice_get flow.program.vars u ≡ Some y → is_kind kind.Var y.kind ≡ true
          → IsLinkedTo flow.program frames links' (so_far.given.bindings ++ given.bindings) u y
      linked_more (argument.Number z) given safe link d j u y l e f k = linked_before given.bindings j u y (not_last flow.program j i u v y x formals l e formal f known k safe.0) e f k link
      linked_more (argument.Array n m) given safe link d j u y l e f k = linked_before given.bindings j u y (not_last flow.program j i u v y x formals l e formal f known k safe.0) e f k link
      linked_more (argument.Variable n) given safe link d j u y l e f k = elim (eqb_tells j i) [
        | inl w ↦
            let is : u ≡ v = same_some u v (sym e ∙ ap (slice_get formals) w.1 ∙ formal) in
            let xs : y ≡ x = same_some y x (sym f ∙ ap (slice_get flow.program.vars) is ∙ known) in
            let r = links_within flow.program x.routine v x known refl safe.0 in
            let m = room.links_room in
            let here : slice_get links' ((end_of flow.program frames).links + (extent_before flow.program x.routine v).links) ≡ Some n =
            ap (λ ys. slice_get ys ((end_of flow.program frames).links + (extent_before flow.program x.routine v).links)) (link x known) ∙ slice_get-set_same links _ n (omega arith) in
            subst (λ u. IsLinkedTo flow.program frames links' (so_far.given.bindings ++ given.bindings) u y) (sym is)
            (subst (λ y. IsLinkedTo flow.program frames links' (so_far.given.bindings ++ given.bindings) v y) (sym xs)
            (record {
              place = d.0;
              address = n;
              bound = ap (λ (q : Passing). bound_to v (so_far.given.bindings ++ q.bindings)) d.1 ∙ bound_later v so_far.given.bindings _ (so_far.unbound i v (omega arith) formal) ∙ bound_here v d.0;
              link = here;
              lies = d.2;
            }))
        | inr w ↦
            let b = so_far.linked j u y (let c = w.1 in omega arith) e f k in
            let apart : (extent_before flow.program y.routine u).links ≡ (extent_before flow.program x.routine v).links → ⊥ = λ c.
            w.1 (distinct_once formals once j i v (e ∙ ap Some (link_once flow.program routine u v y x f known (all_own j u y e f) own k safe.0
            (ap (λ r. (extent_before flow.program r u).links) (sym (all_own j u y e f)) ∙ c ∙ ap (λ r. (extent_before flow.program r v).links) own))) formal) in
            record {
              place = b.place;
              address = b.address;
              bound = bound_first u so_far.given.bindings given.bindings b.place b.bound;
              link = ap (λ ys. slice_get ys ((end_of flow.program frames).links + (extent_before flow.program y.routine u).links)) (link x known)
                  ∙ slice_get-set_other links _ _ n (λ c. apart (omega (arith, c))) ∙ b.link;
              lies = b.lies;
            }
      ]

      unbound_more : (arg : Argument) (given : Passing) → IsPassed flow.program frames (length s.stack) v x.of_type given arg → (j u : ℕ) → i + 1 ≤ j → slice_get formals j ≡ Some u → bound_to u (so_far.given.bindings ++ given.bindings) ≡ None
      unbound_more arg given d j u l e = bound_later u so_far.given.bindings given.bindings (so_far.unbound j u (omega arith) e) ∙ not_given arg d
        where
          not_given : (arg : Argument) → IsPassed flow.program frames (length s.stack) v x.of_type given arg → bound_to u given.bindings ≡ None
          not_given (argument.Number z) d = ap (λ (q : Passing). bound_to u q.bindings) d.0
          not_given (argument.Array n m) d = ap (λ (q : Passing). bound_to u q.bindings) d.1
          not_given (argument.Variable n) d =
              ap (λ (q : Passing). bound_to u q.bindings) d.1
              ∙ bound_other v u d.0 (λ c. let k : j ≡ i = distinct_once formals once j i v (e ∙ ap Some (sym c)) formal in omega arith)

      pub more_passed : IsPassedAs flow.program frames (length s.stack) v (var_type (tables flow.program) v) (pass_to (chart_of flow) s v (out-Actual a)) (Ok arg) → PassedSoFar flow frames routine s actuals formals (i + 1) links' scalars'
      more_passed h =
          let t = var_type_is (tables flow.program) v x known in
          let w = is_passed _ arg x.of_type (subst (λ t. IsPassedAs flow.program frames (length s.stack) v t (pass_to (chart_of flow) s v (out-Actual a)) (Ok arg)) t h) in
          let d = subst (λ n. IsPassed flow.program frames n v x.of_type w.0 arg) long w.2 in
          record {
            given = both so_far.given w.0;
            meant = one_further
                ∙ ap (λ x. then_with (then_with x (λ first. then_with (pass (chart_of flow) s (drop (i + 1) actuals) (drop (i + 1) formals)) (λ rest. Ok (both first rest)))) (λ rest. Ok (both so_far.given rest))) w.1
                ∙ then_both (pass (chart_of flow) s (drop (i + 1) actuals) (drop (i + 1) formals)) so_far.given w.0;
            stored = λ g b r k.
                let st = change_all so_far.given.changes (keep_below (length s.stack) s.store) in
                subst (StoreIs flow.program (frames ++ g ∷ []) scalars') (sym (changes_twice so_far.given.changes (w.0).changes (keep_below (length s.stack) s.store)))
                (store_given flow frames v x known links scalars room g b (own ∙ sym r) k st (so_far.stored g b r k) arg scalars' w.0 safe d into);
            linked = linked_more arg w.0 safe link w.2;
            unbound = unbound_more arg w.0 w.2;
          }

  -- at their end
  pub all_passed : (i : ℕ) (links : List ℕ) (scalars : List (Option ℤ)) → length actuals ≤ i → (so_far : PassedSoFar flow frames routine s actuals formals i links scalars) → pass (chart_of flow) s actuals formals ≡ Ok so_far.given
  all_passed i links scalars l so_far =
      so_far.meant
      ∙ ap (λ xs. then_with (pass (chart_of flow) s xs (drop i formals)) (λ rest. Ok (both so_far.given rest))) (drop_all i actuals l)
      ∙ ap (λ (y : Passing). let z : Answer Passing = Ok y in z) (both_nothing so_far.given)

  pub has_passed : (i : ℕ) (d : Routine) (links : List ℕ) (scalars : List (Option ℤ)) → slice_get flow.program.routines routine ≡ Some d → formals ≡ d.formals → length formals ≤ i
      → (so_far : PassedSoFar flow frames routine s actuals formals i links scalars) → HasPassed flow frames routine links scalars s so_far.given
  has_passed i d links scalars e h l so_far = record {
    stored = so_far.stored;
    linked = λ v x known own var.
        let w = formal_there flow.program routine d v x e known own var in
        let at : slice_get formals w.0 ≡ Some v = ap (λ ns. slice_get ns w.0) h ∙ w.1 in
        let b = slice_get_within formals w.0 v at in
        so_far.linked w.0 v x (omega arith) at known var;
  }

-- ---- the answer

pub all_given : (answer : Answer Passing) (P : Passing → Type 0) (given : Passing) → answer ≡ Ok given → P given → AreAllPassed answer P (Ok tt)
all_given answer P given e h = subst (λ (x : Answer Passing). AreAllPassed x P (Ok tt)) (sym e) h

pub all_fault : (answer : Answer Passing) (P : Passing → Type 0) (f : Fault) → answer ≡ Err f → AreAllPassed answer P (Err f)
all_fault answer P f e = subst (λ (x : Answer Passing). AreAllPassed x P (Err f)) (sym e) refl

pub formals_are : (flow : Flow) (s : State) (routine : ℕ) (d : Routine) (formals : List ℕ) → slice_get flow.program.routines routine ≡ Some d → formals ≡ d.formals → formals_of (chart_of flow) s ((tables flow.program).head_at routine) ≡ formals
formals_are flow s routine d formals e h = ap (λ o. formals_of (chart_of flow) s (option_map head_of o)) e ∙ sym h

pub formals_distinct : (p : Program) (routine : ℕ) (d : Routine) (formals : List ℕ) → slice_get p.routines routine ≡ Some d → formals ≡ d.formals → is_distinct formals ≡ true
formals_distinct p routine d formals e h = ap is_distinct h ∙ (p.in_scope.lists routine d e).formals_once

-- ---- the same where flow and activations were kept

pub so_far_kept : (f g : Flow) (xs ys : List Frame) (routine : ℕ) (s : State) (actuals : List Actual) (formals : List ℕ) (i : ℕ) (links : List ℕ) (scalars : List (Option ℤ)) → g ≡ f → ys ≡ xs
    → PassedSoFar f xs routine s actuals formals i links scalars → PassedSoFar g ys routine s actuals formals i links scalars
so_far_kept f g xs ys routine s actuals formals i links scalars e h l =
    subst (λ (g : Flow). PassedSoFar g ys routine s actuals formals i links scalars) (sym e) (subst (λ (ys : List Frame). PassedSoFar f ys routine s actuals formals i links scalars) (sym h) l)
