-- Different cells of a class come about in different ways.
use Rattle.std.proofs.Common.{◌≡◌, ℕ, ◌+◌, ◌-◌, ◌<◌, ◌≤◌, Bool, true, false, ◌||◌, not, List, [], ◌∷◌, ◌++◌, length, map, Option, Some, None, nat_eq, nat_lt, refl, sym, ap, ◌∙◌, subst, arith}
use Rattle.std.specs.List.{All, filter, fold, list_any, position_or_len}
use Rattle.std.specs.Option.{option_map}
use Rattle.std.specs.Prelude.{nat_le, slice_index, if◌then◌else◌}
use Rattle.std.proofs.lemmas.Bool.Decides.{nat_tests}
use Rattle.std.proofs.lemmas.List.Folds.{list_any-append}
use Rattle.pas_program.specs.declared.expr.Actual.{Actual}
use Rattle.pas_program.specs.declared.program.Program.{Program}
use Rattle.pas_program.specs.Scopes.{contains, is_distinct}
use Rattle.control_points.specs.declared.edge.Act.{Act}
use Rattle.control_points.specs.declared.edge.Act.TheVariants as act
use Rattle.control_points.specs.declared.edge.Edge.{Edge}
use Rattle.control_points.specs.declared.flow.Flow.{Flow}
use Rattle.control_points.specs.Fits.{act_at, callee_of}
use Rattle.alias_class.specs.declared.outline.RoutineOutline.{RoutineOutline}
use Rattle.alias_class.specs.Calls.{IsSite, Sharing, callee, callee_by, entered, named, parent_in, sharing}
use Rattle.alias_class.specs.Cells.{IsClass, cell_count, cell_of, inherited_count, routine_of}
use Rattle.alias_class.specs.Classes.{Class}
use Rattle.alias_class.specs.Denotation.{AreApart, origin_by, shared_origin}
use Rattle.alias_class.specs.Denotation.Origin.{inherited, own, foreign}
use Rattle.alias_class.specs.Distinct.{with_member}
use Rattle.alias_class.specs.Outlines.{outline_of, outline_of_program, own_of}
use Rattle.alias_class.proofs.Entering.{as_many, flow_calls, foreign_behind, foreign_cells_of}
use Rattle.alias_class.proofs.Lists.{and_both, and_left, and_right, not_true, or_false}
use Rattle.alias_class.proofs.Outlining.{by_routine}
use Rattle.alias_class.proofs.Placing.{place_at}
use Rattle.alias_class.proofs.Ranked.{own_distinct}
use Rattle.alias_class.proofs.Ranks.{outline_fits}

-- ---- lists without repeats

once : (ns : List ℕ) (n : ℕ) → is_distinct ns ≡ true → contains n ns ≡ false → is_distinct (ns ++ n ∷ []) ≡ true
once [] n d e = refl
once (m ∷ ns) n d e =
    let out = not_true (contains m ns) (and_left (not (contains m ns)) (is_distinct ns) d) in
    let both = or_false (nat_eq n m) (contains n ns) e in
    let differ = both.0 in
    let other : nat_eq m n ≡ false = grind (arith, nat_tests) in
    let none : contains m (ns ++ n ∷ []) ≡ false = list_any-append (nat_eq m) ns (n ∷ []) ∙ neither (contains m ns) (nat_eq m n) out other in
    and_both (not (contains m (ns ++ n ∷ []))) (is_distinct (ns ++ n ∷ [])) (ap not none) (once ns n (and_right (not (contains m ns)) (is_distinct ns) d) both.1)
  where
    neither : (a b : Bool) → a ≡ false → b ≡ false → (a || (b || false)) ≡ false
    neither false false p q = refl
    neither true b p q = absurd (grind arith)
    neither false true p q = absurd (grind arith)

pub members_once : (found ns : List ℕ) → is_distinct found ≡ true → is_distinct (fold (with_member nat_eq) found ns) ≡ true
members_once found [] d = d
members_once found (n ∷ ns) d = members_once (with_member nat_eq found n) ns (by (list_any (nat_eq n) found) refl)
  where
    by : (b : Bool) → list_any (nat_eq n) found ≡ b → is_distinct (if b then found else found ++ n ∷ []) ≡ true
    by true e = d
    by false e = once found n d e

same_place : (ns : List ℕ) (i j : ℕ) → is_distinct ns ≡ true → i < length ns → j < length ns → slice_index ns i ≡ slice_index ns j → i ≡ j
same_place ns i j d h k e = sym (place_at ns i d h) ∙ ap (λ (n : ℕ). position_or_len (λ w. nat_eq n w) ns) e ∙ place_at ns j d k

-- ---- of the cells of a callee

module _ (s : Sharing) (variables : List ℕ) where
  pub data Came (i : ℕ) : Type 0 where
    as_inherited : i < s.inherited → shared_origin s variables i ≡ inherited i → Came i
    as_own : s.inherited ≤ i → i < s.first_foreign → shared_origin s variables i ≡ own (slice_index variables (i - s.inherited)) → Came i
    as_foreign : s.first_foreign ≤ i → shared_origin s variables i ≡ foreign (slice_index s.foreign (i - s.first_foreign)) → Came i

  pub came : (i : ℕ) → Came i
  came i = by (nat_lt i s.inherited) (nat_lt i s.first_foreign) refl refl
    where
      by : (a b : Bool) → nat_lt i s.inherited ≡ a → nat_lt i s.first_foreign ≡ b → Came i
      by true b e f = as_inherited (grind (arith, nat_tests)) (ap (λ (x : Bool). if x then inherited i else if nat_lt i s.first_foreign then own (slice_index variables (i - s.inherited)) else foreign (slice_index s.foreign (i - s.first_foreign))) e)
      by false true e f =
          as_own (grind (arith, nat_tests)) (grind (arith, nat_tests))
          (ap (λ (x : Bool). if x then inherited i else if nat_lt i s.first_foreign then own (slice_index variables (i - s.inherited)) else foreign (slice_index s.foreign (i - s.first_foreign))) e
          ∙ ap (λ (x : Bool). if x then own (slice_index variables (i - s.inherited)) else foreign (slice_index s.foreign (i - s.first_foreign))) f)
      by false false e f =
          as_foreign (grind (arith, nat_tests))
          (ap (λ (x : Bool). if x then inherited i else if nat_lt i s.first_foreign then own (slice_index variables (i - s.inherited)) else foreign (slice_index s.foreign (i - s.first_foreign))) e
          ∙ ap (λ (x : Bool). if x then own (slice_index variables (i - s.inherited)) else foreign (slice_index s.foreign (i - s.first_foreign))) f)

  module _ (long : s.inherited + length variables ≡ s.first_foreign) (variables_once : is_distinct variables ≡ true) (foreign_once : is_distinct s.foreign ≡ true) (count caller : ℕ) (all : count ≡ s.first_foreign + length s.foreign)
      (behind : All (λ n. s.inherited ≤ n) s.foreign) (below : All (λ n. n < caller) s.foreign) where
    two : (i j : ℕ) → i < count → j < count → shared_origin s variables i ≡ shared_origin s variables j → i ≡ j
    two i j h k e = by (came i) (came j)
      where
        by : Came i → Came j → i ≡ j
        by (as_inherited a p) (as_inherited b q) = let same : inherited i ≡ inherited j = sym p ∙ e ∙ q in cc
        by (as_inherited a p) (as_own b c q) = absurd (let same : inherited i ≡ own (slice_index variables (j - s.inherited)) = sym p ∙ e ∙ q in cc)
        by (as_inherited a p) (as_foreign b q) = absurd (let same : inherited i ≡ foreign (slice_index s.foreign (j - s.first_foreign)) = sym p ∙ e ∙ q in cc)
        by (as_own a b p) (as_inherited c q) = absurd (let same : own (slice_index variables (i - s.inherited)) ≡ inherited j = sym p ∙ e ∙ q in cc)
        by (as_own a b p) (as_own c d q) =
            let same : own (slice_index variables (i - s.inherited)) ≡ own (slice_index variables (j - s.inherited)) = sym p ∙ e ∙ q in
            let at : slice_index variables (i - s.inherited) ≡ slice_index variables (j - s.inherited) = cc in
            let place = same_place variables (i - s.inherited) (j - s.inherited) variables_once (omega arith) (omega arith) at in
            omega arith
        by (as_own a b p) (as_foreign c q) = absurd (let same : own (slice_index variables (i - s.inherited)) ≡ foreign (slice_index s.foreign (j - s.first_foreign)) = sym p ∙ e ∙ q in cc)
        by (as_foreign a p) (as_inherited b q) = absurd (let same : foreign (slice_index s.foreign (i - s.first_foreign)) ≡ inherited j = sym p ∙ e ∙ q in cc)
        by (as_foreign a p) (as_own b c q) = absurd (let same : foreign (slice_index s.foreign (i - s.first_foreign)) ≡ own (slice_index variables (j - s.inherited)) = sym p ∙ e ∙ q in cc)
        by (as_foreign a p) (as_foreign b q) =
            let same : foreign (slice_index s.foreign (i - s.first_foreign)) ≡ foreign (slice_index s.foreign (j - s.first_foreign)) = sym p ∙ e ∙ q in
            let at : slice_index s.foreign (i - s.first_foreign) ≡ slice_index s.foreign (j - s.first_foreign) = cc in
            let place = same_place s.foreign (i - s.first_foreign) (j - s.first_foreign) foreign_once (omega arith) (omega arith) at in
            omega arith

    which : (P : ℕ → Type 0) → All P s.foreign → (i k : ℕ) → i < count → shared_origin s variables i ≡ foreign k → P k
    which P each i k h e = by (came i)
      where
        by : Came i → P k
        by (as_inherited a p) = absurd (let same : inherited i ≡ foreign k = sym p ∙ e in cc)
        by (as_own a b p) = absurd (let same : own (slice_index variables (i - s.inherited)) ≡ foreign k = sym p ∙ e in cc)
        by (as_foreign a p) =
            let same : foreign (slice_index s.foreign (i - s.first_foreign)) ≡ foreign k = sym p ∙ e in
            let at : slice_index s.foreign (i - s.first_foreign) ≡ k = cc in
            subst P at (each (i - s.first_foreign) 0 (omega arith))

    pub shared_apart : AreApart (shared_origin s variables) count s.inherited caller
    shared_apart = record { apart = two; outside = which (λ n. s.inherited ≤ n) behind; within = which (λ n. n < caller) below }

-- ---- of the classes of a program

-- the variables of a routine with cells of their own, each once
pub own_once : (p : Program) (r : ℕ) → is_distinct (own_of (outline_of_program p) r) ≡ true
own_once p r = by_routine p (λ (x : RoutineOutline). is_distinct x.own ≡ true) r refl (λ d e. own_distinct p r d e)

pub main_apart : (p : Program) → AreApart (origin_by (outline_of_program p) [] None) (cell_count (outline_of_program p) []) 0 0
main_apart p =
    let variables = own_of (outline_of_program p) (outline_of_program p).main in
    record {
      apart = λ i j h k e. (let at : slice_index variables i ≡ slice_index variables j = cc in same_place variables i j (own_once p (outline_of_program p).main) h k at);
      outside = λ i k h e. omega arith;
      within = λ i k h e. absurd (cc);
    }

-- an action that calls the routine r
pub record Calls (a : Act) (r : ℕ) : Type 0 where
  pub actuals : List Actual
  pub slot : Option ℕ
  pub at : ℕ
  pub is : a ≡ act.Call r actuals slot at

pub calls : (a : Act) (r : ℕ) → callee_of a ≡ Some r → Calls a r
calls (act.Call s actuals slot at) r e = record { actuals = actuals; slot = slot; at = at; is = (let same : s ≡ r = cc in ap (λ (n : ℕ). act.Call n actuals slot at) same) }
calls _ r e = absurd (grind arith)

pub entered_apart : (f : Flow) (c : Class) (k : ℕ) → IsClass (outline_of f) c → IsSite f.points f.edges (routine_of (outline_of f) c) k
    → AreApart (origin_by (outline_of f) c (act_at f.edges k)) (cell_count (outline_of f) (callee (outline_of f) f.edges c k)) (inherited_count (outline_of f) (callee (outline_of f) f.edges c k)) (cell_count (outline_of f) c)
entered_apart f c k is site =
    let o = outline_of f in
    let call = calls site.edge.act site.called site.is_call in
    let acts : act_at f.edges k ≡ Some (act.Call site.called call.actuals call.slot call.at) = ap (option_map (λ (e : Edge). e.act)) site.known ∙ ap Some call.is in
    let does = flow_calls f o refl c is k site site.called call.actuals (record { slot = call.slot; at = call.at; is = acts }) in
    let fits = outline_fits f.program in
    let many = as_many o fits c is site.called call.actuals does in
    let cells = foreign_cells_of o fits c is site.called call.actuals does in
    subst (λ (x : Option Act). AreApart (origin_by o c x) (cell_count o (callee_by o c k x)) (inherited_count o (callee_by o c k x)) (cell_count o c)) (sym acts)
    (shared_apart (sharing o c site.called call.actuals) (own_of o site.called) refl (own_once f.program site.called) (members_once [] (filter (λ n. nat_le (cell_count o (parent_in o c site.called)) n) (map cell_of (named o c call.actuals))) refl) (cell_count o (entered o c k site.called call.actuals)) (cell_count o c) (omega arith)
    (foreign_behind o fits c is site.called call.actuals does) cells.in_range)
