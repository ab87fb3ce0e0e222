-- Where none of the actions of a point is the one to be done, the point is that of a `case`.
use Rattle.std.proofs.Common.{◌≡◌, ℕ, zero, suc, ◌+◌, ◌-◌, ◌<◌, ◌≤◌, Bool, true, false, cond, List, [], ◌∷◌, ℤ, pos, int_eq, All, length, refl, sym, ap, subst, ◌∙◌, inl, inr, Ok, Err, Option, Some, None, option_map, slice_get, nat_eq, eqb-true, eq-eqb, arith, add-zero, zero-add}
use Rattle.std.proofs.lemmas.Bool.{and_parts, cases_Bool, cond-true, cond-false, true≢false}
use Rattle.std.proofs.lemmas.List.Elements.{All-nil, All-cons, All-head, All-tail}
use Rattle.std.proofs.lemmas.Option.{none-some, same_Some, slice_get_within}
use Rattle.std.specs.Bool.{beq}
use Rattle.arithmetic.specs.Numbers.{truth}
use Rattle.px_base.specs.declared.kind.Kind.TheVariants.{ValueOutOfRange, WidthOutOfRange}
use Rattle.pas_program.specs.declared.expr.Access.{Access}
use Rattle.pas_program.specs.declared.expr.Actual.{Actual}
use Rattle.pas_program.specs.declared.expr.Actual.TheViews.{out-Expr}
use Rattle.pas_program.specs.declared.expr.Expr.{Expr}
use Rattle.pas_program.specs.declared.statement.WriteItem.{WriteItem}
use Rattle.pas_program.specs.Each.{each_expr}
use Rattle.pas_program.specs.Scopes.{scope_rule}
use Rattle.pas_program.specs.Typed.{hosted}
use Rattle.pas_program.specs.Types.{in_host}
use Rattle.control_points.specs.declared.edge.Act.{Act}
use Rattle.control_points.specs.declared.edge.Act.TheVariants as act
use Rattle.control_points.specs.declared.edge.Edge.{Edge}
use Rattle.control_points.specs.declared.point.Point.{Point}
use Rattle.control_points.specs.declared.point.PointKind.{PointKind}
use Rattle.control_points.specs.declared.point.PointKind.TheVariants as kind
use Rattle.control_points.specs.Actions.{sets, Effect, Outcome, top_depth, top_call, was_made_by, slot_at, result_of, result_value, access_type, fits_type, view, does, assign, copy, call, pass, formals_of, give_back, test, enter, bypass, next_turn, finish, in_order, comes_before, with_taken, read, written_value, write_in, write, effect_of}
use Rattle.control_points.specs.Acts.{each_act, act_types_fit}
use Rattle.control_points.specs.Chart.{Chart, numbers_from, leaving, place_of_point}
use Rattle.control_points.specs.Evaluation.{Answer, Spot, then_with, checked, defined, var_type, value, spot, assigned}
use Rattle.control_points.specs.Fits.{is_return_of, routine_at, kind_at, act_at}
use Rattle.control_points.specs.Input.{Taken, next_number}
use Rattle.control_points.specs.Leading.{IsCase, other_way, is_other_way, is_return, is_exit, is_arm}
use Rattle.control_points.specs.Output.{Written, is_width}
use Rattle.control_points.specs.States.{Stack, State}
use Rattle.control_points.specs.Storage.{whole}
use Rattle.control_points.specs.Steps.{point_of, is_halted, edge_effect, or_else, first_done}
use Rattle.control_points.specs.ValidStates.{IsOf, IsStack, IsValid}
use Rattle.control_points.specs.WellFormed.{IsWellFormed}
use Rattle.control_points.proofs.ValidBasics.{no_error, same_Ok, then_ok, defined_ok, and_then_found, map_found, holds_found}
use Rattle.control_points.proofs.ValidNumbers.{boolean_to}
use Rattle.control_points.proofs.ValidStacks.{latest_found, standing_routine}
use Rattle.control_points.proofs.ValidValues.{expr_in_host}

-- ---- answers that are nothing

done_is_something : (e : Effect) → ◌≡◌ {A = Outcome} (Ok (Some e)) (Ok None) → ⊥
done_is_something e h = none-some e (sym (same_Ok _ _ h))

refused_if : (b : Bool) (x : Outcome) → (x ≡ Ok None → ⊥) → cond b x (Ok None) ≡ Ok None → b ≡ false
refused_if true x some h = absurd (some h)
refused_if false x some h = refl

refused_unless : (b : Bool) (x : Outcome) → (x ≡ Ok None → ⊥) → cond b (Ok None) x ≡ Ok None → b ≡ true
refused_unless true x some h = refl
refused_unless false x some h = absurd (some h)

-- ---- actions that are always the one to be done

module _ (c : Chart) (s : State) where
  assign_done : (target : Access) (e : Expr) → assign c s target e ≡ Ok None → ⊥
  assign_done target e h =
      let x = then_ok (spot (view c s) target) _ None h in
      let y = then_ok (assigned (view c s) (access_type c target) e) _ None x.2 in
      done_is_something _ y.2

  copy_done : (target source : Access) → copy c s target source ≡ Ok None → ⊥
  copy_done target source h =
      let x = then_ok (spot (view c s) target) _ None h in
      let y = then_ok (spot (view c s) source) _ None x.2 in
      done_is_something _ y.2

  call_done : (k routine : ℕ) (actuals : List Actual) → call c s k routine actuals ≡ Ok None → ⊥
  call_done k routine actuals h =
      let x = then_ok (pass c s actuals (formals_of c s (c.tables.head_at routine))) _ None h in
      done_is_something _ x.2

  give_back_done : (place : ℕ) (slot : Option ℕ) → give_back c s place slot ≡ Ok None → ⊥
  give_back_done place None h = done_is_something _ h
  give_back_done place (Some slot) h = let x = then_ok (result_value place (s.store (whole (top_depth s.stack) (result_of c s.stack)))) _ None h in done_is_something _ x.2

  taken_done : (n : ℕ) (q : Spot) (o : Option Taken) → with_taken c s n q o ≡ Ok None → ⊥
  taken_done n q None h = no_error _ None h
  taken_done n q (Some x) h = let y = then_ok (checked (fits_type c n x.number) ValueOutOfRange q.at x.number) _ None h in done_is_something _ y.2

  read_done : (target : Access) → read c s target ≡ Ok None → ⊥
  read_done target h = let x = then_ok (spot (view c s) target) _ None h in taken_done (access_type c target) x.0 (next_number s.items) x.2

  width_done : (width : Option Expr) (text : Written) → write_in c s width text ≡ Ok None → ⊥
  width_done None text h = done_is_something _ h
  width_done (Some width) text h =
      let x = then_ok (value (view c s) width) _ None h in
      let y = then_ok (checked (is_width (x.0)) WidthOutOfRange (out-Expr width).first (x.0)) _ None x.2 in
      done_is_something _ y.2

  write_done : (item : WriteItem) → write c s item ≡ Ok None → ⊥
  write_done item h = let x = then_ok (written_value c s item.value) _ None h in width_done item.width x.0 x.2

  -- ---- actions with another way

  test_refused : (e : Expr) (wanted : Bool) → test c s e wanted ≡ Ok None → (z : ℤ) × (value (view c s) e ≡ Ok z) × (int_eq z (truth wanted) ≡ false)
  test_refused e wanted h =
      let x = then_ok (value (view c s) e) _ None h in
      (x.0, x.1, refused_if (int_eq (x.0) (truth wanted)) (does c s []) (done_is_something _) x.2)

  -- the values of two expressions, and a test of them
  abbrev BothAre : Expr → Expr → (ℤ → ℤ → Bool) → Bool → Type 0
  BothAre first last test b = (x : ℤ) × (y : ℤ) × (value (view c s) first ≡ Ok x) × (value (view c s) last ≡ Ok y) × (test x y ≡ b)

  -- the range of a `for` is stored where both of its values fit
  range_stored : (control bound : ℕ) (first last : Expr) (x y : ℤ)
      → then_with (checked (fits_type c (var_type c.tables control) x) ValueOutOfRange (out-Expr first).first x) (λ x. then_with (checked (fits_type c (var_type c.tables control) y) ValueOutOfRange (out-Expr last).first y) (λ y.
      does c s (sets ((view c s).place control) (Some x) ∷ sets ((view c s).place bound) (Some y) ∷ []))) ≡ Ok None → ⊥
  range_stored control bound first last x y h =
      let a = then_ok (checked (fits_type c (var_type c.tables control) x) ValueOutOfRange (out-Expr first).first x) _ None h in
      let b = then_ok (checked (fits_type c (var_type c.tables control) y) ValueOutOfRange (out-Expr last).first y) _ None a.2 in
      done_is_something _ b.2

  enter_refused : (control bound : ℕ) (first : Expr) (down : Bool) (last : Expr) → enter c s control bound first down last ≡ Ok None → BothAre first last (in_order down) false
  enter_refused control bound first down last h =
      let x = then_ok (value (view c s) first) _ None h in
      let y = then_ok (value (view c s) last) _ None x.2 in
      (x.0, y.0, x.1, y.1, refused_if (in_order down (x.0) (y.0)) _ (range_stored control bound first last x.0 y.0) y.2)

  bypass_refused : (control : ℕ) (first : Expr) (down : Bool) (last : Expr) → bypass c s control first down last ≡ Ok None → BothAre first last (in_order down) true
  bypass_refused control first down last h =
      let x = then_ok (value (view c s) first) _ None h in
      let y = then_ok (value (view c s) last) _ None x.2 in
      (x.0, y.0, x.1, y.1, refused_unless (in_order down (x.0) (y.0)) _ (done_is_something _) y.2)

  abbrev TurnIs : ℕ → ℕ → (ℤ → ℤ → Bool) → Bool → Type 0
  TurnIs control bound test b = (x : ℤ) × (y : ℤ) × (s.store ((view c s).place control) ≡ Some x) × (s.store ((view c s).place bound) ≡ Some y) × (test x y ≡ b)

  next_refused : (control bound : ℕ) (down : Bool) (place : ℕ) → next_turn c s control bound down place ≡ Ok None → TurnIs control bound (comes_before down) false
  next_refused control bound down place h =
      let x = then_ok (defined place (s.store ((view c s).place control))) _ None h in
      let y = then_ok (defined place (s.store ((view c s).place bound))) _ None x.2 in
      (x.0, y.0, defined_ok place _ x.0 x.1, defined_ok place _ y.0 y.1, refused_if (comes_before down (x.0) (y.0)) _ (done_is_something _) y.2)

  finish_refused : (control bound : ℕ) (down : Bool) (place : ℕ) → finish c s control bound down place ≡ Ok None → TurnIs control bound (comes_before down) true
  finish_refused control bound down place h =
      let x = then_ok (defined place (s.store ((view c s).place control))) _ None h in
      let y = then_ok (defined place (s.store ((view c s).place bound))) _ None x.2 in
      (x.0, y.0, defined_ok place _ x.0 x.1, defined_ok place _ y.0 y.1, refused_unless (comes_before down (x.0) (y.0)) _ (done_is_something _) y.2)

-- ---- a number can't be refused by both ways

boolean_refused : (n : ℕ) → n ≤ 1 → int_eq (pos n) (truth true) ≡ false → int_eq (pos n) (truth false) ≡ false → ⊥
boolean_refused zero h t f = true≢false f
boolean_refused (suc zero) h t f = true≢false t
boolean_refused (suc (suc n)) h t f = omega arith

host_true : (b : Bool) → beq true b ≡ true → b ≡ true
host_true true h = refl
host_true false h = absurd (true≢false (sym h))

-- ---- the edges of a point, of which none is done

-- all edges with these numbers are refused
AllRefused : Chart → State → List ℕ → Type 0
AllRefused c s ks = All (λ k. edge_effect c s k (slice_get c.edges k) ≡ Ok None) ks

refused_here : (c : Chart) (s : State) (k : ℕ) (o : Outcome) (others : Answer (Option State)) → or_else c s k o others ≡ Ok None → (o ≡ Ok None) × (others ≡ Ok None)
refused_here c s k (Ok (Some e)) others h = absurd (none-some _ (sym (same_Ok _ _ h)))
refused_here c s k (Ok None) others h = (refl, h)
refused_here c s k (Err f) others h = absurd (no_error f None h)

all_refused : (c : Chart) (s : State) (ks : List ℕ) → first_done c s ks ≡ Ok None → AllRefused c s ks
unfolding AllRefused
all_refused c s [] h = All-nil (λ k. edge_effect c s k (slice_get c.edges k) ≡ Ok None)
all_refused c s (k ∷ ks) h =
    let x = refused_here c s k (edge_effect c s k (slice_get c.edges k)) (first_done c s ks) h in
    All-cons (λ k. edge_effect c s k (slice_get c.edges k) ≡ Ok None) k ks x.0 (all_refused c s ks x.1)

-- what holds of the numbers of all items that pass a test holds of that of each
later_numbers : {A : Type 0} (P : ℕ → Type 0) (y : A) (xs : List A) (test : A → Bool) (n : ℕ) → All P (numbers_from n test (y ∷ xs)) → All P (numbers_from (suc n) test xs)
later_numbers P y xs test n all =
    elim (cases_Bool (test y)) [
      | inl e ↦ All-tail P n (numbers_from (suc n) test xs) (subst (All P) (cond-true (test y) (n ∷ numbers_from (suc n) test xs) (numbers_from (suc n) test xs) e) all)
      | inr e ↦ subst (All P) (cond-false (test y) (n ∷ numbers_from (suc n) test xs) (numbers_from (suc n) test xs) e) all
    ]

next_number_is : (n i : ℕ) → suc n + i ≡ n + suc i
next_number_is n i = omega arith

numbered_has : {A : Type 0} (P : ℕ → Type 0) (xs : List A) (test : A → Bool) (n : ℕ) → All P (numbers_from n test xs) → (i : ℕ) (x : A) → slice_get xs i ≡ Some x → test x ≡ true → P (n + i)
numbered_has P [] test n all i x known passes = absurd (none-some x known)
numbered_has P (y ∷ xs) test n all zero x known passes =
    subst P (sym (add-zero n))
    (All-head P n (numbers_from (suc n) test xs)
    (subst (All P) (cond-true (test y) (n ∷ numbers_from (suc n) test xs) (numbers_from (suc n) test xs) (ap test (same_Some y x known) ∙ passes)) all))
numbered_has P (y ∷ xs) test n all (suc i) x known passes =
    subst P (next_number_is n i) (numbered_has P xs test (suc n) (later_numbers P y xs test n all) i x known passes)

-- each edge that leaves the point is refused
pub IsRefused : Chart → State → ℕ → Edge → Type 0
IsRefused c s k e = effect_of c s k (place_of_point c.points e.from) e.act ≡ Ok None

edge_refused : (c : Chart) (s : State) → first_done c s (leaving c.edges (point_of s.stack)) ≡ Ok None → (k : ℕ) (e : Edge) → slice_get c.edges k ≡ Some e → e.from ≡ point_of s.stack → IsRefused c s k e
unfolding AllRefused IsRefused
edge_refused c s h k e known from =
    let all = all_refused c s (leaving c.edges (point_of s.stack)) h in
    let here = numbered_has (λ j. edge_effect c s j (slice_get c.edges j) ≡ Ok None) c.edges (λ (g : Edge). nat_eq g.from (point_of s.stack)) 0 all k e known (eq-eqb e.from (point_of s.stack) from) in
    ap (edge_effect c s k) (sym known) ∙ subst (λ j. edge_effect c s j (slice_get c.edges j) ≡ Ok None) (zero-add k) here

-- ---- the exits

exit_is : (k : PointKind) → is_exit k ≡ true → k ≡ kind.Exit
exit_is kind.Exit h = refl
exit_is _ h = absurd (true≢false (sym h))

return_is : (k : ℕ) (a : Act) → is_return_of k a ≡ true → a ≡ act.Return k
return_is k (act.Return j) h = ap act.Return (eqb-true j k h)
return_is k _ h = absurd (true≢false (sym h))

pub last_number : (p n : ℕ) → p ≡ n - 1 → p < n → suc p ≡ n
last_number p n e h = omega arith

module _ (c : Chart) (w : IsWellFormed c) where
  -- at an exit a run has halted, or a return leads on
  exit_is_left : (stack : Stack) → IsStack c stack → is_halted c stack ≡ false → kind_at c.points (point_of stack) ≡ Some kind.Exit
      → ((j : ℕ) (f : Edge) → slice_get c.edges (suc j) ≡ Some f → f.act ≡ act.Return j → f.from ≡ point_of stack → was_made_by j (top_call stack) ≡ true → ⊥)
      → ⊥
  exit_is_left [] is halted exit returns = is
  exit_is_left (a ∷ []) is halted exit returns =
      let q = map_found (λ (x : Point). x.kind) (slice_get c.points a.point) kind.Exit exit in
      let within = slice_get_within c.points a.point q.0 q.1 in
      let last = w.pairs.exit_once a.point (length c.points - 1) c.main exit w.pairs.last_exit is.stands w.pairs.last_routine in
      true≢false (sym (eq-eqb (suc a.point) (length c.points) (last_number a.point (length c.points) last within)) ∙ halted)
  exit_is_left (a ∷ b ∷ below) is halted exit returns =
      let x = is.0 in
      let f = holds_found (is_return_of x.edge) (act_at c.edges (suc x.edge)) (w.calls.return x.edge a.frame.routine x.site x.known x.callee) in
      let g = map_found (λ (e : Edge). e.act) (slice_get c.edges (suc x.edge)) f.0 f.1 in
      let from =
      w.pairs.exit_once (g.0).from a.point a.frame.routine (w.calls.exit x.edge a.frame.routine x.site g.0 x.known g.1 x.callee) exit
      (w.calls.exited x.edge a.frame.routine x.site g.0 x.known g.1 x.callee) x.stands in
      returns x.edge g.0 g.1 (g.2 ∙ return_is x.edge f.0 f.2) from (ap (was_made_by x.edge) x.made ∙ eq-eqb x.edge x.edge refl)

module _ (c : Chart) (w : IsWellFormed c) (s : State) (v : IsValid c s) (r : ℕ) (here : IsOf s.stack (top_depth s.stack) r) (stands : routine_at c.points (point_of s.stack) ≡ Some r)
    (refused : (k : ℕ) (e : Edge) → slice_get c.edges k ≡ Some e → e.from ≡ point_of s.stack → IsRefused c s k e) where
  return_done : (j : ℕ) (f : Edge) → slice_get c.edges (suc j) ≡ Some f → f.act ≡ act.Return j → f.from ≡ point_of s.stack → was_made_by j (top_call s.stack) ≡ true → ⊥
  unfolding IsRefused
  return_done j f known is from made =
      let place = place_of_point c.points f.from in
      let none = ap (effect_of c s (suc j) place) (sym is) ∙ refused (suc j) f known from in
      give_back_done c s place (slot_at c.edges j) (sym (cond-true (was_made_by j (top_call s.stack)) (give_back c s place (slot_at c.edges j)) (Ok None) made) ∙ none)

  -- a condition is a Boolean, so that one of its two ways is done
  test_done : (k : ℕ) (e : Edge) → slice_get c.edges k ≡ Some e → e.from ≡ point_of s.stack → (cond' : Expr) → e.act ≡ act.Test cond' true → test c s cond' true ≡ Ok None → test c s cond' false ≡ Ok None → ⊥
  test_done k e known from cond' is held failed =
      let x = test_refused c s cond' true held in
      let y = test_refused c s cond' false failed in
      let same = same_Ok x.0 y.0 (sym x.1 ∙ y.1) in
      let scope : each_expr (scope_rule c.tables r) cond' ≡ true = ap (each_act (scope_rule c.tables r)) (sym is) ∙ w.scopes k r e known (ap (routine_at c.points) from ∙ stands) in
      let types = and_parts (hosted c.tables cond').fits _ (ap (act_types_fit c.tables) (sym is) ∙ w.types k e known) in
      let boolean = expr_in_host c w.tables s v r here cond' scope types.0 x.0 x.1 in
      let n = boolean_to x.0 (subst (λ b. in_host b (x.0) ≡ true) (host_true (hosted c.tables cond').boolean types.1) boolean) in
      boolean_refused n.0 n.2 (ap (λ z. int_eq z (truth true)) (sym n.1) ∙ x.2) (ap (λ z. int_eq z (truth false)) (sym n.1 ∙ same) ∙ y.2)

  loop_done : (control bound : ℕ) (first last : Expr) (down : Bool) → enter c s control bound first down last ≡ Ok None → bypass c s control first down last ≡ Ok None → ⊥
  loop_done control bound first last down entered passed =
      let x = enter_refused c s control bound first down last entered in
      let y = bypass_refused c s control first down last passed in
      true≢false (sym y.4 ∙ ap (λ z. in_order down z (y.1)) (same_Ok y.0 x.0 (sym y.2 ∙ x.2)) ∙ ap (in_order down (x.0)) (same_Ok y.1 x.1 (sym y.3 ∙ x.3)) ∙ x.4)

  turn_done : (control bound : ℕ) (down : Bool) (m n : ℕ) → next_turn c s control bound down m ≡ Ok None → finish c s control bound down n ≡ Ok None → ⊥
  turn_done control bound down m n on out =
      let x = next_refused c s control bound down m on in
      let y = finish_refused c s control bound down n out in
      true≢false (sym y.4 ∙ ap (λ z. comes_before down z (y.1)) (same_Some y.0 x.0 (sym y.2 ∙ x.2)) ∙ ap (comes_before down (x.0)) (same_Some y.1 x.1 (sym y.3 ∙ x.3)) ∙ x.4)

  -- the first of two ways
  first_way : (k : ℕ) (e : Edge) → slice_get c.edges k ≡ Some e → e.from ≡ point_of s.stack → (a b : Act) → e.act ≡ a → other_way a ≡ Some b → (j m n : ℕ) → effect_of c s k m a ≡ Ok None → effect_of c s j n b ≡ Ok None → ⊥
  first_way k e known from (act.Test cond' true) b is other j m n h g =
      test_done k e known from cond' is h (ap (effect_of c s j n) (same_Some _ b other) ∙ g)
  first_way k e known from (act.Enter control bound first down last) b is other j m n h g =
      loop_done control bound first last down h (ap (effect_of c s j n) (same_Some _ b other) ∙ g)
  first_way k e known from (act.Next control bound down) b is other j m n h g =
      turn_done control bound down m n h (ap (effect_of c s j n) (same_Some _ b other) ∙ g)
  first_way k e known from _ b is other j m n h g = none-some b other

  both_ways : (k : ℕ) (e : Edge) → slice_get c.edges k ≡ Some e → e.from ≡ point_of s.stack → (b : Act) → other_way e.act ≡ Some b → ⊥
  unfolding IsRefused
  both_ways k e known from b other =
      let f = map_found (λ (g : Edge). g.act) (slice_get c.edges (suc k)) b (w.pairs.followed k e b known other) in
      let g = map_found (λ (g : Edge). g.from) (slice_get c.edges (suc k)) e.from (w.pairs.beside k e b known other) in
      let same = same_Some f.0 g.0 (sym f.1 ∙ g.1) in
      let there = refused (suc k) f.0 f.1 (ap (λ (x : Edge). x.from) same ∙ g.2 ∙ from) in
      first_way k e known from e.act b refl other (suc k) (place_of_point c.points e.from) (place_of_point c.points (f.0).from) (refused k e known from)
      (ap (effect_of c s (suc k) (place_of_point c.points (f.0).from)) (sym f.2) ∙ there)

  other_way_done : (k : ℕ) (e : Edge) → slice_get c.edges k ≡ Some e → e.from ≡ point_of s.stack → is_other_way e.act ≡ true → ⊥
  other_way_done k e known from h =
      let a = and_then_found other_way (act_at c.edges (k - 1)) e.act (w.pairs.preceded k e known h) in
      let f = map_found (λ (g : Edge). g.act) (slice_get c.edges (k - 1)) a.0 a.1 in
      let g = map_found (λ (g : Edge). g.from) (slice_get c.edges (k - 1)) e.from (w.pairs.behind k e known h) in
      let same = same_Some f.0 g.0 (sym f.1 ∙ g.1) in
      both_ways (k - 1) f.0 f.1 (ap (λ (x : Edge). x.from) same ∙ g.2 ∙ from) e.act (ap other_way f.2 ∙ a.2)

  -- an edge of the point, which is no exit
  edge_is_arm : (k : ℕ) (e : Edge) → slice_get c.edges k ≡ Some e → e.from ≡ point_of s.stack → is_return e.act ≡ false → (a : Act) → e.act ≡ a → (m : ℕ) → effect_of c s k m a ≡ Ok None → is_arm a ≡ true
  edge_is_arm k e known from kept act.Skip is m h = absurd (done_is_something _ h)
  edge_is_arm k e known from kept (act.Assign target source) is m h = absurd (assign_done c s target source h)
  edge_is_arm k e known from kept (act.Copy target source) is m h = absurd (copy_done c s target source h)
  edge_is_arm k e known from kept (act.Call routine actuals slot name) is m h = absurd (call_done c s k routine actuals h)
  edge_is_arm k e known from kept (act.Return j) is m h = absurd (true≢false (ap is_return (sym is) ∙ kept))
  edge_is_arm k e known from kept (act.Goto routine) is m h = absurd (done_is_something _ h)
  edge_is_arm k e known from kept (act.Test cond' true) is m h = absurd (both_ways k e known from (act.Test cond' false) (ap other_way is))
  edge_is_arm k e known from kept (act.Test cond' false) is m h = absurd (other_way_done k e known from (ap is_other_way is))
  edge_is_arm k e known from kept (act.Arm selector constants) is m h = refl
  edge_is_arm k e known from kept (act.Enter control bound first down last) is m h = absurd (both_ways k e known from (act.Bypass control bound first down last) (ap other_way is))
  edge_is_arm k e known from kept (act.Bypass control bound first down last) is m h = absurd (other_way_done k e known from (ap is_other_way is))
  edge_is_arm k e known from kept (act.Next control bound down) is m h = absurd (both_ways k e known from (act.Finish control bound down) (ap other_way is))
  edge_is_arm k e known from kept (act.Finish control bound down) is m h = absurd (other_way_done k e known from (ap is_other_way is))
  edge_is_arm k e known from kept (act.Read target) is m h = absurd (read_done c s target h)
  edge_is_arm k e known from kept act.DropLine is m h = absurd (done_is_something _ h)
  edge_is_arm k e known from kept (act.Write item) is m h = absurd (write_done c s item h)
  edge_is_arm k e known from kept act.EndLine is m h = absurd (done_is_something _ h)

  point_is_case : (q : Point) → slice_get c.points (point_of s.stack) ≡ Some q → is_exit q.kind ≡ false → IsCase c.edges (point_of s.stack)
  unfolding IsRefused
  point_is_case q known inside = record {
    leads = w.pairs.goes_on (point_of s.stack) q known inside;
    arms = λ k e there from.
        edge_is_arm k e there from (w.pairs.returns k e q there (ap (slice_get c.points) from ∙ known) ∙ inside) e.act refl (place_of_point c.points e.from) (refused k e there from);
  }

-- where no action is done, the run has halted, or the point is that of a `case`
pub no_action_is_case : (c : Chart) → IsWellFormed c → (s : State) → IsValid c s → is_halted c s.stack ≡ false → first_done c s (leaving c.edges (point_of s.stack)) ≡ Ok None → IsCase c.edges (point_of s.stack)
no_action_is_case c w s v halted h =
    let r = standing_routine c s.stack v.stack in
    let here = latest_found c s.stack v.stack r.0 r.1 in
    let q = map_found (λ (x : Point). x.routine) (slice_get c.points (point_of s.stack)) r.0 r.1 in
    let refused = edge_refused c s h in
    elim (cases_Bool (is_exit (q.0).kind)) [
      | inl e ↦
          absurd
          (exit_is_left c w s.stack v.stack halted (ap (option_map (λ (x : Point). x.kind)) q.1 ∙ ap Some (exit_is (q.0).kind e))
          (return_done c w s v r.0 here r.1 refused))
      | inr e ↦ point_is_case c w s v r.0 here r.1 refused q.0 q.1 e
    ]
