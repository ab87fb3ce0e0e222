-- Actuals and subscripts, one after the other.
use Rattle.std.proofs.Common.{◌≡◌, ℕ, zero, suc, ◌+◌, ◌<◌, List, [], ◌∷◌, length, get_or, drop, map, refl, sym, ap, subst, ◌∙◌, arith, add-one, Some, None, Ok, Err, if◌then◌else◌, nat_eq}
use Rattle.std.proofs.Math.Seq.{drop-cons}
use Rattle.std.specs.List.{slice_get}
use Rattle.pas_tree.specs.declared.expr.Actual.{Actual}
use Rattle.pas_tree.specs.declared.expr.Expr.{Expr}
use Rattle.pas_check.specs.declared.actual.Formal.{Formal}
use Rattle.pas_check.specs.declared.fault.Fault.{Fault}
use Rattle.pas_check.specs.declared.fault.Rule.TheVariants as rule
use Rattle.pas_check.specs.declared.meaning.Variable.{Variable}
use Rattle.pas_check.specs.Expr.{all_passed, all_passed_writes, element, first_of, found, given, led, lower_first, others, passed, passed_writes, reached, subscript}
use Rattle.pas_check.specs.Outcome.{Gives, IsBroken, Outcome, ◌>>=◌}
use Rattle.pas_check.specs.Sight.{Sight, parts_at}
use Rattle.pas_check.specs.Statement.{all_read, read_into}
use Rattle.pas_check.specs.Written.{Writes, Written, writes_in_turn}

-- the answer is a fault, which is the defined one
pub gives_wrong : {A B : Type 0} (shown : A → B) (defined : Outcome B) (r : Outcome A) (e : Fault) → r ≡ Err e → (IsBroken e → defined ≡ Err e) → Gives shown defined r
gives_wrong shown defined r e is wrong = subst (λ x. Gives shown defined x) (sym is) wrong

pub drop_next : {A : Type 0} (xs : List A) (k : ℕ) (x : A) → k < length xs → x ≡ get_or xs k x → drop k xs ≡ x ∷ drop (k + 1) xs
drop_next xs k x h e = rw add-one (drop-cons xs k x h ∙ ap (λ y. y ∷ drop (suc k) xs) (sym e))

pub first_drop : (formals : List Formal) (k : ℕ) → first_of (drop k formals) ≡ slice_get formals k
first_drop [] zero = refl
first_drop [] (suc k) = refl
first_drop (f ∷ formals) zero = refl
first_drop (f ∷ formals) (suc k) = first_drop formals k

pub others_drop : (formals : List Formal) (k : ℕ) → others (drop k formals) ≡ drop (suc k) formals
others_drop [] zero = refl
others_drop [] (suc k) = refl
others_drop (f ∷ []) zero = refl
others_drop (f ∷ (g ∷ formals)) zero = refl
others_drop (f ∷ formals) (suc k) = others_drop formals k

-- the part at hand writes, and then the others
pub writes_next : {A B : Type 0} (f : A → B) (writes : B → Writes) (xs : List A) (k : ℕ) (x : A) (w : Written) → k < length xs → x ≡ get_or xs k x
    → writes_in_turn writes (map f (drop k xs)) w ≡ writes_in_turn writes (map f (drop (k + 1) xs)) (writes (f x) w)
writes_next f writes xs k x w h e = ap (λ ys. writes_in_turn writes (map f ys) w) (drop_next xs k x h e)

module _ (v : Sight) where
  -- the actual at hand, and then the others
  pub passed_next : (formals : List Formal) (actuals : List Actual) (k : ℕ) (a : Actual) → k < length actuals → a ≡ get_or actuals k a
      → all_passed v (drop k formals) (map (given v) (drop k actuals)) ≡ (passed v (slice_get formals k) (given v a) >>= (λ done. all_passed v (drop (k + 1) formals) (map (given v) (drop (k + 1) actuals))))
  passed_next formals actuals k a h e =
      let more : suc k ≡ k + 1 = omega arith in
      ap (λ xs. all_passed v (drop k formals) (map (given v) xs)) (drop_next actuals k a h e)
      ∙ ap (λ f. passed v f (given v a) >>= (λ done. all_passed v (others (drop k formals)) (map (given v) (drop (k + 1) actuals)))) (first_drop formals k)
      ∙ ap (λ fs. passed v (slice_get formals k) (given v a) >>= (λ done. all_passed v fs (map (given v) (drop (k + 1) actuals)))) (others_drop formals k ∙ ap (λ n. drop n formals) more)

  pub passed_writes_next : (formals : List Formal) (actuals : List Actual) (k : ℕ) (a : Actual) (w : Written) → k < length actuals → a ≡ get_or actuals k a
      → all_passed_writes v (drop k formals) (map (given v) (drop k actuals)) w ≡ all_passed_writes v (drop (k + 1) formals) (map (given v) (drop (k + 1) actuals)) (passed_writes v (slice_get formals k) (given v a) w)
  passed_writes_next formals actuals k a w h e =
      let more : suc k ≡ k + 1 = omega arith in
      ap (λ xs. all_passed_writes v (drop k formals) (map (given v) xs) w) (drop_next actuals k a h e)
      ∙ ap (λ f. all_passed_writes v (others (drop k formals)) (map (given v) (drop (k + 1) actuals)) (passed_writes v f (given v a) w)) (first_drop formals k)
      ∙ ap (λ fs. all_passed_writes v fs (map (given v) (drop (k + 1) actuals)) (passed_writes v (slice_get formals k) (given v a) w)) (others_drop formals k ∙ ap (λ n. drop n formals) more)

  -- the subscript at hand, and then the others
  pub led_next : (subscripts : List Expr) (k t : ℕ) (s : Expr) → k < length subscripts → s ≡ get_or subscripts k s
      → led v (map (found v) (drop k subscripts)) t ≡ (element v (found v s) (parts_at v t) >>= (λ e. led v (map (found v) (drop (k + 1) subscripts)) e))
  led_next subscripts k t s h e = ap (λ xs. led v (map (found v) xs) t) (drop_next subscripts k s h e)

  -- no array
  pub led_stops : (subscripts : List Expr) (k t : ℕ) (s : Expr) (f : Fault) → k < length subscripts → s ≡ get_or subscripts k s → parts_at v t ≡ None → f ≡ lower_first (found v s).first rule.Type (found v s).value
      → led v (map (found v) (drop k subscripts)) t ≡ Err f
  led_stops subscripts k t s f h e none is =
      led_next subscripts k t s h e ∙ ap (λ p. element v (found v s) p >>= (λ n. led v (map (found v) (drop (k + 1) subscripts)) n)) none ∙ ap Err (sym is)

  -- a subscript of a wrong type
  pub led_fails : (subscripts : List Expr) (k t : ℕ) (s : Expr) (f : Fault) (p : ℕ × ℕ) → k < length subscripts → s ≡ get_or subscripts k s → parts_at v t ≡ Some p → subscript v (found v s) p.0 ≡ Err f
      → led v (map (found v) (drop k subscripts)) t ≡ Err f
  led_fails subscripts k t s f p h e some is =
      led_next subscripts k t s h e ∙ ap (λ q. element v (found v s) q >>= (λ n. led v (map (found v) (drop (k + 1) subscripts)) n)) some
      ∙ ap (λ (o : Outcome (Unit {0})). (o >>= (λ done. Ok p.1)) >>= (λ n. led v (map (found v) (drop (k + 1) subscripts)) n)) is

  -- a subscript that leads on
  pub led_goes : (subscripts : List Expr) (k t : ℕ) (s : Expr) (p : ℕ × ℕ) → k < length subscripts → s ≡ get_or subscripts k s → parts_at v t ≡ Some p → subscript v (found v s) p.0 ≡ Ok tt
      → led v (map (found v) (drop k subscripts)) t ≡ led v (map (found v) (drop (k + 1) subscripts)) p.1
  led_goes subscripts k t s p h e some is =
      led_next subscripts k t s h e ∙ ap (λ q. element v (found v s) q >>= (λ n. led v (map (found v) (drop (k + 1) subscripts)) n)) some
      ∙ ap (λ (o : Outcome (Unit {0})). (o >>= (λ done. Ok p.1)) >>= (λ n. led v (map (found v) (drop (k + 1) subscripts)) n)) is

  pub reached_fails : (x : Variable) (subscripts : List Expr) (f : Fault) → led v (map (found v) subscripts) x.of_type ≡ Err f → reached v x (map (found v) subscripts) ≡ Err f
  unfolding reached
  reached_fails x subscripts f e = ap (λ (o : Outcome ℕ). o >>= (λ t. Ok (record { of_type = t; itself = if nat_eq (length (map (found v) subscripts)) 0 then Some x else None }))) e

  -- the parameter of `read` at hand, and then the others
  pub read_next : (actuals : List Actual) (k : ℕ) (a : Actual) → k < length actuals → a ≡ get_or actuals k a
      → all_read v (map (given v) (drop k actuals)) ≡ (read_into v (given v a) >>= (λ done. all_read v (map (given v) (drop (k + 1) actuals))))
  read_next actuals k a h e = ap (λ xs. all_read v (map (given v) xs)) (drop_next actuals k a h e)
