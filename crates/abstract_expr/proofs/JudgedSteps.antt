-- What judging does to a tally, one part after the other.
use Rattle.std.proofs.Common.{◌≡◌, ℕ, Bool, true, false, List, [], ◌∷◌, ◌++◌, map, refl, sym, ap, ◌∙◌, ℤ, drop, get_or, ◌+◌, ◌<◌, length, zero, suc, min, ◌≤◌, arith}
use Rattle.std.proofs.lemmas.Bool.{and_parts, false≢true, true≢false}
use Rattle.std.proofs.lemmas.List.{at_drop_more, map-append}
use Rattle.std.proofs.lemmas.List.Sums.{fold-append}
use Rattle.px_base.specs.declared.kind.Kind.{Kind}
use Rattle.px_base.specs.declared.kind.Kind.TheVariants.{IndexOutOfRange, ValueOutOfRange}
use Rattle.px_base.specs.declared.operator.BinOp.{BinOp}
use Rattle.px_base.specs.declared.operator.BinOp.TheVariants as binary
use Rattle.px_base.specs.declared.operator.UnOp.{UnOp}
use Rattle.px_base.specs.declared.operator.UnOp.TheVariants as unary
use Rattle.pas_program.specs.declared.expr.Actual.{Actual}
use Rattle.pas_program.specs.declared.expr.Actual.TheViews.{out-Actual}
use Rattle.pas_program.specs.declared.expr.Expr.{Expr}
use Rattle.pas_program.specs.Each.{all_true}
use Rattle.pas_program.specs.Tables.{Tables}
use Rattle.interval.specs.declared.itv.Itv.{Itv}
use Rattle.interval.specs.Forward.{binary_answer, unary_answer}
use Rattle.environment.specs.Environments.{Environment}
use Rattle.control_points.specs.Checking.{is_narrow}
use Rattle.control_points.specs.Evaluation.{element_type, index_type}
use Rattle.control_points.specs.Judgements.{Judgement, Judgements, Range, Subject, actual_judgements, binary_judgements, constants_at, expr_judgements, first_bound, in_type, last_bound, one_if, passing_judgements, subscripts_judgements, typed_value, unary_judgements}
use Rattle.abstract_expr.specs.declared.judge.Judge.{Judge}
use Rattle.abstract_expr.specs.Expressions.{Scope, value_in}
use Rattle.abstract_expr.specs.Judging.{after_judging, after_parts, after_typed, beside, is_checked, is_checked_alone, known}
use Rattle.abstract_expr.specs.Scopes.{scope_of}
use Rattle.abstract_expr.specs.Tallies.{Tallied, after_verdict, after_verdict_if, after_verdicts}
use Rattle.abstract_expr.specs.Verdicts.{first_holds, last_holds, subject_holds}
use Rattle.abstract_expr.proofs.Subscripts.{rest_at}

-- ---- lists

pub all_true_at : {A : Type 0} (f : A → Bool) (xs : List A) (i : ℕ) (x : A) → i < length xs → x ≡ get_or xs i x → all_true (map f xs) ≡ true → f x ≡ true
all_true_at f [] i x h e a = absurd (omega arith)
all_true_at f (y ∷ xs) zero x h e a = ap f e ∙ (and_parts (f y) _ a).0
all_true_at f (y ∷ xs) (suc i) x h e a = all_true_at f xs i x (omega arith) e (and_parts (f y) _ a).1

-- ---- in an environment

module _ (s : Scope) (constants : List ℤ) (env : Environment) where
  pub both_judged : (js ks : Judgements) (t : Tallied) → after_judging s constants env (js ++ ks) t ≡ after_judging s constants env ks (after_judging s constants env js t)
  both_judged js ks t =
      let f : Judgement → Bool = λ j. subject_holds s constants env j.subject in
      ap (λ vs. after_verdicts vs t) (map-append f js ks) ∙ fold-append after_verdict t (map f js) (map f ks)

  pub then_judged : (js ks : Judgements) (old mid new : Tallied) → mid ≡ after_judging s constants env js old → new ≡ after_judging s constants env ks mid → new ≡ after_judging s constants env (js ++ ks) old
  then_judged js ks old mid new first second = second ∙ ap (after_judging s constants env ks) first ∙ sym (both_judged js ks old)

  -- the bounds of a `for` whose control variable has this type: where some numbers of the host are none of the type, and where none are
  pub bounds_judged : (narrow : Bool) (p q : ℕ) (r : Range) (t : Tallied) → narrow ≡ true
      → after_verdict (after_verdict t (first_holds s env r)) (last_holds s env r) ≡ after_judging s constants env (one_if narrow ValueOutOfRange p (first_bound r) ++ one_if narrow ValueOutOfRange q (last_bound r)) t
  bounds_judged true p q r t h = refl
  bounds_judged false p q r t h = absurd (false≢true h)

  pub bounds_free : (narrow : Bool) (p q : ℕ) (r : Range) (t : Tallied) → narrow ≡ false
      → t ≡ after_judging s constants env (one_if narrow ValueOutOfRange p (first_bound r) ++ one_if narrow ValueOutOfRange q (last_bound r)) t
  bounds_free true p q r t h = absurd (true≢false h)
  bounds_free false p q r t h = refl

  pub if_judged : (b : Bool) (kind : Kind) (at : ℕ) (x : Subject) (t : Tallied) → after_verdict_if b t (subject_holds s constants env x) ≡ after_judging s constants env (one_if b kind at x) t
  if_judged true kind at x t = refl
  if_judged false kind at x t = refl

  pub unary_judged : (op : UnOp) (e : Expr) (at : ℕ) (t : Tallied) → after_verdict_if (is_checked_alone op) t (unary_answer op (value_in s.bind env e)).holds ≡ after_judging s constants env (unary_judgements op e at) t
  unary_judged unary.Neg e at t = refl
  unary_judged unary.Not e at t = refl
  unary_judged unary.Abs e at t = refl
  unary_judged unary.Sqr e at t = refl
  unary_judged unary.Odd e at t = refl
  unary_judged unary.SuccInt e at t = refl
  unary_judged unary.PredInt e at t = refl
  unary_judged unary.SuccBool e at t = refl
  unary_judged unary.PredBool e at t = refl
  unary_judged unary.OrdOf e at t = refl

  pub binary_judged : (op : BinOp) (l r : Expr) (at : ℕ) (t : Tallied) → after_verdict_if (is_checked op) t (binary_answer op (value_in s.bind env l) (value_in s.bind env r)).holds ≡ after_judging s constants env (binary_judgements op l r at) t
  binary_judged binary.Add l r at t = refl
  binary_judged binary.Sub l r at t = refl
  binary_judged binary.Mul l r at t = refl
  binary_judged binary.Div l r at t = refl
  binary_judged binary.Mod l r at t = refl
  binary_judged binary.And l r at t = refl
  binary_judged binary.Or l r at t = refl
  binary_judged binary.Eq l r at t = refl
  binary_judged binary.Ne l r at t = refl
  binary_judged binary.Lt l r at t = refl
  binary_judged binary.Le l r at t = refl
  binary_judged binary.Gt l r at t = refl
  binary_judged binary.Ge l r at t = refl

-- ---- of a judge

module _ (j : Judge) where
  pub then_parts : (js ks : Judgements) (old mid new : Tallied) → mid ≡ after_parts j js old → new ≡ after_parts j ks mid → new ≡ after_parts j (js ++ ks) old
  then_parts = then_judged (scope_of j.scope) (constants_at j.scope.flow.now.edges j.point) j.env.now.env

  -- a value for a variable of type n
  pub typed_judged : (n : ℕ) (kind : Kind) (e : Expr) (x : Itv) (t : Tallied) → x ≡ value_in (scope_of j.scope).bind j.env.now.env e → after_typed (known j) n x t ≡ after_parts j (in_type (known j) n kind e) t
  typed_judged n kind e x t is =
      ap (λ y. after_typed (known j) n y t) is
      ∙ if_judged (scope_of j.scope) (constants_at j.scope.flow.now.edges j.point) j.env.now.env (is_narrow ((known j).type_at n)) kind _ (typed_value n e) t

  -- one subscript of a variable of type n
  pub subscript_judged : (n index element i : ℕ) (e : Expr) (xs : List Expr) (x : Itv) (old mid new total : Tallied) → i < length xs → e ≡ get_or xs i e
      → index ≡ index_type ((known j).type_at n) → element ≡ element_type ((known j).type_at n) → x ≡ value_in (scope_of j.scope).bind j.env.now.env e
      → mid ≡ after_parts j (expr_judgements (known j) e) old → new ≡ after_typed (known j) index x mid
      → after_parts j (subscripts_judgements (known j) n (map (beside (known j)) (drop i xs))) old ≡ total
      → after_parts j (subscripts_judgements (known j) element (map (beside (known j)) (drop (i + 1) xs))) new ≡ total
  subscript_judged n index element i e xs x old mid new total h is of_index of_element value first second whole =
      let k = known j in
      let own = expr_judgements k e ++ in_type k (index_type (k.type_at n)) IndexOutOfRange e in
      let rest = subscripts_judgements k (element_type (k.type_at n)) (map (beside k) (drop (i + 1) xs)) in
      let typed : new ≡ after_parts j (in_type k (index_type (k.type_at n)) IndexOutOfRange e) mid =
      second ∙ ap (λ m. after_typed k m x mid) of_index ∙ typed_judged (index_type (k.type_at n)) IndexOutOfRange e x mid value in
      ap (λ m. after_parts j (subscripts_judgements k m (map (beside k) (drop (i + 1) xs))) new) of_element
      ∙ ap (after_parts j rest) (then_parts (expr_judgements k e) (in_type k (index_type (k.type_at n)) IndexOutOfRange e) old mid new first typed)
      ∙ sym (both_judged (scope_of j.scope) (constants_at j.scope.flow.now.edges j.point) j.env.now.env own rest old)
      ∙ ap (λ ys. after_parts j (subscripts_judgements k n (map (beside k) ys)) old) (sym (rest_at xs i e h is))
      ∙ whole

  -- one of several parts
  pub step_parts : (js rest whole : Judgements) (old new total : Tallied) → whole ≡ js ++ rest → new ≡ after_parts j js old → after_parts j whole old ≡ total → after_parts j rest new ≡ total
  step_parts js rest whole old new total is first all =
      ap (after_parts j rest) first
      ∙ sym (both_judged (scope_of j.scope) (constants_at j.scope.flow.now.edges j.point) j.env.now.env js rest old)
      ∙ ap (λ ks. after_parts j ks old) (sym is)
      ∙ all

-- ---- actuals

module _ (t : Tables) where
  passing_none : (xs : List Actual) → passing_judgements t xs [] ≡ []
  passing_none [] = refl
  passing_none (x ∷ xs) = refl

  -- behind the actuals or the formals
  pub passing_done : (xs : List Actual) (fs : List ℕ) (k : ℕ) → min (length xs) (length fs) ≤ k → passing_judgements t (drop k xs) (drop k fs) ≡ []
  passing_done [] fs zero h = refl
  passing_done [] fs (suc k) h = refl
  passing_done (x ∷ xs) [] zero h = refl
  passing_done (x ∷ xs) [] (suc k) h = passing_none (drop k xs)
  passing_done (x ∷ xs) (f ∷ fs) zero h = absurd (omega arith)
  passing_done (x ∷ xs) (f ∷ fs) (suc k) h = passing_done xs fs k (omega arith)

  -- the actual at k is for the formal at k
  pub passing_more : (xs : List Actual) (fs : List ℕ) (k : ℕ) (a : Actual) → k < length xs → k < length fs → a ≡ get_or xs k a
      → passing_judgements t (drop k xs) (drop k fs) ≡ actual_judgements t (get_or fs k 0) (out-Actual a) ++ passing_judgements t (drop (k + 1) xs) (drop (k + 1) fs)
  passing_more xs fs k a h g is =
      ap (λ ys. passing_judgements t ys (drop k fs)) (rest_at xs k a h is)
      ∙ at_drop_more (passing_judgements t (a ∷ drop (k + 1) xs)) fs k 0 g
