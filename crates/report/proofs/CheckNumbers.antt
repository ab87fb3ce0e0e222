-- The numbers of the checks of a point: they begin where the checks of lower points end, and are as many as its judgements.
use Rattle.std.proofs.Common.{◌≡◌, ℕ, zero, suc, ◌+◌, ◌-◌, ◌<◌, ◌≤◌, Bool, cond, List, [], ◌∷◌, ◌++◌, length, length-append, refl, sym, ap, subst, ◌∙◌, nat_lt, count_by, arith}
use Rattle.std.proofs.lemmas.Bool.{le-ltb, lt-ltb}
use Rattle.std.proofs.lemmas.List.{append_assoc, length-map}
use Rattle.std.proofs.lemmas.List.Sums.{sum_by-append, sum_by-cons}
use Rattle.control_points.specs.declared.check.Check.{Check}
use Rattle.control_points.specs.declared.flow.Flow.{Flow}
use Rattle.control_points.specs.Chart.{Chart}
use Rattle.control_points.specs.Checking.{Faults}
use Rattle.control_points.specs.Flows.{chart_of}
use Rattle.control_points.specs.Judgements.{checks_from, fault_of, faults_of, first_check, point_judgements}
use Rattle.control_points.specs.Judging.{check_of, checks_at}

abbrev lower : ℕ → Check → Bool
lower q d = nat_lt d.point q

-- ---- checks of one point

count_first : (q : ℕ) (d : Check) (ds : List Check) → count_by (lower q) (d ∷ ds) ≡ cond (lower q d) 1 0 + count_by (lower q) ds
count_first q d ds = sum_by-cons (λ (x : Check). cond (lower q x) 1 0) d ds

all_lower : (p q : ℕ) (fs : Faults) → p < q → count_by (lower q) (checks_at p fs) ≡ length fs
all_lower p q [] h = refl
all_lower p q (f ∷ fs) h =
    let n : 1 + length fs ≡ suc (length fs) = omega arith in
    count_first q (check_of p f) (checks_at p fs)
    ∙ ap (λ b. cond b 1 0 + count_by (lower q) (checks_at p fs)) (lt-ltb p q h) ∙ ap (λ m. 1 + m) (all_lower p q fs h) ∙ n

none_lower : (p q : ℕ) (fs : Faults) → q ≤ p → count_by (lower q) (checks_at p fs) ≡ 0
none_lower p q [] h = refl
none_lower p q (f ∷ fs) h =
    count_first q (check_of p f) (checks_at p fs)
    ∙ ap (λ b. cond b 1 0 + count_by (lower q) (checks_at p fs)) (le-ltb p q h) ∙ ap (λ m. 0 + m) (none_lower p q fs h)

count_both : (q : ℕ) (xs ys : List Check) → count_by (lower q) (xs ++ ys) ≡ count_by (lower q) xs + count_by (lower q) ys
count_both q xs ys = sum_by-append (λ (x : Check). cond (lower q x) 1 0) xs ys

module _ (c : Chart) where
  abbrev faults_at : ℕ → Faults
  faults_at p = faults_of (point_judgements c p)

  from_both : (p m n : ℕ) → checks_from c p (m + n) ≡ checks_from c p m ++ checks_from c (p + m) n
  from_both p zero n =
      let a : 0 + n ≡ n = omega arith in
      let b : p ≡ p + 0 = omega arith in
      ap (checks_from c p) a ∙ ap (λ q. checks_from c q n) b
  from_both p (suc m) n =
      let a : suc m + n ≡ suc (m + n) = omega arith in
      let b : suc p + m ≡ p + suc m = omega arith in
      ap (checks_from c p) a
      ∙ ap (λ cs. checks_at p (faults_at p) ++ cs) (from_both (suc p) m n)
      ∙ sym (append_assoc (checks_at p (faults_at p)) (checks_from c (suc p) m) (checks_from c (suc p + m) n))
      ∙ ap (λ q. (checks_at p (faults_at p) ++ checks_from c (suc p) m) ++ checks_from c q n) b

  from_lower : (p n q : ℕ) → p + n ≤ q → count_by (lower q) (checks_from c p n) ≡ length (checks_from c p n)
  from_lower p zero q h = refl
  from_lower p (suc n) q h =
      let lt : p < q = omega arith in
      let le : suc p + n ≤ q = omega arith in
      count_both q (checks_at p (faults_at p)) (checks_from c (suc p) n)
      ∙ ap (λ k. k + count_by (lower q) (checks_from c (suc p) n)) (all_lower p q (faults_at p) lt ∙ sym (length-map (faults_at p) (check_of p)))
      ∙ ap (λ k. length (checks_at p (faults_at p)) + k) (from_lower (suc p) n q le)
      ∙ sym (length-append (checks_at p (faults_at p)) (checks_from c (suc p) n))

  from_behind : (p n q : ℕ) → q ≤ p → count_by (lower q) (checks_from c p n) ≡ 0
  from_behind p zero q h = refl
  from_behind p (suc n) q h =
      let le : q ≤ suc p = omega arith in
      count_both q (checks_at p (faults_at p)) (checks_from c (suc p) n)
      ∙ ap (λ k. k + count_by (lower q) (checks_from c (suc p) n)) (none_lower p q (faults_at p) h)
      ∙ ap (λ k. 0 + k) (from_behind (suc p) n q le)

  -- the checks of lower points are those before the point
  first_is : (n q : ℕ) → q ≤ n → first_check (checks_from c 0 n) q ≡ length (checks_from c 0 q)
  first_is n q h =
      let parts : n ≡ q + (n - q) = omega arith in
      let low : 0 + q ≤ q = omega arith in
      let high : q ≤ 0 + q = omega arith in
      let end : length (checks_from c 0 q) + 0 ≡ length (checks_from c 0 q) = omega arith in
      ap (λ k. first_check (checks_from c 0 k) q) parts
      ∙ ap (count_by (lower q)) (from_both 0 q (n - q))
      ∙ count_both q (checks_from c 0 q) (checks_from c (0 + q) (n - q))
      ∙ ap (λ k. k + count_by (lower q) (checks_from c (0 + q) (n - q))) (from_lower 0 q q low)
      ∙ ap (λ k. length (checks_from c 0 q) + k) (from_behind (0 + q) (n - q) q high)
      ∙ end

-- as many as its judgements
pub checks_of_point : (f : Flow) (p : ℕ) → f.checks ≡ checks_from (chart_of f) 0 (length f.points) → p < length f.points → first_check f.checks (suc p) ≡ first_check f.checks p + length (point_judgements (chart_of f) p)
checks_of_point f p are inside =
    let c = chart_of f in
    let n = length f.points in
    let own = checks_at p (faults_at c p) in
    let le : p ≤ n = omega arith in
    let lt : suc p ≤ n = omega arith in
    let one : suc p ≡ p + 1 = omega arith in
    let here : 0 + p ≡ p = omega arith in
    let more : length (checks_from c 0 (suc p)) ≡ length (checks_from c 0 p) + length (checks_from c (0 + p) 1) =
    ap (λ k. length (checks_from c 0 k)) one ∙ ap (λ (cs : List Check). length cs) (from_both c 0 p 1) ∙ length-append (checks_from c 0 p) (checks_from c (0 + p) 1) in
    let single : length (checks_from c p 1) ≡ length (point_judgements c p) =
    length-append own [] ∙ ap (λ k. k + 0) (length-map (faults_at c p) (check_of p) ∙ length-map (point_judgements c p) fault_of) ∙ omega arith in
    let P : List Check → Type 0 = λ cs. first_check cs (suc p) ≡ first_check cs p + length (point_judgements c p) in
    let last = ap (λ q. length (checks_from c q 1)) here in
    subst P (sym are) (omega (arith, first_is c n (suc p) lt, first_is c n p le, more, single, last))
