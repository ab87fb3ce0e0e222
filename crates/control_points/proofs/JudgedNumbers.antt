-- The numbers of the checks of a point: they begin where the checks of lower points end, and go on with its judgements.
use Rattle.std.proofs.Common.{◌≡◌, inl, inr, ℕ, zero, suc, ◌+◌, ◌-◌, ◌<◌, ◌≤◌, Bool, cond, List, [], ◌∷◌, ◌++◌, length, length-append, refl, sym, ap, subst, ◌∙◌, Some, nat_lt, count_by, arith}
use Rattle.std.proofs.lemmas.Bool.{le-ltb, lt-ltb}
use Rattle.std.proofs.lemmas.List.{append_assoc, length-map}
use Rattle.std.proofs.lemmas.List.Sums.{sum_by-append, sum_by-cons}
use Rattle.std.proofs.lemmas.Option.{none-some, slice_get_within}
use Rattle.std.specs.List.{slice_get}
use Rattle.std.specs.Option.{option_map}
use Rattle.control_points.specs.declared.check.Check.{Check}
use Rattle.control_points.specs.declared.flow.Flow.{Flow}
use Rattle.control_points.specs.Chart.{Chart}
use Rattle.control_points.specs.Checking.{Faults}
use Rattle.control_points.specs.Flows.{chart_of}
use Rattle.control_points.specs.Judgements.{IsJudged, Judgement, checks_from, fault_of, faults_of, first_check, judgement_by, point_judgements}
use Rattle.control_points.specs.Judging.{check_of, checks_at}
use Rattle.control_points.proofs.Blocks.{get_front, get_mapped, get_past}
use Rattle.control_points.proofs.JudgedFlows.{checks_are}
use Rattle.control_points.proofs.Listed.{get_either}
use Rattle.control_points.proofs.ValidBasics.{map_found}

abbrev lower : ℕ → Check → Bool
lower q d = nat_lt d.point q

-- ---- checks of one point

count_first : (q : ℕ) (d : Check) (ds : List Check) → count_by (lower q) (d ∷ ds) ≡ cond (lower q d) 1 0 + count_by (lower q) ds
count_first q d ds = sum_by-cons (λ (x : Check). cond (lower q x) 1 0) d ds

all_lower : (p q : ℕ) (fs : Faults) → p < q → count_by (lower q) (checks_at p fs) ≡ length fs
all_lower p q [] h = refl
all_lower p q (f ∷ fs) h =
    let n : 1 + length fs ≡ suc (length fs) = omega arith in
    count_first q (check_of p f) (checks_at p fs)
    ∙ ap (λ b. cond b 1 0 + count_by (lower q) (checks_at p fs)) (lt-ltb p q h) ∙ ap (λ m. 1 + m) (all_lower p q fs h) ∙ n

none_lower : (p q : ℕ) (fs : Faults) → q ≤ p → count_by (lower q) (checks_at p fs) ≡ 0
none_lower p q [] h = refl
none_lower p q (f ∷ fs) h =
    count_first q (check_of p f) (checks_at p fs)
    ∙ ap (λ b. cond b 1 0 + count_by (lower q) (checks_at p fs)) (le-ltb p q h) ∙ ap (λ m. 0 + m) (none_lower p q fs h)

count_both : (q : ℕ) (xs ys : List Check) → count_by (lower q) (xs ++ ys) ≡ count_by (lower q) xs + count_by (lower q) ys
count_both q xs ys = sum_by-append (λ (x : Check). cond (lower q x) 1 0) xs ys

module _ (c : Chart) where
  abbrev faults_at : ℕ → Faults
  faults_at p = faults_of (point_judgements c p)

  from_both : (p m n : ℕ) → checks_from c p (m + n) ≡ checks_from c p m ++ checks_from c (p + m) n
  from_both p zero n =
      let a : 0 + n ≡ n = omega arith in
      let b : p ≡ p + 0 = omega arith in
      ap (checks_from c p) a ∙ ap (λ q. checks_from c q n) b
  from_both p (suc m) n =
      let a : suc m + n ≡ suc (m + n) = omega arith in
      let b : suc p + m ≡ p + suc m = omega arith in
      ap (checks_from c p) a
      ∙ ap (λ cs. checks_at p (faults_at p) ++ cs) (from_both (suc p) m n)
      ∙ sym (append_assoc (checks_at p (faults_at p)) (checks_from c (suc p) m) (checks_from c (suc p + m) n))
      ∙ ap (λ q. (checks_at p (faults_at p) ++ checks_from c (suc p) m) ++ checks_from c q n) b

  from_lower : (p n q : ℕ) → p + n ≤ q → count_by (lower q) (checks_from c p n) ≡ length (checks_from c p n)
  from_lower p zero q h = refl
  from_lower p (suc n) q h =
      let lt : p < q = omega arith in
      let le : suc p + n ≤ q = omega arith in
      count_both q (checks_at p (faults_at p)) (checks_from c (suc p) n)
      ∙ ap (λ k. k + count_by (lower q) (checks_from c (suc p) n)) (all_lower p q (faults_at p) lt ∙ sym (length-map (faults_at p) (check_of p)))
      ∙ ap (λ k. length (checks_at p (faults_at p)) + k) (from_lower (suc p) n q le)
      ∙ sym (length-append (checks_at p (faults_at p)) (checks_from c (suc p) n))

  from_behind : (p n q : ℕ) → q ≤ p → count_by (lower q) (checks_from c p n) ≡ 0
  from_behind p zero q h = refl
  from_behind p (suc n) q h =
      let le : q ≤ suc p = omega arith in
      count_both q (checks_at p (faults_at p)) (checks_from c (suc p) n)
      ∙ ap (λ k. k + count_by (lower q) (checks_from c (suc p) n)) (none_lower p q (faults_at p) h)
      ∙ ap (λ k. 0 + k) (from_behind (suc p) n q le)

  -- the checks of lower points are those before the point
  first_is : (n q : ℕ) → q ≤ n → first_check (checks_from c 0 n) q ≡ length (checks_from c 0 q)
  first_is n q h =
      let parts : n ≡ q + (n - q) = omega arith in
      let low : 0 + q ≤ q = omega arith in
      let high : q ≤ 0 + q = omega arith in
      let end : length (checks_from c 0 q) + 0 ≡ length (checks_from c 0 q) = omega arith in
      ap (λ k. first_check (checks_from c 0 k) q) parts
      ∙ ap (count_by (lower q)) (from_both 0 q (n - q))
      ∙ count_both q (checks_from c 0 q) (checks_from c (0 + q) (n - q))
      ∙ ap (λ k. k + count_by (lower q) (checks_from c (0 + q) (n - q))) (from_lower 0 q q low)
      ∙ ap (λ k. length (checks_from c 0 q) + k) (from_behind (0 + q) (n - q) q high)
      ∙ end

  -- a judgement of a point has the check at its rank
  check_there : (n p i : ℕ) (j : Judgement) → p < n → slice_get (point_judgements c p) i ≡ Some j → slice_get (checks_from c 0 n) (first_check (checks_from c 0 n) p + i) ≡ Some (check_of p (fault_of j))
  check_there n p i j h known =
      let front = checks_from c 0 p in
      let own = checks_at p (faults_at p) in
      let rest = checks_from c (suc p) (n - suc p) in
      let parts : n ≡ p + suc (n - suc p) = omega arith in
      let here : 0 + p ≡ p = omega arith in
      let le : p ≤ n = omega arith in
      let whole : checks_from c 0 n ≡ front ++ (own ++ rest) = ap (checks_from c 0) parts ∙ from_both 0 p (suc (n - suc p)) ∙ ap (λ q. front ++ checks_from c q (suc (n - suc p))) here in
      let there : slice_get own i ≡ Some (check_of p (fault_of j)) = get_mapped (check_of p) (faults_at p) i ∙ ap (option_map (check_of p)) (get_mapped fault_of (point_judgements c p) i ∙ ap (option_map fault_of) known) in
      ap (λ k. slice_get (checks_from c 0 n) (k + i)) (first_is n p le)
      ∙ ap (λ cs. slice_get cs (length front + i)) whole
      ∙ get_past front (own ++ rest) i
      ∙ get_front own rest i (slice_get_within own i (check_of p (fault_of j)) there)
      ∙ there

  -- ---- a check by its number

  -- the point of a check, and its rank there
  record Ranked (p n k : ℕ) (d : Check) : Type 0 where
    point : ℕ
    rank : ℕ
    judgement : Judgement
    before : ℕ
    low : point ≡ p + before
    high : before < n
    number : k ≡ length (checks_from c p before) + rank
    known : slice_get (point_judgements c point) rank ≡ Some judgement
    same : check_of point (fault_of judgement) ≡ d

  ranked : (p n k : ℕ) (d : Check) → slice_get (checks_from c p n) k ≡ Some d → Ranked p n k d
  ranked p zero k d h = absurd (no_check k h)
    where
      no_check : (k : ℕ) → slice_get [] k ≡ Some d → ⊥
      no_check zero h = none-some d h
      no_check (suc k) h = none-some d h
  ranked p (suc n) k d h =
      elim (get_either (checks_at p (faults_at p)) (checks_from c (suc p) n) k d h) [
        | inl x ↦
            let f = map_found (check_of p) (slice_get (faults_at p) k) d (sym (get_mapped (check_of p) (faults_at p) k) ∙ x) in
            let j = map_found fault_of (slice_get (point_judgements c p) k) (f.0) (sym (get_mapped fault_of (point_judgements c p) k) ∙ f.1) in
            record { point = p; rank = k; judgement = j.0; before = 0; low = omega arith; high = omega arith; number = omega arith; known = j.1; same = ap (check_of p) j.2 ∙ f.2 }
        | inr x ↦
            let r = ranked (suc p) n (k - length (checks_at p (faults_at p))) d x.1 in
            let long = length-append (checks_at p (faults_at p)) (checks_from c (suc p) r.before) in
            record { point = r.point; rank = r.rank; judgement = r.judgement; before = suc r.before; low = omega (arith, r.low); high = omega (arith, r.high); number = omega (arith, r.number, x.0, long); known = r.known; same = r.same }
      ]

  judged_there : (n k : ℕ) (d : Check) → slice_get (checks_from c 0 n) k ≡ Some d → IsJudged c (checks_from c 0 n) k d
  judged_there n k d h =
      let r = ranked 0 n k d h in
      let checks = checks_from c 0 n in
      let point : d.point ≡ r.point = ap (λ (x : Check). x.point) (sym r.same) in
      let before : r.before ≡ r.point = omega (arith, r.low) in
      let le : r.point ≤ n = omega (arith, before, r.high) in
      let first : first_check checks d.point ≡ length (checks_from c 0 r.before) = ap (first_check checks) point ∙ first_is n r.point le ∙ ap (λ q. length (checks_from c 0 q)) (sym before) in
      let rank : k - first_check checks d.point ≡ r.rank = omega (arith, first, r.number) in
      record {
        judgement = r.judgement;
        known =
            ap (judgement_by c checks k) h
            ∙ ap (slice_get (point_judgements c d.point)) rank
            ∙ ap (λ q. slice_get (point_judgements c q) r.rank) point
            ∙ r.known;
        same = ap (λ q. check_of q (fault_of r.judgement)) point ∙ r.same;
        behind = omega (arith, first, r.number);
      }

-- ---- flows

pub check_of_judgement : (f : Flow) (p i : ℕ) (j : Judgement) → p < length f.points → slice_get (point_judgements (chart_of f) p) i ≡ Some j → slice_get f.checks (first_check f.checks p + i) ≡ Some (check_of p (fault_of j))
check_of_judgement f p i j h known =
    subst (λ cs. slice_get cs (first_check cs p + i) ≡ Some (check_of p (fault_of j))) (sym (checks_are f)) (check_there (chart_of f) (length f.points) p i j h known)

pub judged_check : (f : Flow) (k : ℕ) (d : Check) → slice_get f.checks k ≡ Some d → IsJudged (chart_of f) f.checks k d
judged_check f k d h =
    subst (λ cs. IsJudged (chart_of f) cs k d) (sym (checks_are f)) (judged_there (chart_of f) (length f.points) k d (ap (λ cs. slice_get cs k) (sym (checks_are f)) ∙ h))
