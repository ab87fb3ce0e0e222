-- Pieces of a program in which the constants of the arms that leave one point differ.
use Rattle.std.proofs.Common.{◌≡◌, inl, inr, ℕ, suc, ◌+◌, ◌<◌, ◌≤◌, Bool, true, false, cond, List, [], ◌∷◌, ◌++◌, ℤ, length, append_assoc, refl, sym, ap, ◌∙◌, Some, nat_eq, eq-eqb, eqb-true, arith}
use Rattle.std.proofs.lemmas.Bool.{cases_Bool, cases_lt, cond-false, cond-true, true≢false}
use Rattle.std.proofs.lemmas.List.{append-nil}
use Rattle.std.specs.List.{slice_get}
use Rattle.std.specs.Option.{option_map}
use Rattle.pas_program.specs.declared.expr.Expr.{Expr}
use Rattle.pas_program.specs.Labels.{all_differ}
use Rattle.control_points.specs.declared.edge.Act.{Act}
use Rattle.control_points.specs.declared.edge.Act.TheVariants as act
use Rattle.control_points.specs.declared.edge.Edge.{Edge}
use Rattle.control_points.specs.Chart.{numbers_from}
use Rattle.control_points.specs.Checking.{Faults}
use Rattle.control_points.specs.Fits.{act_at}
use Rattle.control_points.specs.Judgements.{all_constants, constants_at, constants_of}
use Rattle.control_points.specs.Listing as listing
use Rattle.control_points.specs.Pieces.{Piece, both, judged, nothing, way}

-- ---- lists of edges

-- the constants of an edge, where it leaves the point q
abbrev own_constants : ℕ → Edge → List ℤ
own_constants q e = cond (nat_eq e.from q) (constants_of (Some e.act)) []

-- those of all edges that leave it
abbrev pub constants_in : ℕ → List Edge → List ℤ
constants_in q [] = []
constants_in q (e ∷ es) = own_constants q e ++ constants_in q es

constants_both : (q : ℕ) (xs ys : List Edge) → constants_in q (xs ++ ys) ≡ constants_in q xs ++ constants_in q ys
constants_both q [] ys = refl
constants_both q (x ∷ xs) ys = ap (λ zs. own_constants q x ++ zs) (constants_both q xs ys) ∙ sym (append_assoc (own_constants q x) (constants_in q xs) (constants_in q ys))

none_front : (q : ℕ) (xs ys : List Edge) → constants_in q xs ≡ [] → constants_in q (xs ++ ys) ≡ constants_in q ys
none_front q xs ys h = constants_both q xs ys ∙ ap (λ zs. zs ++ constants_in q ys) h

none_past : (q : ℕ) (xs ys : List Edge) → constants_in q ys ≡ [] → constants_in q (xs ++ ys) ≡ constants_in q xs
none_past q xs ys h = constants_both q xs ys ∙ ap (λ zs. constants_in q xs ++ zs) h ∙ append-nil (constants_in q xs)

where_none : (b : Bool) (zs : List ℤ) → zs ≡ [] → cond b zs [] ≡ []
where_none true zs h = h
where_none false zs h = refl

pub plain_edge : (q : ℕ) (e : Edge) (es : List Edge) → constants_of (Some e.act) ≡ [] → constants_in q es ≡ [] → constants_in q (e ∷ es) ≡ []
plain_edge q e es none rest = ap (λ zs. zs ++ constants_in q es) (where_none (nat_eq e.from q) (constants_of (Some e.act)) none) ∙ rest

-- the edges that leave a point, by their numbers
by_numbers : (p : ℕ) (edges : List Edge) (n : ℕ) (xs : List Edge) → ((k : ℕ) → slice_get edges (n + k) ≡ slice_get xs k)
    → all_constants edges (numbers_from n (λ (e : Edge). nat_eq e.from p) xs) ≡ constants_in p xs
by_numbers p edges n [] h = refl
by_numbers p edges n (x ∷ xs) h =
    let rest = numbers_from (suc n) (λ (e : Edge). nat_eq e.from p) xs in
    let behind : all_constants edges rest ≡ constants_in p xs =
    by_numbers p edges (suc n) xs (λ k. let more : suc n + k ≡ n + suc k = omega arith in ap (slice_get edges) more ∙ h (suc k)) in
    let here : n ≡ n + 0 = omega arith in
    let found : act_at edges n ≡ Some x.act = ap (option_map (λ (e : Edge). e.act)) (ap (slice_get edges) here ∙ h 0) in
    elim (cases_Bool (nat_eq x.from p)) [
      | inl e ↦
          ap (all_constants edges) (cond-true (nat_eq x.from p) (n ∷ rest) rest e)
          ∙ ap (λ o. constants_of o ++ all_constants edges rest) found
          ∙ ap (λ zs. constants_of (Some x.act) ++ zs) behind
          ∙ ap (λ zs. zs ++ constants_in p xs) (sym (cond-true (nat_eq x.from p) (constants_of (Some x.act)) [] e))
      | inr e ↦
          ap (all_constants edges) (cond-false (nat_eq x.from p) (n ∷ rest) rest e)
          ∙ behind
          ∙ ap (λ zs. zs ++ constants_in p xs) (sym (cond-false (nat_eq x.from p) (constants_of (Some x.act)) [] e))
    ]

pub constants_by_edges : (edges : List Edge) (p : ℕ) → constants_at edges p ≡ constants_in p edges
constants_by_edges edges p = by_numbers p edges 0 edges (λ k. let same : 0 + k ≡ k = omega arith in ap (slice_get edges) same)

-- ---- pieces without arms, or with those of a `case` without arms

pub record HasNoConstants (p : Piece) : Type 0 where
  pub none : (n q : ℕ) → constants_in q (p n).edges ≡ []

pub plain_nothing : HasNoConstants nothing
plain_nothing = record { none = λ n q. refl }

pub plain_judged : (point : ℕ) (faults : Faults) → HasNoConstants (judged point faults)
plain_judged point faults = record { none = λ n q. refl }

pub plain_way : (source target : ℕ) (a : Act) → constants_of (Some a) ≡ [] → HasNoConstants (way source a target)
plain_way source target a h = record { none = λ n q. plain_edge q (listing.edge source a target) [] h refl }

pub plain_both : (p q : Piece) → HasNoConstants p → HasNoConstants q → HasNoConstants (both p q)
plain_both p q f g = record { none = λ n k. let m = n + length (p n).edges in none_front k (p n).edges (q m).edges (f.none n k) ∙ g.none m k }

-- ---- pieces whose arms leave points from low on and before high

pub record Differ (p : Piece) (low high : ℕ) : Type 0 where
  pub order : low ≤ high
  pub apart : (n q : ℕ) → all_differ (constants_in q (p n).edges) ≡ true
  pub below : (n q : ℕ) → q < low → constants_in q (p n).edges ≡ []
  pub above : (n q : ℕ) → high ≤ q → constants_in q (p n).edges ≡ []

pub differ_plain : (p : Piece) (low high : ℕ) → low ≤ high → HasNoConstants p → Differ p low high
differ_plain p low high h f = record { order = h; apart = λ n q. ap all_differ (f.none n q); below = λ n q g. f.none n q; above = λ n q g. f.none n q }

pub differ_both : (p q : Piece) (low mid high : ℕ) → Differ p low mid → Differ q mid high → Differ (both p q) low high
differ_both p q low mid high f g = record {
  order = omega (arith, f.order, g.order);
  apart = λ n k.
      let m = n + length (p n).edges in
      elim (cases_lt k mid) [
        | inl before ↦ ap all_differ (none_past k (p n).edges (q m).edges (g.below m k before)) ∙ f.apart n k
        | inr behind ↦ ap all_differ (none_front k (p n).edges (q m).edges (f.above n k (omega (arith, behind)))) ∙ g.apart m k
      ];
  below = λ n k h. let m = n + length (p n).edges in none_front k (p n).edges (q m).edges (f.below n k h) ∙ g.below m k (omega (arith, h, f.order));
  above = λ n k h. let m = n + length (p n).edges in none_front k (p n).edges (q m).edges (f.above n k (omega (arith, h, g.order))) ∙ g.above m k h;
}

pub differ_within : (p : Piece) (low high first last : ℕ) → Differ p low high → first ≤ low → high ≤ last → Differ p first last
differ_within p low high first last f a b = record {
  order = omega (arith, a, b, f.order);
  apart = f.apart;
  below = λ n q h. f.below n q (omega (arith, a, h));
  above = λ n q h. f.above n q (omega (arith, b, h));
}

-- behind what has no arms
pub differ_after : (p q : Piece) (low high : ℕ) → HasNoConstants p → Differ q low high → Differ (both p q) low high
differ_after p q low high f g = record {
  order = g.order;
  apart = λ n k. let m = n + length (p n).edges in ap all_differ (none_front k (p n).edges (q m).edges (f.none n k)) ∙ g.apart m k;
  below = λ n k h. let m = n + length (p n).edges in none_front k (p n).edges (q m).edges (f.none n k) ∙ g.below m k h;
  above = λ n k h. let m = n + length (p n).edges in none_front k (p n).edges (q m).edges (f.none n k) ∙ g.above m k h;
}

-- ---- the arms of one `case`

-- those at its point have the constants zs
pub record ArmsDiffer (p : Piece) (source low high : ℕ) (zs : List ℤ) : Type 0 where
  pub order : low ≤ high
  pub there : (n : ℕ) → constants_in source (p n).edges ≡ zs
  pub apart : (n q : ℕ) → low ≤ q → all_differ (constants_in q (p n).edges) ≡ true
  pub below : (n q : ℕ) → q < low → (q ≡ source → ⊥) → constants_in q (p n).edges ≡ []
  pub above : (n q : ℕ) → high ≤ q → constants_in q (p n).edges ≡ []

pub arms_nothing : (source low high : ℕ) → low ≤ high → ArmsDiffer nothing source low high []
arms_nothing source low high h = record { order = h; there = λ n. refl; apart = λ n q g. refl; below = λ n q g ne. refl; above = λ n q g. refl }

same_number : (a b : ℕ) → nat_eq a b ≡ false → a ≡ b → ⊥
same_number a b h e = true≢false (sym (eq-eqb a b e) ∙ h)

other_number : (a b : ℕ) → (a ≡ b → ⊥) → nat_eq a b ≡ false
other_number a b h = elim (cases_Bool (nat_eq a b)) [ inl e ↦ absurd (h (eqb-true a b e)) | inr e ↦ e ]

-- one arm more in front
module _ (source low mid high target : ℕ) (selector : Expr) (constants zs : List ℤ) (p q : Piece) (first : source < low) (f : Differ p low mid) (g : ArmsDiffer q source mid high zs) where
  abbrev arm : Edge
  arm = listing.edge source (act.Arm selector constants) target

  -- at another point
  away : (k : ℕ) (es : List Edge) → (k ≡ source → ⊥) → constants_in k (arm ∷ es) ≡ constants_in k es
  away k es h = ap (λ ys. ys ++ constants_in k es) (cond-false (nat_eq source k) constants [] (other_number source k (λ e. h (sym e))))

  arm_at_its_point : (es : List Edge) → constants_in source (arm ∷ es) ≡ constants ++ constants_in source es
  arm_at_its_point es = ap (λ ys. ys ++ constants_in source es) (cond-true (nat_eq source source) constants [] (eq-eqb source source refl))

  pub arms_more : ArmsDiffer (both (way source (act.Arm selector constants) target) (both p q)) source low high (constants ++ zs)
  arms_more = record {
    order = omega (arith, f.order, g.order);
    there = λ n.
        let m = n + 1 in
        let k = m + length (p m).edges in
        arm_at_its_point ((p m).edges ++ (q k).edges) ∙ ap (λ ys. constants ++ ys) (none_front source (p m).edges (q k).edges (f.below m source first) ∙ g.there k);
    apart = λ n j h.
        let m = n + 1 in
        let k = m + length (p m).edges in
        let other : j ≡ source → ⊥ = λ e. omega (arith, e, h, first) in
        ap all_differ (away j ((p m).edges ++ (q k).edges) other)
        ∙ elim (cases_lt j mid) [
          | inl before ↦ ap all_differ (none_past j (p m).edges (q k).edges (g.below k j before other)) ∙ f.apart m j
          | inr behind ↦ ap all_differ (none_front j (p m).edges (q k).edges (f.above m j (omega (arith, behind)))) ∙ g.apart k j (omega (arith, behind))
        ];
    below = λ n j h other.
        let m = n + 1 in
        let k = m + length (p m).edges in
        away j ((p m).edges ++ (q k).edges) other ∙ none_front j (p m).edges (q k).edges (f.below m j h) ∙ g.below k j (omega (arith, h, f.order)) other;
    above = λ n j h.
        let m = n + 1 in
        let k = m + length (p m).edges in
        away j ((p m).edges ++ (q k).edges) (λ e. omega (arith, e, h, first, f.order, g.order))
        ∙ none_front j (p m).edges (q k).edges (f.above m j (omega (arith, h, g.order))) ∙ g.above k j h;
  }

-- with the point of the selector
pub differ_arms : (p : Piece) (source high : ℕ) (zs : List ℤ) → all_differ zs ≡ true → ArmsDiffer p source (source + 1) high zs → Differ p source high
differ_arms p source high zs h g = record {
  order = omega (arith, g.order);
  apart = λ n q.
      elim (cases_Bool (nat_eq q source)) [
        | inl e ↦ ap (λ k. all_differ (constants_in k (p n).edges)) (eqb-true q source e) ∙ ap all_differ (g.there n) ∙ h
        | inr e ↦ elim (cases_lt q (source + 1)) [
          | inl before ↦ ap all_differ (g.below n q before (same_number q source e))
          | inr behind ↦ g.apart n q (omega (arith, behind))
        ]
      ];
  below = λ n q i. g.below n q (omega (arith, i)) (λ e. omega (arith, i, e));
  above = g.above;
}
