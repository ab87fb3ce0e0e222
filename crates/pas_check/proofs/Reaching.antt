-- The places that are kept of labels say the same as the paths, where places rise.
use Rattle.std.proofs.Common.{◌≡◌, ℕ, zero, suc, ◌<◌, ◌≤◌, [], ◌∷◌, ◌++◌, Option, Some, None, refl, sym, ap, subst, ◌∙◌, arith}
use Rattle.std.specs.Prelude.{max}
use Rattle.std.proofs.lemmas.List.{append-nil}
use Rattle.pas_tree.specs.declared.block.Label.{Label}
use Rattle.pas_check.specs.Labels.{IsInside, Path}
use Rattle.pas_check.specs.Placing.{LabelRises, Node, Nothing, Outline, Rises, Then, first_place, last_place, statement_at}

-- ---- bounds

pub some_is : {A : Type 0} (a b : A) → Some a ≡ Some b → a ≡ b
some_is a b e = cc

label_before : (least : ℕ) (l : Option Label) (at : ℕ) → LabelRises least l at → least ≤ at
label_before least None at h = h
label_before least (Some l) at h = omega (arith, h.0, h.1)

grows : (o : Outline) (least end : ℕ) → Rises least o end → least ≤ end
grows Nothing least end r = r
grows (Then s inner rest) least end r = omega (arith, label_before least s.label s.at r.1, grows inner (suc s.at) r.0 r.2, grows rest r.0 end r.3)

-- a statement lies between two places, with those in it
pub record Lies (least : ℕ) (n : Node) (end : ℕ) : Type 0 where
  pub until : ℕ
  pub starts : least ≤ n.shape.at
  pub inner : Rises (suc n.shape.at) n.inner until
  pub stops : until ≤ end

pub lies : (o : Outline) (q : Path) (least end : ℕ) (n : Node) → Rises least o end → statement_at o q ≡ Some n → Lies least n end
lies o [] least end n r e = absurd (cc)
lies Nothing (k ∷ p) least end n r e = absurd (cc)
lies (Then s inner rest) (zero ∷ []) least end n r e =
    subst (λ (m : Node). Lies least m end) (some_is (record { shape = s; inner = inner }) n e) (record { until = r.0; starts = label_before least s.label s.at r.1; inner = r.2; stops = grows rest r.0 end r.3 })
lies (Then s inner rest) (zero ∷ (j ∷ p)) least end n r e =
    let w = lies inner (j ∷ p) (suc s.at) r.0 n r.2 e in
    record { until = w.until; starts = omega (arith, w.starts, label_before least s.label s.at r.1); inner = w.inner; stops = omega (arith, w.stops, grows rest r.0 end r.3) }
lies (Then s inner rest) (suc k ∷ p) least end n r e =
    let w = lies rest (k ∷ p) r.0 end n r.3 e in
    record { until = w.until; starts = omega (arith, w.starts, label_before least s.label s.at r.1, grows inner (suc s.at) r.0 r.2); inner = w.inner; stops = w.stops }

last_below : (o : Outline) (least end : ℕ) → 0 < least → Rises least o end → last_place o < end
last_below Nothing least end some r = omega (arith, some, r)
last_below (Then s inner rest) least end some r =
    let a = grows inner (suc s.at) r.0 r.2 in
    let b = grows rest r.0 end r.3 in
    let c = last_below inner (suc s.at) r.0 (omega arith) r.2 in
    let d = last_below rest r.0 end (omega (arith, a)) r.3 in
    omega (arith, a, b, c, d)

-- the last place of a statement and of those in it
abbrev pub node_end : Node → ℕ
node_end n = max (last_place n.inner) n.shape.at

ends_below : (least end : ℕ) (n : Node) → Lies least n end → node_end n < end
ends_below least end n w = omega (arith, w.stops, grows n.inner (suc n.shape.at) w.until w.inner, last_below n.inner (suc n.shape.at) w.until (omega arith) w.inner)

pub last_covers : (o : Outline) (q : Path) (n : Node) → statement_at o q ≡ Some n → node_end n ≤ last_place o
last_covers o [] n e = absurd (cc)
last_covers Nothing (k ∷ p) n e = absurd (cc)
last_covers (Then s inner rest) (zero ∷ []) n e = omega (arith, ap node_end (some_is (record { shape = s; inner = inner }) n e))
last_covers (Then s inner rest) (zero ∷ (j ∷ p)) n e = omega (arith, last_covers inner (j ∷ p) n e)
last_covers (Then s inner rest) (suc k ∷ p) n e = omega (arith, last_covers rest (k ∷ p) n e)

pub first_covers : (o : Outline) (q : Path) (least end : ℕ) (n : Node) → Rises least o end → statement_at o q ≡ Some n → first_place o ≤ n.shape.at
first_covers o [] least end n r e = absurd (cc)
first_covers Nothing (k ∷ p) least end n r e = absurd (cc)
first_covers (Then s inner rest) (zero ∷ []) least end n r e = omega (arith, ap (λ (m : Node). m.shape.at) (some_is (record { shape = s; inner = inner }) n e))
first_covers (Then s inner rest) (zero ∷ (j ∷ p)) least end n r e = omega (arith, (lies inner (j ∷ p) (suc s.at) r.0 n r.2 e).starts)
first_covers (Then s inner rest) (suc k ∷ p) least end n r e = omega (arith, (lies rest (k ∷ p) r.0 end n r.3 e).starts, grows inner (suc s.at) r.0 r.2)

-- the first place of what is at a path, or in it, is from the least on
pub first_from : (o : Outline) (q : Path) (least end : ℕ) (n : Node) → Rises least o end → statement_at o q ≡ Some n → least ≤ first_place o
first_from o [] least end n r e = absurd (cc)
first_from Nothing (k ∷ p) least end n r e = absurd (cc)
first_from (Then s inner rest) (k ∷ p) least end n r e = label_before least s.label s.at r.1

-- ---- from places to paths

after_first : Path → Path
after_first [] = []
after_first (k ∷ p) = suc k ∷ p

pub within : (o : Outline) (q p : Path) (least end : ℕ) (n g : Node) → Rises least o end → statement_at o q ≡ Some n → statement_at o p ≡ Some g → n.shape.at ≤ g.shape.at → g.shape.at ≤ node_end n → IsInside p q
unfolding after_first
within o [] p least end n g r en eg from until = absurd (cc)
within Nothing (k ∷ q) p least end n g r en eg from until = absurd (cc)
within (Then s inner rest) (k ∷ q) [] least end n g r en eg from until = absurd (cc)
within (Then s inner rest) (zero ∷ []) (zero ∷ p) least end n g r en eg from until = record { inner = p; leads = refl }
within (Then s inner rest) (zero ∷ []) (suc k ∷ p) least end n g r en eg from until =
    absurd (omega (
      arith,
      ap node_end (some_is (record { shape = s; inner = inner }) n en),
      until,
      (lies rest (k ∷ p) r.0 end g r.3 eg).starts,
      last_below inner (suc s.at) r.0 (omega arith) r.2,
      grows inner (suc s.at) r.0 r.2,
    ))
within (Then s inner rest) (zero ∷ (j ∷ q)) (zero ∷ []) least end n g r en eg from until =
    absurd (omega (arith, ap (λ (m : Node). m.shape.at) (some_is (record { shape = s; inner = inner }) g eg), from, (lies inner (j ∷ q) (suc s.at) r.0 n r.2 en).starts))
within (Then s inner rest) (zero ∷ (j ∷ q)) (zero ∷ (i ∷ p)) least end n g r en eg from until =
    let w = within inner (j ∷ q) (i ∷ p) (suc s.at) r.0 n g r.2 en eg from until in record { inner = w.inner; leads = ap (λ (x : Path). zero ∷ x) w.leads }
within (Then s inner rest) (zero ∷ (j ∷ q)) (suc k ∷ p) least end n g r en eg from until =
    absurd (omega (arith, until, ends_below (suc s.at) r.0 n (lies inner (j ∷ q) (suc s.at) r.0 n r.2 en), (lies rest (k ∷ p) r.0 end g r.3 eg).starts))
within (Then s inner rest) (suc i ∷ q) (zero ∷ []) least end n g r en eg from until =
    absurd (omega (arith, ap (λ (m : Node). m.shape.at) (some_is (record { shape = s; inner = inner }) g eg), from, (lies rest (i ∷ q) r.0 end n r.3 en).starts, grows inner (suc s.at) r.0 r.2))
within (Then s inner rest) (suc i ∷ q) (zero ∷ (j ∷ p)) least end n g r en eg from until =
    absurd (omega (arith, from, (lies rest (i ∷ q) r.0 end n r.3 en).starts, ends_below (suc s.at) r.0 g (lies inner (j ∷ p) (suc s.at) r.0 g r.2 eg)))
within (Then s inner rest) (suc i ∷ q) (suc k ∷ p) least end n g r en eg from until =
    let w = within rest (i ∷ q) (k ∷ p) r.0 end n g r.3 en eg from until in record { inner = w.inner; leads = ap after_first w.leads }

-- ---- from paths to places

pub statement_below : (o : Outline) (q : Path) (n : Node) (j : ℕ) (p : Path) → statement_at o q ≡ Some n → statement_at o (q ++ j ∷ p) ≡ statement_at n.inner (j ∷ p)
statement_below o [] n j p e = absurd (cc)
statement_below Nothing (k ∷ q) n j p e = absurd (cc)
statement_below (Then s inner rest) (zero ∷ []) n j p e = ap (λ (m : Node). statement_at m.inner (j ∷ p)) (some_is (record { shape = s; inner = inner }) n e)
statement_below (Then s inner rest) (zero ∷ (i ∷ q)) n j p e = statement_below inner (i ∷ q) n j p e
statement_below (Then s inner rest) (suc k ∷ q) n j p e = statement_below rest (k ∷ q) n j p e

module _ (o : Outline) (least end : ℕ) (r : Rises least o end) (q p : Path) (n g : Node) (en : statement_at o q ≡ Some n) (eg : statement_at o p ≡ Some g) where
  -- inside, but not at the statement itself
  pub strictly : (j : ℕ) (more : Path) → p ≡ q ++ j ∷ more → (first_place n.inner ≤ g.shape.at) × (g.shape.at ≤ last_place n.inner) × (n.shape.at < g.shape.at)
  strictly j more leads =
      let at : statement_at n.inner (j ∷ more) ≡ Some g = sym (statement_below o q n j more en) ∙ ap (statement_at o) (sym leads) ∙ eg in
      let w = lies o q least end n r en in
      let first = first_covers n.inner (j ∷ more) (suc n.shape.at) w.until g w.inner at in
      let last = last_covers n.inner (j ∷ more) g at in
      let starts = (lies n.inner (j ∷ more) (suc n.shape.at) w.until g w.inner at).starts in
      (first, omega (arith, last), omega (arith, starts))

  pub inside_by : (more : Path) → p ≡ q ++ more → (n.shape.at ≤ g.shape.at) × (g.shape.at ≤ node_end n)
  inside_by [] leads =
      let same : n ≡ g = some_is n g (sym en ∙ ap (statement_at o) (sym (append-nil q) ∙ sym leads) ∙ eg) in
      let at = ap (λ (m : Node). m.shape.at) same in (omega (arith, at), omega (arith, at))
  inside_by (j ∷ more) leads = let w = strictly j more leads in (omega (arith, w.2), omega (arith, w.1))
