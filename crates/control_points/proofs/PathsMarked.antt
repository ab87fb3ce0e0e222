-- Points by paths and points by numbers, side by side: the same ones, with the labels at the same places.
use Rattle.std.proofs.Common.{◌≡◌, inl, inr, ℕ, suc, ◌+◌, Bool, true, false, cond, List, [], ◌∷◌, ◌++◌, map, length, append-nil, refl, sym, ap, subst, ◌∙◌, Option, Some, None, nat_eq, eqb-true, arith}
use Rattle.std.proofs.lemmas.Bool.{cases_Bool}
use Rattle.std.proofs.lemmas.List.{length-map, map-append}
use Rattle.std.specs.Option.{option_map}
use Rattle.pas_program.specs.Scopes.{is_the}
use Rattle.pas_program.specs.Tables.{Tables}
use Rattle.control_points.specs.declared.numbering.Mark.{Mark}
use Rattle.control_points.specs.declared.point.PointKind.{PointKind}
use Rattle.control_points.specs.declared.point.PointKind.TheVariants as kind
use Rattle.control_points.specs.Calls.{Sites}
use Rattle.control_points.specs.Labelled.{label_in}
use Rattle.control_points.specs.Marks.{Marks, before_mark, call_marks, mark}
use Rattle.control_points.specs.Sites.{Labels, Path, Placed, Site, made, own_label, point_at}
use Rattle.control_points.specs.Wired.{asserts_of, points_of}
use Rattle.control_points.proofs.PathsLists.{EachFrom, each_first, each_rest}

pub nat_eq_turned : (m n : ℕ) → nat_eq m n ≡ nat_eq n m
nat_eq_turned m n =
    elim (cases_Bool (nat_eq m n)) [
      | inl e ↦ let same = eqb-true m n e in ap (λ k. nat_eq m k) (sym same) ∙ ap (λ k. nat_eq k m) same
      | inr e ↦ elim (cases_Bool (nat_eq n m)) [
        | inl f ↦ let same = eqb-true n m f in ap (λ k. nat_eq m k) same ∙ ap (λ k. nat_eq k m) (sym same)
        | inr f ↦ e ∙ sym f
      ]
    ]

-- the first, or where there is none the second
abbrev pub or_first : {A : Type 0} → Option A → Option A → Option A
or_first None y = y
or_first (Some x) y = Some x

or_first_mapped : {A B : Type 0} (f : A → B) (x y : Option A) → option_map f (or_first x y) ≡ or_first (option_map f x) (option_map f y)
or_first_mapped f None y = refl
or_first_mapped f (Some x) y = refl

or_first_tested : {A : Type 0} (b : Bool) (x : A) (y z : Option A) → cond b (Some x) (or_first y z) ≡ or_first (cond b (Some x) y) z
or_first_tested true x y z = refl
or_first_tested false x y z = refl

tested_mapped : {A B : Type 0} (f : A → B) (b : Bool) (x : A) (y : Option A) → option_map f (cond b (Some x) y) ≡ cond b (Some (f x)) (option_map f y)
tested_mapped f true x y = refl
tested_mapped f false x y = refl

-- the path with the label, if one has it
abbrev pub first_of : Labels → ℕ → Option Path
first_of [] n = None
first_of (l ∷ labels) n = cond (nat_eq l.0 n) (Some l.1) (first_of labels n)

-- the point with the label
abbrev pub first_site : ℕ → List Placed → Marks → Option Site
first_site n [] ms = None
first_site n (x ∷ xs) [] = None
first_site n (x ∷ xs) (m ∷ ms) = cond (is_the n m.label) (Some x.site) (first_site n xs ms)

first_of_both : (xs ys : Labels) (n : ℕ) → first_of (xs ++ ys) n ≡ or_first (first_of xs n) (first_of ys n)
first_of_both [] ys n = refl
first_of_both (x ∷ xs) ys n = ap (cond (nat_eq x.0 n) (Some x.1)) (first_of_both xs ys n) ∙ or_first_tested (nat_eq x.0 n) x.1 (first_of xs n) (first_of ys n)

first_site_both : (n : ℕ) (xs ys : List Placed) (ms us : Marks) → length xs ≡ length ms → first_site n (xs ++ ys) (ms ++ us) ≡ or_first (first_site n xs ms) (first_site n ys us)
first_site_both n [] ys [] us e = refl
first_site_both n [] ys (m ∷ ms) us e = absurd (omega (arith, e))
first_site_both n (x ∷ xs) ys [] us e = absurd (omega (arith, e))
first_site_both n (x ∷ xs) ys (m ∷ ms) us e =
    let less : length xs ≡ length ms = omega (arith, e) in
    ap (cond (is_the n m.label) (Some x.site)) (first_site_both n xs ys ms us less)
    ∙ or_first_tested (is_the n m.label) x.site (first_site n xs ms) (first_site n ys us)

abbrev pub asserts_of_placed : Placed → List ℕ
asserts_of_placed x = x.asserts

module _ (r : ℕ) where
  abbrev pub before_at : Path → Site
  before_at path = record { routine = r; path = path; kind = kind.Before; number = 0 }

  pub record IsMarked (points : List Placed) (marks : Marks) (labels : Labels) : Type 0 where
    pub are : map point_at points ≡ points_of marks
    pub listed : map asserts_of_placed points ≡ asserts_of marks
    pub found : (n : ℕ) → option_map before_at (first_of labels n) ≡ first_site n points marks

  pub marked_many : (points : List Placed) (marks : Marks) (labels : Labels) → IsMarked points marks labels → length points ≡ length marks
  marked_many points marks labels m = sym (length-map points point_at) ∙ ap length m.are ∙ length-map marks (λ (x : Mark). x.point)

  pub none_marked : IsMarked [] [] []
  none_marked = record { are = refl; listed = refl; found = λ n. refl }

  pub one_marked : (path : Path) (k : PointKind) (n at : ℕ) → IsMarked (record { site = record { routine = r; path = path; kind = k; number = n }; at = at; asserts = [] } ∷ []) (mark r k at ∷ []) []
  one_marked path k n at = record { are = refl; listed = refl; found = λ n. refl }

  pub marked_both : (xs ys : List Placed) (ms us : Marks) (ls ks : Labels) → IsMarked xs ms ls → IsMarked ys us ks → IsMarked (xs ++ ys) (ms ++ us) (ls ++ ks)
  marked_both xs ys ms us ls ks x y = record {
    are = map-append point_at xs ys ∙ ap (λ ps. ps ++ map point_at ys) x.are ∙ ap (λ ps. points_of ms ++ ps) y.are ∙ sym (map-append (λ (m : Mark). m.point) ms us);
    listed = map-append asserts_of_placed xs ys ∙ ap (λ ls. ls ++ map asserts_of_placed ys) x.listed ∙ ap (λ ls. asserts_of ms ++ ls) y.listed ∙ sym (map-append (λ (m : Mark). m.asserts) ms us);
    found = λ n.
        ap (option_map before_at) (first_of_both ls ks n)
        ∙ or_first_mapped before_at (first_of ls n) (first_of ks n)
        ∙ ap (λ o. or_first o (option_map before_at (first_of ks n))) (x.found n)
        ∙ ap (λ o. or_first (first_site n xs ms) o) (y.found n)
        ∙ sym (first_site_both n xs ys ms us (marked_many xs ms ls x));
  }

  pub marked_like : (xs ys : List Placed) (ms us : Marks) (ls ks : Labels) → xs ≡ ys → ms ≡ us → ls ≡ ks → IsMarked xs ms ls → IsMarked ys us ks
  marked_like xs ys ms us ls ks x m l h = subst (λ zs. IsMarked zs us ks) x (subst (λ zs. IsMarked xs zs ks) m (subst (λ zs. IsMarked xs ms zs) l h))

  -- no labels behind
  pub marked_then : (xs ys : List Placed) (ms us : Marks) (ls : Labels) → IsMarked xs ms ls → IsMarked ys us [] → IsMarked (xs ++ ys) (ms ++ us) ls
  marked_then xs ys ms us ls x y = marked_like _ _ _ _ _ _ refl refl (append-nil ls) (marked_both xs ys ms us ls [] x y)

  own_marked : (path : Path) (at : ℕ) (asserts : List ℕ) (label : Option ℕ) → IsMarked (record { site = before_at path; at = at; asserts = asserts } ∷ []) (before_mark r at asserts label ∷ []) (own_label label path)
  own_marked path at asserts None = record { are = refl; listed = refl; found = λ n. refl }
  own_marked path at asserts (Some m) = record {
    are = refl;
    listed = refl;
    found = λ n. tested_mapped before_at (nat_eq m n) path None ∙ ap (λ b. cond b (Some (before_at path)) None) (nat_eq_turned m n);
  }

  -- a statement with its point
  pub statement_marked : (path : Path) (at : ℕ) (asserts : List ℕ) (label : Option ℕ) (xs : List Placed) (ms : Marks) (ls : Labels) → IsMarked xs ms ls → IsMarked (record { site = before_at path; at = at; asserts = asserts } ∷ xs) (before_mark r at asserts label ∷ ms) (own_label label path ++ ls)
  statement_marked path at asserts label xs ms ls h = marked_both (record { site = before_at path; at = at; asserts = asserts } ∷ []) xs (before_mark r at asserts label ∷ []) ms (own_label label path) ls (own_marked path at asserts label) h

  pub made_marked : (t : Tables) (path : Path) (n : ℕ) (source : Site) (sites : Sites) → IsMarked (made t r path n source sites).piece.points (call_marks r sites) []
  made_marked t path n source [] = none_marked
  made_marked t path n source (c ∷ sites) =
      let back : Site = record { routine = r; path = path; kind = kind.AfterCall; number = n } in
      marked_both _ _ _ _ [] [] (one_marked path kind.AfterCall n c.at) (made_marked t path (suc n) back sites)

-- the number of the point with the label
pub site_number : (g : Site → ℕ) (start n : ℕ) (points : List Placed) (marks : Marks) → length points ≡ length marks → EachFrom (λ k (x : Placed). g x.site ≡ k) start points → option_map g (first_site n points marks) ≡ label_in start marks n
site_number g start n [] [] e h = refl
site_number g start n [] (m ∷ marks) e h = absurd (omega (arith, e))
site_number g start n (x ∷ points) [] e h = absurd (omega (arith, e))
site_number g start n (x ∷ points) (m ∷ marks) e h =
    let less : length points ≡ length marks = omega (arith, e) in
    let more : suc start ≡ start + 1 = omega arith in
    tested_mapped g (is_the n m.label) x.site (first_site n points marks)
    ∙ ap (λ k. cond (is_the n m.label) (Some k) (option_map g (first_site n points marks))) (each_first (λ k (y : Placed). g y.site ≡ k) start x points h)
    ∙ ap (cond (is_the n m.label) (Some start)) (site_number g (suc start) n points marks less (each_rest (λ k (y : Placed). g y.site ≡ k) start (suc start) x points more h))
