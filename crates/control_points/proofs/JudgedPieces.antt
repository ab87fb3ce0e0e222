-- Each piece of a program: its checks are those of its points, one point after another, and each edge that is no return judges what
-- stands at the point that it leaves.
use Rattle.std.proofs.Common.{◌≡◌, inl, inr, ◌⊎◌, ℕ, zero, suc, ◌+◌, ◌-◌, true, false, List, [], ◌∷◌, ◌++◌, map, length, refl, sym, ap, subst, ◌∙◌, Some, arith}
use Rattle.std.proofs.lemmas.Bool.{true≢false}
use Rattle.std.proofs.lemmas.List.{append-nil, append_assoc, length-map, map-append}
use Rattle.std.proofs.lemmas.Option.{none-some, slice_get_within}
use Rattle.std.specs.List.{slice_get}
use Rattle.pas_program.specs.declared.routine.Assert.{Assert}
use Rattle.control_points.specs.declared.check.Check.{Check}
use Rattle.control_points.specs.declared.edge.Act.{Act}
use Rattle.control_points.specs.declared.edge.Act.TheVariants as act
use Rattle.control_points.specs.declared.edge.Edge.{Edge}
use Rattle.control_points.specs.Calls.{CallSite, Sites}
use Rattle.control_points.specs.Chart.{Chart}
use Rattle.control_points.specs.Checking.{Faults, assert_checks}
use Rattle.control_points.specs.Judgements.{Judgements, act_judgements, assert_judgements, fault_of, faults_of}
use Rattle.control_points.specs.Judging.{check_of, checks_at}
use Rattle.control_points.specs.Leading.{is_return}
use Rattle.control_points.specs.Listing as listing
use Rattle.control_points.specs.Pieces.{Piece, Plan, both, judged, nothing, way}
use Rattle.control_points.specs.Pieces as pieces
use Rattle.control_points.specs.Scenes.{call_act}
use Rattle.control_points.proofs.Blocks.{get_front, get_past}
use Rattle.control_points.proofs.JudgedParts.{act_faults, asserts_faults}
use Rattle.control_points.proofs.Listed.{get_either, same_some}

-- the assertions of a point, and the judgements of the action that leaves it
pub record Row : Type 0 where
  pub listed : List ℕ
  pub own : Judgements

abbrev pub row : List ℕ → Judgements → Row
row listed own = record { listed = listed; own = own }

abbrev pub lists_of : List Row → List (List ℕ)
lists_of rows = map (λ (r : Row). r.listed) rows

-- the checks of the points from low on
abbrev pub laid : List Assert → ℕ → List Row → List Check
laid asserts low [] = []
laid asserts low (r ∷ rows) = checks_at low (faults_of (assert_judgements asserts r.listed ++ r.own)) ++ laid asserts (suc low) rows

pub laid_append : (asserts : List Assert) (low : ℕ) (xs ys : List Row) → laid asserts low (xs ++ ys) ≡ laid asserts low xs ++ laid asserts (low + length xs) ys
laid_append asserts low [] ys = let n : low ≡ low + length {A = Row} [] = omega arith in ap (λ m. laid asserts m ys) n
laid_append asserts low (x ∷ xs) ys =
    let head = checks_at low (faults_of (assert_judgements asserts x.listed ++ x.own)) in
    let n : suc low + length xs ≡ low + length (x ∷ xs) = omega arith in
    ap (λ cs. head ++ cs) (laid_append asserts (suc low) xs ys)
    ∙ sym (append_assoc head (laid asserts (suc low) xs) (laid asserts (suc low + length xs) ys))
    ∙ ap (λ m. (head ++ laid asserts (suc low) xs) ++ laid asserts m ys) n

-- points without assertions
abbrev pub blanks : ℕ → List (List ℕ)
blanks zero = []
blanks (suc n) = [] ∷ blanks n

pub length-blanks : (n : ℕ) → length (blanks n) ≡ n
length-blanks zero = refl
length-blanks (suc n) = ap suc (length-blanks n)

pub blanks_both : (m n : ℕ) → blanks m ++ blanks n ≡ blanks (m + n)
blanks_both zero n = let e : n ≡ 0 + n = omega arith in ap blanks e
blanks_both (suc m) n = let e : suc (m + n) ≡ suc m + n = omega arith in ap (λ ls. [] ∷ ls) (blanks_both m n) ∙ ap blanks e

pub blank_first : (n : ℕ) (ls : List (List ℕ)) → blanks n ++ [] ∷ ls ≡ [] ∷ (blanks n ++ ls)
blank_first zero ls = refl
blank_first (suc n) ls = ap (λ ms. [] ∷ ms) (blank_first n ls)

pub no_edge : (k : ℕ) (e : Edge) → slice_get [] k ≡ Some e → ⊥
no_edge zero e h = none-some e h
no_edge (suc k) e h = none-some e h

only_edge : (P : Edge → Type 0) (d e : Edge) (k : ℕ) → slice_get (d ∷ []) k ≡ Some e → P d → P e
only_edge P d e zero h p = subst P (same_some h) p
only_edge P d e (suc k) h p = absurd (no_edge k e h)

two_edges : (P : Edge → Type 0) (c d e : Edge) (k : ℕ) → slice_get (c ∷ d ∷ []) k ≡ Some e → P c → P d → P e
two_edges P c d e zero h p q = subst P (same_some h) p
two_edges P c d e (suc k) h p q = only_edge P d e k h q

module _ (plan : Plan) where
  abbrev pub chart_in : Chart
  chart_in = record { tables = plan.tables; main = 0; asserts = plan.asserts; points = []; edges = []; asserts_at = [] }

  -- the judgements of an action that is no return
  abbrev pub own_of : Act → Judgements
  own_of a = act_judgements chart_in 0 a

  -- an edge judges what stands at the point that it leaves
  pub record Found (low : ℕ) (rows : List Row) (e : Edge) : Type 0 where
    pub place : ℕ
    pub stands : Row
    pub at : e.from ≡ low + place
    pub known : slice_get rows place ≡ Some stands
    pub same : stands.own ≡ own_of e.act

  pub record Judges (p : Piece) (low : ℕ) (lists : List (List ℕ)) : Type 0 where
    pub rows : List Row
    pub listed : lists_of rows ≡ lists
    pub checks : (n : ℕ) → (p n).checks ≡ laid plan.asserts low rows
    pub edges : (n k : ℕ) (e : Edge) → slice_get (p n).edges k ≡ Some e → is_return e.act ≡ false → Found low rows e

  pub found_front : (low : ℕ) (xs ys : List Row) (e : Edge) → Found low xs e → Found low (xs ++ ys) e
  found_front low xs ys e f = record { place = f.place; stands = f.stands; at = f.at; known = get_front xs ys f.place (slice_get_within xs f.place f.stands f.known) ∙ f.known; same = f.same }

  pub found_past : (low mid : ℕ) (xs ys : List Row) (e : Edge) → mid ≡ low + length xs → Found mid ys e → Found low (xs ++ ys) e
  found_past low mid xs ys e h f = record { place = length xs + f.place; stands = f.stands; at = omega (arith, f.at, h); known = get_past xs ys f.place ∙ f.known; same = f.same }

  found_first : (low : ℕ) (r : Row) (rows : List Row) (e : Edge) → e.from ≡ low → r.own ≡ own_of e.act → Found low (r ∷ rows) e
  found_first low r rows e h s = record { place = 0; stands = r; at = omega (arith, h); known = refl; same = s }

  found_behind : (low : ℕ) (r : Row) (rows : List Row) (e : Edge) → Found (suc low) rows e → Found low (r ∷ rows) e
  found_behind low r rows e f = record { place = suc f.place; stands = f.stands; at = omega (arith, f.at); known = f.known; same = f.same }

  pub rows_long : (p : Piece) (low : ℕ) (lists : List (List ℕ)) (j : Judges p low lists) → length j.rows ≡ length lists
  rows_long p low lists j = sym (length-map j.rows (λ (r : Row). r.listed)) ∙ ap length j.listed

  unfoldable pub judges_as : (p : Piece) (low : ℕ) (ls ms : List (List ℕ)) → ls ≡ ms → Judges p low ls → Judges p low ms
  judges_as p low ls ms h j = record { rows = j.rows; listed = j.listed ∙ h; checks = j.checks; edges = j.edges }

  pub rows_as : (p : Piece) (low : ℕ) (ls ms : List (List ℕ)) (h : ls ≡ ms) (j : Judges p low ls) → (judges_as p low ls ms h j).rows ≡ j.rows
  unfolding judges_as
  rows_as p low ls ms h j = refl

  pub judges_nothing : (low : ℕ) → Judges nothing low []
  judges_nothing low = record { rows = []; listed = refl; checks = λ n. refl; edges = λ n k e h on. absurd (no_edge k e h) }

  unfoldable pub judges_both : (p q : Piece) (low mid : ℕ) (ls ms : List (List ℕ)) → mid ≡ low + length ls → Judges p low ls → Judges q mid ms → Judges (both p q) low (ls ++ ms)
  judges_both p q low mid ls ms h f g =
      let start : mid ≡ low + length f.rows = omega (arith, h, rows_long p low ls f) in
      record {
        rows = f.rows ++ g.rows;
        listed = map-append (λ (r : Row). r.listed) f.rows g.rows ∙ ap (λ l. l ++ lists_of g.rows) f.listed ∙ ap (λ l. ls ++ l) g.listed;
        checks = λ n.
            let m = n + length (p n).edges in
            ap (λ cs. cs ++ (q m).checks) (f.checks n)
            ∙ ap (λ cs. laid plan.asserts low f.rows ++ cs) (g.checks m)
            ∙ ap (λ k. laid plan.asserts low f.rows ++ laid plan.asserts k g.rows) start
            ∙ sym (laid_append plan.asserts low f.rows g.rows);
        edges = λ n k e at on.
            let m = n + length (p n).edges in
            elim (get_either (p n).edges (q m).edges k e at) [
              | inl x ↦ found_front low f.rows g.rows e (f.edges n k e x on)
              | inr x ↦ found_past low mid f.rows g.rows e start (g.edges m (k - length (p n).edges) e x.1 on)
            ];
      }

  pub rows_both : (p q : Piece) (low mid : ℕ) (ls ms : List (List ℕ)) (h : mid ≡ low + length ls) (f : Judges p low ls) (g : Judges q mid ms) → (judges_both p q low mid ls ms h f g).rows ≡ f.rows ++ g.rows
  unfolding judges_both
  rows_both p q low mid ls ms h f g = refl

  -- ---- one point: an action, or the two ways of one, with or without checks before it

  module _ (here : ℕ) (a : Act) (fs : Faults) (is : fs ≡ faults_of (own_of a)) where
    head_is : checks_at here fs ≡ checks_at here (faults_of (own_of a))
    head_is = ap (checks_at here) is

    pub judges_act : (next : ℕ) → Judges (both (judged here fs) (way here a next)) here (blanks 1)
    judges_act next = record {
      rows = row [] (own_of a) ∷ [];
      listed = refl;
      checks = λ n. ap (λ cs. cs ++ []) head_is;
      edges = λ n k e h on. only_edge (Found here (row [] (own_of a) ∷ [])) (listing.edge here a next) e k h (found_first here _ [] _ refl refl);
    }

    pub judges_two : (b : Act) → own_of a ≡ own_of b → (t u : ℕ) → Judges (both (judged here fs) (both (way here a t) (way here b u))) here (blanks 1)
    judges_two b same t u = record {
      rows = row [] (own_of a) ∷ [];
      listed = refl;
      checks = λ n. ap (λ cs. cs ++ []) head_is;
      edges = λ n k e h on.
          two_edges (Found here (row [] (own_of a) ∷ [])) (listing.edge here a t) (listing.edge here b u) e k h
          (found_first here _ [] _ refl refl) (found_first here _ [] _ refl same);
    }

  pub judges_way : (here next : ℕ) (a : Act) → own_of a ≡ [] → Judges (way here a next) here (blanks 1)
  judges_way here next a none = record {
    rows = row [] [] ∷ [];
    listed = refl;
    checks = λ n. refl;
    edges = λ n k e h on. only_edge (Found here (row [] [] ∷ [])) (listing.edge here a next) e k h (found_first here _ [] _ refl (sym none));
  }

  pub judges_ways : (here t u : ℕ) (a b : Act) → own_of a ≡ [] → own_of b ≡ [] → Judges (both (way here a t) (way here b u)) here (blanks 1)
  judges_ways here t u a b none other = record {
    rows = row [] [] ∷ [];
    listed = refl;
    checks = λ n. refl;
    edges = λ n k e h on.
        two_edges (Found here (row [] [] ∷ [])) (listing.edge here a t) (listing.edge here b u) e k h
        (found_first here _ [] _ refl (sym none)) (found_first here _ [] _ refl (sym other));
  }

  -- ---- calls, whose returns are left out

  returned : (P : Edge → Type 0) (d e : Edge) (k : ℕ) → slice_get (d ∷ []) k ≡ Some e → is_return d.act ≡ true → is_return e.act ≡ false → P e
  returned P d e zero h back on = absurd (true≢false (sym back ∙ ap (λ (x : Edge). is_return x.act) (same_some h) ∙ on))
  returned P d e (suc k) h back on = absurd (no_edge k e h)

  call_edge : (P : Edge → Type 0) (c d e : Edge) (k : ℕ) → slice_get (c ∷ d ∷ []) k ≡ Some e → is_return d.act ≡ true → is_return e.act ≡ false → P c → P e
  call_edge P c d e zero h back on p = subst P (same_some h) p
  call_edge P c d e (suc k) h back on p = returned P d e k h back on

  pub judges_call : (c : CallSite) (source back : ℕ) → Judges (pieces.call plan c source back) source (blanks 1)
  judges_call c source back =
      let a = call_act c in
      record {
        rows = row [] (own_of a) ∷ [];
        listed = refl;
        checks = λ n. ap (λ cs. cs ++ []) (ap (checks_at source) (act_faults chart_in 0 a));
        edges = λ n k e h on.
            call_edge (Found source (row [] (own_of a) ∷ [])) (listing.edge source a (pieces.entry_of plan c.routine)) (listing.edge (pieces.exit_of plan c.routine) (act.Return (n + 0)) back) e k h refl on
            (found_first source _ [] _ refl refl);
      }

  pub judges_calls : (sites : Sites) (source : ℕ) → Judges (pieces.calls plan sites source) source (blanks (length sites))
  judges_calls [] source = judges_nothing source
  judges_calls (c ∷ sites) source =
      judges_both (pieces.call plan c source (source + 1)) (pieces.calls plan sites (source + 1)) source (source + 1) (blanks 1) (blanks (length sites)) (omega arith)
      (judges_call c source (source + 1)) (judges_calls sites (source + 1))

  -- ---- assertions before a piece

  front_is : (asserts : List Assert) (low : ℕ) (given : List ℕ) (js : Judgements) (rest : List Check)
      → checks_at low (assert_checks asserts given) ++ (checks_at low (faults_of (assert_judgements asserts [] ++ js)) ++ rest) ≡ checks_at low (faults_of (assert_judgements asserts given ++ js)) ++ rest
  front_is asserts low given js rest =
      let front = assert_judgements asserts given in
      ap (λ fs. checks_at low fs ++ (checks_at low (faults_of js) ++ rest)) (asserts_faults asserts given)
      ∙ sym (append_assoc (checks_at low (faults_of front)) (checks_at low (faults_of js)) rest)
      ∙ ap (λ cs. cs ++ rest) (sym (ap (checks_at low) (map-append fault_of front js) ∙ map-append (check_of low) (faults_of front) (faults_of js)))

  found_with : (low : ℕ) (given : List ℕ) (r : Row) (rows : List Row) (e : Edge) → Found low (r ∷ rows) e → Found low (row given r.own ∷ rows) e
  found_with low given r rows e f = found_by f.place f.stands f.at f.known f.same
    where
      found_by : (place : ℕ) (stands : Row) → e.from ≡ low + place → slice_get (r ∷ rows) place ≡ Some stands → stands.own ≡ own_of e.act → Found low (row given r.own ∷ rows) e
      found_by zero stands at known same = record { place = 0; stands = row given r.own; at = at; known = refl; same = ap (λ (x : Row). x.own) (same_some known) ∙ same }
      found_by (suc k) stands at known same = record { place = suc k; stands = stands; at = at; known = known; same = same }

  module _ (p : Piece) (here : ℕ) (given : List ℕ) (ls : List (List ℕ)) where
    asserted_rows : (rows : List Row) → lists_of rows ≡ [] ∷ ls → ((n : ℕ) → (p n).checks ≡ laid plan.asserts here rows)
        → ((n k : ℕ) (e : Edge) → slice_get (p n).edges k ≡ Some e → is_return e.act ≡ false → Found here rows e)
        → Judges (both (judged here (assert_checks plan.asserts given)) p) here (given ∷ ls)
    asserted_rows [] listed checks edges = absurd (no_list ls listed)
      where
        no_list : (ms : List (List ℕ)) → [] ≡ [] ∷ ms → ⊥
        no_list ms h = cc
    asserted_rows (r ∷ rows) listed checks edges =
        let first : r.listed ≡ [] = cc in
        let rest : lists_of rows ≡ ls = cc in
        record {
          rows = row given r.own ∷ rows;
          listed = ap (λ l. given ∷ l) rest;
          checks = λ n.
              ap (λ cs. checks_at here (assert_checks plan.asserts given) ++ cs) (checks (n + 0) ∙ ap (λ l. checks_at here (faults_of (assert_judgements plan.asserts l ++ r.own)) ++ laid plan.asserts (suc here) rows) first)
              ∙ front_is plan.asserts here given r.own (laid plan.asserts (suc here) rows);
          edges = λ n k e h on. found_with here given r rows e (edges (n + 0) k e h on);
        }

    pub judges_asserted : Judges p here ([] ∷ ls) → Judges (both (judged here (assert_checks plan.asserts given)) p) here (given ∷ ls)
    judges_asserted j = asserted_rows j.rows j.listed j.checks j.edges

  -- ---- the arms of a `case`, which leave the point of its selector

  pub record JudgesArms (p : Piece) (source low : ℕ) (js : Judgements) (lists : List (List ℕ)) : Type 0 where
    pub rows : List Row
    pub listed : lists_of rows ≡ lists
    pub checks : (n : ℕ) → (p n).checks ≡ laid plan.asserts low rows
    pub edges : (n k : ℕ) (e : Edge) → slice_get (p n).edges k ≡ Some e → is_return e.act ≡ false → ((e.from ≡ source) × (js ≡ own_of e.act)) ⊎ Found low rows e

  pub arms_nothing : (source low : ℕ) (js : Judgements) → JudgesArms nothing source low js []
  arms_nothing source low js = record { rows = []; listed = refl; checks = λ n. refl; edges = λ n k e h on. absurd (no_edge k e h) }

  -- one arm more in front
  module _ (source low mid next : ℕ) (a : Act) (p q : Piece) (ls ms : List (List ℕ)) (h : mid ≡ low + length ls) (f : Judges p low ls) (g : JudgesArms q source mid (own_of a) ms) where
    arms_start : mid ≡ low + length f.rows
    arms_start = omega (arith, h, rows_long p low ls f)

    arm_edge : (m k : ℕ) (e : Edge) → slice_get (q m).edges k ≡ Some e → is_return e.act ≡ false → ((e.from ≡ source) × (own_of a ≡ own_of e.act)) ⊎ Found low (f.rows ++ g.rows) e
    arm_edge m k e at on =
        elim (g.edges m k e at on) [
          | inl x ↦ inl x
          | inr x ↦ inr (found_past low mid f.rows g.rows e arms_start x)
        ]

    behind_edge : (m k : ℕ) (e : Edge) → slice_get (both p q m).edges k ≡ Some e → is_return e.act ≡ false → ((e.from ≡ source) × (own_of a ≡ own_of e.act)) ⊎ Found low (f.rows ++ g.rows) e
    behind_edge m k e at on =
        elim (get_either (p m).edges (q (m + length (p m).edges)).edges k e at) [
          | inl x ↦ inr (found_front low f.rows g.rows e (f.edges m k e x on))
          | inr x ↦ arm_edge (m + length (p m).edges) (k - length (p m).edges) e x.1 on
        ]

    first_edge : (m k : ℕ) (e : Edge) → slice_get (both (way source a next) (both p q) m).edges k ≡ Some e → is_return e.act ≡ false → ((e.from ≡ source) × (own_of a ≡ own_of e.act)) ⊎ Found low (f.rows ++ g.rows) e
    first_edge m zero e at on = inl (ap (λ (x : Edge). x.from) (sym (same_some at)), ap (λ (x : Edge). own_of x.act) (same_some at))
    first_edge m (suc k) e at on = behind_edge (m + 1) k e at on

    pub arms_more : JudgesArms (both (way source a next) (both p q)) source low (own_of a) (ls ++ ms)
    arms_more = record {
      rows = f.rows ++ g.rows;
      listed = map-append (λ (r : Row). r.listed) f.rows g.rows ∙ ap (λ l. l ++ lists_of g.rows) f.listed ∙ ap (λ l. ls ++ l) g.listed;
      checks = λ n.
          let m = n + 1 in
          let k = m + length (p m).edges in
          ap (λ cs. cs ++ (q k).checks) (f.checks m)
          ∙ ap (λ cs. laid plan.asserts low f.rows ++ cs) (g.checks k)
          ∙ ap (λ i. laid plan.asserts low f.rows ++ laid plan.asserts i g.rows) arms_start
          ∙ sym (laid_append plan.asserts low f.rows g.rows);
      edges = first_edge;
    }

  pub under_selector : (p : Piece) (source : ℕ) (fs : Faults) (js : Judgements) (ls : List (List ℕ)) → fs ≡ faults_of js → JudgesArms p source (source + 1) js ls
      → Judges (both (both (judged source fs) nothing) p) source ([] ∷ ls)
  under_selector p source fs js ls is g =
      let n1 : source + 1 ≡ suc source = omega arith in
      record {
        rows = row [] js ∷ g.rows;
        listed = ap (λ l. [] ∷ l) g.listed;
        checks = λ n.
            ap (λ cs. (checks_at source fs ++ []) ++ cs) (g.checks (n + 0))
            ∙ ap (λ cs. cs ++ laid plan.asserts (source + 1) g.rows) (append-nil (checks_at source fs) ∙ ap (checks_at source) is)
            ∙ ap (λ i. checks_at source (faults_of js) ++ laid plan.asserts i g.rows) n1;
        edges = λ n k e h on.
            elim (g.edges (n + 0) k e h on) [
              | inl x ↦ found_first source (row [] js) g.rows e x.0 x.1
              | inr x ↦ found_behind source (row [] js) g.rows e (subst (λ i. Found i g.rows e) n1 x)
            ];
      }
