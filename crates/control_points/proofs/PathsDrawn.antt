-- A piece by paths that draws a piece by numbers, once its points and its calls have their numbers.
use Rattle.std.proofs.Common.{◌≡◌, ℕ, ◌+◌, true, List, [], ◌∷◌, ◌++◌, map, length, append-nil, refl, sym, ap, subst, ◌∙◌, arith}
use Rattle.std.proofs.lemmas.List.{length-map, map-append}
use Rattle.control_points.specs.declared.check.Check.{Check}
use Rattle.control_points.specs.declared.edge.Act.{Act}
use Rattle.control_points.specs.declared.edge.Act.TheVariants as act
use Rattle.control_points.specs.declared.edge.Edge.{Edge}
use Rattle.control_points.specs.Calls.{CallSite}
use Rattle.control_points.specs.Checking.{Faults}
use Rattle.control_points.specs.Judging.{check_of, checks_at}
use Rattle.control_points.specs.Pieces.{Part, Plan, after_part}
use Rattle.control_points.specs.Pieces as pieces
use Rattle.control_points.specs.Sites.{Deed, Judged, Link, Piece, Placed, Site, asserted_point, both, call_links, calls, does, entry_of, exit_of, is_call, judged, judged_at, nothing, point_of, returns, way}
use Rattle.control_points.proofs.Followed.{both_again}
use Rattle.control_points.proofs.PathsLists.{EachFrom, each_first, each_front, each_past}

-- ---- pieces by numbers

pub none_behind : (q : pieces.Piece) (m : ℕ) → pieces.both q pieces.nothing m ≡ q m
none_behind q m = ap (λ es. record { edges = es; checks = (q m).checks ++ [] }) (append-nil (q m).edges) ∙ ap (λ cs. record { edges = (q m).edges; checks = cs }) (append-nil (q m).checks)

pub none_before : (q : pieces.Piece) (m : ℕ) → pieces.both pieces.nothing q m ≡ q m
none_before q m = let e : m + 0 ≡ m = omega arith in ap q e

pub same_behind : (p q s : pieces.Piece) → ((m : ℕ) → q m ≡ s m) → (m : ℕ) → pieces.both p q m ≡ pieces.both p s m
same_behind p q s e m = ap (after_part (p m)) (e (m + length (p m).edges))

module _ (g h : Site → ℕ) where
  abbrev pub act_by : Deed → Act
  act_by (does action) = action
  act_by (calls c) = act.Call c.routine c.actuals c.slot c.at
  act_by (returns s) = act.Return (h s)

  abbrev pub edge_by : Link → Edge
  edge_by l = record { from = g l.source; act = act_by l.deed; to = g l.target }

  abbrev pub check_by : Judged → Check
  check_by j = record { kind = j.fault.kind; at = j.fault.at; point = g j.site }

  abbrev pub IsAt : ℕ → Placed → Type 0
  IsAt k x = g x.site ≡ k

  abbrev pub IsCall : ℕ → Link → Type 0
  IsCall k l = is_call l.deed ≡ true → h l.source ≡ k

  pub record Gives (p : Piece) (part : Part) : Type 0 where
    pub edges : map edge_by p.links ≡ part.edges
    pub checks : map check_by p.checks ≡ part.checks

  -- where the first of the points has the number start
  pub record Draws (p : Piece) (start : ℕ) (q : pieces.Piece) : Type 0 where
    pub drawn : EachFrom IsAt start p.points → (m : ℕ) → EachFrom IsCall m p.links → Gives p (q m)

  pub draws_knowing : (p : Piece) (start : ℕ) (q : pieces.Piece) → (EachFrom IsAt start p.points → Draws p start q) → Draws p start q
  draws_knowing p start q f = record { drawn = λ n. (f n).drawn n }

  pub draws_like : (p : Piece) (start : ℕ) (q s : pieces.Piece) → ((m : ℕ) → q m ≡ s m) → Draws p start q → Draws p start s
  draws_like p start q s e d = record { drawn = λ n m c. subst (Gives p) (e m) (d.drawn n m c) }

  pub draws_both : (p s : Piece) (a b : ℕ) (q u : pieces.Piece) → b ≡ a + length p.points → Draws p a q → Draws s b u → Draws (both p s) a (pieces.both q u)
  draws_both p s a b q u is d e = record {
    drawn = λ n m c.
        let first = d.drawn (each_front IsAt a p.points s.points n) m (each_front IsCall m p.links s.links c) in
        let k = m + length (q m).edges in
        let many : k ≡ m + length p.links = ap (λ j. m + j) (sym (ap length first.edges) ∙ length-map p.links edge_by) in
        let second = e.drawn (each_past IsAt a b p.points s.points is n) k (each_past IsCall m k p.links s.links many c) in
        record {
          edges = map-append edge_by p.links s.links ∙ ap (λ es. es ++ map edge_by s.links) first.edges ∙ ap (λ es. (q m).edges ++ es) second.edges;
          checks = map-append check_by p.checks s.checks ∙ ap (λ cs. cs ++ map check_by s.checks) first.checks ∙ ap (λ cs. (q m).checks ++ cs) second.checks;
        };
  }

  pub draws_nothing : (start : ℕ) → Draws nothing start pieces.nothing
  draws_nothing start = record { drawn = λ n m c. record { edges = refl; checks = refl } }

  pub draws_asserted : (site : Site) (at : ℕ) (asserts : List ℕ) (start : ℕ) → Draws (asserted_point site at asserts) start pieces.nothing
  draws_asserted site at asserts start = record { drawn = λ n m c. record { edges = refl; checks = refl } }

  pub draws_point : (site : Site) (at start : ℕ) → Draws (point_of site at) start pieces.nothing
  draws_point site at start = draws_asserted site at [] start

  pub draws_way : (source target : Site) (a : Act) (start s t : ℕ) → g source ≡ s → g target ≡ t → Draws (way source a target) start (pieces.way s a t)
  draws_way source target a start s t e f = record {
    drawn = λ n m c. record {
      edges = ap (λ k. record { from = k; act = a; to = g target } ∷ []) e ∙ ap (λ k. record { from = s; act = a; to = k } ∷ []) f;
      checks = refl;
    };
  }

  same_checks : (site : Site) (s : ℕ) (faults : Faults) → g site ≡ s → map check_by (map (judged_at site) faults) ≡ checks_at s faults
  same_checks site s [] e = refl
  same_checks site s (f ∷ faults) e =
      ap (λ k. record { kind = f.kind; at = f.at; point = k } ∷ map check_by (map (judged_at site) faults)) e
      ∙ ap (λ cs. check_of s f ∷ cs) (same_checks site s faults e)

  pub draws_judged : (site : Site) (faults : Faults) (start s : ℕ) → g site ≡ s → Draws (judged site faults) start (pieces.judged s faults)
  draws_judged site faults start s e = record { drawn = λ n m c. record { edges = refl; checks = same_checks site s faults e } }

  -- ---- an action with calls before it: c for the calls, o for the action

  pub draws_bare : (p : Piece) (start : ℕ) (o : pieces.Piece) → Draws p start o → Draws p start (pieces.both pieces.nothing o)
  draws_bare p start o d = draws_like p start o (pieces.both pieces.nothing o) (λ m. sym (none_before o m)) d

  pub draws_own : (p : Piece) (start : ℕ) (c o : pieces.Piece) → Draws p start (pieces.both c o) → Draws p start (pieces.both c (pieces.both o pieces.nothing))
  draws_own p start c o d = draws_like p start (pieces.both c o) (pieces.both c (pieces.both o pieces.nothing)) (same_behind c o (pieces.both o pieces.nothing) (λ m. sym (none_behind o m))) d

  -- with what stands inside
  pub draws_inner : (p s : Piece) (a b : ℕ) (c o i : pieces.Piece) → b ≡ a + length p.points → Draws p a (pieces.both c o) → Draws s b i → Draws (both p s) a (pieces.both c (pieces.both o i))
  draws_inner p s a b c o i is d e =
      draws_like (both p s) a (pieces.both (pieces.both c o) i) (pieces.both c (pieces.both o i)) (both_again c o i)
      (draws_both p s a b (pieces.both c o) i is d e)

  -- ---- calls

  module _ (plan : Plan) where
    -- the entry and the exit of a routine have their numbers
    pub record IsReady (routine : ℕ) : Type 0 where
      pub entry : g (entry_of routine) ≡ pieces.entry_of plan routine
      pub exit : g (exit_of routine) ≡ pieces.exit_of plan routine

    pub draws_call : (c : CallSite) (source back : Site) (start s b : ℕ) → IsReady c.routine → g source ≡ s → g back ≡ b → Draws (call_links c source back) start (pieces.call_ways plan c s b)
    draws_call c source back start s b ready e f = record {
      drawn = λ n m k. record {
        edges =
            let call : Act = act.Call c.routine c.actuals c.slot c.at in
            let own : h source ≡ m = each_first IsCall m _ _ k refl in
            ap (λ j. record { from = j; act = call; to = g (entry_of c.routine) } ∷ record { from = g (exit_of c.routine); act = act.Return (h source); to = g back } ∷ []) e
            ∙ ap (λ j. record { from = s; act = call; to = j } ∷ record { from = g (exit_of c.routine); act = act.Return (h source); to = g back } ∷ []) ready.entry
            ∙ ap (λ j. record { from = s; act = call; to = pieces.entry_of plan c.routine } ∷ record { from = j; act = act.Return (h source); to = g back } ∷ []) ready.exit
            ∙ ap (λ j. record { from = s; act = call; to = pieces.entry_of plan c.routine } ∷ record { from = pieces.exit_of plan c.routine; act = act.Return j; to = g back } ∷ []) own
            ∙ ap (λ j. record { from = s; act = call; to = pieces.entry_of plan c.routine } ∷ record { from = pieces.exit_of plan c.routine; act = act.Return m; to = j } ∷ []) f;
        checks = refl;
      };
    }
