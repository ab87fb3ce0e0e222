-- The pieces of routines: their checks are those of their points, and at an exit stands the result of its routine.
use Rattle.std.proofs.Common.{◌≡◌, inl, inr, ℕ, zero, suc, ◌+◌, ◌-◌, Bool, true, not, List, [], ◌∷◌, ◌++◌, map, length, length-append, refl, sym, ap, subst, ◌∙◌, Option, Some, nat_eq, arith}
use Rattle.std.proofs.lemmas.Bool.{and_parts, true≢false}
use Rattle.std.proofs.lemmas.List.{append-nil, length-map, map-append}
use Rattle.std.proofs.lemmas.Option.{none-some, slice_get_within}
use Rattle.std.specs.List.{list_all, slice_get, slice_index}
use Rattle.pas_program.specs.declared.routine.Routine.{Routine}
use Rattle.pas_program.specs.declared.statement.Body.TheOpen.{Body-F}
use Rattle.pas_program.specs.declared.statement.Body.TheViews.{out-Body, out-Statement}
use Rattle.pas_program.specs.declared.statement.Statement.{Statement}
use Rattle.pas_program.specs.Scopes.{is_outermost}
use Rattle.pas_program.specs.Tables.{Tables}
use Rattle.control_points.specs.declared.edge.Act.TheVariants as act
use Rattle.control_points.specs.declared.numbering.Mark.{Mark}
use Rattle.control_points.specs.declared.point.PointKind.{PointKind}
use Rattle.control_points.specs.declared.point.PointKind.TheVariants as kind
use Rattle.control_points.specs.Checking.{result_checks}
use Rattle.control_points.specs.Edges.{in_order, laid_statement, part_piece, routine_piece, routines_piece}
use Rattle.control_points.specs.Extents.{statements_extent}
use Rattle.control_points.specs.Judgements.{result_judgements, result_of}
use Rattle.control_points.specs.Judging.{checks_at}
use Rattle.control_points.specs.Leading.{is_exit}
use Rattle.control_points.specs.Marks.{Marks, mark, part_marks, routine_marks, routines_marks, starts, statements_marks}
use Rattle.control_points.specs.Pieces.{Piece, Plan, both, judged, nothing, way}
use Rattle.control_points.specs.Wired.{asserts_of}
use Rattle.control_points.proofs.Blocks.{get_front, get_past, starts_first}
use Rattle.control_points.proofs.Inside.{inside, statements_inside}
use Rattle.control_points.proofs.JudgedParts.{result_faults}
use Rattle.control_points.proofs.JudgedPieces.{Judges, Row, judges_as, judges_both, judges_nothing, judges_way, no_edge, row, rows_as, rows_both, rows_long}
use Rattle.control_points.proofs.JudgedStatements.{judges_statements}
use Rattle.control_points.proofs.Listed.{get_either, same_some}
use Rattle.control_points.proofs.PathsRoutines.{AllOutermost, begins}

-- at each exit among the points stands the result of its routine
pub record HasExits (t : Tables) (rows : List Row) (marks : Marks) : Type 0 where
  pub each : (k : ℕ) (m : Mark) → slice_get marks k ≡ Some m → m.point.kind ≡ kind.Exit → slice_get rows k ≡ Some (row m.asserts (result_judgements (result_of t m.point.routine) m.point.at))

no_mark : (k : ℕ) (m : Mark) → slice_get [] k ≡ Some m → ⊥
no_mark zero m h = none-some m h
no_mark (suc k) m h = none-some m h

all_at : (p : Mark → Bool) (ms : Marks) (k : ℕ) (m : Mark) → list_all p ms ≡ true → slice_get ms k ≡ Some m → p m ≡ true
all_at p [] k m h g = absurd (no_mark k m g)
all_at p (x ∷ ms) zero m h g = ap p (sym (same_some g)) ∙ (and_parts (p x) _ h).0
all_at p (x ∷ ms) (suc k) m h g = all_at p ms k m (and_parts (p x) _ h).1 g

no_exit : (r : ℕ) (m : Mark) → inside r m ≡ true → m.point.kind ≡ kind.Exit → ⊥
unfolding inside
no_exit r m h e = true≢false (sym ((and_parts (nat_eq m.point.routine r) _ h).1) ∙ ap (λ k. not (is_exit k)) e)

module _ (plan : Plan) where
  pub record JudgesAll (p : Piece) (low : ℕ) (marks : Marks) : Type 0 where
    pub judges : Judges plan p low (asserts_of marks)
    pub exits : HasExits plan.tables judges.rows marks

  module _ (p q : Piece) (low mid : ℕ) (ms ns : Marks) (h : mid ≡ low + length ms) (f : JudgesAll p low ms) (g : JudgesAll q mid ns) where
    start : mid ≡ low + length (asserts_of ms)
    start = omega (arith, h, length-map ms (λ (m : Mark). m.asserts))

    many : length (f.judges).rows ≡ length ms
    many = rows_long plan p low (asserts_of ms) f.judges ∙ length-map ms (λ (m : Mark). m.asserts)

    abbrev joined : Judges plan (both p q) low (asserts_of ms ++ asserts_of ns)
    joined = judges_both plan p q low mid (asserts_of ms) (asserts_of ns) start f.judges g.judges

    exit_at : (k : ℕ) (m : Mark) → slice_get (ms ++ ns) k ≡ Some m → m.point.kind ≡ kind.Exit → slice_get ((f.judges).rows ++ (g.judges).rows) k ≡ Some (row m.asserts (result_judgements (result_of plan.tables m.point.routine) m.point.at))
    exit_at k m at e =
        let xs = (f.judges).rows in
        let ys = (g.judges).rows in
        elim (get_either ms ns k m at) [
          | inl x ↦ get_front xs ys k (omega (arith, many, slice_get_within ms k m x)) ∙ f.exits.each k m x e
          | inr x ↦
              let n : k ≡ length xs + (k - length ms) = omega (arith, many, x.0) in
              ap (slice_get (xs ++ ys)) n ∙ get_past xs ys (k - length ms) ∙ g.exits.each (k - length ms) m x.1 e
        ]

    lists : asserts_of ms ++ asserts_of ns ≡ asserts_of (ms ++ ns)
    lists = sym (map-append (λ (m : Mark). m.asserts) ms ns)

    pub all_both : JudgesAll (both p q) low (ms ++ ns)
    all_both = record {
      judges = judges_as plan (both p q) low (asserts_of ms ++ asserts_of ns) (asserts_of (ms ++ ns)) lists joined;
      exits = record {
        each = λ k m at e.
            ap (λ rs. slice_get rs k)
            (rows_as plan (both p q) low (asserts_of ms ++ asserts_of ns) (asserts_of (ms ++ ns)) lists joined
            ∙ rows_both plan p q low mid (asserts_of ms) (asserts_of ns) start f.judges g.judges)
            ∙ exit_at k m at e;
      };
    }

  all_nothing : (low : ℕ) → JudgesAll nothing low []
  all_nothing low = record { judges = judges_nothing plan low; exits = record { each = λ k m h e. absurd (no_mark k m h) } }

  -- ---- a routine

  entry_no_exit : ◌≡◌ {A = PointKind} kind.Entry kind.Exit → ⊥
  entry_no_exit h = cc

  only_mark : (x m : Mark) (k : ℕ) → slice_get (x ∷ []) k ≡ Some m → (k ≡ 0) × (x ≡ m)
  only_mark x m zero h = (refl, same_some h)
  only_mark x m (suc k) h = absurd (no_mark k m h)

  module _ (r : ℕ) where
    entry_all : (entry at : ℕ) → JudgesAll (way entry act.Skip (entry + 1)) entry (mark r kind.Entry at ∷ [])
    entry_all entry at = record {
      judges = judges_way plan entry (entry + 1) act.Skip refl;
      exits = record { each = λ k m h e. absurd (entry_no_exit (ap (λ (x : Mark). x.point.kind) (only_mark (mark r kind.Entry at) m k h).1 ∙ e)) };
    }

    statements_all : (body : List Statement) (here next : ℕ) → JudgesAll (in_order plan (map (laid_statement plan) body) here next) here (statements_marks r body)
    statements_all body here next = record {
      judges = judges_statements plan r body here next;
      exits = record { each = λ k m h e. absurd (no_exit r m (all_at (inside r) (statements_marks r body) k m (statements_inside r body).all h) e) };
    }

    exit_all : (exit end : ℕ) (result : Option ℕ) → result_of plan.tables r ≡ result → JudgesAll (judged exit (result_checks result end)) exit (mark r kind.Exit end ∷ [])
    exit_all exit end result is = record {
      judges = record {
        rows = row [] (result_judgements result end) ∷ [];
        listed = refl;
        checks = λ n. ap (checks_at exit) (result_faults result end) ∙ sym (append-nil _);
        edges = λ n k e h on. absurd (no_edge k e h);
      };
      exits = record {
        each = λ k m h e.
            let o = only_mark (mark r kind.Exit end) m k h in
            ap (slice_get (row [] (result_judgements result end) ∷ [])) o.0
            ∙ ap (λ x. Some (row [] (result_judgements x end))) (sym is)
            ∙ ap (λ (x : Mark). Some (row x.asserts (result_judgements (result_of plan.tables x.point.routine) x.point.at))) o.1;
      };
    }

    part_all : (at end : ℕ) (body : List Statement) (result : Option ℕ) (entry exit : ℕ) → result_of plan.tables r ≡ result → exit ≡ entry + 1 + (statements_extent body).points
        → JudgesAll (part_piece plan result entry exit (Body-F.Begin body end)) entry (part_marks r at (Body-F.Begin body end))
    part_all at end body result entry exit is last =
        let size = (statements_inside r body).count in
        all_both _ _ entry (entry + 1) (mark r kind.Entry at ∷ []) (statements_marks r body ++ mark r kind.Exit end ∷ []) (omega arith)
        (entry_all entry at)
        (all_both _ _ (entry + 1) exit (statements_marks r body) (mark r kind.Exit end ∷ []) (omega (arith, last, size)) (statements_all body (entry + 1) exit) (exit_all exit end result is))

    pub routine_all : (d : Routine) (entry exit : ℕ) → is_outermost d.body ≡ true → result_of plan.tables r ≡ d.result → exit ≡ entry + length (routine_marks r d) - 1
        → JudgesAll (part_piece plan d.result entry exit (out-Body (out-Statement d.body).body)) entry (routine_marks r d)
    routine_all d entry exit o is last =
        let b = begins d o in
        let at = (out-Statement d.body).at in
        let size = ap (λ x. length (part_marks r at x)) b.is in
        let long = length-append (statements_marks r b.body) (mark r kind.Exit b.end ∷ []) in
        let count = (statements_inside r b.body).count in
        let there : exit ≡ entry + 1 + (statements_extent b.body).points = omega (arith, last, size, long, count) in
        subst (λ x. JudgesAll (part_piece plan d.result entry exit x) entry (part_marks r at x)) (sym b.is) (part_all at b.end b.body d.result entry exit is there)

  -- all routines, of which the first has the number `first` and begins with the point `low`
  pub routines_all : (first : ℕ) (routines : List Routine) (low : ℕ) → AllOutermost routines
      → ((k : ℕ) (d : Routine) → slice_get routines k ≡ Some d → result_of plan.tables (first + k) ≡ d.result)
      → ((k : ℕ) → slice_index plan.entries (first + k) ≡ slice_index (starts low first routines) k)
      → JudgesAll (routines_piece plan first routines) low (routines_marks first routines)
  routines_all first [] low o results at = all_nothing low
  routines_all first (d ∷ routines) low o results at =
      let next = low + length (routine_marks first d) in
      let one : first + 0 ≡ first = omega arith in
      let two : first + 1 ≡ suc first = omega arith in
      let entry : slice_index plan.entries first ≡ low = ap (slice_index plan.entries) (sym one) ∙ at 0 in
      let exit : slice_index plan.entries (suc first) ≡ next = ap (slice_index plan.entries) (sym two) ∙ at 1 ∙ starts_first next (suc first) routines in
      all_both (routine_piece plan first d) (routines_piece plan (suc first) routines) low next (routine_marks first d) (routines_marks (suc first) routines) refl
      (subst (λ e. JudgesAll (part_piece plan d.result e (slice_index plan.entries (suc first) - 1) (out-Body (out-Statement d.body).body)) low (routine_marks first d)) (sym entry)
      (routine_all first d low (slice_index plan.entries (suc first) - 1) (o 0 d refl) (ap (result_of plan.tables) (sym one) ∙ results 0 d refl) (ap (λ n. n - 1) exit)))
      (routines_all (suc first) routines next (λ k e i. o (suc k) e i)
      (λ k e i. let more : suc first + k ≡ first + suc k = omega arith in ap (result_of plan.tables) more ∙ results (suc k) e i)
      (λ k. let more : suc first + k ≡ first + suc k = omega arith in ap (slice_index plan.entries) more ∙ at (suc k)))
