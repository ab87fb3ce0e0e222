-- Where the exits are, and that both ways of an action leave one point.
use Rattle.std.proofs.Common.{◌≡◌, inl, inr, ℕ, zero, suc, ◌+◌, ◌-◌, ◌<◌, ◌≤◌, Bool, true, false, List, [], ◌∷◌, ◌++◌, length, length-append, refl, sym, ap, subst, ◌∙◌, Some, nat_eq, eq-eqb, arith}
use Rattle.std.proofs.lemmas.Bool.{cases_Bool, cases_lt, cond-false, cond-true, true≢false}
use Rattle.std.proofs.lemmas.Option.{none-some, slice_get_within}
use Rattle.std.proofs.lemmas.List.{length-map}
use Rattle.std.specs.List.{slice_get, slice_index}
use Rattle.std.specs.Option.{option_map, option_and_then}
use Rattle.pas_program.specs.declared.program.Program.{Program}
use Rattle.pas_program.specs.declared.routine.Routine.{Routine}
use Rattle.control_points.specs.declared.edge.Edge.{Edge}
use Rattle.control_points.specs.declared.flow.Flow.{Flow}
use Rattle.control_points.specs.declared.numbering.Mark.{Mark}
use Rattle.control_points.specs.declared.point.Point.{Point}
use Rattle.control_points.specs.declared.point.PointKind.{PointKind}
use Rattle.control_points.specs.declared.point.PointKind.TheVariants as kind
use Rattle.control_points.specs.Chart.{numbers_from}
use Rattle.control_points.specs.Edges.{edges_of, plan_of}
use Rattle.control_points.specs.Fits.{act_at, kind_at, routine_at}
use Rattle.control_points.specs.Leading.{EdgesPair, ExitsReturn, is_exit, is_return, other_way}
use Rattle.control_points.specs.Marks.{Marks, routine_marks, routines_marks, starts}
use Rattle.control_points.specs.Wired.{AreBlocks, is_exit_at, points_of}
use Rattle.control_points.proofs.Blocks.{starts_first}
use Rattle.control_points.proofs.Drawn.{point_within}
use Rattle.control_points.proofs.Listed.{same_some}
use Rattle.control_points.proofs.Covered.{routines_left, routines_paired}
use Rattle.control_points.proofs.Paired.{ArePaired, IsLeft}
use Rattle.control_points.proofs.Whole.{blocks_in, owned, size_at}

starts_last : (n r : ℕ) (routines : List Routine) → slice_index (starts n r routines) (length routines) ≡ n + length (routines_marks r routines)
starts_last n r [] = omega arith
starts_last n r (d ∷ routines) =
    let rest = routines_marks (suc r) routines in
    let many : n + length (routine_marks r d) + length rest ≡ n + length (routine_marks r d ++ rest) = omega (arith, length-append (routine_marks r d) rest) in
    starts_last (n + length (routine_marks r d)) (suc r) routines ∙ many

exit_of_kind : (k : PointKind) → is_exit k ≡ true → k ≡ kind.Exit
exit_of_kind kind.Exit h = refl
exit_of_kind kind.Entry h = absurd (true≢false (sym h))
exit_of_kind kind.Before h = absurd (true≢false (sym h))
exit_of_kind kind.AfterCall h = absurd (true≢false (sym h))
exit_of_kind kind.AfterRead h = absurd (true≢false (sym h))
exit_of_kind kind.AfterWrite h = absurd (true≢false (sym h))
exit_of_kind kind.Until h = absurd (true≢false (sym h))
exit_of_kind kind.Step h = absurd (true≢false (sym h))

entry_no_exit : Some kind.Entry ≡ Some kind.Exit → ⊥
entry_no_exit e = cc

-- the routine in whose block a point is
record Owner (count : ℕ) (entries : List ℕ) (p : ℕ) : Type 0 where
  routine : ℕ
  known : routine < count
  low : slice_index entries routine ≤ p
  high : p < slice_index entries (suc routine)

-- a number of one that passes
numbers_some : {A : Type 0} (test : A → Bool) (n : ℕ) (xs : List A) (k : ℕ) (x : A) → slice_get xs k ≡ Some x → test x ≡ true → 0 < length (numbers_from n test xs)
numbers_some test n [] zero x h t = absurd (none-some x h)
numbers_some test n [] (suc k) x h t = absurd (none-some x h)
numbers_some test n (y ∷ xs) zero x h t =
    let e : test y ≡ true = ap test (same_some h) ∙ t in
    let many : length (numbers_from n test (y ∷ xs)) ≡ suc (length (numbers_from (suc n) test xs)) = ap length (cond-true (test y) (n ∷ numbers_from (suc n) test xs) (numbers_from (suc n) test xs) e) in
    omega (arith, many)
numbers_some test n (y ∷ xs) (suc k) x h t =
    let rest = numbers_some test (suc n) xs k x h t in
    elim (cases_Bool (test y)) [
      | inl e ↦ let many : length (numbers_from n test (y ∷ xs)) ≡ suc (length (numbers_from (suc n) test xs)) = ap length (cond-true (test y) (n ∷ numbers_from (suc n) test xs) (numbers_from (suc n) test xs) e) in omega (arith, many)
      | inr e ↦ subst (λ ys. 0 < length ys) (sym (cond-false (test y) (n ∷ numbers_from (suc n) test xs) (numbers_from (suc n) test xs) e)) rest
    ]

slice_get_some : {A : Type 0} (xs : List A) (k : ℕ) → k < length xs → (x : A) × (slice_get xs k ≡ Some x)
slice_get_some [] k h = absurd (omega arith)
slice_get_some (x ∷ xs) zero h = (x, refl)
slice_get_some (x ∷ xs) (suc k) h = slice_get_some xs k (omega arith)

module _ (program : Program) (marks : Marks) (is : marks ≡ routines_marks 0 program.routines) (entries : List ℕ) (starts_are : entries ≡ starts 0 0 program.routines) where
  abbrev count : ℕ
  count = length program.routines

  abbrev points : List Point
  points = points_of marks

  first_entry : slice_index entries 0 ≡ 0
  first_entry = ap (λ es. slice_index es 0) starts_are ∙ starts_first 0 0 program.routines

  last_entry : slice_index entries count ≡ length points
  last_entry =
      let found : slice_index entries count ≡ slice_index (starts 0 0 program.routines) count = ap (λ es. slice_index es count) starts_are in
      omega (arith, found, starts_last 0 0 program.routines, ap length is, length-map marks (λ (m : Mark). m.point))

  blocks : AreBlocks points count entries
  blocks = blocks_in program marks is entries starts_are

  owner : (p k : ℕ) → k ≤ count → p < slice_index entries k → Owner count entries p
  owner p zero le h = absurd (omega (arith, h, first_entry))
  owner p (suc k) le h = elim (cases_lt p (slice_index entries k)) [ inl lower ↦ owner p k (omega arith) lower | inr at ↦ record { routine = k; known = omega arith; low = omega (arith, at); high = h } ]

  exit_at : (p s : ℕ) → kind_at points p ≡ Some kind.Exit → routine_at points p ≡ Some s → p ≡ slice_index entries (suc s) - 1
  exit_at p s exit own =
      let o = owner p count (omega arith) (omega (arith, point_within points p s own, last_entry)) in
      let b = blocks.block o.routine o.known in
      let last = slice_index entries (suc o.routine) - 1 in
      let same : o.routine ≡ s = same_some (sym (owned points o.routine (slice_index entries o.routine) last b p o.low (omega (arith, o.high))) ∙ own) in
      let there : p ≡ last = elim (cases_lt (slice_index entries o.routine) p) [
        | inl after ↦ elim (cases_lt p last) [ inl before ↦ absurd (true≢false (sym (ap is_exit_at exit) ∙ b.inner p after before)) | inr behind ↦ omega (arith, behind, o.high) ]
        | inr first ↦ absurd (entry_no_exit (sym (subst (λ n. kind_at points n ≡ Some kind.Entry) (omega (arith, first, o.low)) b.entry_kind) ∙ exit))
      ] in
      there ∙ ap (λ r. slice_index entries (suc r) - 1) same

  main_exit : slice_index entries (suc (count - 1)) - 1 ≡ length points - 1
  main_exit = let n : suc (count - 1) ≡ count = omega (arith, program.in_scope.last) in ap (λ k. slice_index entries k - 1) n ∙ ap (λ k. k - 1) last_entry

  -- an edge leaves each point that is no exit
  left_at : (edges : List Edge) → edges ≡ edges_of program → (p : ℕ) (q : Point) → slice_get points p ≡ Some q → is_exit q.kind ≡ false → IsLeft edges p
  left_at edges edges_are p q at inner =
      let o = owner p count (omega arith) (omega (arith, slice_get_within points p q at, last_entry)) in
      let b = blocks.block o.routine o.known in
      let last = slice_index entries (suc o.routine) - 1 in
      let d = slice_get_some program.routines o.routine o.known in
      let size = size_at program marks is entries starts_are o.routine d.0 d.1 in
      let before : p < last = elim (cases_lt p last) [
        | inl h ↦ h
        | inr h ↦
            let same : last ≡ p = omega (arith, h, o.high) in
            absurd (true≢false (sym (ap is_exit_at (sym (ap (option_map (λ (x : Point). x.kind)) at) ∙ subst (λ n. kind_at points n ≡ Some kind.Exit) same b.exit_kind)) ∙ inner))
      ] in
      let own : slice_index (starts 0 0 program.routines) o.routine ≡ slice_index entries o.routine = ap (λ es. slice_index es o.routine) (sym starts_are) in
      subst (λ es. IsLeft es p) (sym edges_are)
      (routines_left (plan_of program) 0 program.routines program.in_scope.outermost o.routine d.0 d.1 o.routine 0 p (omega arith) (omega (arith, own, o.low)) (omega (arith, own, size, before)))

  module _ (edges : List Edge) (exits : ExitsReturn points edges) (edges_are : edges ≡ edges_of program) where
    paired : ArePaired edges
    paired = subst ArePaired (sym edges_are) (routines_paired (plan_of program) 0 program.routines program.in_scope.outermost 0)

    returns : (k : ℕ) (e : Edge) (q : Point) → slice_get edges k ≡ Some e → slice_get points e.from ≡ Some q → is_return e.act ≡ is_exit q.kind
    returns k e q h at =
        let found : kind_at points e.from ≡ Some q.kind = ap (option_map (λ (x : Point). x.kind)) at in
        elim (cases_Bool (is_exit q.kind)) [
          | inl exit ↦ exits.only k e h (found ∙ ap Some (exit_of_kind q.kind exit)) ∙ sym exit
          | inr inner ↦ elim (cases_Bool (is_return e.act)) [
            | inl back ↦ absurd (true≢false (sym (ap is_exit (same_some (sym found ∙ exits.back k e h back))) ∙ inner))
            | inr on ↦ on ∙ sym inner
          ]
        ]

    pub edges_pair : EdgesPair (count - 1) points edges
    edges_pair =
        let main = blocks.block (count - 1) (omega (arith, program.in_scope.last)) in
        record {
          followed = λ k e a h o. let s = paired.second k e a h o in ap (option_map (λ (x : Edge). x.act)) s.stands ∙ ap Some s.act_is;
          beside = λ k e a h o. let s = paired.second k e a h o in ap (option_map (λ (x : Edge). x.from)) s.stands ∙ ap Some s.from_is;
          preceded = λ k e h o. let f = paired.first k e h o in let n : k - 1 ≡ f.place = omega (arith, f.before) in ap (λ j. option_and_then other_way (act_at edges j)) n ∙ ap (λ x. option_and_then other_way (option_map (λ (y : Edge). y.act) x)) f.stands ∙ f.leads;
          behind = λ k e h o. let f = paired.first k e h o in let n : k - 1 ≡ f.place = omega (arith, f.before) in ap (λ j. option_map (λ (y : Edge). y.from) (slice_get edges j)) n ∙ ap (option_map (λ (y : Edge). y.from)) f.stands ∙ ap Some f.from_is;
          goes_on = λ p q at inner. let l = left_at edges edges_are p q at inner in numbers_some (λ (x : Edge). nat_eq x.from p) 0 edges l.place l.edge l.stands (eq-eqb l.edge.from p l.from_is);
          returns = returns;
          exit_once = λ p q r x y own other. exit_at p r x own ∙ sym (exit_at q r y other);
          last_exit = ap (kind_at points) (sym main_exit) ∙ main.exit_kind;
          last_routine = ap (routine_at points) (sym main_exit) ∙ main.exit_own;
        }

pub flow_pairs : (f : Flow) → EdgesPair (length f.program.routines - 1) f.points f.edges
flow_pairs f =
    let exits = subst (λ ps. ExitsReturn ps f.edges) f.exact.points_are f.exits_return in
    subst (λ ps. EdgesPair (length f.program.routines - 1) ps f.edges) (sym f.exact.points_are) (edges_pair f.program (routines_marks 0 f.program.routines) refl (starts 0 0 f.program.routines) refl f.edges exits f.exact.edges_are)
