-- All routines by paths, one after another: their points, how often each stands there, and the numbers of entries, exits and labels.
use Rattle.std.proofs.Common.{◌≡◌, ℕ, zero, suc, ◌+◌, ◌-◌, true, List, [], ◌∷◌, ◌++◌, map, length, length-append, append_assoc, take, drop, refl, sym, ap, subst, ◌∙◌, Option, Some, nat_eq, nat_le, arith}
use Rattle.std.proofs.lemmas.Bool.{and_parts, eqb-true}
use Rattle.std.proofs.lemmas.List.{map-append}
use Rattle.std.proofs.lemmas.Option.{none-some}
use Rattle.std.specs.List.{slice_get, slice_index, slice_range}
use Rattle.std.specs.Option.{option_map, unwrap_or}
use Rattle.pas_program.specs.declared.routine.Assert.{Assert}
use Rattle.pas_program.specs.declared.routine.Routine.{Routine}
use Rattle.pas_program.specs.declared.statement.Body.TheOpen.{Body-F}
use Rattle.pas_program.specs.declared.statement.Body.TheViews.{out-Body, out-Statement}
use Rattle.pas_program.specs.declared.statement.Statement.{Statement}
use Rattle.pas_program.specs.Labels.{count_labelled}
use Rattle.pas_program.specs.Scopes.{is_begin, is_outermost}
use Rattle.pas_program.specs.Tables.{Tables}
use Rattle.control_points.specs.declared.numbering.Mark.{Mark}
use Rattle.control_points.specs.Labelled.{label_in}
use Rattle.control_points.specs.Marks.{Marks, part_marks, routine_marks, routines_marks, starts}
use Rattle.control_points.specs.Sites.{Piece, Placed, Site, block_piece, entry_of, exit_of, in_order, nothing, path_of, point_at, routines_piece, statement_labels}
use Rattle.control_points.specs.Wired.{asserts_of, points_of}
use Rattle.control_points.proofs.Blocks.{starts_first}
use Rattle.control_points.proofs.Listed.{same_some}
use Rattle.control_points.proofs.PathsBlocks.{IsBegin, begin_of, block, block_marked, block_once, labels_of_block}
use Rattle.control_points.proofs.PathsLabels.{labels_counted, labels_lead}
use Rattle.control_points.proofs.PathsLevels.{placed}
use Rattle.control_points.proofs.PathsLists.{EachFrom, bit, each_first, each_front, each_past}
use Rattle.control_points.proofs.PathsMarked.{IsMarked, asserts_of_placed, before_at, first_of, marked_many, site_number}
use Rattle.control_points.proofs.PathsOnce.{IsOnce, at_place, next_test, once_both, once_nothing, once_within, within, within_tested}

abbrev pub AllOutermost : List Routine → Type 0
AllOutermost routines = (k : ℕ) (d : Routine) → slice_get routines k ≡ Some d → is_outermost d.body ≡ true

pub begins : (d : Routine) → is_outermost d.body ≡ true → IsBegin (out-Body (out-Statement d.body).body)
begins d h = begin_of (out-Body (out-Statement d.body).body) (and_parts (is_begin (out-Body (out-Statement d.body).body)) _ h).0

module _ (t : Tables) (asserts : List Assert) (label : ℕ → ℕ → Site) where
  abbrev pub routine_block : ℕ → Routine → Piece
  routine_block r d = block_piece t asserts r label (out-Statement d.body).at d.result (out-Body (out-Statement d.body).body)

  pub routine_marked : (r : ℕ) (d : Routine) → is_outermost d.body ≡ true → IsMarked r (routine_block r d).points (routine_marks r d) (statement_labels d.body [])
  routine_marked r d h =
      let b = begins d h in
      subst (λ z. IsMarked r (block_piece t asserts r label (out-Statement d.body).at d.result z).points (part_marks r (out-Statement d.body).at z) (statement_labels d.body [])) (sym b.is)
      (subst (λ ls. IsMarked r (block t asserts r label (out-Statement d.body).at d.result b.body b.end).points (part_marks r (out-Statement d.body).at (Body-F.Begin b.body b.end)) ls) (sym (labels_of_block d.body b.body b.end b.is h))
      (block_marked t asserts r label (out-Statement d.body).at d.result b.body b.end))

  pub routine_many : (r : ℕ) (d : Routine) → is_outermost d.body ≡ true → length (routine_block r d).points ≡ length (routine_marks r d)
  routine_many r d h = marked_many r _ _ _ (routine_marked r d h)

  pub routines_points : (first : ℕ) (routines : List Routine) → AllOutermost routines → map point_at (routines_piece t asserts label first routines).points ≡ points_of (routines_marks first routines)
  routines_points first [] o = refl
  routines_points first (d ∷ routines) o =
      let front = (routine_block first d).points in
      let rest = (routines_piece t asserts label (suc first) routines).points in
      map-append point_at front rest
      ∙ ap (λ ps. ps ++ map point_at rest) (routine_marked first d (o 0 d refl)).are
      ∙ ap (λ ps. points_of (routine_marks first d) ++ ps) (routines_points (suc first) routines (λ k e i. o (suc k) e i))
      ∙ sym (map-append (λ (m : Mark). m.point) (routine_marks first d) (routines_marks (suc first) routines))

  pub routines_listed : (first : ℕ) (routines : List Routine) → AllOutermost routines → map asserts_of_placed (routines_piece t asserts label first routines).points ≡ asserts_of (routines_marks first routines)
  routines_listed first [] o = refl
  routines_listed first (d ∷ routines) o =
      let front = (routine_block first d).points in
      let rest = (routines_piece t asserts label (suc first) routines).points in
      map-append asserts_of_placed front rest
      ∙ ap (λ ls. ls ++ map asserts_of_placed rest) (routine_marked first d (o 0 d refl)).listed
      ∙ ap (λ ls. asserts_of (routine_marks first d) ++ ls) (routines_listed (suc first) routines (λ k e i. o (suc k) e i))
      ∙ sym (map-append (λ (m : Mark). m.asserts) (routine_marks first d) (routines_marks (suc first) routines))

  -- ---- how often a point stands there

  routine_once : (x : Site) (r : ℕ) (d : Routine) → is_outermost d.body ≡ true → IsOnce x (routine_block r d) 0 (bit (nat_eq r x.routine))
  routine_once x r d h =
      let b = begins d h in
      subst (λ n. IsOnce x (routine_block r d) 0 n) (within_tested (nat_eq r x.routine) x.path)
      (subst (λ z. IsOnce x (block_piece t asserts r label (out-Statement d.body).at d.result z) 0 (within (at_place x r []))) (sym b.is) (block_once t asserts r label (out-Statement d.body).at d.result b.body b.end x))

  pub routines_once : (x : Site) (first : ℕ) (routines : List Routine) → AllOutermost routines → IsOnce x (routines_piece t asserts label first routines) 0 (bit (nat_le first x.routine))
  routines_once x first [] o = once_within x nothing 0 0 0 _ (omega arith) (omega arith) (once_nothing x)
  routines_once x first (d ∷ routines) o =
      let s = next_test first x.routine in
      once_within x _ (0 + 0) 0 _ _ (omega arith) s
      (once_both x (routine_block first d) (routines_piece t asserts label (suc first) routines) 0 0 _ _ (routine_once x first d (o 0 d refl)) (routines_once x (suc first) routines (λ k e i. o (suc k) e i)))

-- ---- the marks of one routine among all

take_front : {A : Type 0} (xs ys : List A) → take (length xs) (xs ++ ys) ≡ xs
take_front [] ys = refl
take_front (x ∷ xs) ys = ap (λ zs. x ∷ zs) (take_front xs ys)

drop_front : {A : Type 0} (xs ys : List A) → drop (length xs) (xs ++ ys) ≡ ys
drop_front [] ys = refl
drop_front (x ∷ xs) ys = drop_front xs ys

middle : (front ms rest : Marks) (m n : ℕ) → m ≡ length front → n ≡ length front + length ms → slice_range (front ++ (ms ++ rest)) m n ≡ ms
middle front ms rest m n a b =
    let long : n - m ≡ length ms = omega (arith, a, b) in
    ap (λ k. take (n - m) (drop k (front ++ (ms ++ rest)))) a ∙ ap (take (n - m)) (drop_front front (ms ++ rest)) ∙ ap (λ k. take k (ms ++ rest)) long ∙ take_front ms rest

pub routine_range : (front : Marks) (first : ℕ) (routines : List Routine) (k : ℕ) (d : Routine) → slice_get routines k ≡ Some d
    → slice_range (front ++ routines_marks first routines) (slice_index (starts (length front) first routines) k) (slice_index (starts (length front) first routines) (suc k)) ≡ routine_marks (first + k) d
routine_range front first [] k d h = absurd (none-some d h)
routine_range front first (x ∷ routines) zero d h =
    let here : first ≡ first + 0 = omega arith in
    middle front (routine_marks first x) (routines_marks (suc first) routines) (length front) _ refl (starts_first (length front + length (routine_marks first x)) (suc first) routines)
    ∙ ap (routine_marks first) (same_some h) ∙ ap (λ n. routine_marks n d) here
routine_range front first (x ∷ routines) (suc k) d h =
    let n = length-append front (routine_marks first x) in
    let there : suc first + k ≡ first + suc k = omega arith in
    let next = starts (length front + length (routine_marks first x)) (suc first) routines in
    ap (λ ms. slice_range ms (slice_index next k) (slice_index next (suc k))) (sym (append_assoc front (routine_marks first x) (routines_marks (suc first) routines)))
    ∙ ap (λ m. slice_range ((front ++ routine_marks first x) ++ routines_marks (suc first) routines) (slice_index (starts m (suc first) routines) k) (slice_index (starts m (suc first) routines) (suc k))) (sym n)
    ∙ routine_range (front ++ routine_marks first x) (suc first) routines k d h
    ∙ ap (λ m. routine_marks m d) there

-- ---- the numbers of entries, exits and labels

some_number : (o : Option ℕ) (n z : ℕ) → Some n ≡ o → n ≡ unwrap_or o z
some_number o n z e = ap (λ p. unwrap_or p z) e

module _ (t : Tables) (asserts : List Assert) (label : ℕ → ℕ → Site) (g : Site → ℕ) where
  -- of the routine r, whose points begin with the number m and end before n
  pub record IsKnown (r : ℕ) (d : Routine) (m n : ℕ) : Type 0 where
    pub entry : g (entry_of r) ≡ m
    pub exit : g (exit_of r) ≡ n - 1
    pub jump : (j z : ℕ) → nat_eq (count_labelled j d.body) 1 ≡ true → g (before_at r (path_of (statement_labels d.body []) j)) ≡ unwrap_or (label_in m (routine_marks r d) j) z

  block_known : (r begin : ℕ) (result : Option ℕ) (body : List Statement) (end m n : ℕ) → EachFrom (λ k (x : Placed). g x.site ≡ k) m (block t asserts r label begin result body end).points → n ≡ m + length (part_marks r begin (Body-F.Begin body end))
      → (g (entry_of r) ≡ m) × (g (exit_of r) ≡ n - 1)
  block_known r begin result body end m n known is =
      let P = λ (k : ℕ) (x : Placed). g x.site ≡ k in
      let order = (in_order t asserts r 0 (map (placed t asserts r label) body) [] (exit_of r)).points in
      let last : Placed = record { site = exit_of r; at = end; asserts = [] } in
      let first : Placed = record { site = entry_of r; at = begin; asserts = [] } in
      let many = marked_many r _ _ _ (block_marked t asserts r label begin result body end) in
      let long = length-append order (last ∷ []) in
      let rest = each_past P m (m + 1) (first ∷ []) (order ++ last ∷ []) refl known in
      let at : n - 1 ≡ m + 1 + length order = omega (arith, is, many, long) in
      (each_first P m first (order ++ last ∷ []) known, each_first P (n - 1) last [] (each_past P (m + 1) (n - 1) order (last ∷ []) at rest))

  routine_known : (r : ℕ) (d : Routine) (m n : ℕ) → is_outermost d.body ≡ true → EachFrom (λ k (x : Placed). g x.site ≡ k) m (routine_block t asserts label r d).points → n ≡ m + length (routine_marks r d) → IsKnown r d m n
  routine_known r d m n h known is =
      let b = begins d h in
      let at = (out-Statement d.body).at in
      let ends = block_known r at d.result b.body b.end m n
      (subst (λ z. EachFrom (λ k (x : Placed). g x.site ≡ k) m (block_piece t asserts r label at d.result z).points) b.is known)
      (is ∙ ap (λ z. m + length (part_marks r at z)) b.is) in
      let marked = routine_marked t asserts label r d h in
      record {
        entry = ends.0;
        exit = ends.1;
        jump = λ j z one.
            let path = path_of (statement_labels d.body []) j in
            let counted = labels_counted j d.body [] in
            let found : first_of (statement_labels d.body []) j ≡ Some path = labels_lead (statement_labels d.body []) j (omega (arith, counted, eqb-true (count_labelled j d.body) 1 one)) in
            some_number (label_in m (routine_marks r d) j) (g (before_at r path)) z
            (ap (λ o. option_map g (option_map (before_at r) o)) (sym found)
            ∙ ap (option_map g) (marked.found j)
            ∙ site_number g m j (routine_block t asserts label r d).points (routine_marks r d) (routine_many t asserts label r d h) known);
      }

  pub routines_known : (m first : ℕ) (routines : List Routine) → AllOutermost routines → EachFrom (λ k (x : Placed). g x.site ≡ k) m (routines_piece t asserts label first routines).points
      → (k : ℕ) (d : Routine) → slice_get routines k ≡ Some d → IsKnown (first + k) d (slice_index (starts m first routines) k) (slice_index (starts m first routines) (suc k))
  routines_known m first [] o known k d h = absurd (none-some d h)
  routines_known m first (x ∷ routines) o known zero d h =
      let here : first ≡ first + 0 = omega arith in
      let front = (routine_block t asserts label first x).points in
      let next : slice_index (starts m first (x ∷ routines)) 1 ≡ m + length (routine_marks first x) = starts_first (m + length (routine_marks first x)) (suc first) routines in
      subst (λ r. IsKnown r d m (slice_index (starts m first (x ∷ routines)) 1)) here
      (subst (λ y. IsKnown first y m (slice_index (starts m first (x ∷ routines)) 1)) (same_some h)
      (routine_known first x m (slice_index (starts m first (x ∷ routines)) 1) (o 0 x refl) (each_front (λ k (y : Placed). g y.site ≡ k) m front (routines_piece t asserts label (suc first) routines).points known) next))
  routines_known m first (x ∷ routines) o known (suc k) d h =
      let there : suc first + k ≡ first + suc k = omega arith in
      let n = m + length (routine_marks first x) in
      let front = (routine_block t asserts label first x).points in
      let many : n ≡ m + length front = ap (λ j. m + j) (sym (routine_many t asserts label first x (o 0 x refl))) in
      subst (λ r. IsKnown r d (slice_index (starts n (suc first) routines) k) (slice_index (starts n (suc first) routines) (suc k))) there
      (routines_known n (suc first) routines (λ j y i. o (suc j) y i) (each_past (λ j (y : Placed). g y.site ≡ j) m n front (routines_piece t asserts label (suc first) routines).points many known) k d h)
