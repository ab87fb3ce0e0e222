-- The points of all routines: where each of them begins and ends.
use Rattle.std.proofs.Common.{◌≡◌, inl, inr, ℕ, zero, suc, ◌+◌, ◌-◌, ◌<◌, ◌≤◌, Bool, true, false, not, List, [], ◌∷◌, ◌++◌, map, length, length-append, append_assoc, refl, sym, ap, subst, ◌∙◌, Option, Some, None, nat_eq, arith}
use Rattle.std.proofs.lemmas.Bool.{and_parts, eqb-true, true≢false}
use Rattle.std.proofs.lemmas.Option.{none-some, slice_get_within}
use Rattle.std.specs.List.{list_all, slice_get, slice_index}
use Rattle.std.specs.Option.{option_map}
use Rattle.pas_program.specs.declared.routine.Routine.{Routine}
use Rattle.pas_program.specs.declared.statement.Arm.{Arm}
use Rattle.pas_program.specs.declared.statement.Body.{Body}
use Rattle.pas_program.specs.declared.statement.Body.TheOpen.{Body-F}
use Rattle.pas_program.specs.declared.statement.Body.TheViews.{out-Body, out-Statement}
use Rattle.pas_program.specs.declared.statement.Statement.{Statement}
use Rattle.pas_program.specs.Scopes.{is_begin, is_outermost}
use Rattle.control_points.specs.declared.numbering.Mark.{Mark}
use Rattle.control_points.specs.declared.point.Point.{Point}
use Rattle.control_points.specs.declared.point.PointKind.TheVariants as kind
use Rattle.control_points.specs.Extents.{part_points, routine_points}
use Rattle.control_points.specs.Fits.{routine_at, kind_at}
use Rattle.control_points.specs.Leading.{is_exit}
use Rattle.control_points.specs.Marks.{Marks, mark, part_marks, routine_marks, routines_marks, starts, statements_marks}
use Rattle.control_points.specs.Wired.{AreBlocks, IsBlock, is_exit_at, points_of}
use Rattle.control_points.proofs.Listed.{get_either, get_more, same_some}
use Rattle.control_points.proofs.Inside.{inside, statements_inside}

-- ---- elements

-- past a front
pub get_past : {A : Type 0} (xs ys : List A) (k : ℕ) → slice_get (xs ++ ys) (length xs + k) ≡ slice_get ys k
get_past [] ys k = let e : 0 + k ≡ k = omega arith in ap (slice_get ys) e
get_past (x ∷ xs) ys k = let e : suc (length xs) + k ≡ suc (length xs + k) = omega arith in ap (slice_get (x ∷ (xs ++ ys))) e ∙ get_past xs ys k

-- before a rest
pub get_front : {A : Type 0} (xs ys : List A) (k : ℕ) → k < length xs → slice_get (xs ++ ys) k ≡ slice_get xs k
get_front [] ys k h = absurd (omega arith)
get_front (x ∷ xs) ys zero h = refl
get_front (x ∷ xs) ys (suc k) h = get_front xs ys k (omega arith)

pub get_mapped : {A B : Type 0} (f : A → B) (xs : List A) (k : ℕ) → slice_get (map f xs) k ≡ option_map f (slice_get xs k)
get_mapped f [] k = refl
get_mapped f (x ∷ xs) zero = refl
get_mapped f (x ∷ xs) (suc k) = get_mapped f xs k

mark_routine : Marks → ℕ → Option ℕ
mark_routine ms p = option_map (λ (m : Mark). m.point.routine) (slice_get ms p)

fused : {A B C : Type 0} (g : B → C) (f : A → B) (o : Option A) → option_map g (option_map f o) ≡ option_map (λ x. g (f x)) o
fused g f None = refl
fused g f (Some x) = refl

pub routine_of_mark : (ms : Marks) (p : ℕ) (m : Mark) → slice_get ms p ≡ Some m → routine_at (points_of ms) p ≡ Some m.point.routine
routine_of_mark ms p m h = ap (option_map (λ (q : Point). q.routine)) (get_mapped (λ (x : Mark). x.point) ms p ∙ ap (option_map (λ (x : Mark). x.point)) h)

pub kind_of_mark : (ms : Marks) (p : ℕ) (m : Mark) → slice_get ms p ≡ Some m → kind_at (points_of ms) p ≡ Some m.point.kind
kind_of_mark ms p m h = ap (option_map (λ (q : Point). q.kind)) (get_mapped (λ (x : Mark). x.point) ms p ∙ ap (option_map (λ (x : Mark). x.point)) h)

-- an element of a list of which a test holds
tested : (p : Mark → Bool) (xs : Marks) (k : ℕ) → k < length xs → list_all p xs ≡ true → (m : Mark) × (slice_get xs k ≡ Some m) × (p m ≡ true)
tested p [] k h a = absurd (omega arith)
tested p (x ∷ xs) zero h a = (x, refl, (and_parts (p x) _ a).0)
tested p (x ∷ xs) (suc k) h a = tested p xs k (omega arith) (and_parts (p x) _ a).1

inside_own : (r : ℕ) (m : Mark) → inside r m ≡ true → m.point.routine ≡ r
unfolding inside
inside_own r m h = eqb-true m.point.routine r (and_parts (nat_eq m.point.routine r) _ h).0

not_true : (b : Bool) → not b ≡ true → b ≡ false
not_true true h = absurd (true≢false (sym h))
not_true false h = refl

inside_kind : (r : ℕ) (m : Mark) → inside r m ≡ true → is_exit m.point.kind ≡ false
unfolding inside
inside_kind r m h = not_true (is_exit m.point.kind) (and_parts (nat_eq m.point.routine r) _ h).1

-- ---- one routine among others

module _ (front inner rest : Marks) (r at end : ℕ) (own : list_all (inside r) inner ≡ true) where
  abbrev all : Marks
  all = front ++ ((mark r kind.Entry at ∷ (inner ++ mark r kind.Exit end ∷ [])) ++ rest)

  entry_found : slice_get all (length front) ≡ Some (mark r kind.Entry at)
  entry_found = let e : length front ≡ length front + 0 = omega arith in ap (slice_get all) e ∙ get_past front _ 0

  at_end : slice_get (inner ++ (mark r kind.Exit end ∷ rest)) (length inner) ≡ Some (mark r kind.Exit end)
  at_end = let e : length inner ≡ length inner + 0 = omega arith in ap (slice_get (inner ++ (mark r kind.Exit end ∷ rest))) e ∙ get_past inner (mark r kind.Exit end ∷ rest) 0

  exit_found : slice_get all (length front + suc (length inner)) ≡ Some (mark r kind.Exit end)
  exit_found =
      get_past front _ (suc (length inner))
      ∙ ap (λ xs. slice_get xs (length inner)) (append_assoc inner (mark r kind.Exit end ∷ []) rest)
      ∙ at_end

  inner_found : (k : ℕ) → k < length inner → slice_get all (length front + suc k) ≡ slice_get inner k
  inner_found k h =
      get_past front _ (suc k)
      ∙ ap (λ xs. slice_get xs k) (append_assoc inner (mark r kind.Exit end ∷ []) rest)
      ∙ get_front inner (mark r kind.Exit end ∷ rest) k h

  between : (p : ℕ) → length front < p → p < length front + suc (length inner) → (m : Mark) × (slice_get all p ≡ Some m) × (inside r m ≡ true)
  between p low high =
      let k = p - suc (length front) in
      let within : k < length inner = omega arith in
      let t = tested (inside r) inner k within own in
      let same : p ≡ length front + suc k = omega arith in
      (t.0, ap (slice_get all) same ∙ inner_found k within ∙ t.1, t.2)

  pub one_block : IsBlock (points_of all) r (length front) (length front + suc (length inner))
  one_block = record {
    order = omega arith;
    entry_own = routine_of_mark all _ _ entry_found;
    entry_kind = kind_of_mark all _ _ entry_found;
    exit_own = routine_of_mark all _ _ exit_found;
    exit_kind = kind_of_mark all _ _ exit_found;
    own = λ p low high. let m = between p low high in routine_of_mark all p m.0 m.1 ∙ ap Some (inside_own r m.0 m.2);
    inner = λ p low high. let m = between p low high in ap is_exit_at (kind_of_mark all p m.0 m.1) ∙ inside_kind r m.0 m.2;
  }

-- ---- all routines

pub starts_first : (n r : ℕ) (routines : List Routine) → slice_index (starts n r routines) 0 ≡ n
starts_first n r [] = refl
starts_first n r (d ∷ routines) = refl

pub starts_length : (n r : ℕ) (routines : List Routine) → length (starts n r routines) ≡ suc (length routines)
starts_length n r [] = refl
starts_length n r (d ∷ routines) = ap suc (starts_length (n + length (routine_marks r d)) (suc r) routines)

-- what a routine's statement part is made of
record Parts (r : ℕ) (d : Routine) : Type 0 where
  at : ℕ
  end : ℕ
  inner : Marks
  made : routine_marks r d ≡ mark r kind.Entry at ∷ (inner ++ mark r kind.Exit end ∷ [])
  own : list_all (inside r) inner ≡ true
  many : length inner ≡ routine_points d

parts_from : (r : ℕ) (d : Routine) (b : Body-F Body Arm Statement) → out-Body (out-Statement d.body).body ≡ b → is_begin b ≡ true → Parts r d
parts_from r d (Body-F.Begin body end) e h =
    let i = statements_inside r body in
    record {
      at = (out-Statement d.body).at;
      end = end;
      inner = statements_marks r body;
      made = ap (part_marks r (out-Statement d.body).at) e;
      own = i.all;
      many = i.count ∙ sym (ap part_points e);
    }
parts_from r d Body-F.Empty e h = absurd (true≢false (sym h))
parts_from r d (Body-F.Assign target value) e h = absurd (true≢false (sym h))
parts_from r d (Body-F.Copy target source) e h = absurd (true≢false (sym h))
parts_from r d (Body-F.Call routine actuals name) e h = absurd (true≢false (sym h))
parts_from r d (Body-F.Read targets line) e h = absurd (true≢false (sym h))
parts_from r d (Body-F.Write items line) e h = absurd (true≢false (sym h))
parts_from r d (Body-F.Goto routine label) e h = absurd (true≢false (sym h))
parts_from r d (Body-F.If cond first second) e h = absurd (true≢false (sym h))
parts_from r d (Body-F.Case selector arms) e h = absurd (true≢false (sym h))
parts_from r d (Body-F.While cond body) e h = absurd (true≢false (sym h))
parts_from r d (Body-F.Repeat body until cond) e h = absurd (true≢false (sym h))
parts_from r d (Body-F.For control bound first down last body) e h = absurd (true≢false (sym h))

parts_of : (r : ℕ) (d : Routine) → is_outermost d.body ≡ true → Parts r d
parts_of r d h = parts_from r d (out-Body (out-Statement d.body).body) refl (and_parts (is_begin (out-Body (out-Statement d.body).body)) _ h).0

abbrev pub AllOutermost : List Routine → Type 0
AllOutermost routines = (k : ℕ) (d : Routine) → slice_get routines k ≡ Some d → is_outermost d.body ≡ true

-- the routine at k, between its start and that of the next one
record BlockAt (ms : Marks) (first : ℕ) (routines : List Routine) (entries : List ℕ) (k : ℕ) : Type 0 where
  block : IsBlock (points_of ms) (first + k) (slice_index entries k) (slice_index entries (suc k) - 1)
  size : (d : Routine) → slice_get routines k ≡ Some d → slice_index entries k + routine_points d + 1 ≡ slice_index entries (suc k) - 1

same_head : (d x : Routine) → Some d ≡ Some x → d ≡ x
same_head d x h = cc

first_block : (front : Marks) (first : ℕ) (d : Routine) (routines : List Routine) → Parts first d → BlockAt (front ++ routines_marks first (d ∷ routines)) first (d ∷ routines) (starts (length front) first (d ∷ routines)) 0
first_block front first d routines p =
    let rest = routines_marks (suc first) routines in
    let whole : List Mark = mark first kind.Entry p.at ∷ (p.inner ++ mark first kind.Exit p.end ∷ []) in
    let long : length (routine_marks first d) ≡ length p.inner + 2 = ap length p.made ∙ ap suc (length-append p.inner (mark first kind.Exit p.end ∷ [])) ∙ omega arith in
    let next : slice_index (starts (length front) first (d ∷ routines)) 1 ≡ length front + length (routine_marks first d) = starts_first (length front + length (routine_marks first d)) (suc first) routines in
    let last : length front + suc (length p.inner) ≡ slice_index (starts (length front) first (d ∷ routines)) 1 - 1 = omega (arith, next, long) in
    let same : front ++ (whole ++ rest) ≡ front ++ (routine_marks first d ++ rest) = ap (λ xs. front ++ (xs ++ rest)) (sym p.made) in
    let here : first ≡ first + 0 = omega arith in
    record {
      block =
          subst (λ r. IsBlock (points_of (front ++ (routine_marks first d ++ rest))) r (length front) (slice_index (starts (length front) first (d ∷ routines)) 1 - 1)) here
          (subst (IsBlock (points_of (front ++ (routine_marks first d ++ rest))) first (length front)) last
          (subst (λ ms. IsBlock (points_of ms) first (length front) (length front + suc (length p.inner))) same
          (one_block front p.inner rest first p.at p.end p.own)));
      size = λ x h. ap (λ n. length front + n + 1) (sym (ap routine_points (same_head d x h)) ∙ sym p.many) ∙ (omega (arith, last));
    }

block_at : (front : Marks) (first : ℕ) (routines : List Routine) (k : ℕ) → k < length routines → AllOutermost routines → BlockAt (front ++ routines_marks first routines) first routines (starts (length front) first routines) k
block_at front first [] k h o = absurd (omega arith)
block_at front first (d ∷ routines) zero h o = first_block front first d routines (parts_of first d (o 0 d refl))
block_at front first (d ∷ routines) (suc k) h o =
    let b = block_at (front ++ routine_marks first d) (suc first) routines k (omega arith) (λ j x e. o (suc j) x e) in
    let same : (front ++ routine_marks first d) ++ routines_marks (suc first) routines ≡ front ++ routines_marks first (d ∷ routines) = append_assoc front (routine_marks first d) (routines_marks (suc first) routines) in
    let n : length (front ++ routine_marks first d) ≡ length front + length (routine_marks first d) = length-append front (routine_marks first d) in
    let r : suc first + k ≡ first + suc k = omega arith in
    let c = subst (λ m. BlockAt (front ++ routines_marks first (d ∷ routines)) (suc first) routines (starts m (suc first) routines) k) n
    (subst (λ ms. BlockAt ms (suc first) routines (starts (length (front ++ routine_marks first d)) (suc first) routines) k) same b) in
    record {
      block = subst (λ x. IsBlock (points_of (front ++ routines_marks first (d ∷ routines))) x (slice_index (starts (length front) first (d ∷ routines)) (suc k)) (slice_index (starts (length front) first (d ∷ routines)) (suc (suc k)) - 1)) r c.block;
      size = c.size;
    }

pub blocks_of : (routines : List Routine) → AllOutermost routines → AreBlocks (points_of (routines_marks 0 routines)) (length routines) (starts 0 0 routines)
blocks_of routines o = record {
  starts = starts_length 0 0 routines;
  block = λ r h. subst (λ x. IsBlock (points_of (routines_marks 0 routines)) x (slice_index (starts 0 0 routines) r) (slice_index (starts 0 0 routines) (suc r) - 1)) (omega arith) (block_at [] 0 routines r h o).block;
}

pub block_size : (routines : List Routine) → AllOutermost routines → (r : ℕ) (d : Routine) → r < length routines → slice_get routines r ≡ Some d → slice_index (starts 0 0 routines) r + routine_points d + 1 ≡ slice_index (starts 0 0 routines) (suc r) - 1
block_size routines o r d h e = (block_at [] 0 routines r h o).size d e

-- those of its statements, an entry and an exit
pub marks_count : (r : ℕ) (d : Routine) → is_outermost d.body ≡ true → length (routine_marks r d) ≡ routine_points d + 2
marks_count r d h = let p = parts_of r d h in omega (arith, ap length p.made, length-append p.inner (mark r kind.Exit p.end ∷ []), p.many)

-- an entry and an exit at least
pub marks_many : (r : ℕ) (d : Routine) → is_outermost d.body ≡ true → 2 ≤ length (routine_marks r d)
marks_many r d h = omega (arith, marks_count r d h)

-- each point is of one of the routines
below_first : (first more : ℕ) (m : Mark) → m.point.routine ≡ first → m.point.routine < first + suc more
below_first first more m e = omega (arith, e)

part_own : (r : ℕ) (d : Routine) (p : Parts r d) (k : ℕ) (m : Mark) → slice_get (mark r kind.Entry p.at ∷ (p.inner ++ mark r kind.Exit p.end ∷ [])) k ≡ Some m → m.point.routine ≡ r
part_own r d p zero m h = sym (ap (λ (x : Mark). x.point.routine) (same_some h))
part_own r d p (suc k) m h =
    elim (get_more p.inner (mark r kind.Exit p.end) k m h) [
      | inl g ↦ let t = tested (inside r) p.inner k (slice_get_within p.inner k m g) p.own in inside_own r m (subst (λ x. inside r x ≡ true) (same_some (sym t.1 ∙ g)) t.2)
      | inr g ↦ sym (ap (λ (x : Mark). x.point.routine) g.1)
    ]

pub routine_own : (r : ℕ) (d : Routine) → is_outermost d.body ≡ true → (k : ℕ) (m : Mark) → slice_get (routine_marks r d) k ≡ Some m → m.point.routine ≡ r
routine_own r d o k m h = let parts = parts_of r d o in part_own r d parts k m (ap (λ xs. slice_get xs k) (sym parts.made) ∙ h)

pub marks_below : (first : ℕ) (routines : List Routine) → AllOutermost routines → (p : ℕ) (m : Mark) → slice_get (routines_marks first routines) p ≡ Some m → m.point.routine < first + length routines
marks_below first [] o p m h = absurd (none-some m h)
marks_below first (d ∷ routines) o p m h =
    elim (get_either (routine_marks first d) (routines_marks (suc first) routines) p m h) [
      | inl g ↦ below_first first (length routines) m (routine_own first d (o 0 d refl) p m g)
      | inr g ↦ let b = marks_below (suc first) routines (λ k x e. o (suc k) x e) (p - length (routine_marks first d)) m g.1 in omega (arith, b)
    ]

-- a routine's number is at most that of its entry
pub starts_grow : (n first : ℕ) (routines : List Routine) → AllOutermost routines → (r : ℕ) → r < length routines → n + r ≤ slice_index (starts n first routines) r
starts_grow n first [] o r h = absurd (omega arith)
starts_grow n first (d ∷ routines) o zero h = omega arith
starts_grow n first (d ∷ routines) o (suc r) h =
    let b = starts_grow (n + length (routine_marks first d)) (suc first) routines (λ k x e. o (suc k) x e) r (omega arith) in
    let many = marks_many first d (o 0 d refl) in
    omega (arith, b, many)
