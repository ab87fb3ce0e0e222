-- What is kept of a label is right.
use Rattle.std.proofs.Common.{◌≡◌, inl, inr, ℕ, zero, suc, ◌≤◌, Bool, true, false, List, [], ◌∷◌, ◌++◌, Option, Some, None, refl, sym, ap, subst, ◌∙◌, nat_le, arith, nat_eq}
use Rattle.std.specs.Prelude.{◌↔◌, ◌&&◌}
use Rattle.std.proofs.lemmas.Bool.Decides.{nat_tests}
use Rattle.pas_tree.specs.declared.block.Label.{Label}
use Rattle.pas_tree.specs.declared.statement.Statement.{Statement}
use Rattle.pas_check.specs.declared.label.LabelDecl.{LabelDecl}
use Rattle.pas_check.specs.declared.label.Placement.{Placement}
use Rattle.indexmap.specs.IndexMap.{get}
use Rattle.pas_check.specs.Labels.{IsInside, Labels, MayReach, Path, may_reach}
use Rattle.pas_check.specs.Labels.MayReach.{containing, member}
use Rattle.pas_check.specs.Placing.{Branches, Container, Form, IsGotoAt, IsPlacedRightly, IsRightPlacement, Leaves, Mark, Members, Node, Notes, Nothing, Other, Outline, PlacesRise, Rises, Sequence, Then, container, first_of, first_place, has_sequence, is_sequence, is_sequence_form, last_place, marks, noted, outermost_of, outline, sequence_marks, statement_at}
use Rattle.std.proofs.lemmas.List.{append-nil}
use Rattle.pas_check.proofs.Reaching.{Lies, first_covers, first_from, inside_by, last_covers, lies, node_end, some_is, statement_below, strictly, within}
use Rattle.pas_check.proofs.ReachingMarks.{IsChosen, IsFrom, container_at, each_marked, first_chosen, first_least, inner_container, of_statement, outer_container, parent, placed_in}

-- ---- the tests of places

both_le : (a b c : ℕ) → (nat_le a b && nat_le b c) ≡ true → (a ≤ b) × (b ≤ c)
both_le a b c e = (grind (arith, nat_tests), grind (arith, nat_tests))

le_both : (a b c : ℕ) → a ≤ b → b ≤ c → (nat_le a b && nat_le b c) ≡ true
le_both a b c first last = grind (arith, nat_tests)

-- the last step of a path
last_step : (k : ℕ) (q : Path) → (s : Path) × (j : ℕ) × (k ∷ q ≡ s ++ j ∷ [])
last_step k [] = ([], k, refl)
last_step k (i ∷ q) = let w = last_step i q in (k ∷ w.0, w.1, ap (λ (x : Path). k ∷ x) w.2)

all_but_last : Path → Path
all_but_last [] = []
all_but_last (k ∷ []) = []
all_but_last (k ∷ (i ∷ q)) = k ∷ all_but_last (i ∷ q)

all_but_last_is : (s : Path) (k : ℕ) → all_but_last (s ++ k ∷ []) ≡ s
unfolding all_but_last
all_but_last_is [] k = refl
all_but_last_is (j ∷ []) k = refl
all_but_last_is (j ∷ (i ∷ s)) k = ap (λ (x : Path). j ∷ x) (all_but_last_is (i ∷ s) k)

prefix_same : (t s : Path) (i k : ℕ) → t ++ i ∷ [] ≡ s ++ k ∷ [] → t ≡ s
prefix_same t s i k e = sym (all_but_last_is t i) ∙ ap all_but_last e ∙ all_but_last_is s k

form_is : (s : Path) (o : Outline) (j : ℕ) (b : Node) → statement_at o (j ∷ s) ≡ Some b → is_sequence o (j ∷ s) ≡ is_sequence_form b.shape.form
form_is s o j b e = ap has_sequence e

module _ (o : Outline) (least end : ℕ) (r : Rises least o end) (p : Path) (at : ℕ) (goto : IsGotoAt o p at) where
  -- a member of the outermost sequence may be reached from anywhere
  outer : (k : ℕ) → MayReach (is_sequence o) p (k ∷ [])
  outer k = member [] k refl (record { inner = p; leads = refl })

  module _ (j : ℕ) (s : Path) (k : ℕ) (n b : Node) (l : Label) (en : statement_at o (j ∷ (s ++ k ∷ [])) ≡ Some n) (eb : statement_at o (j ∷ s) ≡ Some b) where
    path : Path
    path = j ∷ (s ++ k ∷ [])

    in_b : statement_at b.inner (k ∷ []) ≡ Some n
    in_b = sym (statement_below o (j ∷ s) b k [] eb) ∙ en

    Agrees : Container → Type 0
    Agrees c = (may_reach true at (placed_in c n l) ≡ true) ↔ MayReach (is_sequence o) p path

    -- inside the sequence, but not at its statement
    strictly_in : b.shape.form ≡ Sequence → IsInside p (j ∷ s) → (first_place b.inner ≤ at) × (at ≤ last_place b.inner)
    strictly_in is inside = by inside.inner inside.leads
      where
        by : (more : Path) → p ≡ (j ∷ s) ++ more → (first_place b.inner ≤ at) × (at ≤ last_place b.inner)
        by [] leads =
            let same : b ≡ goto.node = some_is b goto.node (sym eb ∙ ap (statement_at o) (sym (append-nil (j ∷ s)) ∙ sym leads) ∙ goto.stands) in
            let forms : Sequence ≡ Leaves = sym is ∙ ap (λ (m : Node). m.shape.form) same ∙ goto.leaves in absurd (cc)
        by (i ∷ more) leads =
            let w = strictly o least end r (j ∷ s) p b goto.node eb goto.stands i more leads in
            (omega (arith, w.0, goto.place), omega (arith, w.1, goto.place))

    in_sequence : b.shape.form ≡ Sequence → Agrees (Members (first_place b.inner) (last_place b.inner) false)
    unfolding Agrees path in_b
    in_sequence is = (there, back)
      where
        wb : Lies least b end
        wb = lies o (j ∷ s) least end b r eb

        first_n : first_place b.inner ≤ n.shape.at
        first_n = first_covers b.inner (k ∷ []) (suc b.shape.at) wb.until n wb.inner in_b

        last_n : node_end n ≤ last_place b.inner
        last_n = last_covers b.inner (k ∷ []) n in_b

        there : (nat_le (first_place b.inner) at && nat_le at (last_place b.inner)) ≡ true → MayReach (is_sequence o) p path
        there e =
            let w = both_le (first_place b.inner) at (last_place b.inner) e in
            let from : b.shape.at ≤ goto.node.shape.at = omega (arith, w.0, goto.place, first_from b.inner (k ∷ []) (suc b.shape.at) wb.until n wb.inner in_b) in
            let until : goto.node.shape.at ≤ node_end b = omega (arith, w.1, goto.place) in
            member (j ∷ s) k (form_is s o j b eb ∙ ap is_sequence_form is) (within o (j ∷ s) p least end b goto.node r eb goto.stands from until)

        back_by : (q : Path) → q ≡ path → MayReach (is_sequence o) p q → (nat_le (first_place b.inner) at && nat_le at (last_place b.inner)) ≡ true
        back_by q same (containing inside) =
            let w = inside_by o least end r path p n goto.node en goto.stands inside.inner (inside.leads ∙ ap (λ (x : Path). x ++ inside.inner) same) in
            le_both (first_place b.inner) at (last_place b.inner) (omega (arith, w.0, first_n, goto.place)) (omega (arith, w.1, last_n, goto.place))
        back_by q same (member t i seq inside) =
            let w = strictly_in is (subst (λ (x : Path). IsInside p x) (prefix_same t (j ∷ s) i k same) inside) in
            le_both (first_place b.inner) at (last_place b.inner) w.0 w.1

        back : MayReach (is_sequence o) p path → (nat_le (first_place b.inner) at && nat_le at (last_place b.inner)) ≡ true
        back h = back_by path refl h

    in_branch : (is_sequence_form b.shape.form ≡ false) → Agrees Branches
    unfolding Agrees path
    in_branch is = (there, back)
      where
        there : (nat_le n.shape.at at && nat_le at (node_end n)) ≡ true → MayReach (is_sequence o) p path
        there e =
            let w = both_le n.shape.at at (node_end n) e in
            containing (within o path p least end n goto.node r en goto.stands (omega (arith, w.0, goto.place)) (omega (arith, w.1, goto.place)))

        back_by : (q : Path) → q ≡ path → MayReach (is_sequence o) p q → (nat_le n.shape.at at && nat_le at (node_end n)) ≡ true
        back_by q same (containing inside) =
            let w = inside_by o least end r path p n goto.node en goto.stands inside.inner (inside.leads ∙ ap (λ (x : Path). x ++ inside.inner) same) in
            le_both n.shape.at at (node_end n) (omega (arith, w.0, goto.place)) (omega (arith, w.1, goto.place))
        back_by q same (member t i seq inside) =
            let none : is_sequence o t ≡ false = ap (is_sequence o) (prefix_same t (j ∷ s) i k same) ∙ form_is s o j b eb ∙ is in absurd (cc)

        back : MayReach (is_sequence o) p path → (nat_le n.shape.at at && nat_le at (node_end n)) ≡ true
        back h = back_by path refl h

    by_form : (f : Form) → b.shape.form ≡ f → Agrees (container f b.inner)
    by_form Sequence is = in_sequence is
    by_form Leaves is = in_branch (ap is_sequence_form is)
    by_form Other is = in_branch (ap is_sequence_form is)

    agrees : Agrees (container_at (outermost_of o true) o path)
    unfolding path
    agrees = subst Agrees (sym (inner_container (outermost_of o true) o (j ∷ s) k b eb)) (by_form b.shape.form refl)

  reach_split : (s : Path) (k : ℕ) (n : Node) (l : Label) → statement_at o (s ++ k ∷ []) ≡ Some n
      → (may_reach true at (placed_in (container_at (outermost_of o true) o (s ++ k ∷ [])) n l) ≡ true) ↔ MayReach (is_sequence o) p (s ++ k ∷ [])
  unfolding Agrees path
  reach_split [] k n l e =
      let Same : Container → Type 0 = λ c. (may_reach true at (placed_in c n l) ≡ true) ↔ MayReach (is_sequence o) p (k ∷ []) in
      subst Same (sym (outer_container (outermost_of o true) o k)) ((λ x. outer k), (λ h. refl))
  reach_split (j ∷ s) k n l e = let b = parent o j s k n e in agrees j s k n b.0 l e b.1

  pub reach_by : (q : Path) (n : Node) (l : Label) → statement_at o q ≡ Some n
      → (may_reach true at (placed_in (container_at (outermost_of o true) o q) n l) ≡ true) ↔ MayReach (is_sequence o) p q
  reach_by [] n l e = absurd (cc)
  reach_by (k ∷ q) n l e =
      let w = last_step k q in
      let Same : Path → Type 0 = λ x. (may_reach true at (placed_in (container_at (outermost_of o true) o x) n l) ≡ true) ↔ MayReach (is_sequence o) p x in
      subst Same (sym w.2) (reach_split w.0 w.1 n l (subst (λ (x : Path). statement_at o x ≡ Some n) w.2 e))

-- ---- inner routines

is_outer : Container → Bool
is_outer (Members first last outermost) = outermost
is_outer Branches = false

container_inner : (f : Form) (o : Outline) → is_outer (container f o) ≡ false
unfolding is_outer
container_inner Leaves o = refl
container_inner Sequence o = refl
container_inner Other o = refl

keeps_inner : (c : Container) (o : Outline) (q : Path) → is_outer c ≡ false → is_outer (container_at c o q) ≡ false
keeps_inner c o [] h = h
keeps_inner c Nothing (k ∷ q) h = h
keeps_inner c (Then s inner rest) (zero ∷ []) h = h
keeps_inner c (Then s inner rest) (zero ∷ (j ∷ q)) h = keeps_inner (container s.form inner) inner (j ∷ q) (container_inner s.form inner)
keeps_inner c (Then s inner rest) (suc k ∷ q) h = keeps_inner c rest (k ∷ q) h

deep : (c : Container) (o : Outline) (k i : ℕ) (q : Path) (n : Node) → statement_at o (k ∷ (i ∷ q)) ≡ Some n → is_outer (container_at c o (k ∷ (i ∷ q))) ≡ false
deep c Nothing k i q n e = absurd (cc)
deep c (Then s inner rest) zero i q n e = keeps_inner (container s.form inner) inner (i ∷ q) (container_inner s.form inner)
deep c (Then s inner rest) (suc k) i q n e = deep c rest k i q n e

from_inside_by : (c : Container) (n : Node) (l : Label) (at : ℕ) → may_reach false at (placed_in c n l) ≡ is_outer c
unfolding is_outer
from_inside_by (Members first last true) n l at = refl
from_inside_by (Members first last false) n l at = refl
from_inside_by Branches n l at = refl

from_inside_of : (o : Outline) (q : Path) (n : Node) (l : Label) (at : ℕ) → statement_at o q ≡ Some n
    → (may_reach false at (placed_in (container_at (outermost_of o true) o q) n l) ≡ true) ↔ ((k : ℕ) × (q ≡ k ∷ []))
unfolding is_outer
from_inside_of o [] n l at e = absurd (cc)
from_inside_of o (k ∷ []) n l at e =
    ((λ h. (k, refl)), (λ h. from_inside_by (container_at (outermost_of o true) o (k ∷ [])) n l at ∙ ap is_outer (outer_container (outermost_of o true) o k)))
from_inside_of o (k ∷ (i ∷ q)) n l at e =
    let inner : may_reach false at (placed_in (container_at (outermost_of o true) o (k ∷ (i ∷ q))) n l) ≡ false = from_inside_by (container_at (outermost_of o true) o (k ∷ (i ∷ q))) n l at ∙ deep (outermost_of o true) o k i q n e in
    ((λ h. let same : true ≡ false = sym h ∙ inner in absurd (cc)), (λ h. let same : k ∷ (i ∷ q) ≡ h.0 ∷ [] = h.1 in absurd (cc)))

-- ---- the law

placed_at : (c : Container) (n : Node) (l : Label) → (placed_in c n l).at ≡ l.at.start
placed_at (Members first last outermost) n l = refl
placed_at Branches n l = refl

module _ (o : Outline) (least end : ℕ) (r : Rises least o end) (value : ℕ) where
  pub all_marks : List Mark
  all_marks = marks (outermost_of o true) o

  right : (placed : Placement) → first_of value all_marks None ≡ Some placed → IsChosen value all_marks placed → IsRightPlacement o value placed
  unfolding all_marks
  right placed e w =
      let f = of_statement (outermost_of o true) o w.chosen w.among in
      let is : placed_in (container_at (outermost_of o true) o f.path) f.node f.label ≡ placed = sym (ap (λ (m : Mark). m.placement) f.is) ∙ w.is in
      record {
        path = f.path;
        label = f.label;
        stands = record { node = f.node; stands = f.stands; has = f.has };
        same = sym (ap (λ (m : Mark). m.value) f.is) ∙ w.same;
        here = sym (placed_at (container_at (outermost_of o true) o f.path) f.node f.label) ∙ ap (λ (x : Placement). x.at) is;
        first = λ q l h same.
            let m = each_marked (outermost_of o true) o q h.node l h.stands h.has in
            let first : IsFrom (Some placed) m.marked.placement.at = subst (λ (x : Option Placement). IsFrom x m.marked.placement.at) e (first_least value (marks (outermost_of o true) o) None m.marked m.among (m.same ∙ same)) in
            subst (λ (x : ℕ). placed.at ≤ x) m.here first;
        reach = λ p at goto. subst (λ (x : Placement). (may_reach true at x ≡ true) ↔ MayReach (is_sequence o) p f.path) is (reach_by o least end r p at goto f.path f.node f.label f.stands);
        from_inside = λ at. subst (λ (x : Placement). (may_reach false at x ≡ true) ↔ ((k : ℕ) × (f.path ≡ k ∷ []))) is (from_inside_of o f.path f.node f.label at f.stands);
      }

  rightly : (placed : Option Placement) → first_of value all_marks None ≡ placed → IsPlacedRightly o value placed
  unfolding all_marks
  rightly None e = λ q l h same.
      let m = each_marked (outermost_of o true) o q h.node l h.stands h.has in
      subst (λ (x : Option Placement). IsFrom x m.marked.placement.at) e (first_least value (marks (outermost_of o true) o) None m.marked m.among (m.same ∙ same))
  rightly (Some placed) e = elim (first_chosen value (marks (outermost_of o true) o) None placed e) [ inl none ↦ absurd (cc) | inr w ↦ right placed e w ]

  pub law : (d after : LabelDecl) → d.placed ≡ None → noted value all_marks (Some d) ≡ Some after → IsPlacedRightly o value after.placed
  unfolding all_marks
  law d after none e =
      rightly after.placed
      (ap (first_of value (marks (outermost_of o true) o)) (sym none)
      ∙ ap (λ (x : LabelDecl). x.placed) (some_is (record { at = d.at; placed = first_of value (marks (outermost_of o true) o) d.placed }) after e))

pub places_law : (body : List Statement) → PlacesRise body → (before after : Labels) → Notes before (sequence_marks body true) after
    → (value : ℕ) (declared placed : LabelDecl) → get nat_eq before value ≡ Some declared → declared.placed ≡ None → get nat_eq after value ≡ Some placed
    → IsPlacedRightly (outline body) value placed.placed
unfolding all_marks
places_law body rise before after notes value declared placed old none new =
    law (outline body) rise.first rise.end rise.rise value declared placed none (ap (noted value (sequence_marks body true)) (sym old) ∙ sym (notes value) ∙ new)
