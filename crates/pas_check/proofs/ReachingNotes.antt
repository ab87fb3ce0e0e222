-- The labels of statements, one after the other.
use Rattle.std.proofs.Common.{◌≡◌, ℕ, ◌+◌, ◌<◌, Bool, false, List, [], ◌∷◌, ◌++◌, length, get_or, drop, map, Option, Some, None, refl, sym, ap, ◌∙◌, nat_eq, if◌then◌else◌, arith, nat_cmp}
use Rattle.std.specs.Prelude.{max}
use Rattle.std.proofs.Math.Nat.{max-zero}
use Rattle.std.specs.Option.{option_map}
use Rattle.std.specs.Ordering.{ord_max}
use Rattle.std.proofs.lemmas.Bool.Decides.{nat_tests}
use Rattle.pas_tree.specs.declared.expr.Expr.{Expr}
use Rattle.pas_tree.specs.declared.statement.Body.{Body}
use Rattle.pas_tree.specs.declared.statement.Body.TheFolds.{fold-roll-Body, fold_out-Element, fold_out-Statement}
use Rattle.pas_tree.specs.declared.statement.Body.TheOpen.{Body-F}
use Rattle.pas_tree.specs.declared.statement.Body.TheVariants as form
use Rattle.pas_tree.specs.declared.statement.Body.TheViews.{out-Element, out-Statement}
use Rattle.pas_tree.specs.declared.statement.Element.{Element}
use Rattle.pas_tree.specs.declared.statement.Statement.{Statement}
use Rattle.pas_check.specs.declared.label.LabelDecl.{LabelDecl}
use Rattle.pas_check.specs.declared.label.Placement.{Placement}
use Rattle.pas_check.specs.Placing.{Before, Branches, Content, Mark, Members, Nothing, Other, Outline, Shape, Then, arm_of, below, body_step, content, content_of, earlier, element_step, end_of, first_of, first_place, in_order, label_mark, last_place, mark, marks, marks_inside, member_marks, noted, or_nothing, outermost_of, outline, outline_of, statement_step}
use Rattle.pas_check.proofs.Passing.{drop_next}

first_append : (n : ℕ) (xs ys : List Mark) (p : Option Placement) → first_of n (xs ++ ys) p ≡ first_of n ys (first_of n xs p)
first_append n [] ys p = refl
first_append n (x ∷ xs) ys p = first_append n xs ys (if nat_eq x.value n then earlier p x.placement else p)

pub noted_append : (n : ℕ) (xs ys : List Mark) (d : Option LabelDecl) → noted n (xs ++ ys) d ≡ noted n ys (noted n xs d)
noted_append n xs ys None = refl
noted_append n xs ys (Some d) = ap (λ (p : Option Placement). Some (record { at = d.at; placed = p })) (first_append n xs ys d.placed)

pub noted_nothing : (n : ℕ) (d : Option LabelDecl) → noted n [] d ≡ d
noted_nothing n None = refl
noted_nothing n (Some d) = refl

pub max_joins : (a b c : ℕ) → max a (max b c) ≡ max (max a b) c
max_joins a b c = omega arith

max_is : (a b : ℕ) → ord_max nat_cmp a b ≡ max a b
max_is a b = grind (arith, nat_tests)

abbrev pub shape_of : Statement → Shape
shape_of s = record { label = (out-Statement s).label; at = (out-Statement s).at.start; form = (content_of s).form }

pub outline_by : (s : Statement) (rest : Outline) → outline_of s rest ≡ Then (shape_of s) (content_of s).inner rest
unfolding outline_of content arm_of
outline_by s rest = ap (λ (b : Before). b rest) (fold_out-Statement Content Before Before body_step element_step statement_step s)

pub arm_by : (a : Element) (rest : Outline) → arm_of a rest ≡ Then (shape_of (out-Element a).body) (content_of (out-Element a).body).inner rest
unfolding outline_of content arm_of
arm_by a rest = ap (λ (b : Before). b rest) (fold_out-Element Content Before Before body_step element_step statement_step a) ∙ outline_by (out-Element a).body rest

-- ---- members

module _ (body : List Statement) (k : ℕ) (s : Statement) (h : k < length body) (e : s ≡ get_or body k s) where
  outline_next : outline (drop k body) ≡ Then (shape_of s) (content_of s).inner (outline (drop (k + 1) body))
  outline_next = ap outline (drop_next body k s h e) ∙ outline_by s (outline (drop (k + 1) body))

  pub members_next : (first last : ℕ) (outermost : Bool) (n : ℕ) (d after : Option LabelDecl) → after ≡ noted n (below (content_of s)) d
      → noted n (marks_inside (Members first last outermost) (outline (drop k body))) d ≡ noted n (marks_inside (Members first last outermost) (outline (drop (k + 1) body))) after
  members_next first last outermost n d after is =
      let c = Members first last outermost in
      ap (λ o. noted n (marks_inside c o) d) outline_next
      ∙ noted_append n (below (content_of s)) (marks_inside c (outline (drop (k + 1) body))) d
      ∙ ap (noted n (marks_inside c (outline (drop (k + 1) body)))) (sym is)

  pub own_next : (first last : ℕ) (outermost : Bool) (n : ℕ) (d after : Option LabelDecl) → after ≡ noted n (label_mark first last outermost (out-Statement s).label) d
      → noted n (member_marks (Members first last outermost) (outline (drop k body))) d ≡ noted n (member_marks (Members first last outermost) (outline (drop (k + 1) body))) after
  own_next first last outermost n d after is =
      let c = Members first last outermost in
      ap (λ o. noted n (member_marks c o) d) outline_next
      ∙ noted_append n (label_mark first last outermost (out-Statement s).label) (member_marks c (outline (drop (k + 1) body))) d
      ∙ ap (noted n (member_marks c (outline (drop (k + 1) body)))) (sym is)

  pub last_next : (to joined inner : ℕ) → joined ≡ ord_max nat_cmp to inner → inner ≡ end_of s → max joined (last_place (outline (drop (k + 1) body))) ≡ max to (last_place (outline (drop k body)))
  last_next to joined inner is ends =
      let rest = last_place (outline (drop (k + 1) body)) in
      ap (λ m. max m rest) (is ∙ max_is to inner ∙ ap (max to) ends) ∙ sym (max_joins to (end_of s) rest) ∙ sym (ap (λ o. max to (last_place o)) outline_next)

pub first_is : (body : List Statement) (s : Statement) → 0 < length body → s ≡ get_or body 0 s → (out-Statement s).at.start ≡ first_place (outline body)
first_is [] s h e = absurd (omega (arith, h))
first_is (x ∷ body) s h e = ap (λ (y : Statement). (out-Statement y).at.start) e ∙ sym (ap first_place (outline_by x (outline body)))

pub sequence_is : (o : Outline) (outermost : Bool) (first last n : ℕ) (d inner after : Option LabelDecl) → first ≡ first_place o → last ≡ last_place o
    → inner ≡ noted n (marks_inside (outermost_of o outermost) o) d → after ≡ noted n (member_marks (Members first last outermost) o) inner
    → after ≡ noted n (marks (outermost_of o outermost) o) d
sequence_is o outermost first last n d inner after begins ends is next =
    next ∙ ap (λ f. noted n (member_marks (Members f last outermost) o) inner) begins ∙ ap (λ l. noted n (member_marks (Members (first_place o) l outermost) o) inner) ends
    ∙ ap (noted n (member_marks (outermost_of o outermost) o)) is
    ∙ sym (noted_append n (marks_inside (outermost_of o outermost) o) (member_marks (outermost_of o outermost) o) d)

-- ---- branches

pub branches_are : (o : Outline) (n : ℕ) (d : Option LabelDecl) → noted n (marks Branches o) d ≡ noted n (marks_inside Branches o) d
branches_are o n d = noted_append n (marks_inside Branches o) [] d ∙ noted_nothing n (noted n (marks_inside Branches o) d)

module _ (s : Statement) (n : ℕ) (d : Option LabelDecl) where
  inside : List Mark
  inside = below (content_of s)

  own : List Mark
  own = mark Branches (shape_of s) (content_of s).inner

  first_branch : (rest : Outline) → noted n (marks_inside Branches (outline_of s rest)) d ≡ noted n (marks_inside Branches rest) (noted n own (noted n inside d))
  unfolding inside own
  first_branch rest =
      ap (λ o. noted n (marks_inside Branches o) d) (outline_by s rest)
      ∙ noted_append n inside (own ++ marks_inside Branches rest) d
      ∙ noted_append n own (marks_inside Branches rest) (noted n inside d)

  alone : noted n (marks Branches (outline_of s Nothing)) d ≡ noted n own (noted n inside d)
  alone = branches_are (outline_of s Nothing) n d ∙ first_branch Nothing ∙ noted_nothing n (noted n own (noted n inside d))

  -- a branch before others
  pub branch_next : (rest : Outline) (after : Option LabelDecl) → after ≡ noted n (marks Branches (outline_of s Nothing)) d
      → noted n (marks_inside Branches (outline_of s rest)) d ≡ noted n (marks_inside Branches rest) after
  branch_next rest after is = first_branch rest ∙ ap (noted n (marks_inside Branches rest)) (sym alone ∙ sym is)

  pub branch_alone : (to : ℕ) (inner after : Option LabelDecl) → to ≡ end_of s → inner ≡ noted n (below (content_of s)) d
      → after ≡ noted n (label_mark (out-Statement s).at.start to false (out-Statement s).label) inner
      → after ≡ noted n (marks Branches (outline_of s Nothing)) d
  unfolding inside own
  branch_alone to inner after ends is next =
      next ∙ ap (λ l. noted n (label_mark (out-Statement s).at.start l false (out-Statement s).label) inner) ends ∙ ap (noted n own) is ∙ sym alone

  pub two_branches : (rest : Outline) (first after : Option LabelDecl) → first ≡ noted n (marks Branches (outline_of s Nothing)) d → after ≡ noted n (marks Branches rest) first
      → after ≡ noted n (marks Branches (outline_of s rest)) d
  two_branches rest first after is next =
      next ∙ branches_are rest n first ∙ sym (branch_next rest first is) ∙ sym (branches_are (outline_of s rest) n d)

pub content_if : (body : Body) (test : Expr) (chosen : Statement) (other : Option Statement) → body ≡ form.If test chosen other
    → content body ≡ record { form = Other; inner = outline_of chosen (or_nothing (option_map outline_of other)) }
unfolding outline_of content arm_of
content_if body test chosen None is = ap content (is ∙ sym (form.rolls-If test chosen None)) ∙ fold-roll-Body Content Before Before body_step element_step statement_step (Body-F.If test chosen None)
content_if body test chosen (Some other) is =
    ap content (is ∙ sym (form.rolls-If test chosen (Some other))) ∙ fold-roll-Body Content Before Before body_step element_step statement_step (Body-F.If test chosen (Some other))

pub both_branches : (body : Body) (test : Expr) (chosen t : Statement) (other : Option Statement) → body ≡ form.If test chosen other → t ≡ chosen → (n : ℕ) (d first after : Option LabelDecl)
    → first ≡ noted n (marks Branches (outline_of t Nothing)) d → after ≡ noted n (marks Branches (or_nothing (option_map outline_of other))) first → after ≡ noted n (below (content body)) d
both_branches body test chosen t other is same n d first after one next =
    two_branches chosen n d (or_nothing (option_map outline_of other)) first after (one ∙ ap (λ s. noted n (marks Branches (outline_of s Nothing)) d) same) next ∙ ap (λ x. noted n (below x) d) (sym (content_if body test chosen other is))

pub branch_ends : (s : Statement) (rest : Outline) → last_place (outline_of s rest) ≡ max (end_of s) (last_place rest)
branch_ends s rest = ap last_place (outline_by s rest)

pub branch_ends_alone : (s : Statement) → last_place (outline_of s Nothing) ≡ end_of s
branch_ends_alone s = branch_ends s Nothing ∙ max-zero (end_of s)

pub other_ends : (s t : Statement) (other : Option Statement) → other ≡ Some s → t ≡ s → end_of t ≡ last_place (or_nothing (option_map outline_of other))
other_ends s t other is same = ap end_of same ∙ sym (branch_ends_alone s) ∙ ap (λ o. last_place (or_nothing (option_map outline_of o))) (sym is)

-- ---- arms

module _ (arms : List Element) (k : ℕ) (a : Element) (h : k < length arms) (e : a ≡ get_or arms k a) where
  others : Outline
  others = in_order (map arm_of (drop (k + 1) arms))

  arm_first : in_order (map arm_of (drop k arms)) ≡ outline_of (out-Element a).body others
  unfolding others
  arm_first = ap (λ xs. in_order (map arm_of xs)) (drop_next arms k a h e) ∙ arm_by a others ∙ sym (outline_by (out-Element a).body others)

  pub arms_next : (n : ℕ) (d after : Option LabelDecl) → after ≡ noted n (marks Branches (outline_of (out-Element a).body Nothing)) d
      → noted n (marks_inside Branches (in_order (map arm_of (drop k arms)))) d ≡ noted n (marks_inside Branches (in_order (map arm_of (drop (k + 1) arms)))) after
  unfolding others
  arms_next n d after is = ap (λ o. noted n (marks_inside Branches o) d) arm_first ∙ branch_next (out-Element a).body n d others after is

  pub arms_last : (to joined inner : ℕ) → joined ≡ ord_max nat_cmp to inner → inner ≡ end_of (out-Element a).body
      → max joined (last_place (in_order (map arm_of (drop (k + 1) arms)))) ≡ max to (last_place (in_order (map arm_of (drop k arms))))
  unfolding others
  arms_last to joined inner is ends =
      ap (λ m. max m (last_place others)) (is ∙ max_is to inner ∙ ap (max to) ends) ∙ sym (max_joins to (end_of (out-Element a).body) (last_place others))
      ∙ sym (ap (λ o. max to (last_place o)) arm_first ∙ ap (max to) (branch_ends (out-Element a).body others))
