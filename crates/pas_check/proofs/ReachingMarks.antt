-- The marks of labels and the statements at their paths; which mark is the first.
use Rattle.std.proofs.Common.{◌≡◌, ℕ, zero, suc, ◌<◌, ◌≤◌, Bool, true, false, List, [], ◌∷◌, ◌++◌, Option, Some, None, ◌⊎◌, inl, inr, refl, sym, ap, subst, ◌∙◌, nat_eq, nat_le, if◌then◌else◌, arith}
use Rattle.std.specs.Prelude.{max}
use Rattle.std.proofs.lemmas.Bool.Decides.{nat_tests}
use Rattle.pas_tree.specs.declared.block.Label.{Label}
use Rattle.pas_check.specs.declared.label.Placement.{Placement}
use Rattle.pas_check.specs.Labels.{Path}
use Rattle.pas_check.specs.Placing.{Branches, Container, Mark, Members, Node, Nothing, Outline, Shape, Then, container, earlier, first_of, label_mark, last_place, mark, mark_at_once, marks, marks_at_end, marks_inside, member_marks, statement_at}
use Rattle.pas_check.proofs.Reaching.{node_end, some_is}

-- ---- members of lists

abbrev pub Among : Mark → List Mark → Type 0
Among m [] = ⊥
Among m (x ∷ xs) = (m ≡ x) ⊎ Among m xs

in_either : (m : Mark) (xs ys : List Mark) → Among m (xs ++ ys) → Among m xs ⊎ Among m ys
in_either m [] ys h = inr h
in_either m (x ∷ xs) ys (inl e) = inl (inl e)
in_either m (x ∷ xs) ys (inr h) = elim (in_either m xs ys h) [ inl a ↦ inl (inr a) | inr b ↦ inr b ]

in_first : (m : Mark) (xs ys : List Mark) → Among m xs → Among m (xs ++ ys)
in_first m [] ys h = absurd h
in_first m (x ∷ xs) ys (inl e) = inl e
in_first m (x ∷ xs) ys (inr h) = inr (in_first m xs ys h)

in_second : (m : Mark) (xs ys : List Mark) → Among m ys → Among m (xs ++ ys)
in_second m [] ys h = h
in_second m (x ∷ xs) ys h = inr (in_second m xs ys h)

-- ---- what the statement at a path is to those around

abbrev pub container_at : Container → Outline → Path → Container
container_at c o [] = c
container_at c Nothing (k ∷ q) = c
container_at c (Then s inner rest) (zero ∷ []) = c
container_at c (Then s inner rest) (zero ∷ (j ∷ q)) = container_at (container s.form inner) inner (j ∷ q)
container_at c (Then s inner rest) (suc k ∷ q) = container_at c rest (k ∷ q)

pub outer_container : (c : Container) (o : Outline) (k : ℕ) → container_at c o (k ∷ []) ≡ c
outer_container c Nothing k = refl
outer_container c (Then s inner rest) zero = refl
outer_container c (Then s inner rest) (suc k) = outer_container c rest k

pub inner_container : (c : Container) (o : Outline) (q : Path) (k : ℕ) (b : Node) → statement_at o q ≡ Some b → container_at c o (q ++ k ∷ []) ≡ container b.shape.form b.inner
inner_container c o [] k b e = absurd (cc)
inner_container c Nothing (j ∷ q) k b e = absurd (cc)
inner_container c (Then s inner rest) (zero ∷ []) k b e = outer_container (container s.form inner) inner k ∙ ap (λ (m : Node). container m.shape.form m.inner) (some_is (record { shape = s; inner = inner }) b e)
inner_container c (Then s inner rest) (zero ∷ (j ∷ q)) k b e = inner_container (container s.form inner) inner (j ∷ q) k b e
inner_container c (Then s inner rest) (suc i ∷ q) k b e = inner_container c rest (i ∷ q) k b e

pub parent : (o : Outline) (j : ℕ) (q : Path) (k : ℕ) (n : Node) → statement_at o (j ∷ (q ++ k ∷ [])) ≡ Some n → (b : Node) × (statement_at o (j ∷ q) ≡ Some b)
parent Nothing j q k n e = absurd (cc)
parent (Then s inner rest) zero [] k n e = (record { shape = s; inner = inner }, refl)
parent (Then s inner rest) zero (i ∷ q) k n e = parent inner i q k n e
parent (Then s inner rest) (suc j) q k n e = parent rest j q k n e

-- ---- a mark is of a labelled statement

abbrev pub placed_in : Container → Node → Label → Placement
placed_in (Members first last outermost) n l = record { at = l.at.start; «from» = first; to = last; outermost = outermost }
placed_in Branches n l = record { at = l.at.start; «from» = n.shape.at; to = node_end n; outermost = false }

pub record IsOf (c : Container) (o : Outline) (m : Mark) : Type 0 where
  pub path : Path
  pub node : Node
  pub label : Label
  pub stands : statement_at o path ≡ Some node
  pub has : node.shape.label ≡ Some label
  pub is : m ≡ record { value = label.value; placement = placed_in (container_at c o path) node label }

of_label : (first last : ℕ) (outermost : Bool) (l : Option Label) (m : Mark) → Among m (label_mark first last outermost l)
    → (x : Label) × (l ≡ Some x) × (m ≡ record { value = x.value; placement = record { at = x.at.start; «from» = first; to = last; outermost = outermost } })
of_label first last outermost None m h = absurd h
of_label first last outermost (Some x) m (inl e) = (x, refl, e)
of_label first last outermost (Some x) m (inr h) = absurd h

of_first : (c : Container) (s : Shape) (inner rest : Outline) (m : Mark) → Among m (mark c s inner) → IsOf c (Then s inner rest) m
of_first (Members first last outermost) s inner rest m h =
    let x = of_label first last outermost s.label m h in record { path = zero ∷ []; node = record { shape = s; inner = inner }; label = x.0; stands = refl; has = x.1; is = x.2 }
of_first Branches s inner rest m h =
    let x = of_label s.at (max (last_place inner) s.at) false s.label m h in record { path = zero ∷ []; node = record { shape = s; inner = inner }; label = x.0; stands = refl; has = x.1; is = x.2 }

of_later : (c : Container) (s : Shape) (inner rest : Outline) (m : Mark) → IsOf c rest m → IsOf c (Then s inner rest) m
of_later c s inner rest m f = at f.path f.stands f.is
  where
    at : (q : Path) → statement_at rest q ≡ Some f.node → m ≡ record { value = f.label.value; placement = placed_in (container_at c rest q) f.node f.label } → IsOf c (Then s inner rest) m
    at [] e is = absurd (cc)
    at (k ∷ q) e is = record { path = suc k ∷ q; node = f.node; label = f.label; stands = e; has = f.has; is = is }

of_inner : (c : Container) (s : Shape) (inner rest : Outline) (m : Mark) → IsOf (container s.form inner) inner m → IsOf c (Then s inner rest) m
of_inner c s inner rest m f = at f.path f.stands f.is
  where
    at : (q : Path) → statement_at inner q ≡ Some f.node → m ≡ record { value = f.label.value; placement = placed_in (container_at (container s.form inner) inner q) f.node f.label } → IsOf c (Then s inner rest) m
    at [] e is = absurd (cc)
    at (k ∷ q) e is = record { path = zero ∷ (k ∷ q); node = f.node; label = f.label; stands = e; has = f.has; is = is }

of_member : (c : Container) (o : Outline) (m : Mark) → Among m (member_marks c o) → IsOf c o m
of_member c Nothing m h = absurd h
of_member c (Then s inner rest) m h =
    elim (in_either m (mark c s inner) (member_marks c rest) h) [ inl a ↦ of_first c s inner rest m a | inr b ↦ of_later c s inner rest m (of_member c rest m b) ]

of_end : (c : Container) (o : Outline) (m : Mark) → Among m (marks_at_end c o) → IsOf c o m
of_end (Members first last outermost) o m h = of_member (Members first last outermost) o m h
of_end Branches o m h = absurd h

at_once_is : (c : Container) (s : Shape) (inner : Outline) (m : Mark) → Among m (mark_at_once c s inner) → Among m (mark c s inner)
at_once_is (Members first last outermost) s inner m h = absurd h
at_once_is Branches s inner m h = h

of_inside : (c : Container) (o : Outline) (m : Mark) → Among m (marks_inside c o) → IsOf c o m
of_inside c Nothing m h = absurd h
of_inside c (Then s inner rest) m h =
    let d = container s.form inner in
    elim (in_either m (marks_inside d inner ++ marks_at_end d inner) (mark_at_once c s inner ++ marks_inside c rest) h) [
      | inl a ↦ of_inner c s inner rest m (elim (in_either m (marks_inside d inner) (marks_at_end d inner) a) [ inl x ↦ of_inside d inner m x | inr y ↦ of_end d inner m y ])
      | inr b ↦ elim (in_either m (mark_at_once c s inner) (marks_inside c rest) b) [ inl x ↦ of_first c s inner rest m (at_once_is c s inner m x) | inr y ↦ of_later c s inner rest m (of_inside c rest m y) ]
    ]

pub of_statement : (c : Container) (o : Outline) (m : Mark) → Among m (marks c o) → IsOf c o m
of_statement c o m h = elim (in_either m (marks_inside c o) (marks_at_end c o) h) [ inl a ↦ of_inside c o m a | inr b ↦ of_end c o m b ]

-- ---- each labelled statement has a mark

pub record IsMarked (ms : List Mark) (l : Label) : Type 0 where
  pub marked : Mark
  pub among : Among marked ms
  pub same : marked.value ≡ l.value
  pub here : marked.placement.at ≡ l.at.start

wider : (xs ys : List Mark) (l : Label) → ((m : Mark) → Among m xs → Among m ys) → IsMarked xs l → IsMarked ys l
wider xs ys l into f = record { marked = f.marked; among = into f.marked f.among; same = f.same; here = f.here }

label_marked : (first last : ℕ) (outermost : Bool) (o : Option Label) (l : Label) → o ≡ Some l → IsMarked (label_mark first last outermost o) l
label_marked first last outermost None l e = absurd (cc)
label_marked first last outermost (Some x) l e =
    record { marked = record { value = x.value; placement = record { at = x.at.start; «from» = first; to = last; outermost = outermost } }; among = inl refl; same = ap (λ (y : Label). y.value) (some_is x l e); here = ap (λ (y : Label). y.at.start) (some_is x l e) }

first_marked : (c : Container) (s : Shape) (inner rest : Outline) (l : Label) → s.label ≡ Some l → IsMarked (marks c (Then s inner rest)) l
first_marked (Members first last outermost) s inner rest l e =
    let c = Members first last outermost in
    wider (label_mark first last outermost s.label) (marks c (Then s inner rest)) l
    (λ m h. in_second m (marks_inside c (Then s inner rest)) (label_mark first last outermost s.label ++ member_marks c rest) (in_first m (label_mark first last outermost s.label) (member_marks c rest) h))
    (label_marked first last outermost s.label l e)
first_marked Branches s inner rest l e =
    let d = container s.form inner in
    let own = label_mark s.at (max (last_place inner) s.at) false s.label in
    wider own (marks Branches (Then s inner rest)) l
    (λ m h. in_first m (marks_inside Branches (Then s inner rest)) [] (in_second m (marks_inside d inner ++ marks_at_end d inner) (own ++ marks_inside Branches rest) (in_first m own (marks_inside Branches rest) h)))
    (label_marked s.at (max (last_place inner) s.at) false s.label l e)

into_later : (c : Container) (s : Shape) (inner rest : Outline) (m : Mark) → Among m (marks c rest) → Among m (marks c (Then s inner rest))
into_later (Members first last outermost) s inner rest m h =
    let c = Members first last outermost in
    let d = container s.form inner in
    elim (in_either m (marks_inside c rest) (member_marks c rest) h) [
      | inl a ↦ in_first m (marks_inside c (Then s inner rest)) (member_marks c (Then s inner rest)) (in_second m (marks_inside d inner ++ marks_at_end d inner) (marks_inside c rest) a)
      | inr b ↦ in_second m (marks_inside c (Then s inner rest)) (member_marks c (Then s inner rest)) (in_second m (mark c s inner) (member_marks c rest) b)
    ]
into_later Branches s inner rest m h =
    let d = container s.form inner in
    elim (in_either m (marks_inside Branches rest) [] h) [
      | inl a ↦ in_first m (marks_inside Branches (Then s inner rest)) [] (in_second m (marks_inside d inner ++ marks_at_end d inner) (mark Branches s inner ++ marks_inside Branches rest) (in_second m (mark Branches s inner) (marks_inside Branches rest) a))
      | inr b ↦ absurd b
    ]

pub each_marked : (c : Container) (o : Outline) (q : Path) (n : Node) (l : Label) → statement_at o q ≡ Some n → n.shape.label ≡ Some l → IsMarked (marks c o) l
each_marked c o [] n l e has = absurd (cc)
each_marked c Nothing (k ∷ q) n l e has = absurd (cc)
each_marked c (Then s inner rest) (zero ∷ []) n l e has = first_marked c s inner rest l (ap (λ (m : Node). m.shape.label) (some_is (record { shape = s; inner = inner }) n e) ∙ has)
each_marked c (Then s inner rest) (zero ∷ (j ∷ q)) n l e has =
    let d = container s.form inner in
    wider (marks d inner) (marks c (Then s inner rest)) l
    (λ m h. in_first m (marks_inside c (Then s inner rest)) (marks_at_end c (Then s inner rest)) (in_first m (marks d inner) (mark_at_once c s inner ++ marks_inside c rest) h))
    (each_marked d inner (j ∷ q) n l e has)
each_marked c (Then s inner rest) (suc k ∷ q) n l e has = wider (marks c rest) (marks c (Then s inner rest)) l (into_later c s inner rest) (each_marked c rest (k ∷ q) n l e has)

-- ---- the first mark

abbrev pub IsFrom : Option Placement → ℕ → Type 0
IsFrom None x = ⊥
IsFrom (Some p) x = p.at ≤ x

either_from : (b : Bool) (q p : Placement) (x : ℕ) → (b ≡ true → q.at ≤ x) → (b ≡ false → p.at ≤ x) → IsFrom (if b then Some q else Some p) x
either_from true q p x yes_at no_at = yes_at refl
either_from false q p x yes_at no_at = no_at refl

not_after : (a b : ℕ) → nat_le a b ≡ true → a ≤ b
not_after a b e = grind (arith, nat_tests)

after : (a b : ℕ) → nat_le a b ≡ false → b < a
after a b e = grind (arith, nat_tests)

equal : (a b : ℕ) → a ≡ b → nat_eq a b ≡ true
equal a b e = grind (arith, nat_tests)

equal_is : (a b : ℕ) → nat_eq a b ≡ true → a ≡ b
equal_is a b e = grind (arith, nat_tests)

earlier_keeps : (o : Option Placement) (p : Placement) (x : ℕ) → IsFrom o x → IsFrom (earlier o p) x
earlier_keeps None p x h = absurd h
earlier_keeps (Some q) p x h = either_from (nat_le q.at p.at) q p x (λ e. h) (λ e. omega (arith, h, after q.at p.at e))

earlier_takes : (o : Option Placement) (p : Placement) → IsFrom (earlier o p) p.at
earlier_takes None p = omega arith
earlier_takes (Some q) p = either_from (nat_le q.at p.at) q p p.at (λ e. not_after q.at p.at e) (λ e. omega arith)

if_keeps : (b : Bool) (o : Option Placement) (p : Placement) (x : ℕ) → IsFrom o x → IsFrom (if b then earlier o p else o) x
if_keeps true o p x h = earlier_keeps o p x h
if_keeps false o p x h = h

if_takes : (b : Bool) (o : Option Placement) (p : Placement) → b ≡ true → IsFrom (if b then earlier o p else o) p.at
if_takes true o p e = earlier_takes o p
if_takes false o p e = absurd (cc)

first_keeps : (n : ℕ) (ms : List Mark) (o : Option Placement) (x : ℕ) → IsFrom o x → IsFrom (first_of n ms o) x
first_keeps n [] o x h = h
first_keeps n (m ∷ ms) o x h = first_keeps n ms (if nat_eq m.value n then earlier o m.placement else o) x (if_keeps (nat_eq m.value n) o m.placement x h)

pub first_least : (n : ℕ) (ms : List Mark) (o : Option Placement) (m : Mark) → Among m ms → m.value ≡ n → IsFrom (first_of n ms o) m.placement.at
first_least n [] o m h e = absurd h
first_least n (x ∷ ms) o m (inl is) e =
    first_keeps n ms (if nat_eq x.value n then earlier o x.placement else o) m.placement.at
    (subst (λ (y : Mark). IsFrom (if nat_eq x.value n then earlier o x.placement else o) y.placement.at) (sym is) (if_takes (nat_eq x.value n) o x.placement (equal x.value n (ap (λ (y : Mark). y.value) (sym is) ∙ e))))
first_least n (x ∷ ms) o m (inr h) e = first_least n ms (if nat_eq x.value n then earlier o x.placement else o) m h e

pub record IsChosen (n : ℕ) (ms : List Mark) (p : Placement) : Type 0 where
  pub chosen : Mark
  pub among : Among chosen ms
  pub same : chosen.value ≡ n
  pub is : chosen.placement ≡ p

either_is : (b : Bool) (q r p : Placement) → (if b then Some q else Some r) ≡ Some p → (q ≡ p) ⊎ (r ≡ p)
either_is true q r p e = inl (some_is q p e)
either_is false q r p e = inr (some_is r p e)

earlier_is : (o : Option Placement) (r p : Placement) → earlier o r ≡ Some p → (o ≡ Some p) ⊎ (r ≡ p)
earlier_is None r p e = inr (some_is r p e)
earlier_is (Some q) r p e = elim (either_is (nat_le q.at r.at) q r p e) [ inl a ↦ inl (ap Some a) | inr b ↦ inr b ]

if_is : (b : Bool) (o : Option Placement) (r p : Placement) → (if b then earlier o r else o) ≡ Some p → (o ≡ Some p) ⊎ ((b ≡ true) × (r ≡ p))
if_is true o r p e = elim (earlier_is o r p e) [ inl a ↦ inl a | inr c ↦ inr (refl, c) ]
if_is false o r p e = inl e

pub first_chosen : (n : ℕ) (ms : List Mark) (o : Option Placement) (p : Placement) → first_of n ms o ≡ Some p → (o ≡ Some p) ⊎ IsChosen n ms p
first_chosen n [] o p e = inl e
first_chosen n (m ∷ ms) o p e =
    elim (first_chosen n ms (if nat_eq m.value n then earlier o m.placement else o) p e) [
      | inl a ↦ elim (if_is (nat_eq m.value n) o m.placement p a) [ inl x ↦ inl x | inr y ↦ inr (record { chosen = m; among = inl refl; same = equal_is m.value n y.0; is = y.1 }) ]
      | inr c ↦ inr (record { chosen = c.chosen; among = inr c.among; same = c.same; is = c.is })
    ]
