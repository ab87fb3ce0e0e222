-- The links of a call join the cells that the callee shares with its caller.
use Rattle.std.proofs.Common.{◌≡◌, ◌≢◌, ℕ, zero, suc, ◌+◌, ◌-◌, ◌<◌, ◌≤◌, Bool, true, false, ◌||◌, ◌&&◌, not, cond, List, [], ◌∷◌, length, get_or, map, Option, Some, None, nat_eq, nat_le, nat_lt, refl, sym, ap, ◌∙◌, subst, inl, inr, arith}
use Rattle.std.specs.List.{All, cons_option, filter, filter_map, list_any, position_or_len, range_with_len}
use Rattle.std.specs.Option.{option_map}
use Rattle.std.specs.Prelude.{slice_get, slice_index, if◌then◌else◌}
use Rattle.std.proofs.lemmas.Bool.Decides.{nat_tests}
use Rattle.std.proofs.lemmas.Grind.{common_steps}
use Rattle.pas_program.specs.Scopes.{contains, is_distinct}
use Rattle.control_points.specs.declared.edge.Act.{Act}
use Rattle.control_points.specs.declared.edge.Act.TheVariants as act
use Rattle.control_points.specs.declared.edge.Edge.{Edge}
use Rattle.control_points.specs.declared.flow.Flow.{Flow}
use Rattle.control_points.specs.Fits.{act_at}
use Rattle.alias_class.specs.declared.bind.Link.{Link}
use Rattle.alias_class.specs.Calls.{IsSite, Sharing, callee, callee_by, entered, link_of, links_at, links_by, named, parent_in, shared_cell, sharing}
use Rattle.alias_class.specs.Cells.{IsClass, cell_count, cell_of, inherited_count, own_count, routine_of}
use Rattle.alias_class.specs.Classes.{Class}
use Rattle.alias_class.specs.Linked.{IsLinked, LinksShare, is_own_cell}
use Rattle.alias_class.specs.Outlines.{outline_of}
use Rattle.alias_class.proofs.Apart.{calls, members_once}
use Rattle.alias_class.proofs.Entering.{as_many, flow_calls, foreign_behind, foreign_cells_of}
use Rattle.alias_class.proofs.Lists.{member_at}
use Rattle.alias_class.proofs.Placing.{place_at}
use Rattle.alias_class.proofs.Ranks.{outline_fits}

-- what stands at the place of a number
number_at : (m : ℕ) (ns : List ℕ) → list_any (λ d. nat_eq m d) ns ≡ true → get_or ns (position_or_len (λ d. nat_eq m d) ns) 0 ≡ m
number_at m [] e = absurd (grind arith)
number_at m (n ∷ ns) e = by (nat_eq m n) refl e (number_at m ns)
  where
    by : (b : Bool) → nat_eq m n ≡ b → (b || list_any (λ d. nat_eq m d) ns) ≡ true → (list_any (λ d. nat_eq m d) ns ≡ true → get_or ns (position_or_len (λ d. nat_eq m d) ns) 0 ≡ m) → get_or (n ∷ ns) (cond (not b) (1 + position_or_len (λ d. nat_eq m d) ns) 0) 0 ≡ m
    by true same h rest = grind (arith, nat_tests)
    by false other h rest =
        let next : 1 + position_or_len (λ d. nat_eq m d) ns ≡ suc (position_or_len (λ d. nat_eq m d) ns) = omega arith in
        ap (λ (k : ℕ). get_or (n ∷ ns) k 0) next ∙ rest h

-- its place is one of the list
place_within : (m : ℕ) (ns : List ℕ) → list_any (λ d. nat_eq m d) ns ≡ true → position_or_len (λ d. nat_eq m d) ns < length ns
place_within m [] e = absurd (grind arith)
place_within m (n ∷ ns) e = by (nat_eq m n) e (place_within m ns)
  where
    by : (b : Bool) → (b || list_any (λ d. nat_eq m d) ns) ≡ true → (list_any (λ d. nat_eq m d) ns ≡ true → position_or_len (λ d. nat_eq m d) ns < length ns) → cond (not b) (1 + position_or_len (λ d. nat_eq m d) ns) 0 < suc (length ns)
    by true h rest = omega arith
    by false h rest = let less = rest h in omega arith

-- ---- links of the cells of a range

-- where a link comes from, and how it leads
record LeadsFrom (s : Sharing) (l : Link) : Type 0 where
  cell : ℕ
  from : l.caller ≡ cell
  to : l.callee ≡ shared_cell s cell
  shared : (nat_lt cell s.inherited || list_any (λ d. nat_eq cell d) s.foreign) ≡ true

leads_from : (s : Sharing) (cell : ℕ) (l : Link) → link_of s cell ≡ Some l → LeadsFrom s l × (l.caller ≡ cell)
leads_from s cell l e = by (nat_lt cell s.inherited) (list_any (λ d. nat_eq cell d) s.foreign) refl refl e
  where
    by : (x z : Bool) → nat_lt cell s.inherited ≡ x → list_any (λ d. nat_eq cell d) s.foreign ≡ z
        → (if x then Some (record { caller = cell; callee = cell }) else if z then Some (record { caller = cell; callee = shared_cell s cell }) else None) ≡ Some l → LeadsFrom s l × (l.caller ≡ cell)
    by true z test there e =
        let same : record { caller = cell; callee = cell } ≡ l = cc in
        let from : cell ≡ l.caller = ap (λ (y : Link). y.caller) same in
        let to : cell ≡ l.callee = ap (λ (y : Link). y.callee) same in
        let is : shared_cell s cell ≡ cell = ap (λ (x : Bool). if x then cell else s.first_foreign + position_or_len (λ d. nat_eq cell d) s.foreign) test in
        (record { cell = cell; from = sym from; to = sym to ∙ sym is; shared = ap (λ (x : Bool). x || list_any (λ d. nat_eq cell d) s.foreign) test }, sym from)
    by false true test there e =
        let same : record { caller = cell; callee = shared_cell s cell } ≡ l = cc in
        let from : cell ≡ l.caller = ap (λ (y : Link). y.caller) same in
        let to : shared_cell s cell ≡ l.callee = ap (λ (y : Link). y.callee) same in
        (record { cell = cell; from = sym from; to = sym to; shared = ap (λ (x : Bool). x || list_any (λ d. nat_eq cell d) s.foreign) test ∙ there }, sym from)
    by false false test there e = absurd (grind arith)

abbrev link_to : ℕ → ℕ → Link
link_to cell to = record { caller = cell; callee = to }

link_shared : (s : Sharing) (cell : ℕ) → (nat_lt cell s.inherited || list_any (λ d. nat_eq cell d) s.foreign) ≡ true → link_of s cell ≡ Some (link_to cell (shared_cell s cell))
link_shared s cell e = by (nat_lt cell s.inherited) (list_any (λ d. nat_eq cell d) s.foreign) (s.first_foreign + position_or_len (λ d. nat_eq cell d) s.foreign) e
  where
    by : (x z : Bool) (other : ℕ) → (x || z) ≡ true → ◌≡◌ {A = Option Link} (if x then Some (link_to cell cell) else if z then Some (link_to cell (if x then cell else other)) else None) (Some (link_to cell (if x then cell else other)))
    by true z other e = refl
    by false true other e = refl
    by false false other e = absurd (grind arith)

module _ (s : Sharing) where
  abbrev linked : ℕ → ℕ → List Link
  linked a n = filter_map (link_of s) (range_with_len a n)

  record IsOfRange (a n : ℕ) (l : Link) : Type 0 where
    from : LeadsFrom s l
    least : a ≤ l.caller
    less : l.caller < a + n

  of_range : (a n i : ℕ) (l : Link) → slice_get (linked a n) i ≡ Some l → IsOfRange a n l
  of_range a zero i l e = absurd (grind arith)
  of_range a (suc n) i l e = by (link_of s a) refl i e (λ k h. further (of_range (a + 1) n k l h))
    where
      further : IsOfRange (a + 1) n l → IsOfRange a (suc n) l
      further x = let less = x.less in let least = x.least in record { from = x.from; least = omega arith; less = omega arith }

      by : (o : Option Link) → link_of s a ≡ o → (i : ℕ) → slice_get (cons_option o (linked (a + 1) n)) i ≡ Some l → ((k : ℕ) → slice_get (linked (a + 1) n) k ≡ Some l → IsOfRange a (suc n) l) → IsOfRange a (suc n) l
      by None at i e rest = rest i e
      by (Some x) at zero e rest =
          let same : x ≡ l = cc in
          let came = leads_from s a l (at ∙ ap Some same) in
          let from = came.1 in
          record { from = came.0; least = omega arith; less = omega arith }
      by (Some x) at (suc i) e rest = rest i e

  -- callers rise
  rises : (a n i j : ℕ) (l m : Link) → i < j → slice_get (linked a n) i ≡ Some l → slice_get (linked a n) j ≡ Some m → l.caller < m.caller
  rises a zero i j l m h e f = absurd (grind arith)
  rises a (suc n) i j l m h e f = by (link_of s a) refl i j h e f (λ p q. rises (a + 1) n p q l m)
    where
      by : (o : Option Link) → link_of s a ≡ o → (i j : ℕ) → i < j → slice_get (cons_option o (linked (a + 1) n)) i ≡ Some l → slice_get (cons_option o (linked (a + 1) n)) j ≡ Some m
          → ((p q : ℕ) → p < q → slice_get (linked (a + 1) n) p ≡ Some l → slice_get (linked (a + 1) n) q ≡ Some m → l.caller < m.caller) → l.caller < m.caller
      by None at i j h e f rest = rest i j h e f
      by (Some x) at i zero h e f rest = absurd (omega arith)
      by (Some x) at zero (suc j) h e f rest =
          let same : x ≡ l = cc in
          let came = (leads_from s a l (at ∙ ap Some same)).1 in
          let least = (of_range (a + 1) n j m f).least in
          omega arith
      by (Some x) at (suc i) (suc j) h e f rest = rest i j (omega arith) e f

  callers_apart : (a n i j : ℕ) (l m : Link) → slice_get (linked a n) i ≡ Some l → slice_get (linked a n) j ≡ Some m → l.caller ≡ m.caller → i ≡ j
  callers_apart a n i j l m e f same =
      let below : i < j → l.caller < m.caller = λ h. rises a n i j l m h e f in
      let above : j < i → m.caller < l.caller = λ h. rises a n j i m l h f e in
      grind (arith, below, above)

  is_linked : (a n cell : ℕ) → a ≤ cell → cell < a + n → (nat_lt cell s.inherited || list_any (λ d. nat_eq cell d) s.foreign) ≡ true → IsLinked (linked a n) (shared_cell s cell)
  is_linked a zero cell least less shared = absurd (omega arith)
  is_linked a (suc n) cell least less shared = here (nat_eq a cell) refl (λ h. is_linked (a + 1) n cell h (omega arith) shared)
    where
      further : (o : Option Link) → IsLinked (linked (a + 1) n) (shared_cell s cell) → IsLinked (cons_option o (linked (a + 1) n)) (shared_cell s cell)
      further None x = x
      further (Some y) x = record { place = suc x.place; link = x.link; known = x.known; leads = x.leads }

      here : (b : Bool) → nat_eq a cell ≡ b → (a + 1 ≤ cell → IsLinked (linked (a + 1) n) (shared_cell s cell)) → IsLinked (cons_option (link_of s a) (linked (a + 1) n)) (shared_cell s cell)
      here true test rest =
          let same : cell ≡ a = grind (arith, nat_tests) in
          let made : Some (record { caller = cell; callee = shared_cell s cell }) ≡ link_of s a = sym (link_shared s cell shared) ∙ ap (link_of s) same in
          subst (λ (o : Option Link). IsLinked (cons_option o (linked (a + 1) n)) (shared_cell s cell)) made
          (record { place = 0; link = record { caller = cell; callee = shared_cell s cell }; known = refl; leads = refl })
      here false test rest =
          let differ : a ≢ cell = grind (arith, nat_tests) in
          further (link_of s a) (rest (omega arith))

-- ---- cells of both classes

-- two cells that are shared as one are one
shared_apart : (s : Sharing) → s.inherited ≤ s.first_foreign → (a b : ℕ) → (nat_lt a s.inherited || list_any (λ d. nat_eq a d) s.foreign) ≡ true → (nat_lt b s.inherited || list_any (λ d. nat_eq b d) s.foreign) ≡ true → shared_cell s a ≡ shared_cell s b → a ≡ b
shared_apart s order a b p q e = by (nat_lt a s.inherited) (nat_lt b s.inherited) refl refl p q e
  where
    by : (x y : Bool) → nat_lt a s.inherited ≡ x → nat_lt b s.inherited ≡ y → (x || list_any (λ d. nat_eq a d) s.foreign) ≡ true → (y || list_any (λ d. nat_eq b d) s.foreign) ≡ true
        → (if x then a else s.first_foreign + position_or_len (λ d. nat_eq a d) s.foreign) ≡ (if y then b else s.first_foreign + position_or_len (λ d. nat_eq b d) s.foreign) → a ≡ b
    by true true f g p q e = e
    by true false f g p q e = absurd (let less : a < s.inherited = grind (arith, nat_tests) in omega arith)
    by false true f g p q e = absurd (let less : b < s.inherited = grind (arith, nat_tests) in omega arith)
    by false false f g p q e =
        let same : position_or_len (λ d. nat_eq a d) s.foreign ≡ position_or_len (λ d. nat_eq b d) s.foreign = omega arith in
        sym (number_at a s.foreign p) ∙ ap (λ (k : ℕ). get_or s.foreign k 0) same ∙ number_at b s.foreign q

-- where the cells of a callee lie: so many are inherited, and so many its own
record IsShared (s : Sharing) (cell count : ℕ) : Type 0 where
  within : cell < count
  outside : (nat_le s.inherited cell && nat_lt cell s.first_foreign) ≡ false

is_shared : (s : Sharing) → s.inherited ≤ s.first_foreign → (a : ℕ) → (nat_lt a s.inherited || list_any (λ d. nat_eq a d) s.foreign) ≡ true → IsShared s (shared_cell s a) (s.first_foreign + length s.foreign)
is_shared s order a p = by (nat_lt a s.inherited) refl p
  where
    neither : (x y : Bool) → x ≡ false → (x && y) ≡ false
    neither true y e = absurd (grind arith)
    neither false y e = refl

    last : (x y : Bool) → y ≡ false → (x && y) ≡ false
    last x true e = absurd (grind arith)
    last true false e = refl
    last false false e = refl

    by : (x : Bool) → nat_lt a s.inherited ≡ x → (x || list_any (λ d. nat_eq a d) s.foreign) ≡ true → IsShared s (if x then a else s.first_foreign + position_or_len (λ d. nat_eq a d) s.foreign) (s.first_foreign + length s.foreign)
    by true f p =
        let less : a < s.inherited = grind (arith, nat_tests) in
        let test : nat_le s.inherited a ≡ false = grind (arith, nat_tests) in
        record { within = omega arith; outside = neither (nat_le s.inherited a) (nat_lt a s.first_foreign) test }
    by false f p =
        let less = place_within a s.foreign p in
        let cell = s.first_foreign + position_or_len (λ d. nat_eq a d) s.foreign in
        let test : nat_lt cell s.first_foreign ≡ false = grind (arith, nat_tests) in
        record { within = omega arith; outside = last (nat_le s.inherited cell) (nat_lt cell s.first_foreign) test }

-- the cell of the caller for a cell of the callee that is shared
record Shares (s : Sharing) (caller cell : ℕ) : Type 0 where
  from : ℕ
  within : from < caller
  shared : (nat_lt from s.inherited || list_any (λ d. nat_eq from d) s.foreign) ≡ true
  to : shared_cell s from ≡ cell

shares : (s : Sharing) (caller : ℕ) → s.inherited ≤ caller → s.inherited ≤ s.first_foreign → is_distinct s.foreign ≡ true → All (λ n. n < caller) s.foreign → All (λ n. s.inherited ≤ n) s.foreign → (cell : ℕ) → cell < s.first_foreign + length s.foreign → (nat_le s.inherited cell && nat_lt cell s.first_foreign) ≡ false → Shares s caller cell
shares s caller few order once below behind cell less out = by (nat_lt cell s.inherited) (nat_le s.inherited cell) (nat_lt cell s.first_foreign) refl refl refl out
  where
    by : (x y z : Bool) → nat_lt cell s.inherited ≡ x → nat_le s.inherited cell ≡ y → nat_lt cell s.first_foreign ≡ z → (y && z) ≡ false → Shares s caller cell
    by true y z f g h e =
        let low : cell < s.inherited = grind (arith, nat_tests) in
        record {
          from = cell;
          within = omega arith;
          shared = ap (λ (x : Bool). x || list_any (λ d. nat_eq cell d) s.foreign) f;
          to = ap (λ (x : Bool). if x then cell else s.first_foreign + position_or_len (λ d. nat_eq cell d) s.foreign) f;
        }
    by false false z f g h e = absurd (grind (arith, nat_tests))
    by false true true f g h e = absurd (grind arith)
    by false true false f g h e =
        let high : s.first_foreign ≤ cell = grind (arith, nat_tests) in
        let place = cell - s.first_foreign in
        let from = get_or s.foreign (cell - s.first_foreign) 0 in
        let there : contains (get_or s.foreign (cell - s.first_foreign) 0) s.foreign ≡ true = member_at s.foreign (cell - s.first_foreign) (omega arith) in
        let past : s.inherited ≤ get_or s.foreign (cell - s.first_foreign) 0 = behind (cell - s.first_foreign) 0 (omega arith) in
        let test : nat_lt (get_or s.foreign (cell - s.first_foreign) 0) s.inherited ≡ false = grind (arith, nat_tests) in
        let at = place_at s.foreign (cell - s.first_foreign) once (omega arith) in
        record {
          from = from;
          within = below (cell - s.first_foreign) 0 (omega arith);
          shared = ap (λ (x : Bool). x || list_any (λ d. nat_eq (get_or s.foreign (cell - s.first_foreign) 0) d) s.foreign) test ∙ there;
          to = ap (λ (x : Bool). if x then from else s.first_foreign + position_or_len (λ d. nat_eq from d) s.foreign) test ∙ (let sum : s.first_foreign + position_or_len (λ d. nat_eq from d) s.foreign ≡ cell = omega arith in sum);
        }

-- ---- of a call

pub links_share : (f : Flow) (c : Class) (k : ℕ) → IsClass (outline_of f) c → IsSite f.points f.edges (routine_of (outline_of f) c) k → LinksShare (outline_of f) c (callee (outline_of f) f.edges c k) (links_at (outline_of f) f.edges c k)
links_share f c k is site =
    let o = outline_of f in
    let call = calls site.edge.act site.called site.is_call in
    let acts : act_at f.edges k ≡ Some (act.Call site.called call.actuals call.slot call.at) = ap (option_map (λ (e : Edge). e.act)) site.known ∙ ap Some call.is in
    let does = flow_calls f o refl c is k site site.called call.actuals (record { slot = call.slot; at = call.at; is = acts }) in
    let fits = outline_fits f.program in
    let s = sharing o c site.called call.actuals in
    let count = cell_count o c in
    let entered_count = cell_count o (entered o c k site.called call.actuals) in
    let many : entered_count ≡ s.first_foreign + length s.foreign = (let long = as_many o fits c is site.called call.actuals does in omega arith) in
    let cells = foreign_cells_of o fits c is site.called call.actuals does in
    let behind = foreign_behind o fits c is site.called call.actuals does in
    let order : s.inherited ≤ s.first_foreign = omega arith in
    let once = members_once [] (filter (λ n. nat_le (cell_count o (parent_in o c site.called)) n) (map cell_of (named o c call.actuals))) refl in
    let shared : (i : ℕ) (l : Link) → slice_get (linked s 0 count) i ≡ Some l → IsShared s l.callee (s.first_foreign + length s.foreign) =
    λ i l e. (let from = (of_range s 0 count i l e).from in subst (λ (cell : ℕ). IsShared s cell (s.first_foreign + length s.foreign)) (sym from.to) (is_shared s order from.cell from.shared)) in
    subst (λ (x : Option Act). LinksShare o c (callee_by o c k x) (links_by o c x)) (sym acts)
    (record {
      from_cells = λ i l e. (let less = (of_range s 0 count i l e).less in omega arith);
      to_cells = λ i l e. (let within = (shared i l e).within in omega arith);
      from_different = callers_apart s 0 count;
      to_different = λ i j l m e g same.
          (let a = (of_range s 0 count i l e).from in
          let b = (of_range s 0 count j m g).from in
          let one : a.cell ≡ b.cell = shared_apart s order a.cell b.cell a.shared b.shared (sym a.to ∙ same ∙ b.to) in
          callers_apart s 0 count i j l m e g (a.from ∙ one ∙ sym b.from));
      to_shared = λ i l e. (shared i l e).outside;
      each_shared = λ cell less out.
          (let x = shares s count cells.inherited_few order once cells.in_range behind cell (omega arith) out in
          let within : x.from < 0 + count = (let less = x.within in omega arith) in
          subst (IsLinked (linked s 0 count)) x.to (is_linked s 0 count x.from (omega arith) within x.shared));
    })
