-- The classes that are found step by step: each is counted and makes its calls, and then all are found.
use Rattle.std.proofs.Common.{◌≡◌, ℕ, zero, suc, ◌+◌, ◌<◌, ◌≤◌, List, [], ◌∷◌, ◌++◌, map, take, length, Some, slice_get, refl, sym, ap, subst, ◌∙◌, inl, inr, arith, length-append}
use Rattle.std.specs.List.{AllByRecursion, Contains, flat_map, fold, range_with_len}
use Rattle.std.proofs.Math.Nat.{le-mul_of_pos_right}
use Rattle.std.proofs.lemmas.Bool.{cases_lt}
use Rattle.std.proofs.lemmas.Grind.{flat_map-append, fold-append}
use Rattle.std.proofs.lemmas.List.{length-map, map-append, take_all, take_more, take-append-le}
use Rattle.std.proofs.lemmas.Simd.{map-map}
use Rattle.std.proofs.lemmas.List.Sums.{sum-map, sum_by_push}
use Rattle.std.proofs.lemmas.Option.{unwrap_or-slice_get}
use Rattle.control_points.specs.declared.flow.Flow.{Flow}
use Rattle.alias_class.specs.Cells.{IsClass, cell_count, routine_of}
use Rattle.alias_class.specs.Classes.{Class, class_at, same_class}
use Rattle.alias_class.specs.Distinct.{first_occurrences, with_member}
use Rattle.alias_class.specs.Outlines.{outline_of}
use Rattle.alias_class.specs.Tables.{Table}
use Rattle.activations.specs.declared.discovery.Call.{Call}
use Rattle.activations.specs.declared.discovery.Discovery.{Discovery}
use Rattle.activations.specs.declared.node.Node.{Node}
use Rattle.activations.specs.Arcs.{Site, call_of, calls, sites_of_node}
use Rattle.activations.specs.Calls.{callees, points_of, sites_at, sites_of}
use Rattle.activations.specs.Distinct.{AreApart}
use Rattle.activations.specs.Found.{HasEntered, IsFound, calls_of_class}
use Rattle.activations.specs.Parts.{IsDiscovery}
use Rattle.activations.specs.Unfolding.{AreKnown, IsTooMany, Unfolding, most_cells, nodes_of_class, outermost, size_of, size_of_class, unfolding_of}
use Rattle.activations.proofs.Blocks.{append_nil, blocks, blocks_more}
use Rattle.activations.proofs.DiscoveredClasses.{call_from, calls_stay, class_stays, class_there, entered_extends, entered_few, longer, same_itself}
use Rattle.activations.proofs.DiscoveredMembers.{Extends, IsIn, all_in, different_members, different_none, each_left, each_right, new_member}
use Rattle.activations.proofs.DiscoveredSites.{CallsStandAlone, few_sites}
use Rattle.activations.proofs.FoundNodes.{at_is_member}

-- ---- lists of one list for each number

blocks_at : {B : Type 0} (f : ℕ → List B) (n : ℕ) → blocks f (suc n) ≡ blocks f n ++ f n
blocks_at f n = let is : suc n ≡ n + 1 = omega arith in ap (blocks f) is ∙ blocks_more f n

pub blocks_same : {B : Type 0} (f g : ℕ → List B) (n : ℕ) → ((i : ℕ) → i < n → f i ≡ g i) → blocks f n ≡ blocks g n
blocks_same f g zero same = refl
blocks_same {B} f g (suc n) same =
    blocks_at f n
    ∙ ap (λ (l : List B). l ++ f n) (blocks_same f g n (λ i below. same i (omega (arith, below))))
    ∙ ap (λ (l : List B). blocks g n ++ l) (same n (omega arith))
    ∙ sym (blocks_at g n)

pub each_block : {B : Type 0} (P : B → Type 0) (f : ℕ → List B) (n i : ℕ) → i < n → AllByRecursion P (blocks f n) → AllByRecursion P (f i)
each_block P f zero i below h = absurd (omega (arith, below))
each_block {B} P f (suc n) i below h = elim (cases_lt i n) [
  | inl before ↦ each_block P f n i before (each_left P (blocks f n) (f n) (subst (λ (l : List B). AllByRecursion P l) (blocks_at f n) h))
  | inr last ↦
      let is : n ≡ i = omega (arith, below, last) in
      subst (λ (k : ℕ). AllByRecursion P (f k)) is (each_right P (blocks f n) (f n) (subst (λ (l : List B). AllByRecursion P l) (blocks_at f n) h))
]

-- ---- the callees of the first classes

pub one_taken : (cs : List Class) (n : ℕ) → n < length cs → take (n + 1) cs ≡ take n cs ++ class_at cs n ∷ []
one_taken cs n inside = take_more cs n [] inside ∙ ap (λ (c : Class). take n cs ++ c ∷ []) (sym (unwrap_or-slice_get cs n []))

module _ (f : Flow) where
  abbrev pub called_by : Class → List Class
  called_by c = callees f.points f.edges (outline_of f) c

  called_push : (cs : List Class) (c : Class) → flat_map called_by (cs ++ c ∷ []) ≡ flat_map called_by cs ++ called_by c
  called_push cs c = flat_map-append called_by cs (c ∷ []) ∙ ap (λ (l : List Class). flat_map called_by cs ++ l) (append_nil (called_by c))

  pub called_blocks : (cs : List Class) (n : ℕ) → n ≤ length cs → flat_map called_by (take n cs) ≡ blocks (λ i. called_by (class_at cs i)) n
  called_blocks cs zero within = refl
  called_blocks cs (suc n) within =
      let inside : n < length cs = omega (arith, within) in
      let is : suc n ≡ n + 1 = omega arith in
      ap (λ (k : ℕ). flat_map called_by (take k cs)) is
      ∙ ap (λ (l : List Class). flat_map called_by l) (one_taken cs n inside)
      ∙ called_push (take n cs) (class_at cs n)
      ∙ ap (λ (l : List Class). l ++ called_by (class_at cs n)) (called_blocks cs n (omega (arith, within)))
      ∙ sym (blocks_at (λ i. called_by (class_at cs i)) n)

  -- each callee of the first classes is one
  pub callees_in : (cs : List Class) (n i : ℕ) → AreKnown (unfolding_of f cs) n → n ≤ length cs → i < n → AllByRecursion (IsIn same_class cs) (called_by (class_at cs i))
  callees_in cs n i known within below =
      let whole : AllByRecursion (IsIn same_class cs) (outermost ∷ flat_map called_by (take n cs)) =
      subst (λ (l : List Class). AllByRecursion (IsIn same_class l) (outermost ∷ flat_map called_by (take n cs))) (sym known.listed)
      (all_in same_class same_itself [] (outermost ∷ flat_map called_by (take n cs))) in
      each_block (IsIn same_class cs) (λ j. called_by (class_at cs j)) n i below
      (subst (λ (l : List Class). AllByRecursion (IsIn same_class cs) l) (called_blocks cs n within) whole.1)

  pub known_apart : (cs : List Class) (n : ℕ) → AreKnown (unfolding_of f cs) n → AreApart cs
  known_apart cs n known =
      subst AreApart (sym known.listed) (different_members same_class [] (outermost ∷ flat_map called_by (take n cs)) (different_none same_class))

  size_push : (cs : List Class) (c : Class) → size_of (unfolding_of f cs) (cs ++ c ∷ []) ≡ size_of (unfolding_of f cs) cs + size_of_class (unfolding_of f cs) c
  size_push cs c =
      let g = size_of_class (unfolding_of f []) in
      sum-map g (cs ++ c ∷ []) ∙ sum_by_push g cs c ∙ ap (λ (m : ℕ). m + g c) (sym (sum-map g cs))

  -- ---- one more class

  module _ (n s : ℕ) (old : Discovery) (found : IsFound f n old) (there : n < length old.classes.classes)
      (size : s ≡ old.size + size_of_class (unfolding_of f old.classes.classes) (class_at old.classes.classes n)) where
    abbrev cs : List Class
    cs = old.classes.classes

    abbrev c : Class
    c = class_at cs n

    abbrev ps : List ℕ
    ps = points_of f.points (routine_of (outline_of f) c)

    size_taken : s ≡ size_of (unfolding_of f cs) (take (n + 1) cs)
    size_taken = size ∙ ap (λ (m : ℕ). m + size_of_class (unfolding_of f cs) c) found.size ∙ sym (size_push (take n cs) c)
        ∙ ap (λ (l : List Class). size_of (unfolding_of f cs) l) (sym (one_taken cs n there))

    -- the sum passes the most
    pub too_many : most_cells < s → IsTooMany (unfolding_of f cs) s
    too_many above =
        let is : n + 1 ≡ suc n = omega arith in
        record {
          before = n;
          known = found.known;
          there = there;
          within = omega (arith, found.within, found.size);
          sum = size_taken ∙ ap (λ (k : ℕ). size_of (unfolding_of f cs) (take k cs)) is;
          above = above;
        }

    points_few : length ps ≤ size_of_class (unfolding_of f cs) c
    points_few =
        let some : 0 < 1 + cell_count (outline_of f) c = omega arith in
        le-mul_of_pos_right (length ps) some

    pub room : s ≤ most_cells → length cs + length ps ≤ 4294967295
    room within = omega (arith, found.called, found.few, points_few, size, within)

    pub grown : 0 < length ps → old.size < s
    grown some = omega (arith, some, points_few, size)

    module _ (within : s ≤ most_cells) (alone : CallsStandAlone f.edges) (new : Discovery)
        (entered : HasEntered f n (sites_of f.points f.edges (routine_of (outline_of f) c)) (record old { size = s }) new) where
      abbrev ds : List Class
      ds = new.classes.classes

      abbrev ks : List ℕ
      ks = sites_of f.points f.edges (routine_of (outline_of f) c)

      grow : Extends cs ds
      grow = entered_extends f n ks (record old { size = s }) new entered

      long : length cs ≤ length ds
      long = longer cs ds grow

      same_here : class_at ds n ≡ c
      same_here = class_stays cs ds n grow there

      same_front : take n ds ≡ take n cs
      same_front = ap (λ (l : List Class). take n l) grow.is ∙ take-append-le n cs grow.rest (omega (arith, there))

      taken : take (n + 1) ds ≡ take n cs ++ c ∷ []
      taken = one_taken ds n (omega (arith, there, long)) ∙ ap (λ (l : List Class). l ++ class_at ds n ∷ []) same_front ∙ ap (λ (d : Class). take n cs ++ d ∷ []) same_here

      listed : ds ≡ first_occurrences same_class (outermost ∷ flat_map called_by (take (n + 1) ds))
      listed =
          entered.classes
          ∙ ap (λ (l : List Class). fold (with_member same_class) l (called_by c)) found.known.listed
          ∙ sym (fold-append (with_member same_class) [] (outermost ∷ flat_map called_by (take n cs)) (called_by c))
          ∙ ap (λ (l : List Class). first_occurrences same_class (outermost ∷ l)) (sym (called_push (take n cs) c))
          ∙ ap (λ (l : List Class). first_occurrences same_class (outermost ∷ flat_map called_by l)) (sym taken)

      called_at : (i : ℕ) → suc i < length ds → (j : ℕ) × (j ≤ i) × (j < n + 1) × Contains (called_by (class_at ds j)) (class_at ds (suc i))
      called_at i below = elim (cases_lt (suc i) (length cs)) [
        | inl before ↦
            let was = found.known.called i before in
            let caller : class_at cs was.0 ≡ class_at ds was.0 = sym (class_stays cs ds was.0 grow (omega (arith, was.2, there))) in
            let callee_is : class_at cs (suc i) ≡ class_at ds (suc i) = sym (class_stays cs ds (suc i) grow before) in
            (was.0, was.1, omega (arith, was.2), subst (λ (d : Class). Contains (called_by d) (class_at ds (suc i))) caller (subst (λ (d : Class). Contains (called_by (class_at cs was.0)) d) callee_is was.3))
        | inr behind ↦
            let at = new_member same_class cs (called_by c) (suc i) (class_at ds (suc i)) behind
            (subst (λ (l : List Class). slice_get l (suc i) ≡ Some (class_at ds (suc i))) entered.classes (class_there ds (suc i) below)) in
            let member = at_is_member (called_by c) (class_at ds (suc i)) at.number at.is in
            (n, omega (arith, there, behind), omega arith, subst (λ (d : Class). Contains (called_by d) (class_at ds (suc i))) (sym same_here) member)
      ]

      -- the calls of the classes before are what they were
      before_same : (i : ℕ) → i < n → calls_of_class (unfolding_of f cs) i ≡ calls_of_class (unfolding_of f ds) i
      before_same i below =
          let sites = sites_of f.points f.edges (routine_of (outline_of f) (class_at cs i)) in
          calls_stay f cs ds i sites grow (omega (arith, below, there)) (callees_in cs n i found.known found.number below)
          ∙ ap (λ (d : Class). map (call_from f ds i) (sites_of f.points f.edges (routine_of (outline_of f) d))) (sym (class_stays cs ds i grow (omega (arith, below, there))))

      calls_more : new.calls.items ≡ blocks (calls_of_class (unfolding_of f ds)) (n + 1)
      calls_more =
          entered.calls
          ∙ ap (λ (l : List Call). l ++ map (call_from f ds n) ks) (found.calls ∙ blocks_same (calls_of_class (unfolding_of f cs)) (calls_of_class (unfolding_of f ds)) n before_same)
          ∙ ap (λ (d : Class). blocks (calls_of_class (unfolding_of f ds)) n ++ map (call_from f ds n) (sites_of f.points f.edges (routine_of (outline_of f) d))) (sym same_here)
          ∙ sym (blocks_more (calls_of_class (unfolding_of f ds)) n)

      calls_long : length new.calls.items ≡ length old.calls.items + length ks
      calls_long = ap (λ (l : List Call). length l) entered.calls ∙ length-append old.calls.items (map (call_from f ds n) ks) ∙ ap (λ (m : ℕ). length old.calls.items + m) (length-map ks (call_from f ds n))

      pub found_more : IsFound f (n + 1) new
      found_more = record {
        outline = entered.outline ∙ found.outline;
        known = record { listed = listed; called = called_at };
        number = omega (arith, there, long);
        within = omega (arith, entered.size, within);
        size = entered.size ∙ size_taken ∙ ap (λ (l : List Class). size_of (unfolding_of f cs) l) (one_taken cs n there ∙ sym taken);
        calls = calls_more;
        called = let few = entered_few f n ks (record old { size = s }) new entered in omega (arith, few, calls_long, found.called);
        few = let few = few_sites f.edges alone ps in omega (arith, few, calls_long, found.few, points_few, size, entered.size);
      }

-- ---- all classes

sites_by_point : (u : Unfolding) (i : ℕ) (ps : List ℕ)
    → map (call_of u) (flat_map (sites_of_node u) (map (λ p. record { class = i; point = p }) ps)) ≡ map (λ k. call_of u (record { caller = i; edge = k })) (flat_map (sites_at u.edges) ps)
sites_by_point u i [] = refl
sites_by_point u i (p ∷ ps) =
    let node : Node = record { class = i; point = p } in
    map-append (call_of u) (sites_of_node u node) (flat_map (sites_of_node u) (map (λ q. record { class = i; point = q }) ps))
    ∙ ap (λ (l : List Call). l ++ map (call_of u) (flat_map (sites_of_node u) (map (λ q. record { class = i; point = q }) ps))) (map-map (call_of u) (λ k. record { caller = i; edge = k }) (sites_at u.edges p))
    ∙ ap (λ (l : List Call). map (λ k. call_of u (record { caller = i; edge = k })) (sites_at u.edges p) ++ l) (sites_by_point u i ps)
    ∙ sym (map-append (λ k. call_of u (record { caller = i; edge = k })) (sites_at u.edges p) (flat_map (sites_at u.edges) ps))

calls_by_class : (u : Unfolding) (is : List ℕ) → map (call_of u) (flat_map (sites_of_node u) (flat_map (nodes_of_class u) is)) ≡ flat_map (calls_of_class u) is
calls_by_class u [] = refl
calls_by_class u (i ∷ is) =
    ap (λ (l : List Site). map (call_of u) l) (flat_map-append (sites_of_node u) (nodes_of_class u i) (flat_map (nodes_of_class u) is))
    ∙ map-append (call_of u) (flat_map (sites_of_node u) (nodes_of_class u i)) (flat_map (sites_of_node u) (flat_map (nodes_of_class u) is))
    ∙ ap (λ (l : List Call). l ++ map (call_of u) (flat_map (sites_of_node u) (flat_map (nodes_of_class u) is))) (sites_by_point u i (points_of u.points (routine_of u.outline (class_at u.classes i))))
    ∙ ap (λ (l : List Call). calls_of_class u i ++ l) (calls_by_class u is)

pub all_calls : (u : Unfolding) → calls u ≡ blocks (calls_of_class u) (length u.classes)
all_calls u = calls_by_class u (range_with_len 0 (length u.classes))

pub all_found : (f : Flow) (n : ℕ) (d : Discovery) → n ≡ length d.classes.classes → ((i : ℕ) → i < length d.classes.classes → IsClass d.classes.outline (class_at d.classes.classes i)) → IsFound f n d → IsDiscovery f d
all_found f n d all valid found =
    let u = unfolding_of f d.classes.classes in
    record {
      outline = found.outline;
      whole = subst (λ (k : ℕ). AreKnown u k) all found.known;
      valid = valid;
      within = found.within;
      size = found.size ∙ ap (λ (l : List Class). size_of u l) (take_all n d.classes.classes (omega (arith, all)));
      calls = found.calls ∙ ap (λ (k : ℕ). blocks (calls_of_class u) k) all ∙ sym (all_calls u);
    }

-- the class of the program's block alone
pub found_none : (f : Flow) (d : Discovery) → d.classes ≡ record { outline = outline_of f; classes = [] ∷ [] } → d.calls.items ≡ [] → d.size ≡ 0 → IsFound f 0 d
found_none f d table none size =
    let classes : d.classes.classes ≡ [] ∷ [] = ap (λ (t : Table). t.classes) table in
    let one : length d.classes.classes ≡ 1 = ap (λ (l : List Class). length l) classes in
    record {
      outline = ap (λ (t : Table). t.outline) table;
      known = record { listed = classes; called = λ i below. absurd (omega (arith, below, one)) };
      number = omega arith;
      within = omega (arith, size);
      size = size;
      calls = none;
      called = omega (arith, one);
      few = omega (arith, ap (λ (l : List Call). length l) none);
    }
