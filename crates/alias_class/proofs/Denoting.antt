-- What the cells of the activations of a valid stack denote: each a variable, and different cells of one activation different ones.
use Rattle.std.proofs.Common.{◌≡◌, ℕ, suc, ◌-◌, ◌<◌, ◌≤◌, Bool, true, [], ◌∷◌, length, Option, Some, nat_eq, nat_lt, sym, ap, ◌∙◌, subst, arith}
use Rattle.std.specs.Option.{option_and_then}
use Rattle.std.specs.Prelude.{slice_index, if◌then◌else◌}
use Rattle.std.proofs.lemmas.Bool.Decides.{nat_tests}
use Rattle.control_points.specs.declared.edge.Act.{Act}
use Rattle.pas_program.specs.Scopes.{contains}
use Rattle.control_points.specs.declared.flow.Flow.{Flow}
use Rattle.control_points.specs.Finding as Finding
use Rattle.control_points.specs.Flows.{chart_of}
use Rattle.control_points.specs.States.{Activation, Stack}
use Rattle.control_points.specs.Storage.{Place, same_variable, whole}
use Rattle.control_points.specs.ValidStates.{IsMain, IsStack}
use Rattle.alias_class.specs.Calls.{Sharing, parent_in, sharing}
use Rattle.alias_class.specs.Cells.{cell_count, inherited_count}
use Rattle.alias_class.specs.Classes.{Class}
use Rattle.alias_class.specs.Denotation.{AreApart, Origin, class_of, denoted, denoted_from, made_by, origin_by, origin_of, shared_origin}
use Rattle.alias_class.specs.Denotation.Origin.{inherited, own, foreign}
use Rattle.alias_class.specs.Outlines.{outline_of, own_of}
use Rattle.alias_class.specs.Storage.{IsDisjoint, IsVariable}
use Rattle.alias_class.proofs.Apart.{Came, came, entered_apart, main_apart}
use Rattle.alias_class.proofs.Apart.Came.{as_inherited, as_own, as_foreign}
use Rattle.alias_class.proofs.Chains.{IsDepth, around_cases, around_latest, around_lower, class_called, class_in, class_latest, class_lower, depth_of, found_outer, has_class, is_called, is_outer, lower_depth, parent_is, parent_within, same_depth}
use Rattle.alias_class.proofs.Chains.IsDepth.{latest, lower}
use Rattle.alias_class.proofs.Entering.{as_many}
use Rattle.alias_class.proofs.Existing.{own_variable_is, stays_variable}
use Rattle.alias_class.proofs.Lists.{and_left, and_right, member_at}
use Rattle.alias_class.proofs.Ranks.{outline_fits}
use Rattle.alias_class.proofs.Resolving.{is_around_of}

some_is : (p q : Place) → ◌≡◌ {A = Option Place} (Some p) (Some q) → p ≡ q
some_is p q e = cc

same_parts : (p q : Place) → same_variable p q ≡ true → (p.depth ≡ q.depth) × (p.var ≡ q.var)
same_parts p q e =
    let depth = and_left (nat_eq p.depth q.depth) (nat_eq p.var q.var) e in
    let var = and_right (nat_eq p.depth q.depth) (nat_eq p.var q.var) e in
    (grind (arith, nat_tests), grind (arith, nat_tests))

module _ (f : Flow) where
  -- what a cell of an activation denotes
  abbrev pub denoted_in : Stack → ℕ → ℕ → Option Place
  denoted_in stack d i = denoted (outline_of f) f.edges stack d i

  pub denoted_latest : (a : Activation) (below : Stack) (i : ℕ) → denoted_in (a ∷ below) (length below) i ≡ denoted_from (outline_of f) (denoted_in below) (length below) a.frame.parent (origin_of (outline_of f) f.edges (a ∷ below) i)
  denoted_latest a below i =
      ap (λ (b : Bool). if b then denoted_from (outline_of f) (denoted_in below) (length below) a.frame.parent (origin_of (outline_of f) f.edges (a ∷ below) i) else denoted_in below (length below) i) (same_depth (length below))

  pub denoted_lower : (a : Activation) (below : Stack) (d i : ℕ) → d < length below → denoted_in (a ∷ below) d i ≡ denoted_in below d i
  denoted_lower a below d i h =
      ap (λ (b : Bool). if b then denoted_from (outline_of f) (denoted_in below) d a.frame.parent (origin_of (outline_of f) f.edges (a ∷ below) i) else denoted_in below d i) (lower_depth d (length below) h)

  -- ---- cells of the activation around one

  module _ (a b : Activation) (below : Stack) (is : IsStack (chart_of f) (a ∷ b ∷ below)) where
    caller : Class
    caller = class_of (outline_of f) f.edges (b ∷ below)

    abbrev origin : ℕ → Origin
    origin i = origin_of (outline_of f) f.edges (a ∷ b ∷ below) i

    abbrev count_around : ℕ
    count_around = cell_count (outline_of f) (parent_in (outline_of f) (class_of (outline_of f) f.edges (b ∷ below)) a.frame.routine)

    pub origin_is : (i : ℕ) → origin i ≡ shared_origin (sharing (outline_of f) (class_of (outline_of f) f.edges (b ∷ below)) a.frame.routine (is_called f a b below is).actuals) (own_of (outline_of f) a.frame.routine) i
    origin_is i = ap (λ (x : Option Act). origin_by (outline_of f) (class_of (outline_of f) f.edges (b ∷ below)) x i) (is_called f a b below is).acts

    -- an inherited cell denotes what it denotes there
    from_outer : (i : ℕ) → origin i ≡ inherited i → denoted_in (a ∷ b ∷ below) (length (b ∷ below)) i ≡ denoted_in (b ∷ below) is.0.depth i
    from_outer i e =
        denoted_latest a (b ∷ below) i
        ∙ ap (denoted_from (outline_of f) (denoted_in (b ∷ below)) (length (b ∷ below)) a.frame.parent) e
        ∙ ap (option_and_then (λ p. denoted_in (b ∷ below) p i)) is.0.parent

    pub inherits : (i : ℕ) → i < cell_count (outline_of f) (class_in f (b ∷ below) is.0.depth) → denoted_in (a ∷ b ∷ below) (length (b ∷ below)) i ≡ denoted_in (b ∷ below) is.0.depth i
    inherits i h =
        let s = sharing (outline_of f) (class_of (outline_of f) f.edges (b ∷ below)) a.frame.routine (is_called f a b below is).actuals in
        let variables = own_of (outline_of f) a.frame.routine in
        let around_it = ap (cell_count (outline_of f)) (parent_is f a b below is) in
        let test : nat_lt i s.inherited ≡ true = grind (arith, nat_tests) in
        from_outer i
        (origin_is i ∙ ap (λ (x : Bool). if x then inherited i else if nat_lt i s.first_foreign then own (slice_index variables (i - s.inherited)) else foreign (slice_index s.foreign (i - s.first_foreign))) test)

  -- a cell of the class of an activation around one denotes the same in both
  pub same_denoted : (stack : Stack) → IsStack (chart_of f) stack → (d e r i : ℕ) → d < length stack → Finding.around stack d r ≡ Some e → i < cell_count (outline_of f) (class_in f stack e) → denoted_in stack d i ≡ denoted_in stack e i
  same_denoted [] is d e r i h found few = absurd is
  same_denoted (a ∷ []) is d e r i h found few =
      let outer = (is_outer f (a ∷ []) is d e r h found).within in
      let same : d ≡ e = omega arith in
      ap (λ (n : ℕ). denoted_in (a ∷ []) n i) same
  same_denoted (a ∷ b ∷ below) is d e r i h found few = by (λ d e r h found few. same_denoted (b ∷ below) is.1 d e r i h found few) (depth_of (length (b ∷ below)) d h)
    where
      by : ((d e r : ℕ) → d < length (b ∷ below) → Finding.around (b ∷ below) d r ≡ Some e → i < cell_count (outline_of f) (class_in f (b ∷ below) e) → denoted_in (b ∷ below) d i ≡ denoted_in (b ∷ below) e i)
          → IsDepth (length (b ∷ below)) d → denoted_in (a ∷ b ∷ below) d i ≡ denoted_in (a ∷ b ∷ below) e i
      by rest (lower less) =
          let inner : Finding.around (b ∷ below) d r ≡ Some e = sym (around_lower a (b ∷ below) d r less) ∙ found in
          let within = (is_outer f (b ∷ below) is.1 d e r less inner).within in
          let under : e < length (b ∷ below) = omega arith in
          denoted_lower a (b ∷ below) d i less
          ∙ rest d e r less inner (subst (λ (x : Class). i < cell_count (outline_of f) x) (class_lower f a (b ∷ below) e under) few)
          ∙ sym (denoted_lower a (b ∷ below) e i under)
      by rest (latest at) =
          around_cases a r e (length (b ∷ below)) is.0.depth (λ p. Finding.around (b ∷ below) p r) is.0.parent (sym (around_latest a (b ∷ below) r) ∙ ap (λ (n : ℕ). Finding.around (a ∷ b ∷ below) n r) (sym at) ∙ found)
          (λ same top. ap (λ (n : ℕ). denoted_in (a ∷ b ∷ below) n i) (at ∙ top))
          (λ other outer.
          let near = parent_within f a b below is in
          let far = is_outer f (b ∷ below) is.1 is.0.depth e r (omega arith) outer in
          let within = far.within in
          let under : e < length (b ∷ below) = omega arith in
          let here : i < cell_count (outline_of f) (class_in f (b ∷ below) e) = subst (λ (x : Class). i < cell_count (outline_of f) x) (class_lower f a (b ∷ below) e under) few in
          let fewer = (is_around_of (outline_of f) (class_in f (b ∷ below) is.0.depth) r (class_in f (b ∷ below) e) far.class).fewer in
          ap (λ (n : ℕ). denoted_in (a ∷ b ∷ below) n i) at
          ∙ inherits a b below is i (omega arith)
          ∙ rest is.0.depth e r (omega arith) outer here
          ∙ sym (denoted_lower a (b ∷ below) e i under))

  -- ---- a cell of the latest activation, by how it comes about

  module _ (a b : Activation) (below : Stack) (is : IsStack (chart_of f) (a ∷ b ∷ below)) where
    abbrev pub cells_of_latest : ℕ
    cells_of_latest = cell_count (outline_of f) (class_of (outline_of f) f.edges (a ∷ b ∷ below))

    abbrev pub cells_of_caller : ℕ
    cells_of_caller = cell_count (outline_of f) (class_of (outline_of f) f.edges (b ∷ below))

    pub are_apart : AreApart (origin_of (outline_of f) f.edges (a ∷ b ∷ below)) (cell_count (outline_of f) (class_of (outline_of f) f.edges (a ∷ b ∷ below))) (inherited_count (outline_of f) (class_of (outline_of f) f.edges (a ∷ b ∷ below))) (cell_count (outline_of f) (class_of (outline_of f) f.edges (b ∷ below)))
    are_apart = entered_apart f (class_of (outline_of f) f.edges (b ∷ below)) (made_by a) (has_class f (b ∷ below) is.1).is_class (is_called f a b below is).site

    abbrev pub shared : Sharing
    shared = sharing (outline_of f) (class_of (outline_of f) f.edges (b ∷ below)) a.frame.routine (is_called f a b below is).actuals

    -- it denotes a variable of the activation, or what a cell of the one that called denotes
    pub data CellIs (i : ℕ) : Type 0 where
      mine : (v : ℕ) → contains v (own_of (outline_of f) a.frame.routine) ≡ true → origin_of (outline_of f) f.edges (a ∷ b ∷ below) i ≡ own v → denoted_in (a ∷ b ∷ below) (length (b ∷ below)) i ≡ Some (whole (length (b ∷ below)) v) → CellIs i
      near : i < inherited_count (outline_of f) (class_of (outline_of f) f.edges (a ∷ b ∷ below)) → i < cell_count (outline_of f) (class_of (outline_of f) f.edges (b ∷ below)) → denoted_in (a ∷ b ∷ below) (length (b ∷ below)) i ≡ denoted_in (b ∷ below) (length below) i → CellIs i
      far : (k : ℕ) → inherited_count (outline_of f) (class_of (outline_of f) f.edges (a ∷ b ∷ below)) ≤ k → k < cell_count (outline_of f) (class_of (outline_of f) f.edges (b ∷ below)) → origin_of (outline_of f) f.edges (a ∷ b ∷ below) i ≡ foreign k → contains k shared.foreign ≡ true
          → denoted_in (a ∷ b ∷ below) (length (b ∷ below)) i ≡ denoted_in (b ∷ below) (length below) k → CellIs i

    inherited_is : inherited_count (outline_of f) (class_of (outline_of f) f.edges (a ∷ b ∷ below)) ≡ cell_count (outline_of f) (class_in f (b ∷ below) is.0.depth)
    inherited_is = ap (inherited_count (outline_of f)) (class_called f a b below (is_called f a b below is)) ∙ ap (cell_count (outline_of f)) (parent_is f a b below is)

    fewer_around : cell_count (outline_of f) (class_in f (b ∷ below) is.0.depth) ≤ cell_count (outline_of f) (class_of (outline_of f) f.edges (b ∷ below))
    fewer_around =
        let outer = is_outer f (b ∷ below) is.1 (length below) is.0.depth is.0.outer (omega arith) (found_outer f a b below is.0) in
        let fewer = (is_around_of (outline_of f) (class_in f (b ∷ below) (length below)) is.0.outer (class_in f (b ∷ below) is.0.depth) outer.class).fewer in
        subst (λ (x : Class). cell_count (outline_of f) (class_in f (b ∷ below) is.0.depth) ≤ cell_count (outline_of f) x) (class_latest f b below) fewer

    pub cell_is : (i : ℕ) → i < cell_count (outline_of f) (class_of (outline_of f) f.edges (a ∷ b ∷ below)) → CellIs i
    cell_is i h = by (came (sharing (outline_of f) (class_of (outline_of f) f.edges (b ∷ below)) a.frame.routine (is_called f a b below is).actuals) (own_of (outline_of f) a.frame.routine) i)
      where
        by : Came (sharing (outline_of f) (class_of (outline_of f) f.edges (b ∷ below)) a.frame.routine (is_called f a b below is).actuals) (own_of (outline_of f) a.frame.routine) i → CellIs i
        by (as_inherited less e) =
            let around_it = ap (cell_count (outline_of f)) (parent_is f a b below is) in
            let all = inherited_is in
            let fewer = fewer_around in
            let there : i < cell_count (outline_of f) (class_in f (b ∷ below) is.0.depth) = omega arith in
            near (omega arith) (omega arith)
            (inherits a b below is i there
            ∙ sym (same_denoted (b ∷ below) is.1 (length below) is.0.depth is.0.outer i (omega arith) (found_outer f a b below is.0) there))
        by (as_own more less e) =
            let v = slice_index (own_of (outline_of f) a.frame.routine) (i - shared.inherited) in
            mine v (member_at (own_of (outline_of f) a.frame.routine) (i - shared.inherited) (omega arith)) (origin_is a b below is i ∙ e) (denoted_latest a (b ∷ below) i ∙ ap (denoted_from (outline_of f) (denoted_in (b ∷ below)) (length (b ∷ below)) a.frame.parent) (origin_is a b below is i ∙ e))
        by (as_foreign more e) =
            let k = slice_index shared.foreign (i - shared.first_foreign) in
            let origin_here : origin_of (outline_of f) f.edges (a ∷ b ∷ below) i ≡ foreign (slice_index shared.foreign (i - shared.first_foreign)) = origin_is a b below is i ∙ e in
            let top : suc (length below) - 1 ≡ length below = omega arith in
            let has = has_class f (b ∷ below) is.1 in
            let call = is_called f a b below is in
            let all = ap (cell_count (outline_of f)) (class_called f a b below call) in
            let many = as_many (outline_of f) (outline_fits f.program) (class_of (outline_of f) f.edges (b ∷ below)) has.is_class a.frame.routine call.actuals call.does in
            far k (are_apart.outside i k h origin_here) (are_apart.within i k h origin_here) origin_here (member_at shared.foreign (i - shared.first_foreign) (omega arith))
            (denoted_latest a (b ∷ below) i ∙ ap (denoted_from (outline_of f) (denoted_in (b ∷ below)) (length (b ∷ below)) a.frame.parent) origin_here
            ∙ ap (λ (n : ℕ). denoted_in (b ∷ below) n (slice_index shared.foreign (i - shared.first_foreign))) top)

  -- ---- different cells of one activation

  pub record IsApart (stack : Stack) (d : ℕ) : Type 0 where
    pub some : (i : ℕ) → i < cell_count (outline_of f) (class_in f stack d) → (p : Place) × (denoted_in stack d i ≡ Some p) × (p.depth ≤ d) × IsVariable (chart_of f) (outline_of f) stack p
    pub apart : (i j : ℕ) (p q : Place) → i < cell_count (outline_of f) (class_in f stack d) → j < cell_count (outline_of f) (class_in f stack d) → denoted_in stack d i ≡ Some p → denoted_in stack d j ≡ Some q → same_variable p q ≡ true → i ≡ j

  -- the same of an activation below the latest
  lower_apart : (a : Activation) (below : Stack) (d : ℕ) → d < length below → IsApart below d → IsApart (a ∷ below) d
  lower_apart a below d less rest =
      let same = class_lower f a below d less in
      let here : (i : ℕ) → i < cell_count (outline_of f) (class_in f (a ∷ below) d) → i < cell_count (outline_of f) (class_in f below d) = λ i h. subst (λ (x : Class). i < cell_count (outline_of f) x) same h in
      record {
        some = λ i h. (let p = rest.some i (here i h) in (p.0, denoted_lower a below d i less ∙ p.1, p.2, stays_variable f a below p.0 p.3));
        apart = λ i j p q h k e g s. rest.apart i j p q (here i h) (here j k) (sym (denoted_lower a below d i less) ∙ e) (sym (denoted_lower a below d j less) ∙ g) s;
      }

  main_is_apart : (a : Activation) → IsMain (chart_of f) a → IsApart (a ∷ []) 0
  main_is_apart a is =
      let variables = own_of (outline_of f) (outline_of f).main in
      let at : (i : ℕ) → denoted_in (a ∷ []) 0 i ≡ Some (whole 0 (slice_index variables i)) = λ i. denoted_latest a [] i in
      record {
        some = λ i h. (whole 0 (slice_index variables i), at i, omega arith, own_variable_is f a [] (slice_index variables i) (ap (λ (r : ℕ). contains (slice_index variables i) (own_of (outline_of f) r)) is.routine ∙ member_at variables i h));
        apart = λ i j p q h k e g s.
            (let first = some_is (whole 0 (slice_index variables i)) p (sym (at i) ∙ e) in
            let second = some_is (whole 0 (slice_index variables j)) q (sym (at j) ∙ g) in
            let parts = same_parts p q s in
            let var : slice_index variables i ≡ slice_index variables j = ap (λ (x : Place). x.var) first ∙ parts.1 ∙ ap (λ (x : Place). x.var) (sym second) in
            (main_apart f.program).apart i j h k (ap own var));
      }

  module _ (a b : Activation) (below : Stack) (is : IsStack (chart_of f) (a ∷ b ∷ below)) (rest : IsApart (b ∷ below) (length below)) where
    in_caller : (k : ℕ) → k < cell_count (outline_of f) (class_of (outline_of f) f.edges (b ∷ below)) → k < cell_count (outline_of f) (class_in f (b ∷ below) (length below))
    in_caller k h = subst (λ (x : Class). k < cell_count (outline_of f) x) (sym (class_latest f b below)) h

    in_latest : (i : ℕ) → i < cell_count (outline_of f) (class_in f (a ∷ b ∷ below) (length (b ∷ below))) → i < cell_count (outline_of f) (class_of (outline_of f) f.edges (a ∷ b ∷ below))
    in_latest i h = subst (λ (x : Class). i < cell_count (outline_of f) x) (class_latest f a (b ∷ below)) h

    -- what a cell of the caller denotes lies below
    deep : (k : ℕ) (p : Place) → k < cell_count (outline_of f) (class_of (outline_of f) f.edges (b ∷ below)) → denoted_in (b ∷ below) (length below) k ≡ Some p → p.depth ≤ length below
    deep k p h e = let q = rest.some k (in_caller k h) in let same = some_is q.0 p (sym q.1 ∙ e) in subst (λ (x : Place). x.depth ≤ length below) same q.2

    -- so it is none of the latest activation's own
    not_own : {P : Type 0} (v k : ℕ) (p q : Place) → ◌≡◌ {A = Option Place} (Some (whole (length (b ∷ below)) v)) (Some p) → k < cell_count (outline_of f) (class_of (outline_of f) f.edges (b ∷ below)) → denoted_in (b ∷ below) (length below) k ≡ Some q → p.depth ≡ q.depth → P
    not_own v k p q e h g depth =
        absurd
        (let same = ap (λ (x : Place). x.depth) (some_is (whole (length (b ∷ below)) v) p e) in
        let less = deep k q h g in
        omega arith)

    latest_some : (i : ℕ) → CellIs a b below is i → (p : Place) × (denoted_in (a ∷ b ∷ below) (length (b ∷ below)) i ≡ Some p) × (p.depth ≤ length (b ∷ below)) × IsVariable (chart_of f) (outline_of f) (a ∷ b ∷ below) p
    latest_some i (mine v listed o e) = (whole (length (b ∷ below)) v, e, omega arith, own_variable_is f a (b ∷ below) v listed)
    latest_some i (near less there e) = let p = rest.some i (in_caller i there) in let low = p.2 in (p.0, e ∙ p.1, omega arith, stays_variable f a (b ∷ below) p.0 p.3)
    latest_some i (far k more there o listed e) = let p = rest.some k (in_caller k there) in let low = p.2 in (p.0, e ∙ p.1, omega arith, stays_variable f a (b ∷ below) p.0 p.3)

    latest_two : (i j : ℕ) (p q : Place) → i < cell_count (outline_of f) (class_of (outline_of f) f.edges (a ∷ b ∷ below)) → j < cell_count (outline_of f) (class_of (outline_of f) f.edges (a ∷ b ∷ below))
        → denoted_in (a ∷ b ∷ below) (length (b ∷ below)) i ≡ Some p → denoted_in (a ∷ b ∷ below) (length (b ∷ below)) j ≡ Some q → same_variable p q ≡ true → CellIs a b below is i → CellIs a b below is j → i ≡ j
    latest_two i j p q h k e g s (mine v in_own o at) (mine w its_own u there) =
        let first = ap (λ (x : Place). x.var) (some_is (whole (length (b ∷ below)) v) p (sym at ∙ e)) in
        let second = ap (λ (x : Place). x.var) (some_is (whole (length (b ∷ below)) w) q (sym there ∙ g)) in
        let var : v ≡ w = first ∙ (same_parts p q s).1 ∙ sym second in
        (are_apart a b below is).apart i j h k (o ∙ ap own var ∙ sym u)
    latest_two i j p q h k e g s (mine v in_own o at) (near less fewer there) = not_own v j p q (sym at ∙ e) fewer (sym there ∙ g) (same_parts p q s).0
    latest_two i j p q h k e g s (mine v in_own o at) (far n more fewer u listed there) = not_own v n p q (sym at ∙ e) fewer (sym there ∙ g) (same_parts p q s).0
    latest_two i j p q h k e g s (near less fewer at) (mine w its_own u there) = not_own w i q p (sym there ∙ g) fewer (sym at ∙ e) (sym (same_parts p q s).0)
    latest_two i j p q h k e g s (far m more fewer o listed at) (mine w its_own u there) = not_own w m q p (sym there ∙ g) fewer (sym at ∙ e) (sym (same_parts p q s).0)
    latest_two i j p q h k e g s (near less fewer at) (near other few there) = rest.apart i j p q (in_caller i fewer) (in_caller j few) (sym at ∙ e) (sym there ∙ g) s
    latest_two i j p q h k e g s (near less fewer at) (far n more few u listed there) = absurd (let same = rest.apart i n p q (in_caller i fewer) (in_caller n few) (sym at ∙ e) (sym there ∙ g) s in omega arith)
    latest_two i j p q h k e g s (far m more fewer o listed at) (near less few there) = absurd (let same = rest.apart m j p q (in_caller m fewer) (in_caller j few) (sym at ∙ e) (sym there ∙ g) s in omega arith)
    latest_two i j p q h k e g s (far m more fewer o listed at) (far n most few u found there) =
        let same = rest.apart m n p q (in_caller m fewer) (in_caller n few) (sym at ∙ e) (sym there ∙ g) s in
        (are_apart a b below is).apart i j h k (o ∙ ap foreign same ∙ sym u)

    latest_apart : IsApart (a ∷ b ∷ below) (length (b ∷ below))
    latest_apart = record {
      some = λ i h. latest_some i (cell_is a b below is i (in_latest i h));
      apart = λ i j p q h k e g s. latest_two i j p q (in_latest i h) (in_latest j k) e g s (cell_is a b below is i (in_latest i h)) (cell_is a b below is j (in_latest j k));
    }

  pub is_apart : (stack : Stack) → IsStack (chart_of f) stack → (d : ℕ) → d < length stack → IsApart stack d
  is_apart [] is d h = absurd is
  is_apart (a ∷ []) is d h = let zero_is : 0 ≡ d = omega arith in subst (IsApart (a ∷ [])) zero_is (main_is_apart a is)
  is_apart (a ∷ b ∷ below) is d h = by (depth_of (length (b ∷ below)) d h) (is_apart (b ∷ below) is.1)
    where
      by : IsDepth (length (b ∷ below)) d → ((e : ℕ) → e < length (b ∷ below) → IsApart (b ∷ below) e) → IsApart (a ∷ b ∷ below) d
      by (lower less) rest = lower_apart a (b ∷ below) d less (rest d less)
      by (latest at) rest = subst (IsApart (a ∷ b ∷ below)) (sym at) (latest_apart a b below is (rest (length below) (omega arith)))

  pub disjoint : (stack : Stack) → IsStack (chart_of f) stack → IsDisjoint (chart_of f) (outline_of f) stack
  disjoint stack is = record {
    some = λ d cell at. (let p = (is_apart stack is d at.depth).some cell at.in_range in (p.0, record { is_cell = at; variable = p.1 }));
    variables = λ d cell p denotes.
        (let q = (is_apart stack is d denotes.is_cell.depth).some cell denotes.is_cell.in_range in
        subst (IsVariable (chart_of f) (outline_of f) stack) (some_is q.0 p (sym q.1 ∙ denotes.variable)) q.3);
    apart = λ d i j p q first second s. (is_apart stack is d first.is_cell.depth).apart i j p q first.is_cell.in_range second.is_cell.in_range first.variable second.variable s;
  }
