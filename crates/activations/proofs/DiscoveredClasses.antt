-- A class with the calls that it makes: each callee is a class, and earlier calls stay what they were.
use Rattle.std.proofs.Common.{◌≡◌, ℕ, ◌+◌, ◌<◌, ◌≤◌, Bool, true, false, ◌&&◌, List, [], ◌∷◌, ◌++◌, map, length, get_or, nat_eq, Option, Some, slice_get, refl, sym, ap, subst, ◌∙◌, arith, append_assoc, length-append}
use Rattle.std.specs.Bool.{beq}
use Rattle.std.specs.List.{AllByRecursion, fold, position_or_len}
use Rattle.std.specs.Option.{unwrap_or}
use Rattle.std.proofs.lemmas.Bool.Decides.{nat_tests}
use Rattle.std.proofs.lemmas.Grind.{fold-append}
use Rattle.std.proofs.lemmas.List.{length-map, map-append}
use Rattle.std.proofs.lemmas.Option.{slice_get-get_or}
use Rattle.control_points.specs.declared.flow.Flow.{Flow}
use Rattle.alias_class.specs.declared.bind.Bind.{Bind}
use Rattle.alias_class.specs.Calls.{callee}
use Rattle.alias_class.specs.Classes.{Class, Entry, class_at, same_bind, same_binds, same_class, same_entry}
use Rattle.alias_class.specs.Distinct.{with_member}
use Rattle.alias_class.specs.Outlines.{outline_of}
use Rattle.alias_class.specs.Tables.{Table}
use Rattle.activations.specs.declared.discovery.Call.{Call}
use Rattle.activations.specs.declared.discovery.Discovery.{Discovery}
use Rattle.activations.specs.Arcs.{call_of}
use Rattle.activations.specs.Distinct.{AreApart}
use Rattle.activations.specs.Found.{HasEntered}
use Rattle.activations.specs.Unfolding.{unfolding_of}
use Rattle.activations.proofs.Blocks.{append_nil}
use Rattle.activations.proofs.DiscoveredMembers.{Extends, IsIn, all_in, different_members, extended_at, first_is, first_stays, length-members, members_extend}

-- ---- a class is the same as itself

and_both : (a b : Bool) → a ≡ true → b ≡ true → (a && b) ≡ true
and_both true b e f = f
and_both false b e f = e

beq_itself : (b : Bool) → beq b b ≡ true
beq_itself true = refl
beq_itself false = refl

eq_itself : (n : ℕ) → nat_eq n n ≡ true
eq_itself n = grind (arith, nat_tests)

same_bind_itself : (b : Bind) → same_bind b b ≡ true
same_bind_itself b = and_both (beq b.whole b.whole) (nat_eq b.cell b.cell) (beq_itself b.whole) (eq_itself b.cell)

same_binds_itself : (bs : List Bind) → same_binds bs bs ≡ true
same_binds_itself [] = refl
same_binds_itself (b ∷ bs) = and_both (same_bind b b) (same_binds bs bs) (same_bind_itself b) (same_binds_itself bs)

same_entry_itself : (e : Entry) → same_entry e e ≡ true
same_entry_itself e =
    and_both (nat_eq e.routine e.routine && nat_eq e.site e.site) (same_binds e.bindings e.bindings)
    (and_both (nat_eq e.routine e.routine) (nat_eq e.site e.site) (eq_itself e.routine) (eq_itself e.site)) (same_binds_itself e.bindings)

pub same_itself : (c : Class) → same_class c c ≡ true
same_itself [] = refl
same_itself (e ∷ parent) = and_both (same_entry e e) (same_class parent parent) (same_entry_itself e) (same_itself parent)

-- ---- the class of a number

pub class_is : (cs : List Class) (i : ℕ) (c : Class) → slice_get cs i ≡ Some c → class_at cs i ≡ c
class_is cs i c at = ap (λ (o : Option Class). unwrap_or o []) at

pub class_there : (cs : List Class) (i : ℕ) → i < length cs → slice_get cs i ≡ Some (class_at cs i)
class_there cs i within =
    let at = slice_get-get_or cs i [] within in
    at ∙ ap (λ (c : Class). Some c) (sym (class_is cs i (get_or cs i []) at))

pub class_stays : (cs ds : List Class) (i : ℕ) → Extends cs ds → i < length cs → class_at ds i ≡ class_at cs i
class_stays cs ds i e within = class_is ds i (class_at cs i) (extended_at cs ds i (class_at cs i) e (class_there cs i within))

pub longer : {A : Type 0} (xs ys : List A) → Extends xs ys → length xs ≤ length ys
longer {A} xs ys e = omega (arith, ap (λ (l : List A). length l) e.is, length-append xs e.rest)

-- ---- calls

module _ (f : Flow) where
  abbrev pub callee_from : List Class → ℕ → ℕ → Class
  callee_from cs i k = callee (outline_of f) f.edges (class_at cs i) k

  abbrev pub call_from : List Class → ℕ → ℕ → Call
  call_from cs i k = call_of (unfolding_of f cs) (record { caller = i; edge = k })

  one_stays : (cs ds : List Class) (i k : ℕ) → Extends cs ds → i < length cs → IsIn same_class cs (callee_from cs i k) → call_from cs i k ≡ call_from ds i k
  one_stays cs ds i k e within there =
      let same_callee : callee_from cs i k ≡ callee_from ds i k = ap (λ (c : Class). callee (outline_of f) f.edges c k) (sym (class_stays cs ds i e within)) in
      let first : position_or_len (same_class (callee_from cs i k)) cs ≡ position_or_len (same_class (callee_from cs i k)) ds =
      sym (first_stays (same_class (callee_from cs i k)) cs e.rest there) ∙ ap (λ (l : List Class). position_or_len (same_class (callee_from cs i k)) l) (sym e.is) in
      let number : position_or_len (same_class (callee_from cs i k)) cs ≡ position_or_len (same_class (callee_from ds i k)) ds =
      first ∙ ap (λ (c : Class). position_or_len (same_class c) ds) same_callee in
      ap (λ (n : ℕ). record { caller = i; site = k; callee = n }) number

  pub calls_stay : (cs ds : List Class) (i : ℕ) (ks : List ℕ) → Extends cs ds → i < length cs → AllByRecursion (IsIn same_class cs) (map (callee_from cs i) ks)
      → map (call_from cs i) ks ≡ map (call_from ds i) ks
  calls_stay cs ds i [] e within there = refl
  calls_stay cs ds i (k ∷ ks) e within there =
      ap (λ (c : Call). c ∷ map (call_from cs i) ks) (one_stays cs ds i k e within there.0)
      ∙ ap (λ (l : List Call). call_from ds i k ∷ l) (calls_stay cs ds i ks e within there.1)

  -- ---- entering

  module _ (i : ℕ) where
    pub entered_extends : (ks : List ℕ) (old new : Discovery) → HasEntered f i ks old new → Extends old.classes.classes new.classes.classes
    entered_extends ks old new h =
        subst (λ (cs : List Class). Extends old.classes.classes cs) (sym h.classes) (members_extend same_class old.classes.classes (map (callee_from old.classes.classes i) ks))

    pub entered_apart : (ks : List ℕ) (old new : Discovery) → HasEntered f i ks old new → AreApart old.classes.classes → AreApart new.classes.classes
    entered_apart ks old new h apart =
        subst AreApart (sym h.classes) (different_members same_class old.classes.classes (map (callee_from old.classes.classes i) ks) apart)

    pub entered_few : (ks : List ℕ) (old new : Discovery) → HasEntered f i ks old new → length new.classes.classes ≤ length old.classes.classes + length ks
    entered_few ks old new h =
        let few = length-members same_class old.classes.classes (map (callee_from old.classes.classes i) ks) in
        omega (arith, few, ap (λ (cs : List Class). length cs) h.classes, length-map ks (callee_from old.classes.classes i))

    pub entered_in : (ks : List ℕ) (old new : Discovery) → HasEntered f i ks old new → AllByRecursion (IsIn same_class new.classes.classes) (map (callee_from old.classes.classes i) ks)
    entered_in ks old new h =
        let ds = map (callee_from old.classes.classes i) ks in
        subst (λ (cs : List Class). AllByRecursion (IsIn same_class cs) ds) (sym h.classes) (all_in same_class same_itself old.classes.classes ds)

    pub entered_none : (d : Discovery) → HasEntered f i [] d d
    entered_none d = record { outline = refl; classes = refl; calls = sym (append_nil d.calls.items); size = refl }

    pub entered_more : (ks js : List ℕ) (old mid new : Discovery) → i < length old.classes.classes → HasEntered f i ks old mid → HasEntered f i js mid new → HasEntered f i (ks ++ js) old new
    entered_more ks js old mid new within m n =
        let cs = old.classes.classes in
        let ds = mid.classes.classes in
        let es = new.classes.classes in
        let grown = entered_extends ks old mid m in
        let same = class_stays cs ds i grown within in
        let long = longer cs ds grown in
        let stay : map (call_from ds i) ks ≡ map (call_from es i) ks =
        calls_stay ds es i ks (entered_extends js mid new n) (omega (arith, within, long))
        (subst (λ (c : Class). AllByRecursion (IsIn same_class ds) (map (callee (outline_of f) f.edges c) ks)) (sym same) (entered_in ks old mid m)) in
        record {
          outline = n.outline ∙ m.outline;
          classes = n.classes
              ∙ ap (λ (c : Class). fold (with_member same_class) ds (map (callee (outline_of f) f.edges c) js)) same
              ∙ ap (λ (l : List Class). fold (with_member same_class) l (map (callee_from cs i) js)) m.classes
              ∙ sym (fold-append (with_member same_class) cs (map (callee_from cs i) ks) (map (callee_from cs i) js))
              ∙ ap (λ (l : List Class). fold (with_member same_class) cs l) (sym (map-append (callee_from cs i) ks js));
          calls = n.calls
              ∙ ap (λ (l : List Call). l ++ map (call_from es i) js) (m.calls ∙ ap (λ (l : List Call). old.calls.items ++ l) stay)
              ∙ append_assoc old.calls.items (map (call_from es i) ks) (map (call_from es i) js)
              ∙ ap (λ (l : List Call). old.calls.items ++ l) (sym (map-append (call_from es i) ks js));
          size = n.size ∙ m.size;
        }

    -- one call, whose callee has the number n
    pub entered_one : (k n : ℕ) (old new : Discovery) → i < length old.classes.classes → AreApart old.classes.classes
        → new.classes ≡ record old.classes { classes = with_member same_class old.classes.classes (callee_from old.classes.classes i k) }
        → slice_get new.classes.classes n ≡ Some (callee_from old.classes.classes i k)
        → new.calls.items ≡ old.calls.items ++ (record { caller = i; site = k; callee = n }) ∷ [] → new.size ≡ old.size → HasEntered f i (k ∷ []) old new
    entered_one k n old new within apart table at pushed size =
        let cs = old.classes.classes in
        let d = callee_from cs i k in
        let classes : new.classes.classes ≡ with_member same_class cs d = ap (λ (t : Table). t.classes) table in
        let grown : Extends cs new.classes.classes = subst (λ (l : List Class). Extends cs l) (sym classes) (members_extend same_class cs (d ∷ [])) in
        let different : AreApart new.classes.classes = subst AreApart (sym classes) (different_members same_class cs (d ∷ []) apart) in
        let number : position_or_len (same_class d) new.classes.classes ≡ n = first_is same_class new.classes.classes different n d (same_itself d) at in
        let same : d ≡ callee_from new.classes.classes i k = ap (λ (c : Class). callee (outline_of f) f.edges c k) (sym (class_stays cs new.classes.classes i grown within)) in
        let first : position_or_len (same_class (callee_from new.classes.classes i k)) new.classes.classes ≡ n = ap (λ (c : Class). position_or_len (same_class c) new.classes.classes) (sym same) ∙ number in
        record {
          outline = ap (λ (t : Table). t.outline) table;
          classes = classes;
          calls = pushed ∙ ap (λ (m : ℕ). old.calls.items ++ (record { caller = i; site = k; callee = m }) ∷ []) (sym first);
          size = size;
        }
