-- Marks that are handed on from callees to callers.
use Rattle.std.proofs.Common.{◌≡◌, ℕ, suc, ◌<◌, ◌≤◌, Bool, true, false, List, length, get_or, set, Some, slice_get, refl, sym, ap, subst, ◌∙◌, inl, inr, arith, get_or-set_same, get_or-set_other}
use Rattle.std.specs.Prelude.{◌≢◌, if◌then◌else◌}
use Rattle.std.specs.Bool.{beq}
use Rattle.std.proofs.lemmas.Bool.{cases_eq}
use Rattle.std.proofs.lemmas.List.{length-set}
use Rattle.std.proofs.lemmas.List.Sums.{sum_by-set}
use Rattle.std.proofs.lemmas.Option.{get_or_from_slice_get, slice_get-get_or, slice_get_within}
use Rattle.activations.specs.declared.discovery.Call.{Call}
use Rattle.activations.specs.Marks.{AreWalked, IsHandedOn, IsMarked, Leads, MarksSome, itself, by_call, unmarked}

-- ---- a mark that is put

pub put_here : (marks : List Bool) (i : ℕ) (b : Bool) → i < length marks → slice_get (set marks i b) i ≡ Some b
put_here marks i b within =
    slice_get-get_or (set marks i b) i b (omega (arith, within, length-set marks i b)) ∙ ap (λ (x : Bool). Some x) (get_or-set_same marks i b b within)

pub put_other : (marks : List Bool) (i j : ℕ) (b x : Bool) → j ≢ i → slice_get (set marks i b) j ≡ Some x → slice_get marks j ≡ Some x
put_other marks i j b x other at =
    let within = slice_get_within (set marks i b) j x at in
    slice_get-get_or marks j x (omega (arith, within, length-set marks i b))
    ∙ ap (λ (y : Bool). Some y) (sym (get_or-set_other marks i j b x other) ∙ get_or_from_slice_get (set marks i b) j x x at)

pub kept_other : (marks : List Bool) (i j : ℕ) (b x : Bool) → j ≢ i → slice_get marks j ≡ Some x → slice_get (set marks i b) j ≡ Some x
kept_other marks i j b x other at =
    let within = slice_get_within marks j x at in
    slice_get-get_or (set marks i b) j x (omega (arith, within, length-set marks i b))
    ∙ ap (λ (y : Bool). Some y) (get_or-set_other marks i j b x other ∙ get_or_from_slice_get marks j x x at)

worth_marked : (mark : Bool) → ◌≡◌ {A = ℕ} (if beq mark mark then 0 else 1) 0
worth_marked true = refl
worth_marked false = refl

worth_other : (mark : Bool) → ◌≡◌ {A = ℕ} (if beq (if mark then false else true) mark then 0 else 1) 1
worth_other true = refl
worth_other false = refl

pub fewer_unmarked : (mark : Bool) (marks : List Bool) (i : ℕ) → slice_get marks i ≡ Some (if mark then false else true) → unmarked mark (set marks i mark) < unmarked mark marks
fewer_unmarked mark marks i at =
    let f : Bool → ℕ = λ (b : Bool). if beq b mark then 0 else 1 in
    let other : Bool = if mark then false else true in
    let within = slice_get_within marks i other at in
    let sums = sum_by-set f marks i mark mark within in
    let was : f (get_or marks i mark) ≡ 1 = ap f (get_or_from_slice_get marks i other mark at) ∙ worth_other mark in
    omega (arith, sums, was, worth_marked mark)

-- ---- some more marks

pub marks_none : (calls : List Call) (mark : Bool) (marks : List Bool) → MarksSome calls mark marks marks
marks_none calls mark marks = record {
  long = refl;
  kept = λ i h. h;
  led = λ i h. record { class = i; leads = itself; marked = h };
}

leads_on : (calls : List Call) (i j k : ℕ) → Leads calls i j → Leads calls j k → Leads calls i k
leads_on calls i j k itself rest = rest
leads_on calls i j k (by_call n c known is_caller more) rest = by_call n c known is_caller (leads_on calls c.callee j k more rest)

pub marks_more : (calls : List Call) (mark : Bool) (first second third : List Bool) → MarksSome calls mark first second → MarksSome calls mark second third → MarksSome calls mark first third
marks_more calls mark first second third m n = record {
  long = n.long ∙ m.long;
  kept = λ i h. n.kept i (m.kept i h);
  led = λ i h.
      let near = n.led i h in
      let far = m.led near.class near.marked in
      record { class = far.class; leads = leads_on calls i near.class far.class near.leads far.leads; marked = far.marked };
}

-- a call of these hands on a mark
pub marks_one : (calls : List Call) (mark : Bool) (k : ℕ) (c : Call) (old : List Bool) → slice_get calls k ≡ Some c → c.caller < length old → IsMarked mark old c.callee
    → MarksSome calls mark old (set old c.caller mark)
marks_one calls mark k c old known within marked = record {
  long = length-set old c.caller mark;
  kept = λ i h. elim (cases_eq i c.caller) [
    | inl same ↦ subst (λ (j : ℕ). slice_get (set old c.caller mark) j ≡ Some mark) (sym same) (put_here old c.caller mark within)
    | inr other ↦ kept_other old c.caller i mark mark other h
  ];
  led = λ i h. elim (cases_eq i c.caller) [
    | inl same ↦ record { class = c.callee; leads = by_call k c known (sym same) itself; marked = marked }
    | inr other ↦ record { class = i; leads = itself; marked = put_other old c.caller i mark mark other h }
  ];
}

-- ---- a walk over calls

pub walked_none : (calls : List Call) (mark : Bool) (n : ℕ) (marks : List Bool) → length calls ≤ n → AreWalked calls mark n false marks marks
walked_none calls mark n marks all = record {
  marks = marks_none calls mark marks;
  fewer = λ h. absurd (grind (arith, h));
  same = λ _. refl;
  closed = λ _ k c behind known _. let within = slice_get_within calls k c known in absurd (omega (arith, within, behind, all));
}

-- one more call hands on a mark
pub walked_new : (calls : List Call) (mark : Bool) (n : ℕ) (changed : Bool) (old now next : List Bool) (c : Call)
    → AreWalked calls mark (suc n) changed old now → slice_get calls n ≡ Some c → c.caller < length now → IsHandedOn c mark true now next → AreWalked calls mark n true old next
walked_new calls mark n changed old now next c walked known within handed =
    let is : next ≡ set now c.caller mark = handed.set refl in
    let one = subst (λ (m : List Bool). MarksSome calls mark now m) (sym is) (marks_one calls mark n c now known within (handed.callee refl)) in
    let fewer : unmarked mark next < unmarked mark now = subst (λ (m : List Bool). unmarked mark m < unmarked mark now) (sym is) (fewer_unmarked mark now c.caller (handed.caller refl)) in
    record {
      marks = marks_more calls mark old now next walked.marks one;
      fewer = λ _. before changed refl walked fewer;
      same = λ h. absurd (grind (arith, h));
      closed = λ h. absurd (grind (arith, h));
    }
  where
    before : (b : Bool) → changed ≡ b → AreWalked calls mark (suc n) changed old now → unmarked mark next < unmarked mark now → unmarked mark next < unmarked mark old
    before true is walked fewer = omega (arith, walked.fewer is, fewer)
    before false is walked fewer = subst (λ (m : List Bool). unmarked mark next < unmarked mark m) (walked.same is) fewer

-- one more call doesn't
pub walked_same : (calls : List Call) (mark : Bool) (n : ℕ) (changed : Bool) (old now next : List Bool) (c : Call)
    → AreWalked calls mark (suc n) changed old now → slice_get calls n ≡ Some c → IsHandedOn c mark false now next → AreWalked calls mark n changed old next
walked_same calls mark n changed old now next c walked known handed =
    subst (λ (m : List Bool). AreWalked calls mark n changed old m) (sym (handed.same refl)) (record {
      marks = walked.marks;
      fewer = walked.fewer;
      same = walked.same;
      closed = λ h k d behind at marked. elim (cases_eq n k) [
        | inl same ↦
            let is : c ≡ d = grind (arith, sym known ∙ ap (λ (j : ℕ). slice_get calls j) same ∙ at) in
            subst (λ (e : Call). IsMarked mark now e.callee → IsMarked mark now e.caller) is (handed.closed refl) marked
        | inr other ↦ walked.closed h k d (omega (arith, behind, other)) at marked
      ];
    })

-- the next call in going backward
pub walked_more : (calls : List Call) (mark : Bool) (n m : ℕ) (changed after handed : Bool) (old now next : List Bool) (c : Call)
    → m ≡ suc n → AreWalked calls mark m changed old now → slice_get calls n ≡ Some c → c.caller < length now → IsHandedOn c mark handed now next
    → (handed ≡ true → after ≡ true) → (handed ≡ false → after ≡ changed) → AreWalked calls mark n after old next
walked_more calls mark n m changed after true old now next c is walked known within handed new same =
    subst (λ (b : Bool). AreWalked calls mark n b old next) (sym (new refl))
    (walked_new calls mark n changed old now next c (subst (λ (k : ℕ). AreWalked calls mark k changed old now) is walked) known within handed)
walked_more calls mark n m changed after false old now next c is walked known within handed new same =
    subst (λ (b : Bool). AreWalked calls mark n b old next) (sym (same refl))
    (walked_same calls mark n changed old now next c (subst (λ (k : ℕ). AreWalked calls mark k changed old now) is walked) known handed)
