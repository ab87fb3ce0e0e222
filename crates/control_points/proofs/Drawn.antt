-- Edges and checks that are added to a graph.
use Rattle.std.proofs.Common.{◌≡◌, ◌⊎◌, inl, inr, ℕ, zero, suc, ◌-◌, ◌<◌, ◌≤◌, Bool, true, false, List, [], ◌∷◌, ◌++◌, length, refl, sym, ap, subst, ◌∙◌, Option, Some, None, nat_eq, nat_lt, append_assoc, arith, rules, tests}
use Rattle.std.proofs.lemmas.Bool.{and_parts, ltb-true, true≢false}
use Rattle.std.proofs.lemmas.Option.{none-some, slice_get_within}
use Rattle.std.specs.List.{slice_get, slice_index}
use Rattle.std.specs.Option.{option_map}
use Rattle.pas_program.proofs.Layouts.{slice_get-append}
use Rattle.pas_program.specs.declared.expr.Actual.{Actual}
use Rattle.pas_program.specs.declared.program.Program.{Program}
use Rattle.pas_program.specs.Checked.{numbers_in, scope_in}
use Rattle.pas_program.specs.Tables.{holds_of}
use Rattle.control_points.specs.declared.check.Check.{Check}
use Rattle.control_points.specs.declared.edge.Act.{Act}
use Rattle.control_points.specs.declared.edge.Act.TheVariants as act
use Rattle.control_points.specs.declared.edge.Edge.{Edge}
use Rattle.control_points.specs.declared.labels.Labels.{Labels}
use Rattle.control_points.specs.declared.numbering.Mark.{Mark}
use Rattle.control_points.specs.declared.point.Point.{Point}
use Rattle.control_points.specs.declared.point.PointKind.TheVariants as kind
use Rattle.control_points.specs.Acts.{each_act}
use Rattle.control_points.specs.Checking.{Faults}
use Rattle.control_points.specs.Fits.{routine_at, kind_at, act_at, callee_of, is_return_of, CallsReturn}
use Rattle.control_points.specs.Judging.{checks_at}
use Rattle.control_points.specs.Leading.{goes_on_after, is_return}
use Rattle.control_points.specs.Scenes.{IsPlaced}
use Rattle.control_points.specs.Wired.{ActFits, EdgeFits, IsWired, IsJudged, IsGraph, IsBlock, is_exit_at, points_of}
use Rattle.control_points.proofs.Listed.{get_more, get_either, found_of, same_some}

-- ---- points

-- a point that has a routine is one of the list
own_within : (points : List Point) (p r : ℕ) (o : Option Point) → slice_get points p ≡ o → option_map (λ (q : Point). q.routine) o ≡ Some r → p < length points
own_within points p r None e h = absurd (none-some r h)
own_within points p r (Some q) e h = slice_get_within points p q e

pub point_within : (points : List Point) (p r : ℕ) → routine_at points p ≡ Some r → p < length points
point_within points p r h = own_within points p r (slice_get points p) refl h

own_routine : (r : ℕ) (q : Point) (o : Option Point) → o ≡ Some q → option_map (λ (q : Point). q.routine) o ≡ Some r → q.routine ≡ r
own_routine r q o e h = same_some (sym (ap (option_map (λ (q : Point). q.routine)) e) ∙ h)

-- a point from the entry on is of the routine, and before the exit it is none
at_or_after : (m n : ℕ) → m ≤ n → (m ≡ n) ⊎ (m < n)
at_or_after m n h = grind arith

pub source_own : (points : List Point) (r entry exit p : ℕ) → IsBlock points r entry exit → entry ≤ p → p < exit → routine_at points p ≡ Some r
source_own points r entry exit p b low high = elim (at_or_after entry p low) [ inl e ↦ subst (λ n. routine_at points n ≡ Some r) e b.entry_own | inr g ↦ b.own p g high ]

pub source_inner : (points : List Point) (r entry exit p : ℕ) → IsBlock points r entry exit → entry ≤ p → p < exit → is_exit_at (kind_at points p) ≡ false
source_inner points r entry exit p b low high = elim (at_or_after entry p low) [ inl e ↦ subst (λ n. is_exit_at (kind_at points n) ≡ false) e (ap is_exit_at b.entry_kind) | inr g ↦ b.inner p g high ]

pub target_own : (points : List Point) (r entry exit p : ℕ) → IsBlock points r entry exit → entry < p → p ≤ exit → routine_at points p ≡ Some r
target_own points r entry exit p b low high = elim (at_or_after p exit high) [ inl e ↦ subst (λ n. routine_at points n ≡ Some r) (sym e) b.exit_own | inr g ↦ b.own p low g ]

-- ---- one edge by itself

no_goto : (j t : ℕ) → act.Return j ≡ act.Goto t → ⊥
no_goto j t e = cc

stays : (a : Act) (s : ℕ) → callee_of a ≡ Some s → goes_on_after a ≡ true → ⊥
stays act.Skip s c h = none-some s c
stays (act.Assign target value) s c h = none-some s c
stays (act.Copy target source) s c h = none-some s c
stays (act.Call routine actuals slot at) s c h = true≢false (sym h)
stays (act.Return call) s c h = none-some s c
stays (act.Goto routine) s c h = none-some s c
stays (act.Test cond wanted) s c h = none-some s c
stays (act.Arm selector constants) s c h = none-some s c
stays (act.Enter control bound first down last) s c h = none-some s c
stays (act.Bypass control bound first down last) s c h = none-some s c
stays (act.Next control bound down) s c h = none-some s c
stays (act.Finish control bound down) s c h = none-some s c
stays (act.Read target) s c h = none-some s c
stays act.DropLine s c h = none-some s c
stays (act.Write item) s c h = none-some s c
stays act.EndLine s c h = none-some s c

same_goto : (s t : ℕ) → act.Goto s ≡ act.Goto t → s ≡ t
same_goto s t e = cc

same_return : (j k : ℕ) → act.Return j ≡ act.Return k → j ≡ k
same_return j k e = cc

no_call : (a : Act) (s : ℕ) → callee_of a ≡ Some s → is_return a ≡ true → ⊥
no_call act.Skip s c h = true≢false (sym h)
no_call (act.Assign target value) s c h = true≢false (sym h)
no_call (act.Copy target source) s c h = true≢false (sym h)
no_call (act.Call routine actuals slot at) s c h = true≢false (sym h)
no_call (act.Return call) s c h = none-some s c
no_call (act.Goto routine) s c h = true≢false (sym h)
no_call (act.Test cond wanted) s c h = true≢false (sym h)
no_call (act.Arm selector constants) s c h = true≢false (sym h)
no_call (act.Enter control bound first down last) s c h = true≢false (sym h)
no_call (act.Bypass control bound first down last) s c h = true≢false (sym h)
no_call (act.Next control bound down) s c h = true≢false (sym h)
no_call (act.Finish control bound down) s c h = true≢false (sym h)
no_call (act.Read target) s c h = true≢false (sym h)
no_call act.DropLine s c h = true≢false (sym h)
no_call (act.Write item) s c h = true≢false (sym h)
no_call act.EndLine s c h = true≢false (sym h)

pub local_stays : (a : Act) → goes_on_after a ≡ true → is_return a ≡ false
local_stays act.Skip h = refl
local_stays (act.Assign target value) h = refl
local_stays (act.Copy target source) h = refl
local_stays (act.Call routine actuals slot at) h = refl
local_stays (act.Return call) h = absurd (true≢false (sym h))
local_stays (act.Goto routine) h = refl
local_stays (act.Test cond wanted) h = refl
local_stays (act.Arm selector constants) h = refl
local_stays (act.Enter control bound first down last) h = refl
local_stays (act.Bypass control bound first down last) h = refl
local_stays (act.Next control bound down) h = refl
local_stays (act.Finish control bound down) h = refl
local_stays (act.Read target) h = refl
local_stays act.DropLine h = refl
local_stays (act.Write item) h = refl
local_stays act.EndLine h = refl

module _ (program : Program) (points : List Point) where
  scopes_at : (r p : ℕ) (a : Act) → routine_at points p ≡ Some r → each_act (scope_in program r) a ≡ true → (q : Point) → slice_get points p ≡ Some q → each_act (scope_in program q.routine) a ≡ true
  scopes_at r p a own fits q e = subst (λ n. each_act (scope_in program n) a ≡ true) (sym (own_routine r q (slice_get points p) e own)) fits

  no_exit : (p : ℕ) (b : Bool) → is_exit_at (kind_at points p) ≡ false → kind_at points p ≡ Some kind.Exit → b ≡ true
  no_exit p b h e = absurd (true≢false (sym (ap is_exit_at e) ∙ h))

  pub local_fits : (r p q : ℕ) (a : Act) → routine_at points p ≡ Some r → is_exit_at (kind_at points p) ≡ false → routine_at points q ≡ Some r → ActFits program r a → goes_on_after a ≡ true → EdgeFits program points (record { from = p; act = a; to = q })
  local_fits r p q a own inner to fits on = record {
    source = point_within points p r own;
    target = point_within points q r to;
    numbers = fits.numbers;
    types = fits.types;
    scopes = scopes_at r p a own fits.scopes;
    inside = λ h. to ∙ sym own;
    outside = λ s e. absurd (true≢false (sym on ∙ ap goes_on_after e));
    returns = no_exit p (is_return a) inner;
    returned = λ h. absurd (true≢false (sym h ∙ local_stays a on));
  }

  pub goto_fits : (r s p q : ℕ) → routine_at points p ≡ Some r → is_exit_at (kind_at points p) ≡ false → routine_at points q ≡ Some s → ActFits program r (act.Goto s) → EdgeFits program points (record { from = p; act = act.Goto s; to = q })
  goto_fits r s p q own inner to fits = record {
    source = point_within points p r own;
    target = point_within points q s to;
    numbers = fits.numbers;
    types = fits.types;
    scopes = scopes_at r p (act.Goto s) own fits.scopes;
    inside = λ h. absurd (true≢false (sym h));
    outside = λ t e. subst (λ n. routine_at points q ≡ Some n) (same_goto s t e) to;
    returns = no_exit p (is_return (act.Goto s)) inner;
    returned = λ h. absurd (true≢false (sym h));
  }

  -- of a call, which leads to an entry
  pub call_fits : (r p q : ℕ) (a : Act) → routine_at points p ≡ Some r → is_exit_at (kind_at points p) ≡ false → q < length points → ActFits program r a → (s : ℕ) → callee_of a ≡ Some s → EdgeFits program points (record { from = p; act = a; to = q })
  call_fits r p q a own inner to fits s calls = record {
    source = point_within points p r own;
    target = to;
    numbers = fits.numbers;
    types = fits.types;
    scopes = scopes_at r p a own fits.scopes;
    inside = λ h. absurd (stays a s calls h);
    outside = λ t e. absurd (none-some s (sym (ap callee_of e) ∙ calls));
    returns = no_exit p (is_return a) inner;
    returned = λ h. absurd (no_call a s calls h);
  }

  -- of a return
  pub return_fits : (p q j : ℕ) → p < length points → q < length points → kind_at points p ≡ Some kind.Exit → EdgeFits program points (record { from = p; act = act.Return j; to = q })
  return_fits p q j source target exit = record {
    source = source;
    target = target;
    numbers = refl;
    types = refl;
    scopes = λ x e. refl;
    inside = λ h. absurd (true≢false (sym h));
    outside = λ t e. absurd (no_goto j t e);
    returns = λ e. refl;
    returned = λ h. exit;
  }

-- ---- edges at the end of a list

module _ (points : List Point) (edges : List Edge) (old : CallsReturn points edges) where
  -- the return of a call is there
  after_call : (k r : ℕ) (e : Edge) → slice_get edges k ≡ Some e → callee_of e.act ≡ Some r → (f : Edge) × (slice_get edges (suc k) ≡ Some f)
  after_call k r e h c = found_of (is_return_of k) (λ (d : Edge). d.act) (slice_get edges (suc k)) (old.return k r e h c)

  module _ (more : List Edge) where
    abbrev grown : List Edge
    grown = edges ++ more

    return_kept : (k r : ℕ) (e : Edge) → slice_get edges k ≡ Some e → callee_of e.act ≡ Some r → holds_of (is_return_of k) (act_at grown (suc k)) ≡ true
    return_kept k r e h c =
        let f = after_call k r e h c in
        ap (λ o. holds_of (is_return_of k) (option_map (λ (d : Edge). d.act) o)) (slice_get-append edges more (suc k) f.0 f.1 ∙ sym f.1) ∙ old.return k r e h c

    follows : (k r : ℕ) (e f : Edge) → slice_get edges k ≡ Some e → slice_get grown (suc k) ≡ Some f → callee_of e.act ≡ Some r → slice_get edges (suc k) ≡ Some f
    follows k r e f h g c =
        let d = after_call k r e h c in
        d.1 ∙ sym (slice_get-append edges more (suc k) d.0 d.1) ∙ g

other_callee : (e d : Edge) → callee_of e.act ≡ None → e ≡ d → (r : ℕ) → callee_of d.act ≡ Some r → ⊥
other_callee e d plain same r c = none-some r (sym plain ∙ ap (λ (x : Edge). callee_of x.act) same ∙ c)

-- an edge that is no call and no return
pub calls_more : (points : List Point) (edges : List Edge) (e : Edge) → CallsReturn points edges → callee_of e.act ≡ None → is_return e.act ≡ false → CallsReturn points (edges ++ e ∷ [])
calls_more points edges e old plain stays = record {
  entry = λ k r d h c. elim (get_more edges e k d h) [ inl g ↦ old.entry k r d g c | inr g ↦ absurd (other_callee e d plain g.1 r c) ];
  entered = λ k r d h c. elim (get_more edges e k d h) [ inl g ↦ old.entered k r d g c | inr g ↦ absurd (other_callee e d plain g.1 r c) ];
  return = λ k r d h c. elim (get_more edges e k d h) [ inl g ↦ return_kept points edges old (e ∷ []) k r d g c | inr g ↦ absurd (other_callee e d plain g.1 r c) ];
  exit = λ k r d f h n c. elim (get_more edges e k d h) [ inl g ↦ old.exit k r d f g (follows points edges old (e ∷ []) k r d f g n c) c | inr g ↦ absurd (other_callee e d plain g.1 r c) ];
  exited = λ k r d f h n c. elim (get_more edges e k d h) [ inl g ↦ old.exited k r d f g (follows points edges old (e ∷ []) k r d f g n c) c | inr g ↦ absurd (other_callee e d plain g.1 r c) ];
  resumed = λ k r d f h n c. elim (get_more edges e k d h) [ inl g ↦ old.resumed k r d f g (follows points edges old (e ∷ []) k r d f g n c) c | inr g ↦ absurd (other_callee e d plain g.1 r c) ];
  called = λ k j d h c. elim (get_more edges e k d h) [ inl g ↦ old.called k j d g c | inr g ↦ absurd (true≢false (sym (ap is_return (ap (λ (x : Edge). x.act) g.1 ∙ c)) ∙ stays)) ];
}

-- a call with its return: the call at k leads to an entry, and the return from the exit back to where the call stands
pub record IsCallPair (points : List Point) (k : ℕ) (e f : Edge) : Type 0 where
  pub routine : ℕ
  pub calls : callee_of e.act ≡ Some routine
  pub returns : f.act ≡ act.Return k
  pub entry : kind_at points e.to ≡ Some kind.Entry
  pub entered : routine_at points e.to ≡ Some routine
  pub exit : kind_at points f.from ≡ Some kind.Exit
  pub exited : routine_at points f.from ≡ Some routine
  pub resumed : routine_at points f.to ≡ routine_at points e.from

-- the elements of a list that has two more
data TwoMore (edges : List Edge) (e f : Edge) : ℕ → Edge → Type 0 where
  old_one : (k : ℕ) (d : Edge) → slice_get edges k ≡ Some d → TwoMore edges e f k d
  first_one : (k : ℕ) (d : Edge) → k ≡ length edges → e ≡ d → TwoMore edges e f k d
  second_one : (k : ℕ) (d : Edge) → k ≡ suc (length edges) → f ≡ d → TwoMore edges e f k d

pair_at : (e f d : Edge) (n : ℕ) → slice_get (e ∷ f ∷ []) n ≡ Some d → ((n ≡ 0) × (e ≡ d)) ⊎ ((n ≡ 1) × (f ≡ d))
pair_at e f d zero h = inl (refl, same_some h)
pair_at e f d (suc zero) h = inr (refl, same_some h)
pair_at e f d (suc (suc n)) h = absurd (none-some d h)

two_more : (edges : List Edge) (e f : Edge) (k : ℕ) (d : Edge) → slice_get (edges ++ e ∷ f ∷ []) k ≡ Some d → TwoMore edges e f k d
two_more edges e f k d h =
    elim (get_either edges (e ∷ f ∷ []) k d h) [
      | inl g ↦ old_one k d g
      | inr g ↦ elim (pair_at e f d (k - length edges) g.1) [ inl i ↦ first_one k d (omega (arith, g.0, i.0)) i.1 | inr i ↦ second_one k d (omega (arith, g.0, i.0)) i.1 ]
    ]

get_second : (edges : List Edge) (e f : Edge) → slice_get (edges ++ e ∷ f ∷ []) (suc (length edges)) ≡ Some f
get_second [] e f = refl
get_second (x ∷ edges) e f = get_second edges e f

nat_eq_self : (n : ℕ) → nat_eq n n ≡ true
nat_eq_self n = search (rules, tests)

module _ (points : List Point) (edges : List Edge) (e f : Edge) (old : CallsReturn points edges) (pair : IsCallPair points (length edges) e f) where
  abbrev longer : List Edge
  longer = edges ++ e ∷ f ∷ []

  no_callee : (d : Edge) (r : ℕ) → f ≡ d → callee_of d.act ≡ Some r → ⊥
  no_callee d r s c = none-some r (sym (ap callee_of pair.returns) ∙ ap (λ (x : Edge). callee_of x.act) s ∙ c)

  same_callee : (d : Edge) (r : ℕ) → e ≡ d → callee_of d.act ≡ Some r → pair.routine ≡ r
  same_callee d r s c = same_some (sym pair.calls ∙ ap (λ (x : Edge). callee_of x.act) s ∙ c)

  -- what stands behind the call is its return
  behind : (k : ℕ) (g : Edge) → k ≡ length edges → slice_get longer (suc k) ≡ Some g → f ≡ g
  behind k g n h = same_some (sym (get_second edges e f) ∙ ap (λ j. slice_get longer (suc j)) (sym n) ∙ h)

  pair_entry : (k r : ℕ) (d : Edge) → TwoMore edges e f k d → callee_of d.act ≡ Some r → kind_at points d.to ≡ Some kind.Entry
  pair_entry k r d (old_one _ _ g) c = old.entry k r d g c
  pair_entry k r d (first_one _ _ n s) c = ap (λ (x : Edge). kind_at points x.to) (sym s) ∙ pair.entry
  pair_entry k r d (second_one _ _ n s) c = absurd (no_callee d r s c)

  pair_entered : (k r : ℕ) (d : Edge) → TwoMore edges e f k d → callee_of d.act ≡ Some r → routine_at points d.to ≡ Some r
  pair_entered k r d (old_one _ _ g) c = old.entered k r d g c
  pair_entered k r d (first_one _ _ n s) c = ap (λ (x : Edge). routine_at points x.to) (sym s) ∙ pair.entered ∙ ap Some (same_callee d r s c)
  pair_entered k r d (second_one _ _ n s) c = absurd (no_callee d r s c)

  is_its_return : (k : ℕ) → k ≡ length edges → is_return_of k f.act ≡ true
  is_its_return k n = ap (is_return_of k) (pair.returns ∙ ap act.Return (sym n)) ∙ nat_eq_self k

  pair_return : (k r : ℕ) (d : Edge) → TwoMore edges e f k d → callee_of d.act ≡ Some r → holds_of (is_return_of k) (act_at longer (suc k)) ≡ true
  pair_return k r d (old_one _ _ g) c = return_kept points edges old (e ∷ f ∷ []) k r d g c
  pair_return k r d (first_one _ _ n s) c =
      ap (λ o. holds_of (is_return_of k) (option_map (λ (x : Edge). x.act) o)) (ap (λ j. slice_get longer (suc j)) n ∙ get_second edges e f) ∙ is_its_return k n
  pair_return k r d (second_one _ _ n s) c = absurd (no_callee d r s c)

  pair_exit : (k r : ℕ) (d g : Edge) → TwoMore edges e f k d → slice_get longer (suc k) ≡ Some g → callee_of d.act ≡ Some r → kind_at points g.from ≡ Some kind.Exit
  pair_exit k r d g (old_one _ _ h) n c = old.exit k r d g h (follows points edges old (e ∷ f ∷ []) k r d g h n c) c
  pair_exit k r d g (first_one _ _ m s) n c = ap (λ (x : Edge). kind_at points x.from) (sym (behind k g m n)) ∙ pair.exit
  pair_exit k r d g (second_one _ _ m s) n c = absurd (no_callee d r s c)

  pair_exited : (k r : ℕ) (d g : Edge) → TwoMore edges e f k d → slice_get longer (suc k) ≡ Some g → callee_of d.act ≡ Some r → routine_at points g.from ≡ Some r
  pair_exited k r d g (old_one _ _ h) n c = old.exited k r d g h (follows points edges old (e ∷ f ∷ []) k r d g h n c) c
  pair_exited k r d g (first_one _ _ m s) n c = ap (λ (x : Edge). routine_at points x.from) (sym (behind k g m n)) ∙ pair.exited ∙ ap Some (same_callee d r s c)
  pair_exited k r d g (second_one _ _ m s) n c = absurd (no_callee d r s c)

  pair_resumed : (k r : ℕ) (d g : Edge) → TwoMore edges e f k d → slice_get longer (suc k) ≡ Some g → callee_of d.act ≡ Some r → routine_at points g.to ≡ routine_at points d.from
  pair_resumed k r d g (old_one _ _ h) n c = old.resumed k r d g h (follows points edges old (e ∷ f ∷ []) k r d g h n c) c
  pair_resumed k r d g (first_one _ _ m s) n c = ap (λ (x : Edge). routine_at points x.to) (sym (behind k g m n)) ∙ pair.resumed ∙ ap (λ (x : Edge). routine_at points x.from) s
  pair_resumed k r d g (second_one _ _ m s) n c = absurd (no_callee d r s c)

  pair_called : (k j : ℕ) (d : Edge) → TwoMore edges e f k d → d.act ≡ act.Return j → k ≡ suc j
  pair_called k j d (old_one _ _ g) c = old.called k j d g c
  pair_called k j d (first_one _ _ n s) c = absurd (none-some pair.routine (sym (ap callee_of (ap (λ (x : Edge). x.act) s ∙ c)) ∙ pair.calls))
  pair_called k j d (second_one _ _ n s) c = n ∙ ap suc (same_return (length edges) j (sym pair.returns ∙ ap (λ (x : Edge). x.act) s ∙ c))

  pair_more : CallsReturn points longer
  pair_more = record {
    entry = λ k r d h c. pair_entry k r d (two_more edges e f k d h) c;
    entered = λ k r d h c. pair_entered k r d (two_more edges e f k d h) c;
    return = λ k r d h c. pair_return k r d (two_more edges e f k d h) c;
    exit = λ k r d g h n c. pair_exit k r d g (two_more edges e f k d h) n c;
    exited = λ k r d g h n c. pair_exited k r d g (two_more edges e f k d h) n c;
    resumed = λ k r d g h n c. pair_resumed k r d g (two_more edges e f k d h) n c;
    called = λ k j d h c. pair_called k j d (two_more edges e f k d h) c;
  }

-- ---- checks

at_point : (n : ℕ) (faults : Faults) (k : ℕ) (c : Check) → slice_get (checks_at n faults) k ≡ Some c → c.point ≡ n
at_point n [] k c h = absurd (none-some c h)
at_point n (f ∷ faults) zero c h = sym (ap (λ (x : Check). x.point) (same_some h))
at_point n (f ∷ faults) (suc k) c h = at_point n faults k c h

module _ (points : List Point) (checks : List Check) (m n : ℕ) (faults : Faults) (old : IsJudged points checks m) (low : m ≤ n) (high : n < length points) where
  abbrev now : List Check
  now = checks ++ checks_at n faults

  more_point : (k : ℕ) (c : Check) → slice_get now k ≡ Some c → c.point < length points
  more_point k c h = elim (get_either checks (checks_at n faults) k c h) [ inl g ↦ old.fit.point k c g | inr g ↦ omega (arith, at_point n faults (k - length checks) c g.1) ]

  more_most : (k : ℕ) (c : Check) → slice_get now k ≡ Some c → c.point ≤ n
  more_most k c h = elim (get_either checks (checks_at n faults) k c h) [ inl g ↦ omega (arith, old.most k c g) | inr g ↦ omega (arith, at_point n faults (k - length checks) c g.1) ]

  more_order : (j k : ℕ) (c d : Check) → j ≤ k → slice_get now j ≡ Some c → slice_get now k ≡ Some d → c.point ≤ d.point
  more_order j k c d le g h =
      elim (get_either checks (checks_at n faults) k d h) [
        | inl i ↦ elim (get_either checks (checks_at n faults) j c g) [ inl f ↦ old.fit.order j k c d le f i | inr f ↦ absurd (omega (arith, slice_get_within checks k d i, f.0)) ]
        | inr i ↦ omega (arith, at_point n faults (k - length checks) d i.1, more_most j c g)
      ]

  at_end : IsJudged points now n
  at_end = record { fit = record { point = more_point; order = more_order }; most = more_most }

-- checks of one point behind all others
pub judged_more : (points : List Point) (checks more : List Check) (m n : ℕ) (faults : Faults) → IsJudged points checks m → m ≤ n → n < length points → more ≡ checks ++ checks_at n faults → IsJudged points more n
judged_more points checks more m n faults old low high is = subst (λ cs. IsJudged points cs n) (sym is) (at_end points checks m n faults old low high)

pub judged_weaker : (points : List Point) (checks : List Check) (m n : ℕ) → IsJudged points checks m → m ≤ n → IsJudged points checks n
judged_weaker points checks m n old low = record { fit = old.fit; most = λ k c h. omega (arith, old.most k c h) }

-- ---- the whole graph

module _ (program : Program) (points : List Point) where
  pub drawn_weaker : (edges : List Edge) (checks : List Check) (m n : ℕ) → IsGraph program points edges checks m → m ≤ n → IsGraph program points edges checks n
  drawn_weaker edges checks m n old low = record { wired = old.wired; judged = judged_weaker points checks m n old.judged low }

  pub drawn_judged : (edges : List Edge) (checks more : List Check) (m n : ℕ) (faults : Faults) → IsGraph program points edges checks m → m ≤ n → n < length points → more ≡ checks ++ checks_at n faults → IsGraph program points edges more n
  drawn_judged edges checks more m n faults old low high is = record { wired = old.wired; judged = judged_more points checks more m n faults old.judged low high is }

  each_more : (edges : List Edge) (e : Edge) → ((k : ℕ) (d : Edge) → slice_get edges k ≡ Some d → EdgeFits program points d) → EdgeFits program points e → (k : ℕ) (d : Edge) → slice_get (edges ++ e ∷ []) k ≡ Some d → EdgeFits program points d
  each_more edges e old fits k d h = elim (get_more edges e k d h) [ inl g ↦ old k d g | inr g ↦ subst (EdgeFits program points) g.1 fits ]

  pub wired_more : (edges : List Edge) (e : Edge) → IsWired program points edges → EdgeFits program points e → callee_of e.act ≡ None → is_return e.act ≡ false → IsWired program points (edges ++ e ∷ [])
  wired_more edges e old fits plain stays = record { each = each_more edges e old.each fits; calls = calls_more points edges e old.calls plain stays }

  pub wired_pair : (edges : List Edge) (e f : Edge) → IsWired program points edges → EdgeFits program points e → EdgeFits program points f → IsCallPair points (length edges) e f → IsWired program points ((edges ++ e ∷ []) ++ f ∷ [])
  wired_pair edges e f old fits back pair = record {
    each = each_more (edges ++ e ∷ []) f (each_more edges e old.each fits) back;
    calls = subst (CallsReturn points) (sym (append_assoc edges (e ∷ []) (f ∷ []))) (pair_more points edges e f old.calls pair);
  }

-- what goes on in its activation is no call and no return
pub local_plain : (a : Act) → goes_on_after a ≡ true → callee_of a ≡ None
local_plain act.Skip h = refl
local_plain (act.Assign target value) h = refl
local_plain (act.Copy target source) h = refl
local_plain (act.Call routine actuals slot at) h = absurd (true≢false (sym h))
local_plain (act.Return call) h = refl
local_plain (act.Goto routine) h = refl
local_plain (act.Test cond wanted) h = refl
local_plain (act.Arm selector constants) h = refl
local_plain (act.Enter control bound first down last) h = refl
local_plain (act.Bypass control bound first down last) h = refl
local_plain (act.Next control bound down) h = refl
local_plain (act.Finish control bound down) h = refl
local_plain (act.Read target) h = refl
local_plain act.DropLine h = refl
local_plain (act.Write item) h = refl
local_plain act.EndLine h = refl

-- ---- what the walk adds at a point of a routine

module _ (program : Program) (points : List Point) (r entry exit : ℕ) (block : IsBlock points r entry exit) where
  pub drawn_edge : (edges : List Edge) (checks : List Check) (m p q : ℕ) (a : Act) → IsGraph program points edges checks m → entry ≤ p → p < exit → entry < q → q ≤ exit → ActFits program r a → goes_on_after a ≡ true → IsGraph program points (edges ++ record { from = p; act = a; to = q } ∷ []) checks m
  drawn_edge edges checks m p q a old low high next_low next_high fits on = record {
    wired = wired_more program points edges (record { from = p; act = a; to = q }) old.wired
        (local_fits program points r p q a (source_own points r entry exit p block low high) (source_inner points r entry exit p block low high) (target_own points r entry exit q block next_low next_high) fits on)
        (local_plain a on) (local_stays a on);
    judged = old.judged;
  }

  pub drawn_goto : (edges : List Edge) (checks : List Check) (m p q s : ℕ) → IsGraph program points edges checks m → entry ≤ p → p < exit → routine_at points q ≡ Some s → ActFits program r (act.Goto s) → IsGraph program points (edges ++ record { from = p; act = act.Goto s; to = q } ∷ []) checks m
  drawn_goto edges checks m p q s old low high to fits = record {
    wired = wired_more program points edges (record { from = p; act = act.Goto s; to = q }) old.wired
        (goto_fits program points r s p q (source_own points r entry exit p block low high) (source_inner points r entry exit p block low high) to fits) refl refl;
    judged = old.judged;
  }

  pub drawn_call : (edges : List Edge) (checks : List Check) (m p back s first last : ℕ) (a : Act) → IsGraph program points edges checks m → entry ≤ p → p < exit → entry < back → back ≤ exit → callee_of a ≡ Some s → ActFits program r a → IsBlock points s first last
      → IsGraph program points ((edges ++ record { from = p; act = a; to = first } ∷ []) ++ record { from = last; act = act.Return (length edges); to = back } ∷ []) checks m
  drawn_call edges checks m p back s first last a old low high next_low next_high calls fits callee =
      let own = source_own points r entry exit p block low high in
      let next = target_own points r entry exit back block next_low next_high in
      record {
        wired = wired_pair program points edges (record { from = p; act = a; to = first }) (record { from = last; act = act.Return (length edges); to = back }) old.wired
            (call_fits program points r p first a own (source_inner points r entry exit p block low high) (point_within points first s callee.entry_own) fits s calls)
            (return_fits program points last back (length edges) (point_within points last s callee.exit_own) (point_within points back r next) callee.exit_kind)
            (record { routine = s; calls = calls; returns = refl; entry = callee.entry_kind; entered = callee.entry_own; exit = callee.exit_kind; exited = callee.exit_own; resumed = next ∙ sym own });
        judged = old.judged;
      }

-- the routine's own block
pub own_block : (program : Program) (marks : List Mark) (entries : List ℕ) (labels : List Labels) (r entry exit : ℕ) → IsPlaced program marks entries labels r entry exit → IsBlock (points_of marks) r entry exit
own_block program marks entries labels r entry exit p =
    subst (λ n. IsBlock (points_of marks) r n exit) (sym p.entry_is) (subst (IsBlock (points_of marks) r (slice_index entries r)) (sym p.exit_is) (p.blocks.block r p.known))

-- the same graph, by its parts
pub graph_along : (program : Program) (points : List Point) (edges more : List Edge) (checks others : List Check) (n : ℕ) → more ≡ edges → others ≡ checks → IsGraph program points edges checks n → IsGraph program points more others n
graph_along program points edges more checks others n e c g = subst (λ es. IsGraph program points es others n) (sym e) (subst (λ cs. IsGraph program points edges cs n) (sym c) g)

-- a called routine is one of the program
pub callee_known : (program : Program) (routine : ℕ) (actuals : List Actual) (slot : Option ℕ) (at : ℕ) → each_act (numbers_in program) (act.Call routine actuals slot at) ≡ true → routine < length program.routines
callee_known program routine actuals None at h = ltb-true routine (length program.routines) (and_parts (nat_lt routine (length program.routines)) _ h).0
callee_known program routine actuals (Some slot) at h = ltb-true routine (length program.routines) (and_parts (nat_lt routine (length program.routines)) _ (and_parts _ _ h).0).0
