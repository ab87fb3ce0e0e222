-- The activations around one: a routine that is around another by the program's text has an activation around each of the other's.
use Rattle.std.proofs.Common.{◌≡◌, ℕ, ◌<◌, zero, suc, Bool, true, false, ◌||◌, refl, sym, ap, ◌∙◌, subst, arith, List, Option, Some, None, nat_eq}
use Rattle.std.proofs.lemmas.Bool.{true≢false, ne_eqb}
use Rattle.std.proofs.lemmas.Option.{none-some}
use Rattle.std.specs.List.{slice_get}
use Rattle.std.specs.Option.{option_and_then, option_map, unwrap_or}
use Rattle.control_points.specs.declared.flow.Flow.{Flow}
use Rattle.interp.specs.declared.frame.Frame.{Frame}
use Rattle.interp.specs.Machines.{AreFrames, routine_of, top_of, top_routine}
use Rattle.interp.proofs.Lists.{some_at}
use Rattle.interp.proofs.Storage.{map_found}
use Rattle.pas_program.specs.Checked.{tables}
use Rattle.pas_program.specs.Tables.{Tables, Head, holds_of, leads_within, is_around}

-- what is known of a thing that there must be
pub holds_some : {A : Type 0} (p : A → Bool) (o : Option A) → holds_of p o ≡ true → (x : A) × (o ≡ Some x) × (p x ≡ true)
holds_some p None h = absurd (true≢false (sym h))
holds_some p (Some x) h = (x, refl, h)

-- s is r or around it, by some number of steps
abbrev pub Leads : Tables → ℕ → ℕ → Type 0
Leads t r s = (n : ℕ) × (leads_within n t r s ≡ true)

pub leads_from_around : (t : Tables) (r s : ℕ) → is_around t r s ≡ true → Leads t r s
leads_from_around t r s h = let w = holds_some (λ (h : Head). leads_within h.level t r s) (t.head_at r) h in (w.0.level, w.2)

or_false : (b c : Bool) → (b || c) ≡ true → b ≡ false → c ≡ true
or_false true c h e = absurd (true≢false e)
or_false false c h e = h

-- another routine is around the parent
pub record Step (t : Tables) (r s : ℕ) : Type 0 where
  pub head : Head
  pub parent : ℕ
  pub known : t.head_at r ≡ Some head
  pub is_parent : head.parent ≡ Some parent
  pub leads : Leads t parent s

step_from : (t : Tables) (r s n : ℕ) → leads_within n t r s ≡ true → nat_eq r s ≡ false → Step t r s
step_from t r s zero h e = absurd (true≢false (sym h ∙ e))
step_from t r s (suc n) h e =
    let w = holds_some (λ (h : Head). holds_of (λ p. leads_within n t p s) h.parent) (t.head_at r) (or_false (nat_eq r s) _ h e) in
    let v = holds_some (λ p. leads_within n t p s) w.0.parent w.2 in
    record { head = w.0; parent = v.0; known = w.1; is_parent = v.1; leads = (n, v.2) }

pub leads_on : (t : Tables) (r s : ℕ) → Leads t r s → nat_eq r s ≡ false → Step t r s
leads_on t r s h e = step_from t r s h.0 h.1 e

-- ---- the same of the activations of a machine

-- the activation at the depth d, within one of the routine s
pub record OnWay (t : Tables) (frames : List Frame) (s d : ℕ) : Type 0 where
  pub frame : Frame
  pub known : slice_get frames d ≡ Some frame
  pub leads : Leads t frame.routine s

-- it has a parent, and the same is true of that
pub record Parent (t : Tables) (frames : List Frame) (s d : ℕ) (g : Frame) : Type 0 where
  pub parent : ℕ
  pub is : g.parent ≡ Some parent
  pub below : parent < d
  pub way : OnWay t frames s parent

parent_from : (frames : List Frame) (o : Option ℕ) (q : ℕ) → option_and_then (routine_of frames) o ≡ Some q → (p : ℕ) × (g : Frame) × (o ≡ Some p) × (slice_get frames p ≡ Some g) × (g.routine ≡ q)
parent_from frames None q h = absurd (none-some q h)
parent_from frames (Some p) q h = let w = map_found (λ (g : Frame). g.routine) (slice_get frames p) q h in (p, w.0, refl, w.1, w.2)

pub parent_of : (flow : Flow) (frames : List Frame) → AreFrames flow frames → (s d : ℕ) (g : Frame) → slice_get frames d ≡ Some g → Leads (tables flow.program) g.routine s → (g.routine ≡ s → ⊥) → Parent (tables flow.program) frames s d g
parent_of flow frames h s d g e l n =
    let w = leads_on (tables flow.program) g.routine s l (ne_eqb g.routine s n) in
    let p = parent_from frames g.parent w.parent (h.parent d g w.head e w.known ∙ w.is_parent) in
    record {
      parent = p.0;
      is = p.2;
      below = h.parent_below d p.0 g e p.2;
      way = record { frame = p.1; known = p.3; leads = subst (λ r. Leads (tables flow.program) r s) (sym p.4) w.leads };
    }

pub routine_is : (frames : List Frame) (d : ℕ) (g : Frame) → slice_get frames d ≡ Some g → routine_of frames d ≡ Some g.routine
routine_is frames d g e = ap (option_map (λ (g : Frame). g.routine)) e

pub top_routine_is : (frames : List Frame) (g : Frame) → slice_get frames (top_of frames) ≡ Some g → top_routine frames ≡ g.routine
top_routine_is frames g e = ap (λ o. unwrap_or o 0) (routine_is frames (top_of frames) g e)

pub way_begins : (flow : Flow) (frames : List Frame) → AreFrames flow frames → (s : ℕ) → is_around (tables flow.program) (top_routine frames) s ≡ true → OnWay (tables flow.program) frames s (top_of frames)
way_begins flow frames h s a =
    let w = some_at frames (top_of frames) (omega (arith, h.some)) in
    record { frame = w.0; known = w.1; leads = leads_from_around (tables flow.program) w.0.routine s (subst (λ r. is_around (tables flow.program) r s ≡ true) (top_routine_is frames w.0 w.1) a) }
