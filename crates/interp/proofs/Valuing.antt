-- What the latest activation sees: the activations around it, and where the variables of each lie.
use Rattle.std.proofs.Common.{◌≡◌, ℕ, ◌<◌, ◌+◌, ◌-◌, false, List, refl, sym, ap, ◌∙◌, subst, Some}
use Rattle.std.specs.List.{slice_get}
use Rattle.std.specs.Option.{option_and_then, unwrap_or}
use Rattle.std.proofs.lemmas.Bool.{true≢false}
use Rattle.pas_program.specs.declared.program.Program.{Program}
use Rattle.pas_program.specs.declared.variable.VarDef.{VarDef}
use Rattle.pas_program.specs.declared.variable.VarKind.{VarKind}
use Rattle.pas_program.specs.declared.variable.VarKind.TheVariants as kind
use Rattle.pas_program.specs.Checked.{tables}
use Rattle.pas_program.specs.Tables.{Tables, is_kind}
use Rattle.control_points.specs.Actions.{top_depth}
use Rattle.control_points.specs.Evaluation.{var_type}
use Rattle.control_points.specs.Finding.{around, bound_to, own_place, place_of}
use Rattle.control_points.specs.States as states
use Rattle.control_points.specs.States.{Stack}
use Rattle.control_points.specs.Storage.{whole}
use Rattle.interp.specs.declared.frame.Extent.{Extent}
use Rattle.interp.specs.declared.frame.Frame.{Frame}
use Rattle.interp.specs.Layouts.{extent_before}
use Rattle.interp.specs.Machines.{top_of}
use Rattle.interp.specs.Places.{Lies}
use Rattle.interp.specs.Standing.{StackIs}
use Rattle.interp.proofs.Addresses.{var_type_is}
use Rattle.interp.proofs.Around.{around_here, around_on, frame_is}
use Rattle.interp.proofs.Lists.{same_some}
use Rattle.interp.proofs.Lying.{lies_whole}

-- a variable of the activation at a depth
pub own_lies : (p : Program) (frames : List Frame) (d v : ℕ) (off : Extent) (g : Frame) (x : VarDef)
    → slice_get frames d ≡ Some g → slice_get p.vars v ≡ Some x → x.routine ≡ g.routine → is_kind kind.Var x.kind ≡ false → off ≡ extent_before p x.routine v
    → Lies p frames (whole d v) (g.base.scalars + off.scalars) (var_type (tables p) v)
own_lies p frames d v off g x e k o i s =
    subst (λ (y : Extent). Lies p frames (whole d v) (g.base.scalars + y.scalars) (var_type (tables p) v)) (sym s)
    (subst (λ t. Lies p frames (whole d v) (g.base.scalars + (extent_before p x.routine v).scalars) t) (sym (var_type_is p v x k)) (lies_whole p frames d v g x e k o i))

-- a variable that is seen is one of the activation around
seen_by : (t : Tables) (stack : Stack) (d v e : ℕ) (x : VarDef) → t.var_at v ≡ Some x → around stack d x.routine ≡ Some e → place_of t stack d v ≡ unwrap_or (own_place stack v e x.kind) (whole d v)
seen_by t stack d v e x k a =
    ap (λ o. unwrap_or (option_and_then (λ (x : VarDef). option_and_then (λ e. own_place stack v e x.kind) (around stack d x.routine)) o) (whole d v)) k
    ∙ ap (λ o. unwrap_or (option_and_then (λ e. own_place stack v e x.kind) o) (whole d v)) a

own_whole : (stack : Stack) (v d : ℕ) (k : VarKind) → is_kind kind.Var k ≡ false → own_place stack v d k ≡ Some (whole d v)
own_whole stack v d kind.Local h = refl
own_whole stack v d kind.Value h = refl
own_whole stack v d kind.Var h = absurd (true≢false h)
own_whole stack v d kind.Result h = refl
own_whole stack v d kind.Slot h = refl
own_whole stack v d kind.Bound h = refl

-- one that is no variable parameter is itself meant
pub sees_whole : (t : Tables) (stack : Stack) (d v e : ℕ) (x : VarDef) → t.var_at v ≡ Some x → around stack d x.routine ≡ Some e → is_kind kind.Var x.kind ≡ false → place_of t stack d v ≡ whole e v
sees_whole t stack d v e x k a i = seen_by t stack d v e x k a ∙ ap (λ o. unwrap_or o (whole d v)) (own_whole stack v e x.kind i)

module _ (p : Program) (frames : List Frame) (links : List ℕ) (stack : Stack) (h : StackIs p frames links stack) where
  -- the latest activation has the same depth in both
  pub top_same : top_depth stack ≡ top_of frames
  top_same = ap (λ n. n - 1) h.height

  -- the activation around one is that around its parent
  pub parent_around : (d r q : ℕ) (g : Frame) → slice_get frames d ≡ Some g → (g.routine ≡ r → ⊥) → g.parent ≡ Some q → q < d → around stack d r ≡ around stack q r
  parent_around d r q g e n o l =
      let w = h.each d g e in
      let k = w.2 in
      around_on stack d r q w.0 w.1 (λ i. n (sym k.known ∙ i)) (k.parent ∙ o) l

  -- or it is that one
  pub itself_around : (d r : ℕ) (g : Frame) → slice_get frames d ≡ Some g → g.routine ≡ r → around stack d r ≡ Some d
  itself_around d r g e i =
      let w = h.each d g e in
      let k = w.2 in
      around_here stack d r w.0 w.1 (k.known ∙ i)

  -- a variable parameter means what its link leads to
  pub sees_linked : (d e v a : ℕ) (off : Extent) (g : Frame) (x : VarDef)
      → slice_get frames e ≡ Some g → slice_get p.vars v ≡ Some x → x.routine ≡ g.routine → x.kind ≡ kind.Var → off ≡ extent_before p x.routine v → slice_get links (g.base.links + off.links) ≡ Some a → around stack d x.routine ≡ Some e
      → Lies p frames (place_of (tables p) stack d v) a (var_type (tables p) v)
  sees_linked d e v a off g x f k o i s m r =
      let w = h.each e g f in
      let b = w.2.bound v x k o (ap (is_kind kind.Var) i) in
      let same : b.address ≡ a = same_some b.address a (sym b.link ∙ ap (λ (y : Extent). slice_get links (g.base.links + y.links)) (sym s) ∙ m) in
      let place : place_of (tables p) stack d v ≡ b.place =
      seen_by (tables p) stack d v e x k r
      ∙ ap (λ k. unwrap_or (own_place stack v e k) (whole d v)) i
      ∙ ap (λ o. unwrap_or (option_and_then (λ (f : states.Frame). bound_to v f.bindings) o) (whole d v)) (frame_is stack e w.0 w.1)
      ∙ ap (λ o. unwrap_or o (whole d v)) b.bound in
      subst (λ q. Lies p frames q a (var_type (tables p) v)) (sym place)
      (subst (λ n. Lies p frames b.place n (var_type (tables p) v)) same (subst (λ t. Lies p frames b.place b.address t) (sym (var_type_is p v x k)) b.lies))
