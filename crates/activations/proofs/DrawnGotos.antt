-- Where a `goto` lands: in the class around, of the routine whose label it names.
use Rattle.std.proofs.Common.{◌≡◌, ℕ, true, Some, slice_get, refl, sym, ap, subst, ◌∙◌}
use Rattle.std.specs.Option.{IsSome}
use Rattle.std.proofs.lemmas.Option.{slice_get_within}
use Rattle.pas_program.specs.Checked.{scope_in, tables}
use Rattle.pas_program.specs.Tables.{is_around}
use Rattle.control_points.specs.declared.edge.Act.{Act}
use Rattle.control_points.specs.declared.edge.Act.TheVariants as act
use Rattle.control_points.specs.declared.edge.Edge.{Edge}
use Rattle.control_points.specs.declared.flow.Flow.{Flow}
use Rattle.control_points.specs.Acts.{each_act}
use Rattle.control_points.specs.Fits.{routine_at}
use Rattle.alias_class.specs.declared.outline.Outline.{Outline}
use Rattle.alias_class.specs.Cells.{IsClass, around, routine_of}
use Rattle.alias_class.specs.Classes.{Class, class_at}
use Rattle.alias_class.specs.Outlines.{outline_of}
use Rattle.activations.specs.declared.drawing.Drawing.{Drawing}
use Rattle.activations.specs.Walks.{IsSet, LeadsTo, LeavesClass, drawn_of}
use Rattle.activations.proofs.ClassNumbers.{class_is}
use Rattle.activations.proofs.DrawnEdges.{around_routine, some_around}
use Rattle.activations.proofs.StandingNodes.{point_by}

pub goto_in_scope : (f : Flow) (k r s : ℕ) (e : Edge) → slice_get f.edges k ≡ Some e → routine_at f.points e.from ≡ Some r → e.act ≡ act.Goto s → is_around (tables f.program) r s ≡ true
goto_in_scope f k r s e known stands is =
    let point = point_by f e.from r (slice_get f.points e.from) refl stands in
    let fits = f.edges_fit.scopes k e point.one known point.is in
    subst (λ (n : ℕ). is_around (tables f.program) n s ≡ true) point.stands (subst (λ (a : Act). each_act (scope_in f.program point.one.routine) a ≡ true) is fits)

-- what the law of scopes says of routines
abbrev pub RoutinesAreSeen : Type 0
RoutinesAreSeen = (f : Flow) (c : Class) (s : ℕ) → IsClass (outline_of f) c → is_around (tables f.program) (routine_of (outline_of f) c) s ≡ true → IsSome (around (outline_of f) c s)

module _ (d : Drawing) (set : IsSet d) (i k s : ℕ) (e : Edge) (leaves : LeavesClass (drawn_of d) i k e) (is : e.act ≡ act.Goto s) (seen : RoutinesAreSeen) where
  abbrev one : Class
  one = class_at d.classes.now.classes i

  pub goto_seen : IsSome (around d.classes.now.outline one s)
  goto_seen =
      let valid = subst (λ (o : Outline). IsClass o one) set.outline (set.valid i leaves.class) in
      let in_scope = goto_in_scope d.flow.now k (routine_of (outline_of d.flow.now) one) s e leaves.known leaves.stands is in
      subst (λ (o : Outline). IsSome (around o one s)) (sym set.outline) (seen d.flow.now one s valid in_scope)

  -- the number of the class around
  module _ (j : ℕ) (found : around d.classes.now.outline one s ≡ slice_get d.classes.now.classes j) where
    pub goto_class : (c : Class) × (slice_get d.classes.now.classes j ≡ Some c)
    goto_class = let c = some_around (around d.classes.now.outline one s) goto_seen in (c.0, sym found ∙ c.1)

    pub goto_lands : LeadsTo (drawn_of d) j k e
    goto_lands =
        let c = goto_class in
        let routine : routine_of d.classes.now.outline c.0 ≡ s = around_routine d.classes.now.outline one c.0 s (found ∙ c.1) in
        let here : routine_of (outline_of d.flow.now) (class_at d.classes.now.classes j) ≡ s =
        ap (λ (x : Class). routine_of (outline_of d.flow.now) x) (class_is d.classes.now.classes j c.0 c.1) ∙ ap (λ (o : Outline). routine_of o c.0) (sym set.outline) ∙ routine in
        record {
          class = slice_get_within d.classes.now.classes j c.0 c.1;
          known = leaves.known;
          lands = d.flow.now.edges_lead.outside k s e leaves.known is ∙ ap (λ (r : ℕ). Some r) (sym here);
        }

    pub goto_around : around (outline_of d.flow.now) one s ≡ slice_get d.classes.now.classes j
    goto_around = ap (λ (o : Outline). around o one s) (sym set.outline) ∙ found
