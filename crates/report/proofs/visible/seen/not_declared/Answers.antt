use Rattle.std.proofs.Common.{◌≡◌, ◌++◌, ◌∷◌, [], ℕ, Bool, not, Global, List, Option, Vec, get_or, unwrap_or, sym, ap, ◌∙◌}
use Rattle.std.specs.List.{list_any}
use Rattle.std.specs.Option.{option_map}
use Rattle.std.specs.Str.{bytes_eq}
use Rattle.pas_check.specs.Names.{name_at}
use Rattle.pas_program.specs.declared.variable.VarDef.{VarDef}
use Rattle.report.specs.Visible.{declared, is_declared, name_of}
use Rattle.report.proofs.DeclaredNames.{filter_dropped, filter_kept}
use Rattle.report.proofs.visible.seen.not_declared.Goals as goal
use Rattle.report.proofs.visible.seen.not_declared.Goals.{then-not-contains+in_ok-push, else-not-contains}

pub loop-var-preserved : goal.loop-var-preserved
loop-var-preserved c =
    let text = c.args.text.now in
    let program = c.args.program.now in
    let routine = c.args.routine.now in
    let around = c.args.around.now in
    let i = c.loop-var.var-index in
    let inside = c.loop-var-test.true in
    let test : ℕ → Bool = λ v. not (is_declared text program routine v) in
    let named : c.in_ok-name.name.items ≡ name_of text program (get_or around i 0) =
    c.in_ok-name.ensures ∙ sym (ap (λ (o : Option VarDef). unwrap_or (option_map (λ (d : VarDef). name_at text d.name) o) []) c.var_def.ensures.value) in
    let found : c.contains.result ≡ is_declared text program routine (get_or around i 0) =
    c.contains.ensures ∙ c.in_ok-declared.ensures.each c.in_ok-name.name ∙ ap (λ (name : List ℕ). list_any (bytes_eq name) (declared text program routine)) named in
    let kept = ap not (sym found) in
    elim c.if-not-contains.branch [
      | then-not-contains+in_ok-push w ↦ ap (λ (vs : Vec ℕ Global). vs.items) w.vars-is ∙ w.in_ok-push.ensures.items
          ∙ ap (λ (vs : List ℕ). vs ++ get_or around i 0 ∷ []) c.loop-var.invariant ∙ filter_kept test around i (not c.contains.result) inside kept (ap not w.if-not-contains.true)
      | else-not-contains w ↦ ap (λ (vs : Vec ℕ Global). vs.items) w.vars-is ∙ c.loop-var.invariant ∙ filter_dropped test around i (not c.contains.result) inside kept (ap not w.if-not-contains.false)
    ]
