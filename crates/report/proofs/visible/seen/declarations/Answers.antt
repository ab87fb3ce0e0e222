use Rattle.std.proofs.Common.{◌≡◌, ℕ, ◌<◌, ◌++◌, ◌∷◌, [], List, get_or, length, map, take, unwrap_or, sym, ap, subst, ◌∙◌, Option}
use Rattle.std.specs.List.{All, slice_get}
use Rattle.std.specs.Option.{option_map}
use Rattle.std.proofs.lemmas.List.{map-append, take_all}
use Rattle.std.proofs.lemmas.List.Elements.{All-filter}
use Rattle.px_base.specs.declared.place.Span.{Span}
use Rattle.pas_check.specs.Names.{name_at}
use Rattle.pas_program.specs.declared.variable.VarDef.{VarDef}
use Rattle.pas_program.specs.Tables.{holds_of}
use Rattle.report.specs.Visible.{has_name, name_of, own_named}
use Rattle.report.proofs.DeclaredNames.{map_more}
use Rattle.report.proofs.visible.seen.declarations.Goals as goal

pub var_def-requires : goal.var_def-requires
var_def-requires c =
    let program = c.args.program.now in
    let Known : List ℕ → Type 0 = λ vs. All (λ v. v < length program.vars) vs in
    let all = All-filter (λ v. holds_of (λ (d : VarDef). has_name d.kind) (slice_get program.vars v)) (λ v. v < length program.vars) c.args.routine.now.vars c.requires in
    let own = c.deref-var-items.ensures.value ∙ c.in_ok-add_own.ensures ∙ ap (λ (vs : List ℕ). vs ++ own_named program c.args.routine.now) c.new-own.ensures.items in
    let known : Known c.deref-var-items.result.now = subst Known (sym own) all in
    known c.loop-var.var-index 0 c.loop-var-test.true

pub loop-var-preserved : goal.loop-var-preserved
loop-var-preserved c = λ text.
    let program = c.args.program.now in
    let i = c.loop-var.var-index in
    let vars = c.deref-var-items.result.now in
    let span = c.var_def.result.name in
    let named : name_at text span ≡ name_of text program (get_or vars i 0) =
    sym (ap (λ (o : Option VarDef). unwrap_or (option_map (λ (d : VarDef). name_at text d.name) o) []) c.var_def.ensures.value) in
    ap (λ (spans : List Span). map (name_at text) spans) c.in_ok-push.ensures.items
    ∙ map-append (name_at text) c.loop-var.spans.items (span ∷ [])
    ∙ ap (λ (names : List (List ℕ)). names ++ name_at text span ∷ []) (c.loop-var.invariant text)
    ∙ ap (λ (name : List ℕ). map (name_of text program) (take i vars) ++ name ∷ []) named
    ∙ sym (map_more (name_of text program) vars i 0 c.loop-var-test.true)

pub returns : goal.returns
returns c = λ text.
    let program = c.args.program.now in
    let routine = c.args.routine.now in
    let own = c.deref-var-items.ensures.value ∙ c.in_ok-add_own.ensures ∙ ap (λ (vs : List ℕ). vs ++ own_named program routine) c.new-own.ensures.items in
    let all = take_all c.loop-var.var-index c.deref-var-items.result.now c.loop-var-test.false ∙ own in
    ap (map (name_at text)) c.in_ok-extend_from_slice.ensures.items
    ∙ map-append (name_at text) c.loop-var.spans.items c.as_slice.result.now
    ∙ ap (λ (names : List (List ℕ)). names ++ map (name_at text) c.as_slice.result.now) (c.loop-var.invariant text ∙ ap (map (name_of text program)) all)
    ∙ ap (λ (spans : List Span). map (name_of text program) (own_named program routine) ++ map (name_at text) spans) c.as_slice.ensures
