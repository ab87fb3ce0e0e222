-- Two flows of one text are unfolded alike.
use Rattle.std.proofs.Common.{◌≡◌, ℕ, ◌-◌, List, length, map, ap, sym, ◌∙◌}
use Rattle.activations.specs.Unfolding.{Unfolding, unfolding_of}
use Rattle.alias_class.specs.Classes.{Class}
use Rattle.alias_class.specs.Outlines.{outline_of, routine_outline, variable_outlines}
use Rattle.alias_class.specs.declared.outline.Outline.{Outline}
use Rattle.control_points.specs.Sites.{Piece, edge_at, label_site, point_at, routines_piece}
use Rattle.control_points.specs.Sites as sites
use Rattle.control_points.specs.declared.edge.Edge.{Edge}
use Rattle.control_points.specs.declared.flow.Flow.{Flow}
use Rattle.control_points.specs.declared.point.Point.{Point}
use Rattle.pas_check.specs.Accepted.{IsProgramOf}
use Rattle.pas_program.specs.Tables.{tables_of}
use Rattle.pas_program.specs.declared.program.Program.{Program}
use Rattle.pas_program.specs.declared.routine.Assert.{Assert}
use Rattle.pas_program.specs.declared.routine.Routine.{Routine}
use Rattle.pas_program.specs.declared.type_def.TypeDef.{TypeDef}
use Rattle.pas_program.specs.declared.variable.VarDef.{VarDef}
use Rattle.pas_tree.specs.declared.block.Tree.{Tree}

-- what a program has
record Parts : Type 0 where
  types : List TypeDef
  vars : List VarDef
  routines : List Routine
  asserts : List Assert

abbrev parts_of : Program → Parts
parts_of p = record { types = p.types; vars = p.vars; routines = p.routines; asserts = p.asserts }

-- a tree stands for at most one program
pub record HasOneProgram : Type 0 where
  pub types : (text : List ℕ) (tree : Tree) (p q : Program) → IsProgramOf text tree p → IsProgramOf text tree q → p.types ≡ q.types
  pub vars : (text : List ℕ) (tree : Tree) (p q : Program) → IsProgramOf text tree p → IsProgramOf text tree q → p.vars ≡ q.vars
  pub routines : (text : List ℕ) (tree : Tree) (p q : Program) → IsProgramOf text tree p → IsProgramOf text tree q → p.routines ≡ q.routines
  pub asserts : (text : List ℕ) (tree : Tree) (p q : Program) → IsProgramOf text tree p → IsProgramOf text tree q → p.asserts ≡ q.asserts

same_parts : HasOneProgram → (text : List ℕ) (tree : Tree) (p q : Program) → IsProgramOf text tree p → IsProgramOf text tree q → parts_of p ≡ parts_of q
same_parts one text tree p q a b =
    let types : p.types ≡ q.types = one.types text tree p q a b in
    let vars : p.vars ≡ q.vars = one.vars text tree p q a b in
    let routines : p.routines ≡ q.routines = one.routines text tree p q a b in
    let asserts : p.asserts ≡ q.asserts = one.asserts text tree p q a b in
    cc

abbrev piece_over : Parts → Piece
piece_over x = routines_piece (tables_of x.types x.vars x.routines) x.asserts (label_site x.routines) 0 x.routines

abbrev outline_over : Parts → Outline
outline_over x =
    let routines = map (routine_outline x.vars) x.routines in
    record { main = length x.routines - 1; routines = routines; variables = variable_outlines x.types routines x.vars }

abbrev unfolding_over : Outline → List Point → List Edge → List Class → Unfolding
unfolding_over outline points edges classes = record { outline = outline; points = points; edges = edges; classes = classes }

pub same_unfolding : HasOneProgram → (text : List ℕ) (tree : Tree) (f h : Flow) (classes : List Class) → IsProgramOf text tree f.program → IsProgramOf text tree h.program
    → sites.IsFlowOf f.program f.points f.asserts f.edges f.checks → sites.IsFlowOf h.program h.points h.asserts h.edges h.checks
    → unfolding_of f classes ≡ unfolding_of h classes
same_unfolding one text tree f h classes p q of_f of_h =
    let parts : parts_of f.program ≡ parts_of h.program = same_parts one text tree f.program h.program p q in
    let outline : outline_of f ≡ outline_of h = ap outline_over parts in
    let points : f.points ≡ h.points = of_f.points_are ∙ ap (λ (x : Parts). map point_at (piece_over x).points) parts ∙ sym of_h.points_are in
    let edges : f.edges ≡ h.edges = of_f.edges_are ∙ ap (λ (x : Parts). map (edge_at (piece_over x)) (piece_over x).links) parts ∙ sym of_h.edges_are in
    ap (λ (o : Outline). unfolding_over o f.points f.edges classes) outline
    ∙ ap (λ (ps : List Point). unfolding_over (outline_of h) ps f.edges classes) points
    ∙ ap (λ (es : List Edge). unfolding_over (outline_of h) h.points es classes) edges
