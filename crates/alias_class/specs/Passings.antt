-- What a call passes, as it is kept while it is found.
use Rattle.std.specs.Prelude.{◌≡◌, ℕ, [], ◌∷◌, ◌++◌, List, map, length, nat_eq, nat_lt, Some, Option, slice_get, All, true, if◌then◌else◌, ◌<◌, ◌≤◌}
use Rattle.std.specs.List.{list_any}
use Rattle.pas_program.specs.declared.expr.Access.{Access}
use Rattle.pas_program.specs.declared.expr.Actual.{Actual}
use Rattle.pas_program.specs.declared.expr.Actual.TheViews.{out-Access}
use Rattle.pas_program.specs.Scopes.{contains}
use Rattle.control_points.specs.declared.edge.Act.{Act}
use Rattle.control_points.specs.declared.edge.Act.TheVariants as act
use Rattle.control_points.specs.declared.edge.Edge.{Edge}
use Rattle.control_points.specs.Fits.{callee_of}
use Rattle.alias_class.specs.declared.bind.Bind.{Bind}
use Rattle.alias_class.specs.declared.bind.Link.{Link}
use Rattle.alias_class.specs.declared.outline.Outline.{Outline}
use Rattle.alias_class.specs.declared.passing.Passing.{Passing}
use Rattle.alias_class.specs.Calls.{Sharing, named, shared_bind, shared_cell, sharing, var_actuals}
use Rattle.alias_class.specs.Cells.{around, cell_of, first_naming, foreign_cells, is_seen}
use Rattle.alias_class.specs.Classes.{Class}
use Rattle.alias_class.specs.Distinct.{with_member}
use Rattle.alias_class.specs.Outlines.{formals_of, parent_of}

-- ---- a call of the routine r with these actuals from the class c

-- the routine is declared in that of the class or in one around it
pub record IsDeclaredAround (o : Outline) (c : Class) (r : ℕ) : Type 0 where
  pub parent : ℕ
  pub owner : Class
  pub in_range : r < length o.routines
  pub declared : parent_of o r ≡ Some parent
  pub found : around o c parent ≡ Some owner

-- the class sees the variables of these accesses
abbrev pub AreSeen : Outline → Class → List Access → Type 0
AreSeen o c accesses = All (λ (a : Access). is_seen o c (out-Access a).var ≡ true) accesses

pub record IsCallFrom (o : Outline) (c : Class) (r : ℕ) (actuals : List Actual) : Type 0 where
  pub declared : IsDeclaredAround o c r
  pub names : AreSeen o c (var_actuals actuals)
  pub passed : length (var_actuals actuals) ≡ length (formals_of o r)

-- the action is a call of the routine r with these actuals
pub record IsCallOf (a : Option Act) (r : ℕ) (actuals : List Actual) : Type 0 where
  pub slot : Option ℕ
  pub at : ℕ
  pub is : a ≡ Some (act.Call r actuals slot at)

-- the edge is a call
pub record IsCallEdge (edges : List Edge) (k : ℕ) : Type 0 where
  pub edge : Edge
  pub called : ℕ
  pub known : slice_get edges k ≡ Some edge
  pub is_call : callee_of edge.act ≡ Some called

-- ---- what is found

-- the link of a cell that the callee has
abbrev pub shared_link : Sharing → ℕ → Link
shared_link s c = record { caller = c; callee = shared_cell s c }

abbrev pub sharing_of : Passing → Sharing
sharing_of p = record { inherited = p.inherited; first_foreign = p.first_foreign; foreign = p.foreign.keys }

-- the foreign cells, and the variable parameters that first name them, once one more name is bound
abbrev pub foreign_after : ℕ → List ℕ → Bind → List ℕ
foreign_after inherited foreign named = if nat_lt (cell_of named) inherited then foreign else with_member nat_eq foreign (cell_of named)

abbrev pub namers_after : ℕ → List ℕ → List ℕ → Bind → ℕ → List ℕ
namers_after inherited foreign namers named formal =
    if nat_lt (cell_of named) inherited then namers
    else if list_any (nat_eq (cell_of named)) foreign then namers
    else namers ++ formal ∷ []

-- what variable parameters with these names are bound to
abbrev pub bindings_by : ℕ → ℕ → List Bind → List Bind
bindings_by inherited first_foreign named = map (shared_bind (record { inherited = inherited; first_foreign = first_foreign; foreign = foreign_cells inherited named })) named

-- the variable parameters that first name a foreign cell
abbrev pub namers_by : ℕ → List ℕ → List Bind → List ℕ
namers_by first_foreign formals bindings = map (first_naming formals bindings) (foreign_cells first_foreign bindings)

-- of these names of variable parameters
pub record IsPassing (p : Passing) (inherited first_foreign : ℕ) (formals : List ℕ) (named : List Bind) : Type 0 where
  pub same_inherited : p.inherited ≡ inherited
  pub same_first : p.first_foreign ≡ first_foreign
  pub foreign : p.foreign.keys ≡ foreign_cells inherited named
  pub bindings : p.bindings.items ≡ bindings_by inherited first_foreign named
  pub namers : p.namers ≡ namers_by first_foreign formals (bindings_by inherited first_foreign named)

-- the callee has the cell as a foreign one
pub record IsForeign (p : Passing) (cell : ℕ) : Type 0 where
  pub behind : p.inherited ≤ cell
  pub listed : contains cell p.foreign.keys ≡ true

-- the foreign cells are some of those of a class with so many, behind those that are inherited
pub record AreCells (foreign : List ℕ) (inherited count : ℕ) : Type 0 where
  pub inherited_few : inherited ≤ count
  pub in_range : All (λ cell. cell < count) foreign

-- of a call
abbrev pub IsPassingOf : Outline → Class → ℕ → List Actual → Passing → Type 0
IsPassingOf o c r actuals p = IsPassing p (sharing o c r actuals).inherited (sharing o c r actuals).first_foreign (formals_of o r) (named o c actuals)
