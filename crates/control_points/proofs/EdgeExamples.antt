-- The edges of small statement parts, computed.
use Rattle.std.proofs.Common.{◌≡◌, ℕ, [], ◌∷◌, ap, ◌∙◌, None}
use Rattle.pas_program.specs.declared.statement.Body.TheOpen.{Body-F}
use Rattle.pas_program.specs.declared.statement.Body.TheFolds.{para-roll-Body, para-roll-Statement}
use Rattle.pas_program.specs.declared.statement.Body.TheViews.{roll-Body, roll-Statement}
use Rattle.pas_program.specs.declared.statement.Statement.{Statement}
use Rattle.control_points.specs.declared.edge.Act.TheVariants as act
use Rattle.control_points.specs.Edges.{Placing, body_step, part_piece, statement_piece, statement_step}
use Rattle.control_points.specs.Listing.{edge}
use Rattle.control_points.specs.Pieces.{Plan, both, judged, nothing, way}

abbrev empty : ℕ → Statement
empty place = roll-Statement (record { at = place; label = None; asserts = []; body = roll-Body Body-F.Empty })

empty_piece : (plan : Plan) (place here next : ℕ) → statement_piece plan (empty place) here next ≡ both (judged here []) (body_step plan Body-F.Empty here next)
empty_piece plan place here next =
    ap (λ (q : Placing). q here next) (para-roll-Statement Placing Placing Placing (body_step plan) (λ a. a.body.1) (statement_step plan) (record { at = place; label = None; asserts = []; body = roll-Body Body-F.Empty }))
    ∙ ap (λ (q : Placing). both (judged here []) (q here next)) (para-roll-Body Placing Placing Placing (body_step plan) (λ a. a.body.1) (statement_step plan) Body-F.Empty)

-- `begin end`: from the `begin` to the empty statement, and from it to the `end`
pub one_statement : (plan : Plan) (place end : ℕ) → part_piece plan None 0 2 (Body-F.Begin (empty place ∷ []) end) 0 ≡ record { edges = edge 0 act.Skip 1 ∷ edge 1 act.Skip 2 ∷ []; checks = [] }
one_statement plan place end = ap (λ q. both (way 0 act.Skip 1) (both (both q nothing) (judged 2 [])) 0) (empty_piece plan place 1 2)
