-- A text has at most one covering, and where it has none its longest list of touching pieces is one alone.
use Rattle.std.proofs.Common.{◌≡◌, ◌⊎◌, inl, inr, ℕ, ◌<◌, ◌≤◌, List, [], ◌∷◌, length, drop, fold, Option, Some, None, refl, ap, sym, ◌∙◌, arith, length-drop, subst}
use Rattle.std.specs.Option.{is_some}
use Rattle.pas_lexer.specs.Covering.{Piece, Place, IsPiece, Stands, Touch, IsCovering, HasTokens, HasFault, Breaks, LeavesOpen, past, start, end_of, tokens_of, fault_at}
use Rattle.pas_lexer.specs.Lexeme.{Text}
use Rattle.pas_lexer.specs.declared.fault.LexFault.{LexFault}
use Rattle.pas_lexer.specs.declared.fault.LexFault.TheVariants.{BadByte, Unclosed, TooBig, OpenAssertion, Memory}
use Rattle.pas_lexer.specs.declared.token.Token.{Token}
use Rattle.pas_lexer.specs.declared.token.TokenKind.{TokenKind}
use Rattle.pas_lexer.proofs.Forms.{piece-unique, piece-advances}

-- no piece begins at the place
pub record Stuck (text : Text) (place : Place) : Type 0 where
  pub none : (token : Option TokenKind) (len : ℕ) → IsPiece (is_some place.opened) (drop place.at text) token len → ⊥

piece-of : Option TokenKind → ℕ → ℕ → Piece
piece-of token from to = record { token = token; span = record { start = from; end = to } }

same-piece : (x y : Piece) → x.token ≡ y.token → x.span.start ≡ y.span.start → x.span.end ≡ y.span.end → x ≡ y
unfolding piece-of
same-piece x y kind starts ends =
    let same : piece-of x.token x.span.start x.span.end ≡ piece-of y.token y.span.start y.span.end = rw (kind, starts, ends) refl in
    same

stands-unique : (text : Text) (place : Place) (x y : Piece) → Stands text place x → Stands text place y → x ≡ y
stands-unique text place x y sx sy =
    let same = piece-unique (is_some place.opened) (drop place.at text) x.token y.token sx.len sy.len sx.is_piece sy.is_piece in
    let kind : x.token ≡ y.token = same.1 in
    let starts : x.span.start ≡ y.span.start = cc (sx.begins, sy.begins) in
    let ends : x.span.end ≡ y.span.end = omega (arith, sx.ends, sy.ends, same.0) in
    same-piece x y kind starts ends

not-at-end : (text : Text) (place : Place) (x : Piece) → Stands text place x → place.at ≡ length text → ⊥
not-at-end text place x stands ends =
    let advances = piece-advances (is_some place.opened) (drop place.at text) x.token stands.len stands.is_piece in
    let within = stands.is_piece.within in
    absurd (omega (arith, advances, simp length-drop at within, ends))

pub no-longer : (text : Text) (place : Place) (xs ys : List Piece) → Touch text place xs → Touch text place ys → Stuck text (fold past place ys) → length xs ≤ length ys
no-longer text place [] ys tx ty stuck = omega arith
no-longer text place (x ∷ xs) [] tx ty stuck = absurd (stuck.none x.token tx.0.len tx.0.is_piece)
no-longer text place (x ∷ xs) (y ∷ ys) tx ty stuck =
    let same = stands-unique text place x y tx.0 ty.0 in
    let tails : Touch text (past place y) xs = subst (λ (z : Piece). Touch text (past place z) xs) same tx.1 in
    let shorter = no-longer text (past place y) xs ys tails ty.1 stuck in
    omega (arith, shorter)

pub no-covering : (text : Text) (place : Place) (xs ys : List Piece) → Touch text place xs → Touch text place ys
    → (fold past place xs).at ≡ length text → Stuck text (fold past place ys) → (fold past place ys).at < length text → ⊥
no-covering text place [] [] tx ty ends stuck before = absurd (omega (arith, ends, before))
no-covering text place (x ∷ xs) [] tx ty ends stuck before = stuck.none x.token tx.0.len tx.0.is_piece
no-covering text place [] (y ∷ ys) tx ty ends stuck before = not-at-end text place y ty.0 ends
no-covering text place (x ∷ xs) (y ∷ ys) tx ty ends stuck before =
    let same = stands-unique text place x y tx.0 ty.0 in
    let tails : Touch text (past place y) xs = subst (λ (z : Piece). Touch text (past place z) xs) same tx.1 in
    let end : (fold past (past place y) xs).at ≡ length text = subst (λ (z : Piece). (fold past (past place z) xs).at ≡ length text) same ends in
    no-covering text (past place y) xs ys tails ty.1 end stuck before

pub one-covering : (text : Text) (place : Place) (xs ys : List Piece) → Touch text place xs → Touch text place ys
    → (fold past place xs).at ≡ length text → (fold past place ys).at ≡ length text → xs ≡ ys
one-covering text place [] [] tx ty ex ey = refl
one-covering text place (x ∷ xs) [] tx ty ex ey = absurd (not-at-end text place x tx.0 ey)
one-covering text place [] (y ∷ ys) tx ty ex ey = absurd (not-at-end text place y ty.0 ex)
one-covering text place (x ∷ xs) (y ∷ ys) tx ty ex ey =
    let same = stands-unique text place x y tx.0 ty.0 in
    let tails : Touch text (past place y) xs = subst (λ (z : Piece). Touch text (past place z) xs) same tx.1 in
    let end : (fold past (past place y) xs).at ≡ length text = subst (λ (z : Piece). (fold past (past place z) xs).at ≡ length text) same ex in
    let rest = one-covering text (past place y) xs ys tails ty.1 end ey in
    cc

pub one-length : (text : Text) (place : Place) (xs ys : List Piece) → Touch text place xs → Touch text place ys → length xs ≡ length ys → xs ≡ ys
one-length text place [] [] tx ty e = refl
one-length text place (x ∷ xs) [] tx ty e = absurd (omega (arith, e))
one-length text place [] (y ∷ ys) tx ty e = absurd (omega (arith, e))
one-length text place (x ∷ xs) (y ∷ ys) tx ty e =
    let same = stands-unique text place x y tx.0 ty.0 in
    let tails : Touch text (past place y) xs = subst (λ (z : Piece). Touch text (past place z) xs) same tx.1 in
    let rest = one-length text (past place y) xs ys tails ty.1 (omega (arith, e)) in
    cc

-- ---- so a text has one list of tokens or one fault

pub same-covering : (text : Text) (xs ys : List Piece) → IsCovering text xs → IsCovering text ys → xs ≡ ys
same-covering text xs ys x y = one-covering text start xs ys x.0 y.0 x.1 y.1

pub one-list : (text : Text) (ts us : List Token) → HasTokens text ts → HasTokens text us → ts ≡ us
one-list text ts us t u = t.are ∙ ap tokens_of (same-covering text t.pieces u.pieces t.covers u.covers) ∙ sym u.are

tokens-closed : (text : Text) (ts : List Token) (at : ℕ) → HasTokens text ts → LeavesOpen text at → ⊥
tokens-closed text ts at t open_ =
    let same = same-covering text t.pieces open_.pieces t.covers open_.covers in
    let closed : None ≡ Some at = sym t.closed ∙ ap (λ pieces. (end_of pieces).opened) same ∙ open_.opened in
    cc

pub tokens-or-fault : (text : Text) (ts : List Token) (fault : LexFault) → HasTokens text ts → HasFault text fault → ⊥
tokens-or-fault text ts (OpenAssertion at) t f = tokens-closed text ts at t f
tokens-or-fault text ts (Memory _) t f = f
tokens-or-fault text ts (BadByte _) t f = f.no_covering t.pieces t.covers
tokens-or-fault text ts (Unclosed _ _) t f = f.no_covering t.pieces t.covers
tokens-or-fault text ts (TooBig _) t f = f.no_covering t.pieces t.covers

one-break : (text : Text) (fault other : LexFault) → Breaks text fault → Breaks text other → fault ≡ other
one-break text fault other f g =
    let there = f.longest g.pieces g.touch in
    let back = g.longest f.pieces f.touch in
    let same = one-length text start f.pieces g.pieces f.touch g.touch (omega (arith, there, back)) in
    f.is ∙ ap (λ pieces. let place = end_of pieces in fault_at (is_some place.opened) (drop place.at text) place.at) same ∙ sym g.is

one-open : (text : Text) (at other : ℕ) → LeavesOpen text at → LeavesOpen text other → OpenAssertion at ≡ OpenAssertion other
one-open text at other f g =
    let same = same-covering text f.pieces g.pieces f.covers g.covers in
    let places : Some at ≡ Some other = sym f.opened ∙ ap (λ pieces. (end_of pieces).opened) same ∙ g.opened in
    cc

-- what breaks a text is one fault, whatever its kind
not-open : (text : Text) (fault : LexFault) → HasFault text fault → ((at : ℕ) × (fault ≡ OpenAssertion at) × LeavesOpen text at) ⊎ Breaks text fault
not-open text (OpenAssertion at) f = inl (at, refl, f)
not-open text (Memory _) f = absurd f
not-open text (BadByte _) f = inr f
not-open text (Unclosed _ _) f = inr f
not-open text (TooBig _) f = inr f

pub one-fault : (text : Text) (fault other : LexFault) → HasFault text fault → HasFault text other → fault ≡ other
one-fault text fault other f g =
    elim (not-open text fault f) [
      | inl opens ↦ elim (not-open text other g) [
        | inl others ↦ opens.1 ∙ one-open text opens.0 others.0 opens.2 others.2 ∙ sym others.1
        | inr breaks ↦ absurd (breaks.no_covering opens.2.pieces opens.2.covers)
      ]
      | inr breaks ↦ elim (not-open text other g) [
        | inl others ↦ absurd (breaks.no_covering others.2.pieces others.2.covers)
        | inr also ↦ one-break text fault other breaks also
      ]
    ]
