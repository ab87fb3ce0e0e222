-- How the bytes of a source lead to its flow, and which fault a source has.
use Rattle.std.specs.Prelude.{◌≡◌, ℕ, List, length, Ok, Err, slice_get, option_map, unwrap_or}
use Rattle.pas_lexer.specs.Covering.{HasTokens, HasFault}
use Rattle.pas_lexer.specs.declared.fault.LexFault.{LexFault}
use Rattle.pas_lexer.specs.declared.token.Token.{Token}
use Rattle.pas_parser.specs.Grammar.Program.{IsProgram}
use Rattle.pas_parser.specs.Program.{program}
use Rattle.pas_parser.specs.declared.fault.ParseFault.{ParseFault}
use Rattle.pas_parser.specs.declared.fault.ParseFault.TheVariants.{NoRule, TooDeep, Memory as NoMemory}
use Rattle.pas_tree.specs.declared.block.Tree.{Tree}
use Rattle.pas_check.specs.Accepted.{IsProgramOf}
use Rattle.pas_check.specs.Blocks.{IsSound}
use Rattle.pas_check.specs.Fault.{IsWithin}
use Rattle.pas_check.specs.declared.fault.CheckFault.TheVariants.{Wrong}
use Rattle.control_points.specs.Sites as Sites
use Rattle.control_points.specs.declared.flow.Flow.{Flow}
use Rattle.report.specs.Wording.{CanTell}
use Rattle.report.specs.declared.fault.SourceFault.{SourceFault}
use Rattle.report.specs.declared.fault.SourceFault.TheVariants.{Lex, Parse, Check}
use Rattle.syntox.specs.declared.source.Refusal.{Refusal}
use Rattle.syntox.specs.declared.source.Refusal.TheVariants.{Fault, Memory}

-- The tree of a source: the tokens are those of the text's covering, and the tree is a program of the grammar over all of
-- them, the one that reading them gives.
pub record IsTreeOf (text : List ℕ) (tree : Tree) : Type 0 where
  pub tokens : List Token
  pub has_tokens : HasTokens text tokens
  pub is_read : program tokens ≡ Ok tree
  pub is_program : IsProgram tokens tree

-- The flow of a source: the source has a tree, which breaks no rule; the flow is of the program that is built of this tree; and its
-- points with their assertions, edges and checks are those of the paths in the program's text.
pub record IsFlowOf (text : List ℕ) (flow : Flow) : Type 0 where
  pub tree : Tree
  pub is_tree : IsTreeOf text tree
  pub is_program : IsProgramOf text tree flow.program
  pub is_drawn : Sites.IsFlowOf flow.program flow.points flow.asserts flow.edges flow.checks

-- ---- faults

-- the place of a token, or of the end of a text of this length
abbrev pub token_place : ℕ → List Token → ℕ → ℕ
token_place len tokens token = unwrap_or (option_map (λ (t : Token). t.span.start) (slice_get tokens token)) len

-- the token of a fault
abbrev pub token_of : ParseFault → ℕ
token_of (NoRule token) = token
token_of (TooDeep token) = token
token_of (NoMemory e) = 0

-- The fault of a source. Lexical faults are those of the text's covering, and faults of the syntax those that reading the
-- tokens gives. A rule is the first one that the source's tree breaks in the order of the text, by its number; it is told at
-- the place where it is broken, and the place told lies in the text.
pub data HasSourceFault (text : List ℕ) : SourceFault → Type 0 where
  lexical : {fault : LexFault} → HasFault text fault → HasSourceFault text (Lex fault)
  syntax : {tokens : List Token} {fault : ParseFault} → HasTokens text tokens → program tokens ≡ Err fault
      → HasSourceFault text (Parse fault (token_place (length text) tokens (token_of fault)))
  rule : {tree : Tree} {code at : ℕ} → IsTreeOf text tree → IsWithin (length text) (Wrong code at) → IsSound text tree (Wrong code at) → HasSourceFault text (Check (Wrong code at))

-- why a source has no flow: a fault of it, or want of memory, which may come at any source
abbrev pub Refuses : List ℕ → Refusal → Type 0
Refuses text (Fault fault) = HasSourceFault text fault
Refuses text (Memory e) = Unit {0}

-- the fault can be told of a text of this length: it has a place there
abbrev pub CanBeTold : ℕ → Refusal → Type 0
CanBeTold len (Fault fault) = CanTell len fault
CanBeTold len (Memory e) = Unit {0}
