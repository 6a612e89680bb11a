-- The statement that begins at an offset of a script, or the offset of the first token that does not fit.
use Rattle.std.specs.Prelude.{◌≡◌, ℕ, ◌≤◌, List, [], ◌∷◌, ◌++◌, Result, Ok, Err}
use Rattle.hy_ast.specs.Trees.{Statement}
use Rattle.hy_parse.specs.Grammar.{IsWritten, Begins, IsUnfit, levels}
use Rattle.hy_parse.specs.declared.Piece.{Piece}
use Rattle.hy_parse.specs.declared.Ending.{Ending}
use Rattle.hy_parse.specs.declared.Ending.TheVariants.{Closed, Cut, Bad}
use Rattle.hy_parse.specs.declared.ParseError.{ParseError}
use Rattle.hy_parse.specs.declared.ParseError.TheVariants as errors
use Rattle.hy_parse.specs.Pieces.{Pieces, pieces_of}
use Rattle.hy_parse.specs.Reading.{Read, Done, Stuck, read_statement}
use Rattle.hy_limits.specs.declared.TheConstants.{MOST_LEVELS}

pub data Fault : Type 0 where
  Syntax : (at : ℕ) → Fault
  BadToken : (at : ℕ) → Fault

abbrev pub offset_of : Ending → ℕ
offset_of (Closed at) = at
offset_of (Cut at) = at
offset_of (Bad at) = at

-- the fault where no piece is left that could go on
abbrev pub ending_fault : Ending → Fault
ending_fault (Bad at) = BadToken at
ending_fault ending = Syntax (offset_of ending)

-- the fault where the first of these pieces does not fit
abbrev pub fault_of : List Piece → Ending → Fault
fault_of [] ending = ending_fault ending
fault_of (piece ∷ pieces) ending = Syntax piece.span.start

-- What reading gives. A statement that was read took all the pieces, and so its end is theirs.
abbrev pub judged : Read Statement → Ending → Result (Statement × ℕ) Fault
judged (Done statement rest) ending = Ok (statement, offset_of ending)
judged (Stuck rest) ending = Err (fault_of rest ending)

abbrev pub parsed_pieces : Pieces → Result (Statement × ℕ) Fault
parsed_pieces ps = judged (read_statement ps.pieces) ps.ending

-- the statement that begins at the first token from an offset on, and the offset right behind its `;`
unfoldable pub parsed : List ℕ → ℕ → Result (Statement × ℕ) Fault
parsed bytes at = parsed_pieces (pieces_of bytes at)

abbrev pub error_of : Fault → ParseError
error_of (Syntax at) = errors.Syntax at
error_of (BadToken at) = errors.BadToken at

-- The tokens of the statement, up to and with its `;`, are a sentence of the grammar, and this statement.
pub record Parses (bytes : List ℕ) (at : ℕ) (statement : Statement) (end : ℕ) : Type 0 where
  pub closed : (pieces_of bytes at).ending ≡ Closed end
  pub written : IsWritten (pieces_of bytes at).pieces statement
  pub within : levels statement ≤ MOST_LEVELS

abbrev pub IsClosed : Ending → Type 0
IsClosed (Closed at) = Unit {0}
IsClosed _ = ⊥

-- The tokens in front begin a sentence. With the next one they begin none, or none is left that could go
-- on, and then no `;` came.
pub record Breaks (bytes : List ℕ) (at : ℕ) (fault : Fault) : Type 0 where
  pub front : List Piece
  pub rest : List Piece
  pub parts : (pieces_of bytes at).pieces ≡ front ++ rest
  pub begins : Begins front
  pub unfit : IsUnfit front rest
  pub unclosed : rest ≡ [] → IsClosed (pieces_of bytes at).ending → ⊥
  pub offset : fault ≡ fault_of rest (pieces_of bytes at).ending

abbrev pub offset_in : Fault → ℕ
offset_in (Syntax at) = at
offset_in (BadToken at) = at

-- What a function returned, seen by view, is what is parsed, unless memory ran out.
abbrev pub Fails : {A : Type 0} → ParseError → Result A Fault → Type 0
Fails errors.OutOfMemory parse = Unit {0}
Fails (errors.Syntax at) parse = parse ≡ Err (Syntax at)
Fails (errors.BadToken at) parse = parse ≡ Err (BadToken at)

abbrev pub Gives : {A B : Type 0} → (A → B) → Result A ParseError → Result B Fault → Type 0
Gives view (Ok value) parse = parse ≡ Ok (view value)
Gives view (Err error) parse = Fails error parse
