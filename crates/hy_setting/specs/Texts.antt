-- That the texts which statements write are UTF-8, where the bytes are that they were parsed from: each stands in these between quotes.
use Rattle.std.specs.Prelude.{◌≡◌, ℕ, List, Ok, map}
use Rattle.std.specs.List.{AllByRecursion}
use Rattle.std.specs.Str.{IsUtf8}
use Rattle.hy_token.specs.declared.Span.{Span}
use Rattle.hy_token.specs.Token.{token_at}
use Rattle.hy_ast.specs.declared.Literal.{Literal}
use Rattle.hy_ast.specs.Trees.{Statement}
use Rattle.hy_ast.specs.Trees as tree
use Rattle.hy_parse.specs.declared.Piece.{Piece}
use Rattle.hy_parse.specs.Parsing.{parsed}
use Rattle.hy_parse.specs.Pieces.{pieces_of}
use Rattle.hy_schema.specs.declared.TableDef.{TableDef}
use Rattle.hy_bind.specs.Literals.{literal_value}
use Rattle.hy_bind.specs.Statements.{bound_of}
use Rattle.hy_stepping.specs.Texts.{IsUtf8Row, WritesUtf8}

-- a piece is a token of the script
abbrev pub IsToken : List ℕ → Piece → Type 0
IsToken script piece = (at : ℕ) × (token_at script at ≡ Ok (piece.token, piece.span))

-- so are all pieces of a statement
abbrev pub PiecesAreTokens : Type 0
PiecesAreTokens = (script : List ℕ) (at : ℕ) → AllByRecursion (IsToken script) (pieces_of script at).pieces

-- The values of an INSERT are UTF-8 where the script is, and so are the texts that a statement writes, over whatever tables.
pub record WhatIsParsedIsUtf8 : Type 0 where
  pub rows : (script : List ℕ) (at end : ℕ) (table : Span) (values : List Literal) → IsUtf8 script → parsed script at ≡ Ok (tree.Insert table values, end)
      → IsUtf8Row (map (literal_value script) values)
  pub statements : (script : List ℕ) (at end : ℕ) (catalog : List TableDef) (statement : Statement) → IsUtf8 script
      → parsed script at ≡ Ok (statement, end) → WritesUtf8 (bound_of script catalog statement)
