-- The word that a statement begins with.
use Rattle.std.proofs.Common.{◌≡◌, ℕ, zero, suc, List, [], ◌∷◌, Result, Ok, Err, sym, ap, ◌∙◌}
use Rattle.hy_ast.specs.Trees.{Statement}
use Rattle.hy_ast.specs.Trees as tree
use Rattle.hy_parse.specs.declared.Piece.{Piece}
use Rattle.hy_parse.specs.Grammar.{Match, marks}
use Rattle.hy_parse.specs.Parsing.{Parses, parsed}
use Rattle.hy_parse.specs.Pieces.{Pieces, piece_of, ended, continued, pieces_within}
use Rattle.hy_token.specs.declared.Bad.{Bad}
use Rattle.hy_token.specs.declared.Keyword.{Keyword}
use Rattle.hy_token.specs.declared.Keyword.TheVariants as word
use Rattle.hy_token.specs.declared.Sign.TheVariants.{Semicolon}
use Rattle.hy_token.specs.declared.Span.{Span}
use Rattle.hy_token.specs.declared.Token.{Token}
use Rattle.hy_token.specs.declared.Token.TheVariants as token
use Rattle.hy_token.specs.Token.{token_at}

-- the word that a statement begins with
abbrev pub word_of : Statement → Keyword
word_of (tree.Create table columns) = word.Create
word_of (tree.Insert table values) = word.Insert
word_of (tree.Session name) = word.Session
word_of (tree.Begin read_only) = word.Begin
word_of tree.Commit = word.Commit
word_of tree.Rollback = word.Rollback
word_of (tree.Savepoint name) = word.Savepoint
word_of (tree.RollbackTo name) = word.Rollback
word_of (tree.Release name) = word.Release
word_of (tree.Select selection) = word.Select
word_of (tree.Update table sets test) = word.Update
word_of (tree.Delete table test) = word.Delete
word_of (tree.Schedule turns) = word.Schedule
word_of tree.End = word.End

-- where statements are parsed their tokens are a sentence of the grammar
abbrev pub ParsesSentences : Type 0
ParsesSentences = (bytes : List ℕ) (at : ℕ) (s : Statement) (end : ℕ) → (parsed bytes at ≡ Ok (s, end) → Parses bytes at s end) × (Parses bytes at s end → parsed bytes at ≡ Ok (s, end))

-- a sentence's first piece is the statement's word
begins : (s : Statement) (piece : Piece) (pieces : List Piece) → Match (piece ∷ pieces) (marks s) → piece.token ≡ token.Reserved (word_of s)
begins (tree.Create table columns) piece pieces m = m.0
begins (tree.Insert table values) piece pieces m = m.0
begins (tree.Session name) piece pieces m = m.0
begins (tree.Begin read_only) piece pieces m = m.0
begins tree.Commit piece pieces m = m.0
begins tree.Rollback piece pieces m = m.0
begins (tree.Savepoint name) piece pieces m = m.0
begins (tree.RollbackTo name) piece pieces m = m.0
begins (tree.Release name) piece pieces m = m.0
begins (tree.Select selection) piece pieces m = m.0
begins (tree.Update table sets test) piece pieces m = m.0
begins (tree.Delete table test) piece pieces m = m.0
begins (tree.Schedule turns) piece pieces m = m.0
begins tree.End piece pieces m = m.0

-- no statement is written with no piece
no_pieces : (s : Statement) → Match [] (marks s) → ⊥
no_pieces tree.End m = m
no_pieces _ m = m

-- no statement is written where no piece stands
nothing_stands : (s : Statement) (r : Result (Token × Span) Bad) → Match (ended r).pieces (marks s) → ⊥
nothing_stands s (Ok found) m = no_pieces s m
nothing_stands s (Err bad) m = no_pieces s m

-- the first of a statement's pieces is the first token
first_token : (s : Statement) (r : Result (Token × Span) Bad) (others : ℕ → Pieces) → Match (continued r others).pieces (marks s) → (span : Span) × (r ≡ Ok (token.Reserved (word_of s), span))
first_token s (Ok (token.Sign Semicolon, span)) others m =
    let first : token.Sign Semicolon ≡ token.Reserved (word_of s) = begins s (piece_of (token.Sign Semicolon) span) [] m in
    absurd (cc first)
first_token s (Ok (token.End, span)) others m = absurd (no_pieces s m)
first_token s (Ok (t, span)) others m = (span, ap (λ (t : Token). Ok (t, span)) (begins s (piece_of t span) (others span.end).pieces m))
first_token s (Err bad) others m = absurd (no_pieces s m)

-- the same of the pieces of a script
stands_first : (most : ℕ) (bytes : List ℕ) (at : ℕ) (s : Statement) → Match (pieces_within most bytes at).pieces (marks s) → (span : Span) × (token_at bytes at ≡ Ok (token.Reserved (word_of s), span))
unfolding pieces_within
stands_first zero bytes at s m = absurd (nothing_stands s (token_at bytes at) m)
stands_first (suc most) bytes at s m = first_token s (token_at bytes at) (λ next. pieces_within most bytes next) m

-- the first token of a statement is its word
pub word_first : ParsesSentences → (bytes : List ℕ) (at : ℕ) (s : Statement) (end : ℕ) → parsed bytes at ≡ Ok (s, end) → (span : Span) × (token_at bytes at ≡ Ok (token.Reserved (word_of s), span))
word_first sentences bytes at s end parses = stands_first _ bytes at s ((sentences bytes at s end).0 parses).written.matches

-- what is found at an offset is one token
pub same_token : (r : Result (Token × Span) Bad) (one other : Token) (here there : Span) → r ≡ Ok (one, here) → r ≡ Ok (other, there) → one ≡ other
same_token r one other here there h g =
    let e = sym h ∙ g in
    let found : Token × Span = (one, here) in
    let again : Token × Span = (other, there) in
    let same : found ≡ again = cc e in
    ap (λ (p : Token × Span). p.0) same

-- the word that a statement is found to begin with is its word
pub same_word : ParsesSentences → (bytes : List ℕ) (at : ℕ) (s : Statement) (end : ℕ) (keyword : Keyword) (span : Span) → parsed bytes at ≡ Ok (s, end) → token_at bytes at ≡ Ok (token.Reserved keyword, span) → keyword ≡ word_of s
same_word sentences bytes at s end keyword span parses begun =
    let first = word_first sentences bytes at s end parses in
    let word = same_token (token_at bytes at) (token.Reserved keyword) (token.Reserved (word_of s)) span first.0 begun first.1 in
    cc word
