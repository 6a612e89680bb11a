-- Reading from left to right, as functions on lists of pieces. A reader gives what it read and the pieces
-- behind it, or the pieces from the first one on that does not fit.
use Rattle.std.specs.Prelude.{◌≡◌, ℕ, Result, Ok, Err, zero, suc, Bool, true, false, if◌then◌else◌, Option, Some, None, List, [], ◌∷◌, ◌++◌, length}
use Rattle.std.specs.Option.{option_map, option_map_or}
use Rattle.std.specs.Str.{bytes_eq}
use Rattle.hy_token.specs.Keyword.{word_spelling}
use Rattle.hy_token.specs.Sign.{sign_spelling}
use Rattle.hy_token.specs.declared.Keyword.{Keyword}
use Rattle.hy_token.specs.declared.Keyword.TheVariants.{And, Begin, By, Commit, Count, Create, Delete, End, From, Group, Insert, Int, Into, Is, Join, Key, Not, Null, On, Only, Or, Primary, Release, Rollback, Savepoint, Schedule, Select, Session, Set, Sum, Table, To, Update, Values, Where}
use Rattle.hy_token.specs.declared.Keyword.TheVariants as keyword
use Rattle.hy_token.specs.declared.Sign.{Sign}
use Rattle.hy_token.specs.declared.Sign.TheVariants.{LeftParen, RightParen, Comma, Semicolon, Dot, Star, Plus, Minus, Bang, Equal, NotEqual, Less, LessEqual, Greater, GreaterEqual}
use Rattle.hy_token.specs.declared.Span.{Span}
use Rattle.hy_token.specs.declared.Token.{Token}
use Rattle.hy_token.specs.declared.Token.TheVariants as token
use Rattle.hy_value.specs.declared.Cmp.{Cmp}
use Rattle.hy_value.specs.declared.Cmp.TheVariants as cmp
use Rattle.hy_value.specs.declared.Kind.{Kind}
use Rattle.hy_value.specs.declared.Kind.TheVariants as kinds
use Rattle.hy_ast.specs.declared.ColumnRef.{ColumnRef}
use Rattle.hy_ast.specs.declared.ColumnDef.{ColumnDef}
use Rattle.hy_ast.specs.declared.Literal.{Literal}
use Rattle.hy_ast.specs.declared.Literal.TheVariants as literals
use Rattle.hy_ast.specs.declared.Operand.{Operand}
use Rattle.hy_ast.specs.declared.Operand.TheVariants as operands
use Rattle.hy_ast.specs.declared.Operator.{Operator}
use Rattle.hy_ast.specs.declared.Operator.TheVariants as operator
use Rattle.hy_ast.specs.declared.Join.{Join as JoinedTable}
use Rattle.hy_ast.specs.declared.Turn.{Turn}
use Rattle.hy_ast.specs.declared.Total.{Total}
use Rattle.hy_ast.specs.declared.Total.TheVariants as totals
use Rattle.hy_ast.specs.declared.Listed.{Listed}
use Rattle.hy_ast.specs.declared.Listed.TheVariants as listing
use Rattle.hy_ast.specs.Trees.{Test, Formula, SetClause, Selection, Statement}
use Rattle.hy_ast.specs.Trees as tree
use Rattle.hy_parse.specs.declared.Piece.{Piece}
use Rattle.hy_parse.specs.declared.cursor.Halt.{Halt}
use Rattle.hy_parse.specs.declared.cursor.Halt.TheVariants as halt
use Rattle.hy_limits.specs.declared.TheConstants.{MOST_LEVELS}

pub data Read (A : Type 0) : Type 0 where
  Done : (value : A) (rest : List Piece) → Read A
  Stuck : (rest : List Piece) → Read A

infixl 10 ◌>>=◌
abbrev pub ◌>>=◌ : {A B : Type 0} → Read A → (A × List Piece → Read B) → Read B
(Done value rest) >>= f = f (value, rest)
(Stuck rest) >>= f = Stuck rest

-- What a function returned, seen by view, is what reading gives, unless memory ran out.
abbrev pub Halts : {A : Type 0} → Halt → Read A → Type 0
Halts halt.OutOfMemory read = Unit {0}
Halts (halt.Stuck rest) read = read ≡ Stuck rest.now

abbrev pub Gives : {A B : Type 0} → (A → B × List Piece) → Result A Halt → Read B → Type 0
Gives view (Ok value) read = read ≡ Done (view value).0 (view value).1
Gives view (Err halted) read = Halts halted read

-- what a function found, seen by view, is what is seen
abbrev pub Sees : {A B : Type 0} → (A → B) → Option A → Option B → Type 0
Sees view found sight = sight ≡ option_map view found

-- ---- pieces

abbrev pub word : Keyword → Token
word k = token.Reserved k

abbrev pub sign : Sign → Token
sign s = token.Sign s

-- whether two tokens are the same: the spelling of a reserved word or a sign is its own alone
abbrev pub same : Token → Token → Bool
same (token.Reserved a) (token.Reserved b) = bytes_eq (word_spelling a) (word_spelling b)
same (token.Sign a) (token.Sign b) = bytes_eq (sign_spelling a) (sign_spelling b)
same token.Name token.Name = true
same token.Integer token.Integer = true
same token.Text token.Text = true
same token.End token.End = true
same _ _ = false

-- what the next piece says, and the pieces behind it
abbrev pub seen : {A : Type 0} → (Piece → Option A) → List Piece → Option (A × List Piece)
seen sense [] = None
seen sense (piece ∷ pieces) = option_map (λ value. (value, pieces)) (sense piece)

-- the span of a piece that is this token
abbrev pub span_of : Token → Piece → Option Span
span_of token piece = if same token piece.token then Some piece.span else None

-- whether the next piece is this token
abbrev pub begins : Token → List Piece → Bool
begins token [] = false
begins token (piece ∷ pieces) = same token piece.token

-- what the next piece says
unfoldable pub piece_at : {A : Type 0} → (Piece → Option A) → List Piece → Read A
piece_at sense pieces = option_map_or (λ found. Done found.0 found.1) (seen sense pieces) (Stuck pieces)

-- the span of the next piece, which is this token
abbrev pub span_at : Token → List Piece → Read Span
span_at token pieces = piece_at (span_of token) pieces

abbrev pub name_at : List Piece → Read Span
name_at pieces = span_at token.Name pieces

-- these tokens, one after the other
unfoldable pub after : List Token → List Piece → Read (Unit {0})
after [] pieces = Done tt pieces
after (token ∷ tokens) pieces = do
  found ← span_at token pieces
  after tokens found.1

-- whether these tokens stand there, as they must where the first of them does
unfoldable pub flag_at : Token → List Token → List Piece → Read Bool
flag_at first others pieces =
    if begins first pieces
    then (span_at first pieces >>= λ found. after others found.1 >>= λ rest. Done true rest.1)
    else Done false pieces

-- ---- one after the other

-- As long as the next piece says something: what it says and what is read behind it, joined to what was
-- read before. Each time takes a piece, so that there are no more times than pieces.
unfoldable pub links_within : {A B C : Type 0} → (Piece → Option B) → (A → B → C → A) → (List Piece → Read C) → ℕ → A → List Piece → Read A
links_within sense join one zero left pieces = Done left pieces
links_within sense join one (suc most) left pieces =
    option_map_or (λ found. one found.1 >>= λ right. links_within sense join one most (join left found.0 right.0) right.1) (seen sense pieces) (Done left pieces)

abbrev pub links_at : {A B C : Type 0} → (Piece → Option B) → (A → B → C → A) → (List Piece → Read C) → A → List Piece → Read A
links_at sense join one left pieces = links_within sense join one (length pieces) left pieces

-- one, and the others behind commas, after those before
unfoldable pub items_at : {A : Type 0} → List A → (List Piece → Read A) → List Piece → Read (List A)
items_at before one pieces = do
  first ← one pieces
  links_at (span_of (sign Comma)) (λ items _ item. items ++ item ∷ []) one (before ++ first.0 ∷ []) first.1

-- ---- columns, literals and operands

unfoldable pub column_at : List Piece → Read ColumnRef
column_at pieces = do
  first ← name_at pieces
  if begins (sign Dot) first.1
      then (after (sign Dot ∷ []) first.1 >>= λ dot. name_at dot.1 >>= λ second. Done (record { table = Some first.0; column = second.0 }) second.1)
      else Done (record { table = None; column = first.0 }) first.1

unfoldable pub negative_at : List Piece → Read Literal
negative_at pieces = do
  minus ← span_at (sign Minus) pieces
  digits ← span_at token.Integer minus.1
  Done (literals.Integer (Some minus.0) digits.0) digits.1

-- a literal of one piece
abbrev pub literal_of : Piece → Option Literal
literal_of piece =
    if same token.Integer piece.token then Some (literals.Integer None piece.span)
    else (if same token.Text piece.token then Some (literals.Text piece.span)
    else (if same (word Null) piece.token then Some (literals.Null piece.span)
    else None))

unfoldable pub literal_at : List Piece → Read Literal
literal_at pieces = if begins (sign Minus) pieces then negative_at pieces else piece_at literal_of pieces

unfoldable pub operand_at : List Piece → Read Operand
operand_at pieces =
    if begins token.Name pieces
    then (column_at pieces >>= λ column. Done (operands.Column column.0) column.1)
    else (literal_at pieces >>= λ literal. Done (operands.Literal literal.0) literal.1)

-- ---- conditions

abbrev pub cmp_of : Token → Option Cmp
cmp_of (token.Sign Equal) = Some cmp.Eq
cmp_of (token.Sign NotEqual) = Some cmp.Ne
cmp_of (token.Sign Less) = Some cmp.Lt
cmp_of (token.Sign LessEqual) = Some cmp.Le
cmp_of (token.Sign Greater) = Some cmp.Gt
cmp_of (token.Sign GreaterEqual) = Some cmp.Ge
cmp_of _ = None

-- a comparison and its span
abbrev pub comparison_of : Piece → Option (Cmp × Span)
comparison_of piece = option_map (λ op. (op, piece.span)) (cmp_of piece.token)

unfoldable pub is_null_at : ColumnRef → List Piece → Read Test
is_null_at column pieces = do
  at ← span_at (word Is) pieces
  negated ← flag_at (word Not) [] at.1
  rest ← after (word Null ∷ []) negated.1
  Done (tree.IsNull column at.0 negated.0) rest.1

unfoldable pub compared_at : ColumnRef → List Piece → Read Test
compared_at column pieces = do
  op ← piece_at comparison_of pieces
  right ← operand_at op.1
  Done (tree.Compare column op.0.0 op.0.1 right.0) right.1

unfoldable pub comparison_at : List Piece → Read Test
comparison_at pieces = do
  column ← column_at pieces
  if begins (word Is) column.1 then is_null_at column.0 column.1 else compared_at column.0 column.1

-- a chain of AND, and one of OR, of what a unit is read by
unfoldable pub conjunction_by : (List Piece → Read Test) → List Piece → Read Test
conjunction_by unit pieces = do
  first ← unit pieces
  links_at (span_of (word And)) (λ left at right. tree.And left at right) unit first.0 first.1

unfoldable pub test_by : (List Piece → Read Test) → List Piece → Read Test
test_by unit pieces = do
  first ← conjunction_by unit pieces
  links_at (span_of (word Or)) (λ left at right. tree.Or left at right) (conjunction_by unit) first.0 first.1

-- A unit that opens at most this many levels at once. Where it may open none it is a comparison, which
-- begins with neither NOT nor a parenthesis.
unfoldable pub unit_at : ℕ → List Piece → Read Test
unit_at zero pieces = comparison_at pieces
unit_at (suc levels) pieces =
    if begins (word Not) pieces
    then (span_at (word Not) pieces >>= λ at. unit_at levels at.1 >>= λ inner. Done (tree.Not at.0 inner.0) inner.1)
    else (if begins (sign LeftParen) pieces
    then (after (sign LeftParen ∷ []) pieces >>= λ opened. test_by (unit_at levels) opened.1 >>= λ inner. after (sign RightParen ∷ []) inner.1 >>= λ closed. Done (tree.Nested inner.0) closed.1)
    else comparison_at pieces)

abbrev pub test_at : ℕ → List Piece → Read Test
test_at levels pieces = test_by (unit_at levels) pieces

-- WHERE and what follows it, if it stands there
unfoldable pub condition_at : List Piece → Read (Option Test)
condition_at pieces =
    if begins (word Where) pieces
    then (after (word Where ∷ []) pieces >>= λ rest. test_at MOST_LEVELS rest.1 >>= λ test. Done (Some test.0) test.1)
    else Done None pieces

-- ---- expressions

abbrev pub addition_of : Token → Option Operator
addition_of (token.Sign Plus) = Some operator.Plus
addition_of (token.Sign Minus) = Some operator.Minus
addition_of _ = None

-- `+` or `-` and its span
abbrev pub addition : Piece → Option (Operator × Span)
addition piece = option_map (λ op. (op, piece.span)) (addition_of piece.token)

-- a chain of `*`, and one of `+` and `-`, of what a factor is read by
unfoldable pub term_by : (List Piece → Read Formula) → List Piece → Read Formula
term_by factor pieces = do
  first ← factor pieces
  links_at (span_of (sign Star)) (λ left at right. tree.Binary left operator.Times at right) factor first.0 first.1

unfoldable pub formula_by : (List Piece → Read Formula) → List Piece → Read Formula
formula_by factor pieces = do
  first ← term_by factor pieces
  links_at addition (λ left op right. tree.Binary left op.0 op.1 right) (term_by factor) first.0 first.1

unfoldable pub plain_at : List Piece → Read Formula
plain_at pieces = do
  operand ← operand_at pieces
  Done (tree.Plain operand.0) operand.1

-- a factor that opens at most this many levels at once
unfoldable pub factor_at : ℕ → List Piece → Read Formula
factor_at zero pieces = plain_at pieces
factor_at (suc levels) pieces =
    if begins (sign LeftParen) pieces
    then (after (sign LeftParen ∷ []) pieces >>= λ opened. formula_by (factor_at levels) opened.1 >>= λ inner. after (sign RightParen ∷ []) inner.1 >>= λ closed. Done (tree.Bracket inner.0) closed.1)
    else plain_at pieces

abbrev pub formula_at : ℕ → List Piece → Read Formula
formula_at levels pieces = formula_by (factor_at levels) pieces

unfoldable pub set_clause_at : List Piece → Read SetClause
set_clause_at pieces = do
  column ← name_at pieces
  equal ← after (sign Equal ∷ []) column.1
  value ← formula_at MOST_LEVELS equal.1
  Done (record { column = column.0; value = value.0 }) value.1

-- ---- SELECT

abbrev pub count : List Token
count = word Count ∷ sign LeftParen ∷ sign Star ∷ sign RightParen ∷ []

unfoldable pub sum_at : List Piece → Read ColumnRef
sum_at pieces = do
  opened ← after (word Sum ∷ sign LeftParen ∷ []) pieces
  column ← column_at opened.1
  closed ← after (sign RightParen ∷ []) column.1
  Done column.0 closed.1

-- FROM and the table
unfoldable pub from_at : List Piece → Read Span
from_at pieces = do
  from ← after (word From ∷ []) pieces
  name_at from.1

-- what follows JOIN
unfoldable pub joined_at : List Piece → Read JoinedTable
joined_at pieces = do
  table ← name_at pieces
  on ← after (word On ∷ []) table.1
  left ← column_at on.1
  equal ← after (sign Equal ∷ []) left.1
  right ← column_at equal.1
  Done (record { table = table.0; left = left.0; right = right.0 }) right.1

abbrev pub joins_at : List Piece → Read (List JoinedTable)
joins_at pieces = links_at (span_of (word Join)) (λ joins _ join. joins ++ join ∷ []) joined_at [] pieces

-- what follows the items of a SELECT of rows
unfoldable pub rows_at : Listed → List Piece → Read Selection
rows_at listed pieces = do
  table ← from_at pieces
  joins ← joins_at table.1
  test ← condition_at joins.1
  Done (tree.Rows listed table.0 joins.0 test.0) test.1

unfoldable pub count_at : List Piece → Read Selection
count_at pieces = do
  rest ← after count pieces
  table ← from_at rest.1
  test ← condition_at table.1
  Done (tree.Count table.0 test.0) test.1

-- what follows the items of a SELECT of groups
unfoldable pub groups_at : ColumnRef → Total → List Piece → Read Selection
groups_at column total pieces = do
  table ← from_at pieces
  test ← condition_at table.1
  by ← after (word Group ∷ word By ∷ []) test.1
  key ← column_at by.1
  Done (tree.Groups column total table.0 test.0 key.0) key.1

-- what follows a first column and a comma
unfoldable pub second_at : ColumnRef → List Piece → Read Selection
second_at column pieces =
    if begins (word Count) pieces
    then (after count pieces >>= λ rest. groups_at column totals.Count rest.1)
    else (if begins (word Sum) pieces
    then (sum_at pieces >>= λ sum. groups_at column (totals.Sum sum.0) sum.1)
    else (items_at (column ∷ []) column_at pieces >>= λ columns. rows_at (listing.Columns columns.0) columns.1))

-- a SELECT that lists a column first
unfoldable pub columns_at : List Piece → Read Selection
columns_at pieces = do
  column ← column_at pieces
  if begins (sign Comma) column.1
      then (after (sign Comma ∷ []) column.1 >>= λ comma. second_at column.0 comma.1)
      else rows_at (listing.Columns (column.0 ∷ [])) column.1

-- what follows SELECT
unfoldable pub selection_at : List Piece → Read Selection
selection_at pieces =
    if begins (sign Star) pieces
    then (after (sign Star ∷ []) pieces >>= λ rest. rows_at listing.All rest.1)
    else (if begins (word Sum) pieces
    then (sum_at pieces >>= λ sum. rows_at (listing.Sum sum.0) sum.1)
    else (if begins (word Count) pieces then count_at pieces
    else columns_at pieces))

-- ---- statements

-- a SELECT as a statement
abbrev pub selected : Read Selection → Read Statement
selected read = read >>= λ selection. Done (tree.Select selection.0) selection.1

abbrev pub kind_of : Piece → Option Kind
kind_of piece =
    if same (word Int) piece.token then Some kinds.Int
    else (if same (word keyword.Text) piece.token then Some kinds.Str
    else None)

unfoldable pub column_def_at : List Piece → Read ColumnDef
column_def_at pieces = do
  name ← name_at pieces
  kind ← piece_at kind_of name.1
  key ← flag_at (word Primary) (word Key ∷ []) kind.1
  Done (record { name = name.0; kind = kind.0; key = key.0 }) key.1

unfoldable pub create_at : List Piece → Read Statement
create_at pieces = do
  begun ← after (word Create ∷ word Table ∷ []) pieces
  table ← name_at begun.1
  opened ← after (sign LeftParen ∷ []) table.1
  columns ← items_at [] column_def_at opened.1
  closed ← after (sign RightParen ∷ []) columns.1
  Done (tree.Create table.0 columns.0) closed.1

unfoldable pub insert_at : List Piece → Read Statement
insert_at pieces = do
  begun ← after (word Insert ∷ word Into ∷ []) pieces
  table ← name_at begun.1
  opened ← after (word Values ∷ sign LeftParen ∷ []) table.1
  values ← items_at [] literal_at opened.1
  closed ← after (sign RightParen ∷ []) values.1
  Done (tree.Insert table.0 values.0) closed.1

unfoldable pub session_at : List Piece → Read Statement
session_at pieces = do
  begun ← after (word Session ∷ []) pieces
  name ← name_at begun.1
  Done (tree.Session name.0) name.1

unfoldable pub begin_at : List Piece → Read Statement
begin_at pieces = do
  begun ← after (word Begin ∷ []) pieces
  read_only ← flag_at (word keyword.Read) (word Only ∷ []) begun.1
  Done (tree.Begin read_only.0) read_only.1

-- a statement of one word
unfoldable pub alone_at : Keyword → Statement → List Piece → Read Statement
alone_at k statement pieces = do
  begun ← after (word k ∷ []) pieces
  Done statement begun.1

-- ---- savepoints

unfoldable pub savepoint_at : List Piece → Read Statement
savepoint_at pieces = do
  begun ← after (word Savepoint ∷ []) pieces
  name ← name_at begun.1
  Done (tree.Savepoint name.0) name.1

unfoldable pub release_at : List Piece → Read Statement
release_at pieces = do
  begun ← after (word Release ∷ []) pieces
  name ← name_at begun.1
  Done (tree.Release name.0) name.1

-- what follows ROLLBACK: TO and the name of a savepoint, or nothing
unfoldable pub back_at : List Piece → Read Statement
back_at pieces =
    if begins (word To) pieces
    then (after (word To ∷ []) pieces >>= λ to. name_at to.1 >>= λ name. Done (tree.RollbackTo name.0) name.1)
    else Done tree.Rollback pieces

unfoldable pub rollback_at : List Piece → Read Statement
rollback_at pieces = do
  begun ← after (word Rollback ∷ []) pieces
  back_at begun.1

-- ---- rows and schedules

unfoldable pub select_at : List Piece → Read Statement
select_at pieces = do
  begun ← after (word Select ∷ []) pieces
  selection ← selection_at begun.1
  Done (tree.Select selection.0) selection.1

-- what follows SET of an UPDATE of this table
abbrev pub changed_at : Span → List Piece → Read Statement
changed_at table pieces = do
  sets ← items_at [] set_clause_at pieces
  test ← condition_at sets.1
  Done (tree.Update table sets.0 test.0) test.1

unfoldable pub update_at : List Piece → Read Statement
update_at pieces = do
  begun ← after (word Update ∷ []) pieces
  table ← name_at begun.1
  set ← after (word Set ∷ []) table.1
  changed_at table.0 set.1

unfoldable pub delete_at : List Piece → Read Statement
delete_at pieces = do
  begun ← after (word Delete ∷ []) pieces
  table ← from_at begun.1
  test ← condition_at table.1
  Done (tree.Delete table.0 test.0) test.1

-- a session's turn, with `!` behind it or without
abbrev pub turns_at : List Piece → Read (List Turn)
turns_at pieces = links_at (span_of token.Name) (λ turns session whole. turns ++ record { session = session; whole = whole } ∷ []) (flag_at (sign Bang) []) [] pieces

unfoldable pub schedule_at : List Piece → Read Statement
schedule_at pieces = do
  begun ← after (word Schedule ∷ []) pieces
  turns ← turns_at begun.1
  Done (tree.Schedule turns.0) turns.1

-- a statement up to its `;`
unfoldable pub body_at : List Piece → Read Statement
body_at pieces =
    if begins (word Create) pieces then create_at pieces
    else (if begins (word Insert) pieces then insert_at pieces
    else (if begins (word Session) pieces then session_at pieces
    else (if begins (word Begin) pieces then begin_at pieces
    else (if begins (word Commit) pieces then alone_at Commit tree.Commit pieces
    else (if begins (word Rollback) pieces then rollback_at pieces
    else (if begins (word Select) pieces then select_at pieces
    else (if begins (word Update) pieces then update_at pieces
    else (if begins (word Delete) pieces then delete_at pieces
    else (if begins (word Schedule) pieces then schedule_at pieces
    else (if begins (word Savepoint) pieces then savepoint_at pieces
    else (if begins (word Release) pieces then release_at pieces
    else alone_at End tree.End pieces)))))))))))

unfoldable pub read_statement : List Piece → Read Statement
read_statement pieces = do
  statement ← body_at pieces
  rest ← after (sign Semicolon ∷ []) statement.1
  Done statement.0 rest.1
