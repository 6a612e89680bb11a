-- The grammar: how each statement is written, one clause for each rule. A tree says where its names,
-- literals and operators stand; the words and signs of a rule may stand anywhere.
use Rattle.std.specs.Prelude.{◌≡◌, ℕ, ◌+◌, ◌≤◌, max, Bool, true, false, List, [], ◌∷◌, ◌++◌, Option, Some, None}
use Rattle.std.specs.List.{flat_map, AllByRecursion}
use Rattle.hy_token.specs.declared.Keyword.{Keyword}
use Rattle.hy_token.specs.declared.Keyword.TheVariants.{And, Begin, By, Commit, Count, Create, Delete, End, From, Group, Insert, Int, Into, Is, Join, Key, Not, Null, On, Only, Or, Primary, Read, Release, Rollback, Savepoint, Schedule, Select, Session, Set, Sum, Table, Text, To, Update, Values, Where}
use Rattle.hy_token.specs.declared.Sign.{Sign}
use Rattle.hy_token.specs.declared.Sign.TheVariants.{LeftParen, RightParen, Comma, Semicolon, Dot, Star, Plus, Minus, Bang, Equal, NotEqual, Less, LessEqual, Greater, GreaterEqual}
use Rattle.hy_token.specs.declared.Span.{Span}
use Rattle.hy_token.specs.declared.Token.{Token}
use Rattle.hy_token.specs.declared.Token.TheVariants as token
use Rattle.hy_value.specs.declared.Cmp.{Cmp}
use Rattle.hy_value.specs.declared.Cmp.TheVariants as cmp
use Rattle.hy_value.specs.declared.Kind.{Kind}
use Rattle.hy_value.specs.declared.Kind.TheVariants as kinds
use Rattle.hy_ast.specs.declared.ColumnRef.{ColumnRef}
use Rattle.hy_ast.specs.declared.ColumnDef.{ColumnDef}
use Rattle.hy_ast.specs.declared.Literal.{Literal}
use Rattle.hy_ast.specs.declared.Literal.TheVariants as literals
use Rattle.hy_ast.specs.declared.Operand.{Operand}
use Rattle.hy_ast.specs.declared.Operand.TheVariants as operands
use Rattle.hy_ast.specs.declared.Operator.{Operator}
use Rattle.hy_ast.specs.declared.Operator.TheVariants as operator
use Rattle.hy_ast.specs.declared.Join.{Join as JoinedTable}
use Rattle.hy_ast.specs.declared.Turn.{Turn}
use Rattle.hy_ast.specs.declared.Total.{Total}
use Rattle.hy_ast.specs.declared.Total.TheVariants as totals
use Rattle.hy_ast.specs.declared.Listed.{Listed}
use Rattle.hy_ast.specs.declared.Listed.TheVariants as listing
use Rattle.hy_ast.specs.Trees.{Test, Formula, SetClause, Selection, Statement}
use Rattle.hy_ast.specs.Trees as tree
use Rattle.hy_parse.specs.declared.Piece.{Piece}
use Rattle.hy_limits.specs.declared.TheConstants.{MOST_LEVELS}

-- ---- marks

-- what stands for one piece: a token with any span, or with this one
pub data Mark : Type 0 where
  Any : (token : Token) → Mark
  At : (token : Token) (span : Span) → Mark

abbrev pub Marks : Piece → Mark → Type 0
Marks piece (Any token) = piece.token ≡ token
Marks piece (At token span) = piece ≡ record { token = token; span = span }

-- the pieces are those of the marks, one by one
abbrev pub Match : List Piece → List Mark → Type 0
Match [] [] = Unit {0}
Match (piece ∷ pieces) (mark ∷ marks) = Marks piece mark × Match pieces marks
Match _ _ = ⊥

abbrev pub word : Keyword → Mark
word keyword = Any (token.Reserved keyword)

abbrev pub sign : Sign → Mark
sign s = Any (token.Sign s)

abbrev pub word_at : Keyword → Span → Mark
word_at keyword span = At (token.Reserved keyword) span

abbrev pub sign_at : Sign → Span → Mark
sign_at s span = At (token.Sign s) span

abbrev pub name : Span → Mark
name span = At token.Name span

-- a list with commas between
abbrev pub separated : {A : Type 0} → (A → List Mark) → List A → List Mark
separated write [] = []
separated write (x ∷ xs) = write x ++ flat_map (λ y. sign Comma ∷ write y) xs

-- what stands there or does not
abbrev pub optional : Bool → List Mark → List Mark
optional false ms = []
optional true ms = ms

-- ---- columns, literals and operands

abbrev pub qualifier : Option Span → List Mark
qualifier None = []
qualifier (Some table) = name table ∷ sign Dot ∷ []

abbrev pub column : ColumnRef → List Mark
column c = qualifier c.table ++ name c.column ∷ []

abbrev pub minus : Option Span → List Mark
minus None = []
minus (Some span) = sign_at Minus span ∷ []

abbrev pub literal : Literal → List Mark
literal (literals.Null span) = word_at Null span ∷ []
literal (literals.Integer before digits) = minus before ++ At token.Integer digits ∷ []
literal (literals.Text span) = At token.Text span ∷ []

abbrev pub operand : Operand → List Mark
operand (operands.Column c) = column c
operand (operands.Literal l) = literal l

-- ---- conditions

abbrev pub comparison : Cmp → Sign
comparison cmp.Eq = Equal
comparison cmp.Ne = NotEqual
comparison cmp.Lt = Less
comparison cmp.Le = LessEqual
comparison cmp.Gt = Greater
comparison cmp.Ge = GreaterEqual

abbrev pub test : Test → List Mark
test (tree.Compare left op at right) = column left ++ sign_at (comparison op) at ∷ operand right
test (tree.IsNull c at negated) = column c ++ word_at Is at ∷ optional negated (word Not ∷ []) ++ word Null ∷ []
test (tree.Not at inner) = word_at Not at ∷ test inner
test (tree.And left at right) = test left ++ word_at And at ∷ test right
test (tree.Or left at right) = test left ++ word_at Or at ∷ test right
test (tree.Nested inner) = sign LeftParen ∷ test inner ++ sign RightParen ∷ []

-- what is no OR
abbrev pub IsConjunction : Test → Type 0
IsConjunction (tree.Or left at right) = ⊥
IsConjunction _ = Unit {0}

-- what is neither OR nor AND
abbrev pub IsUnit : Test → Type 0
IsUnit (tree.Or left at right) = ⊥
IsUnit (tree.And left at right) = ⊥
IsUnit _ = Unit {0}

-- AND binds before OR, NOT before both, and chains group to the left
abbrev pub IsGroupedTest : Test → Type 0
IsGroupedTest (tree.Compare left op at right) = Unit {0}
IsGroupedTest (tree.IsNull c at negated) = Unit {0}
IsGroupedTest (tree.Not at inner) = IsUnit inner × IsGroupedTest inner
IsGroupedTest (tree.And left at right) = IsConjunction left × IsUnit right × IsGroupedTest left × IsGroupedTest right
IsGroupedTest (tree.Or left at right) = IsConjunction right × IsGroupedTest left × IsGroupedTest right
IsGroupedTest (tree.Nested inner) = IsGroupedTest inner

-- how many levels are open at once: an open parenthesis is one, and a NOT until its unit ends
abbrev pub test_levels : Test → ℕ
test_levels (tree.Compare left op at right) = 0
test_levels (tree.IsNull c at negated) = 0
test_levels (tree.Not at inner) = test_levels inner + 1
test_levels (tree.And left at right) = max (test_levels left) (test_levels right)
test_levels (tree.Or left at right) = max (test_levels left) (test_levels right)
test_levels (tree.Nested inner) = test_levels inner + 1

abbrev pub condition : Option Test → List Mark
condition None = []
condition (Some t) = word Where ∷ test t

abbrev pub IsGroupedCondition : Option Test → Type 0
IsGroupedCondition None = Unit {0}
IsGroupedCondition (Some t) = IsGroupedTest t

abbrev pub condition_levels : Option Test → ℕ
condition_levels None = 0
condition_levels (Some t) = test_levels t

-- ---- expressions

abbrev pub operator_sign : Operator → Sign
operator_sign operator.Plus = Plus
operator_sign operator.Minus = Minus
operator_sign operator.Times = Star

abbrev pub formula : Formula → List Mark
formula (tree.Plain o) = operand o
formula (tree.Binary left op at right) = formula left ++ sign_at (operator_sign op) at ∷ formula right
formula (tree.Bracket inner) = sign LeftParen ∷ formula inner ++ sign RightParen ∷ []

-- what is no sum or difference
abbrev pub IsTerm : Formula → Type 0
IsTerm (tree.Binary left operator.Times at right) = Unit {0}
IsTerm (tree.Binary left _ at right) = ⊥
IsTerm _ = Unit {0}

-- what has no operator outside of parentheses
abbrev pub IsFactor : Formula → Type 0
IsFactor (tree.Binary left op at right) = ⊥
IsFactor _ = Unit {0}

-- the sides that an operator may have
abbrev pub AreSides : Operator → Formula → Formula → Type 0
AreSides operator.Times left right = IsTerm left × IsFactor right
AreSides _ left right = IsTerm right

-- `*` binds before `+` and `-`, and chains group to the left
abbrev pub IsGroupedFormula : Formula → Type 0
IsGroupedFormula (tree.Plain o) = Unit {0}
IsGroupedFormula (tree.Binary left op at right) = AreSides op left right × IsGroupedFormula left × IsGroupedFormula right
IsGroupedFormula (tree.Bracket inner) = IsGroupedFormula inner

abbrev pub formula_levels : Formula → ℕ
formula_levels (tree.Plain o) = 0
formula_levels (tree.Binary left op at right) = max (formula_levels left) (formula_levels right)
formula_levels (tree.Bracket inner) = formula_levels inner + 1

abbrev pub set_clause : SetClause → List Mark
set_clause set = name set.column ∷ sign Equal ∷ formula set.value

abbrev pub IsGroupedSetClause : SetClause → Type 0
IsGroupedSetClause set = IsGroupedFormula set.value

abbrev pub set_clauses_levels : List SetClause → ℕ
set_clauses_levels [] = 0
set_clauses_levels (set ∷ sets) = max (formula_levels set.value) (set_clauses_levels sets)

-- ---- statements

abbrev pub kind : Kind → Keyword
kind kinds.Int = Int
kind kinds.Str = Text

abbrev pub column_def : ColumnDef → List Mark
column_def def = name def.name ∷ word (kind def.kind) ∷ optional def.key (word Primary ∷ word Key ∷ [])

abbrev pub count : List Mark
count = word Count ∷ sign LeftParen ∷ sign Star ∷ sign RightParen ∷ []

abbrev pub sum : ColumnRef → List Mark
sum c = word Sum ∷ sign LeftParen ∷ column c ++ sign RightParen ∷ []

abbrev pub listed : Listed → List Mark
listed listing.All = sign Star ∷ []
listed (listing.Sum c) = sum c
listed (listing.Columns cs) = separated column cs

abbrev pub total : Total → List Mark
total totals.Count = count
total (totals.Sum c) = sum c

abbrev pub join : JoinedTable → List Mark
join j = word Join ∷ name j.table ∷ word On ∷ column j.left ++ sign Equal ∷ column j.right

abbrev pub from : Span → List Mark
from table = word From ∷ name table ∷ []

abbrev pub selection : Selection → List Mark
selection (tree.Rows items table joins t) = listed items ++ from table ++ flat_map join joins ++ condition t
selection (tree.Count table t) = count ++ from table ++ condition t
selection (tree.Groups c of table t by) = column c ++ sign Comma ∷ total of ++ from table ++ condition t ++ word Group ∷ word By ∷ column by

abbrev pub turn : Turn → List Mark
turn t = name t.session ∷ optional t.whole (sign Bang ∷ [])

-- a statement up to its `;`
abbrev pub body : Statement → List Mark
body (tree.Create table columns) = word Create ∷ word Table ∷ name table ∷ sign LeftParen ∷ separated column_def columns ++ sign RightParen ∷ []
body (tree.Insert table values) = word Insert ∷ word Into ∷ name table ∷ word Values ∷ sign LeftParen ∷ separated literal values ++ sign RightParen ∷ []
body (tree.Session of) = word Session ∷ name of ∷ []
body (tree.Begin only) = word Begin ∷ optional only (word Read ∷ word Only ∷ [])
body tree.Commit = word Commit ∷ []
body tree.Rollback = word Rollback ∷ []
body (tree.Savepoint of) = word Savepoint ∷ name of ∷ []
body (tree.RollbackTo of) = word Rollback ∷ word To ∷ name of ∷ []
body (tree.Release of) = word Release ∷ name of ∷ []
body (tree.Select s) = word Select ∷ selection s
body (tree.Update table sets t) = word Update ∷ name table ∷ word Set ∷ separated set_clause sets ++ condition t
body (tree.Delete table t) = word Delete ∷ from table ++ condition t
body (tree.Schedule turns) = word Schedule ∷ flat_map turn turns
body tree.End = word End ∷ []

abbrev pub marks : Statement → List Mark
marks statement = body statement ++ sign Semicolon ∷ []

abbrev pub HasItem : {A : Type 0} → List A → Type 0
HasItem [] = ⊥
HasItem _ = Unit {0}

abbrev pub IsGroupedListed : Listed → Type 0
IsGroupedListed (listing.Columns cs) = HasItem cs
IsGroupedListed _ = Unit {0}

abbrev pub IsGroupedSelection : Selection → Type 0
IsGroupedSelection (tree.Rows items table joins t) = IsGroupedListed items × IsGroupedCondition t
IsGroupedSelection (tree.Count table t) = IsGroupedCondition t
IsGroupedSelection (tree.Groups c of table t by) = IsGroupedCondition t

-- operators stand at the levels of their rules, and a list that must have an item has one
abbrev pub IsGrouped : Statement → Type 0
IsGrouped (tree.Create table columns) = HasItem columns
IsGrouped (tree.Insert table values) = HasItem values
IsGrouped (tree.Select s) = IsGroupedSelection s
IsGrouped (tree.Update table sets t) = HasItem sets × AllByRecursion IsGroupedSetClause sets × IsGroupedCondition t
IsGrouped (tree.Delete table t) = IsGroupedCondition t
IsGrouped _ = Unit {0}

abbrev pub selection_levels : Selection → ℕ
selection_levels (tree.Rows items table joins t) = condition_levels t
selection_levels (tree.Count table t) = condition_levels t
selection_levels (tree.Groups c of table t by) = condition_levels t

-- the most levels that are open at once
abbrev pub levels : Statement → ℕ
levels (tree.Select s) = selection_levels s
levels (tree.Update table sets t) = max (set_clauses_levels sets) (condition_levels t)
levels (tree.Delete table t) = condition_levels t
levels _ = 0

-- ---- sentences

-- these pieces are a sentence of the grammar, and this statement
pub record IsWritten (pieces : List Piece) (statement : Statement) : Type 0 where
  pub matches : Match pieces (marks statement)
  pub grouped : IsGrouped statement

-- Some more pieces make these a sentence of at most 64 levels. So with a token they begin none both where
-- it fits nowhere and where it opens the 65th level.
pub record Begins (pieces : List Piece) : Type 0 where
  pub more : List Piece
  pub statement : Statement
  pub written : IsWritten (pieces ++ more) statement
  pub within : levels statement ≤ MOST_LEVELS

-- with the first of these pieces no sentence goes on, if there is one
abbrev pub IsUnfit : List Piece → List Piece → Type 0
IsUnfit front [] = Unit {0}
IsUnfit front (piece ∷ pieces) = Begins (front ++ piece ∷ []) → ⊥
