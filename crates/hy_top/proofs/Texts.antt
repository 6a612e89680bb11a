-- The texts that a script of UTF-8 writes are UTF-8: those of each of its statements are.
use Rattle.std.specs.Prelude.{◌↔◌, slice_set}
use Rattle.std.specs.List.{All, AllByRecursion}
use Rattle.std.specs.Str.{IsUtf8}
use Rattle.std.proofs.Common.{◌≡◌, ℕ, zero, suc, Bool, true, false, List, [], ◌∷◌, ◌++◌, Option, None, Some, Ok, map, get_or, sym, subst}
use Rattle.std.proofs.lemmas.List.Elements.{All-nil, All-push, All-map, All-from_recursion}
use Rattle.hy_token.specs.declared.Span.{Span}
use Rattle.hy_value.specs.declared.Value.{Value}
use Rattle.hy_schema.specs.declared.TableDef.{TableDef}
use Rattle.hy_schema.specs.Names.{table_number}
use Rattle.hy_ast.specs.declared.Literal.{Literal}
use Rattle.hy_ast.specs.Trees.{Statement}
use Rattle.hy_ast.specs.Trees as tree
use Rattle.hy_parse.specs.Parsing.{parsed}
use Rattle.hy_bound.specs.declared.Txn.{Txn}
use Rattle.hy_bind.specs.Literals.{text_of_span, literal_value}
use Rattle.hy_bind.specs.Statements.{bound_of}
use Rattle.hy_setting.specs.Texts.{WhatIsParsedIsUtf8}
use Rattle.hy_stepping.specs.Texts.{IsUtf8Row, WritesUtf8}
use Rattle.hy_script.specs.declared.Options.{Options}
use Rattle.hy_script.specs.declared.NamedTxns.{NamedTxns}
use Rattle.hy_script.specs.declared.Script.{Script}
use Rattle.hy_script.specs.declared.sofar.Section.{Section}
use Rattle.hy_script.specs.declared.sofar.Section.TheVariants.{Defining, Between, Within, Scheduled}
use Rattle.hy_script.specs.declared.sofar.SoFar.{SoFar}
use Rattle.hy_script.specs.declared.stocks.Stock.{Stock}
use Rattle.hy_script.specs.Growing.{nothing, table_def, with_table, with_first_row, with_statement, with_insert, begun, closed, and_bound, all_sessions, after, script_of}
use Rattle.hy_script.specs.Reading.{Reads}
use Rattle.hy_script.specs.Refusals.{stock_at}
use Rattle.hy_script.specs.Sentences.{SpellsFrom, after_all, IsAccepted}
use Rattle.hy_script.specs.Stocks.{no_rows, with_row}
use Rattle.hy_top.specs.Settings.{IsUtf8Script}

-- ---- what is read so far

abbrev IsUtf8Stock : Stock → Type 0
IsUtf8Stock stock = All IsUtf8Row stock.rows

abbrev IsUtf8Txns : List Txn → Type 0
IsUtf8Txns txns = All (λ (txn : Txn). All WritesUtf8 txn.statements) txns

abbrev IsUtf8Session : NamedTxns → Type 0
IsUtf8Session session = IsUtf8Txns session.txns

abbrev IsUtf8Section : Section → Type 0
IsUtf8Section Defining = Unit {0}
IsUtf8Section (Between session) = IsUtf8Session session
IsUtf8Section (Within session txn) = IsUtf8Session session × All WritesUtf8 txn.statements
IsUtf8Section Scheduled = Unit {0}

record Utf8SoFar (sofar : SoFar) : Type 0 where
  stocks : AllByRecursion IsUtf8Stock sofar.stocks
  sessions : All IsUtf8Session sofar.sessions
  section : IsUtf8Section sofar.section

nothing_utf8 : Utf8SoFar nothing
nothing_utf8 = record { stocks = tt; sessions = All-nil IsUtf8Session; section = tt }

-- the sessions, with the one that the script stands in
all_utf8 : (sessions : List NamedTxns) (section : Section) → All IsUtf8Session sessions → IsUtf8Section section
    → All IsUtf8Session (all_sessions sessions section)
all_utf8 sessions Defining all is = all
all_utf8 sessions (Between session) all is = All-push IsUtf8Session sessions session all is
all_utf8 sessions (Within session txn) all is = All-push IsUtf8Session sessions session all is.0
all_utf8 sessions Scheduled all is = all

-- ---- first rows

stocks_push : (stocks : List Stock) (stock : Stock) → AllByRecursion IsUtf8Stock stocks → IsUtf8Stock stock → AllByRecursion IsUtf8Stock (stocks ++ stock ∷ [])
stocks_push [] stock all is = (is, tt)
stocks_push (first ∷ stocks) stock all is = (all.0, stocks_push stocks stock all.1 is)

stocks_set : (stocks : List Stock) (number : ℕ) (stock : Stock) → AllByRecursion IsUtf8Stock stocks → IsUtf8Stock stock
    → AllByRecursion IsUtf8Stock (slice_set stocks number stock)
stocks_set [] number stock all is = tt
stocks_set (first ∷ stocks) zero stock all is = (is, all.1)
stocks_set (first ∷ stocks) (suc number) stock all is = (all.0, stocks_set stocks number stock all.1 is)

stock_get : (stocks : List Stock) (number : ℕ) → AllByRecursion IsUtf8Stock stocks → IsUtf8Stock (get_or stocks number (no_rows None))
stock_get [] number all = All-nil IsUtf8Row
stock_get (first ∷ stocks) zero all = all.0
stock_get (first ∷ stocks) (suc number) all = stock_get stocks number all.1

stock_there : (stocks : List Stock) (number : Option ℕ) → AllByRecursion IsUtf8Stock stocks → IsUtf8Stock (stock_at number stocks)
stock_there stocks None all = All-nil IsUtf8Row
stock_there stocks (Some number) all = stock_get stocks number all

table_utf8 : (sofar : SoFar) (def : TableDef) → Utf8SoFar sofar → Utf8SoFar (with_table sofar def)
table_utf8 sofar def so = record {
  stocks = stocks_push sofar.stocks (no_rows def.key) so.stocks (All-nil IsUtf8Row);
  sessions = so.sessions;
  section = so.section;
}

first_row_utf8 : (script : List ℕ) (sofar : SoFar) (table : Span) (values : List Literal) → IsUtf8Row (map (literal_value script) values)
    → Utf8SoFar sofar → Utf8SoFar (with_first_row script sofar table values)
first_row_utf8 script sofar table values row so =
    let stock : Stock = stock_at (table_number sofar.catalog (text_of_span script table)) sofar.stocks in
    let there : IsUtf8Stock stock = stock_there sofar.stocks (table_number sofar.catalog (text_of_span script table)) so.stocks in
    record {
      stocks =
          stocks_set sofar.stocks _ (with_row stock (map (literal_value script) values)) so.stocks
          (All-push IsUtf8Row stock.rows (map (literal_value script) values) there row);
      sessions = so.sessions;
      section = so.section;
    }

-- ---- a statement more

at_section : (sofar : SoFar) (section : Section) → IsUtf8Section section → Utf8SoFar sofar → Utf8SoFar (record sofar { section = section })
at_section sofar section is so = record { stocks = so.stocks; sessions = so.sessions; section = is }

begun_utf8 : (only : Bool) (section : Section) → IsUtf8Section section → IsUtf8Section (begun only section)
begun_utf8 only Defining is = is
begun_utf8 only (Between session) is = (is, All-nil WritesUtf8)
begun_utf8 only (Within session txn) is = is
begun_utf8 only Scheduled is = is

closed_utf8 : (commits : Bool) (section : Section) → IsUtf8Section section → IsUtf8Section (closed commits section)
closed_utf8 commits Defining is = is
closed_utf8 commits (Between session) is = is
closed_utf8 commits (Within session txn) is =
    All-push (λ (txn : Txn). All WritesUtf8 txn.statements) session.txns
    (record { read_only = txn.read_only; statements = txn.statements; commits = commits }) is.0 is.1
closed_utf8 commits Scheduled is = is

grown_utf8 : (section : Section) (script : List ℕ) (catalog : List TableDef) (s : Statement) → WritesUtf8 (bound_of script catalog s)
    → IsUtf8Section section → IsUtf8Section (and_bound section script catalog s)
grown_utf8 Defining script catalog s bound is = is
grown_utf8 (Between session) script catalog s bound is = is
grown_utf8 (Within session txn) script catalog s bound is = (is.0, All-push WritesUtf8 txn.statements (bound_of script catalog s) is.1 bound)
grown_utf8 Scheduled script catalog s bound is = is

statement_utf8 : (script : List ℕ) (sofar : SoFar) (s : Statement) → WritesUtf8 (bound_of script sofar.catalog s) → Utf8SoFar sofar
    → Utf8SoFar (with_statement script sofar s)
statement_utf8 script sofar s bound so =
    at_section sofar (and_bound sofar.section script sofar.catalog s) (grown_utf8 sofar.section script sofar.catalog s bound so.section) so

insert_utf8 : (script : List ℕ) (sofar : SoFar) (section : Section) (table : Span) (values : List Literal)
    → IsUtf8Row (map (literal_value script) values) → WritesUtf8 (bound_of script sofar.catalog (tree.Insert table values)) → Utf8SoFar sofar
    → Utf8SoFar (with_insert script sofar section (tree.Insert table values) table values)
insert_utf8 script sofar Defining table values row bound so = first_row_utf8 script sofar table values row so
insert_utf8 script sofar (Between session) table values row bound so = first_row_utf8 script sofar table values row so
insert_utf8 script sofar (Within session txn) table values row bound so = statement_utf8 script sofar (tree.Insert table values) bound so
insert_utf8 script sofar Scheduled table values row bound so = first_row_utf8 script sofar table values row so

kept : WhatIsParsedIsUtf8 → (script : List ℕ) → IsUtf8 script → (sofar : SoFar) (at end : ℕ) (s : Statement) → parsed script at ≡ Ok (s, end)
    → Utf8SoFar sofar → Utf8SoFar (after script sofar s)
kept law script utf8 sofar at end (tree.Create table columns) is so = table_utf8 sofar (table_def script table columns) so
kept law script utf8 sofar at end (tree.Insert table values) is so =
    insert_utf8 script sofar sofar.section table values (law.rows script at end table values utf8 is)
    (law.statements script at end sofar.catalog (tree.Insert table values) utf8 is) so
kept law script utf8 sofar at end (tree.Session name) is so =
    record { stocks = so.stocks; sessions = all_utf8 sofar.sessions sofar.section so.sessions so.section; section = All-nil (λ (txn : Txn). All WritesUtf8 txn.statements) }
kept law script utf8 sofar at end (tree.Begin only) is so = at_section sofar (begun only sofar.section) (begun_utf8 only sofar.section so.section) so
kept law script utf8 sofar at end tree.Commit is so = at_section sofar (closed true sofar.section) (closed_utf8 true sofar.section so.section) so
kept law script utf8 sofar at end tree.Rollback is so = at_section sofar (closed false sofar.section) (closed_utf8 false sofar.section so.section) so
kept law script utf8 sofar at end (tree.Savepoint name) is so = statement_utf8 script sofar (tree.Savepoint name) tt so
kept law script utf8 sofar at end (tree.RollbackTo name) is so = statement_utf8 script sofar (tree.RollbackTo name) tt so
kept law script utf8 sofar at end (tree.Release name) is so = statement_utf8 script sofar (tree.Release name) tt so
kept law script utf8 sofar at end (tree.Select selection) is so =
    statement_utf8 script sofar (tree.Select selection) (law.statements script at end sofar.catalog (tree.Select selection) utf8 is) so
kept law script utf8 sofar at end (tree.Update table sets test) is so =
    statement_utf8 script sofar (tree.Update table sets test) (law.statements script at end sofar.catalog (tree.Update table sets test) utf8 is) so
kept law script utf8 sofar at end (tree.Delete table test) is so =
    statement_utf8 script sofar (tree.Delete table test) (law.statements script at end sofar.catalog (tree.Delete table test) utf8 is) so
kept law script utf8 sofar at end (tree.Schedule turns) is so =
    record { stocks = so.stocks; sessions = all_utf8 sofar.sessions sofar.section so.sessions so.section; section = tt }
kept law script utf8 sofar at end tree.End is so = so

-- ---- all statements

all_kept : WhatIsParsedIsUtf8 → (script : List ℕ) → IsUtf8 script → (at : ℕ) (sofar : SoFar) (all : List Statement) → SpellsFrom script at all
    → Utf8SoFar sofar → Utf8SoFar (after_all script sofar all)
all_kept law script utf8 at sofar [] spelled so = so
all_kept law script utf8 at sofar (s ∷ rest) spelled so =
    all_kept law script utf8 spelled.0 (after script sofar s) rest spelled.2 (kept law script utf8 sofar at spelled.0 s spelled.1 so)

whole : (options : Options) (sofar : SoFar) → Utf8SoFar sofar → IsUtf8Script (script_of options sofar)
whole options sofar so = record {
  rows =
      All-map (λ (rows : List (List Value)). All IsUtf8Row rows) (λ (stock : Stock). stock.rows) sofar.stocks
      (All-from_recursion IsUtf8Stock sofar.stocks so.stocks);
  statements =
      All-map IsUtf8Txns (λ (session : NamedTxns). session.txns) (all_sessions sofar.sessions sofar.section)
      (all_utf8 sofar.sessions sofar.section so.sessions so.section);
}

-- the texts of a script that the bytes spell are UTF-8
pub reads_utf8 : WhatIsParsedIsUtf8 → ((bytes : List ℕ) (options : Options) (read : Script) → Reads bytes options (Ok read) ↔ IsAccepted bytes options read)
    → (bytes : List ℕ) (options : Options) (read : Script) → Reads bytes options (Ok read) → IsUtf8Script read
reads_utf8 law accepted bytes options read reads =
    let is = (accepted bytes options read).0 reads in
    subst IsUtf8Script (sym is.says) (whole options _ (all_kept law bytes is.utf8 0 nothing is.statements is.spelled nothing_utf8))
