-- What is read of a script was bound and not refused, statement by statement.
use Rattle.std.specs.Prelude.{◌↔◌, nat_le, slice_index_or, slice_set}
use Rattle.std.specs.List.{All, AllZip}
use Rattle.std.specs.Option.{option_map_or}
use Rattle.std.proofs.Common.{◌≡◌, ℕ, zero, suc, Bool, true, false, cond, List, [], ◌∷◌, ◌++◌, Option, None, Some, Ok, map, refl, sym, ap, ◌∙◌, subst}
use Rattle.std.proofs.Common.{append_assoc}
use Rattle.std.proofs.lemmas.List.{append-nil}
use Rattle.std.proofs.lemmas.List.Elements.{All-nil, All-push, All-weaker}
use Rattle.hy_schema.specs.declared.TableDef.{TableDef}
use Rattle.hy_schema.specs.Names.{table_at, table_number}
use Rattle.hy_token.specs.declared.Span.{Span}
use Rattle.hy_ast.specs.declared.Literal.{Literal}
use Rattle.hy_ast.specs.declared.Turn.{Turn}
use Rattle.hy_ast.specs.Trees.{Statement}
use Rattle.hy_ast.specs.Trees as tree
use Rattle.hy_parse.specs.Grammar.{IsGrouped}
use Rattle.hy_parse.specs.Parsing.{parsed, Parses}
use Rattle.hy_bound.specs.declared.Bound.{Bound}
use Rattle.hy_bound.specs.declared.Txn.{Txn}
use Rattle.hy_bind.specs.declared.refusals.BindFault.{BindFault}
use Rattle.hy_bind.specs.Refusals.{rank, first_of}
use Rattle.hy_bind.specs.Literals.{text_of_span, literal_value}
use Rattle.hy_bind.specs.Statements.{HasNames, and_number, columns_in, values_fault, fault_of_numbered, bind_fault, bound_of}
use Rattle.hy_script.specs.declared.Options.{Options}
use Rattle.hy_script.specs.declared.NamedTxns.{NamedTxns}
use Rattle.hy_script.specs.declared.Script.{Script}
use Rattle.hy_script.specs.declared.sofar.Section.{Section}
use Rattle.hy_script.specs.declared.sofar.Section.TheVariants.{Defining, Between, Within, Scheduled}
use Rattle.hy_script.specs.declared.sofar.SoFar.{SoFar}
use Rattle.hy_script.specs.declared.stocks.Stock.{Stock}
use Rattle.hy_script.specs.Stocks.{no_rows, with_row}
use Rattle.hy_script.specs.Growing.{nothing, table_def, with_table, with_first_row, with_statement, with_insert, with_session, with_schedule, begun}
use Rattle.hy_script.specs.Growing.{closed, and_bound, all_sessions, after, script_of}
use Rattle.hy_script.specs.Reading.{Reads}
use Rattle.hy_script.specs.Refusals.{refusal_in, insert_code_at, first_row_code, stock_at, standing_of, statement_code_at}
use Rattle.hy_script.specs.Binding.{WasGiven, WereGiven, WasBound, WereBound, IsBound}
use Rattle.hy_script.proofs.Accepted.{row_taken, statement_taken}
use Rattle.hy_script.proofs.Induction.{Holds, read_script_holds}
use Rattle.hy_script.proofs.Zips.{zip_push, zip_map}

abbrev IsStock : List ℕ → TableDef → Stock → Type 0
IsStock script def stock = WereGiven script def stock.rows

abbrev IsSession : List ℕ → List TableDef → NamedTxns → Type 0
IsSession script catalog session = WereBound script catalog session.txns

abbrev IsSection : List ℕ → List TableDef → Section → Type 0
IsSection script catalog Defining = Unit {0}
IsSection script catalog (Between session) = WereBound script catalog session.txns
IsSection script catalog (Within session txn) = WereBound script catalog session.txns × All (WasBound script catalog) txn.statements
IsSection script catalog Scheduled = Unit {0}

-- what is read so far was bound, over tables of which these are all
record BoundSoFar (script : List ℕ) (sofar : SoFar) : Type 0 where
  stocks : AllZip (IsStock script) sofar.catalog sofar.stocks
  sessions : All (IsSession script sofar.catalog) sofar.sessions
  section : IsSection script sofar.catalog sofar.section

nothing_bound : (script : List ℕ) → BoundSoFar script nothing
nothing_bound script = record { stocks = tt; sessions = All-nil (IsSession script []); section = tt }

-- ---- CREATE TABLE

one_more : (script : List ℕ) (catalog : List TableDef) (def : TableDef) (bound : Bound) → WasBound script catalog bound
    → WasBound script (catalog ++ def ∷ []) bound
one_more script catalog def bound was = record {
  statement = was.statement;
  earlier = was.earlier;
  later = was.later ++ def ∷ [];
  tables = ap (λ (tables : List TableDef). tables ++ def ∷ []) was.tables ∙ append_assoc was.earlier was.later (def ∷ []);
  names = was.names;
  accepted = was.accepted;
  is = was.is;
}

statements_more : (script : List ℕ) (catalog : List TableDef) (def : TableDef) (statements : List Bound) → All (WasBound script catalog) statements
    → All (WasBound script (catalog ++ def ∷ [])) statements
statements_more script catalog def statements were =
    All-weaker (WasBound script catalog) (WasBound script (catalog ++ def ∷ [])) (one_more script catalog def) statements were

txns_more : (script : List ℕ) (catalog : List TableDef) (def : TableDef) (txns : List Txn) → WereBound script catalog txns
    → WereBound script (catalog ++ def ∷ []) txns
txns_more script catalog def txns were =
    All-weaker (λ (txn : Txn). All (WasBound script catalog) txn.statements) (λ (txn : Txn). All (WasBound script (catalog ++ def ∷ [])) txn.statements)
    (λ txn. statements_more script catalog def txn.statements) txns were

section_more : (script : List ℕ) (catalog : List TableDef) (def : TableDef) (section : Section) → IsSection script catalog section
    → IsSection script (catalog ++ def ∷ []) section
section_more script catalog def Defining is = tt
section_more script catalog def (Between session) is = txns_more script catalog def session.txns is
section_more script catalog def (Within session txn) is =
    (txns_more script catalog def session.txns is.0, statements_more script catalog def txn.statements is.1)
section_more script catalog def Scheduled is = tt

table_bound : (script : List ℕ) (sofar : SoFar) (def : TableDef) → BoundSoFar script sofar → BoundSoFar script (with_table sofar def)
table_bound script sofar def so = record {
  stocks = zip_push (IsStock script) sofar.catalog sofar.stocks def (no_rows def.key) so.stocks (All-nil (WasGiven script def));
  sessions =
      All-weaker (IsSession script sofar.catalog) (IsSession script (sofar.catalog ++ def ∷ []))
      (λ session. txns_more script sofar.catalog def session.txns) sofar.sessions so.sessions;
  section = section_more script sofar.catalog def sofar.section so.section;
}

-- ---- a first row

never : (b : Bool) (one other : BindFault) → cond b (Some one) (Some other) ≡ None → ⊥
never true one other h = absurd cc
never false one other h = absurd cc

first_alone : (one other : Option BindFault) → first_of one other ≡ None → one ≡ None
first_alone None other h = refl
first_alone (Some fault) None h = absurd cc
first_alone (Some fault) (Some more) h = absurd (never (nat_le (rank fault) (rank more)) fault more h)

stocks_bound : (script : List ℕ) (catalog : List TableDef) (stocks : List Stock) (n : ℕ) (values : List Literal)
    → values_fault script (columns_in (table_at catalog n)) values ≡ None → AllZip (IsStock script) catalog stocks
    → AllZip (IsStock script) catalog (slice_set stocks n (with_row (slice_index_or stocks n (no_rows None)) (map (literal_value script) values)))
stocks_bound script [] [] n values h all = tt
stocks_bound script [] (stock ∷ stocks) n values h all = absurd all
stocks_bound script (def ∷ catalog) [] n values h all = absurd all
stocks_bound script (def ∷ catalog) (stock ∷ stocks) zero values h all = (
  All-push (WasGiven script def) stock.rows (map (literal_value script) values) all.0 (record { values = values; accepted = h; is = refl }),
  all.1,
)
stocks_bound script (def ∷ catalog) (stock ∷ stocks) (suc n) values h all = (all.0, stocks_bound script catalog stocks n values h all.1)

numbered_bound : (script : List ℕ) (sofar : SoFar) (table : Span) (values : List Literal) (number : Option ℕ)
    → fault_of_numbered script sofar.catalog (and_number number (Some [])) (tree.Insert table values) ≡ None
    → AllZip (IsStock script) sofar.catalog sofar.stocks
    → AllZip (IsStock script) sofar.catalog
    (slice_set sofar.stocks (option_map_or (λ n. n) number 0) (with_row (stock_at number sofar.stocks) (map (literal_value script) values)))
numbered_bound script sofar table values None h all = absurd cc
numbered_bound script sofar table values (Some n) h all = stocks_bound script sofar.catalog sofar.stocks n values (first_alone _ _ h) all

row_bound : (script : List ℕ) (options : Options) (sofar : SoFar) (table : Span) (values : List Literal)
    → first_row_code script options sofar (tree.Insert table values) table values ≡ None → BoundSoFar script sofar
    → BoundSoFar script (with_first_row script sofar table values)
row_bound script options sofar table values h so =
    let taken = row_taken script options sofar (tree.Insert table values) table values h in
    record {
      stocks = numbered_bound script sofar table values (table_number sofar.catalog (text_of_span script table)) taken.bound so.stocks;
      sessions = so.sessions;
      section = so.section;
    }

-- ---- another section in the same sessions

at_section : (script : List ℕ) (sofar : SoFar) (section : Section) → IsSection script sofar.catalog section → BoundSoFar script sofar
    → BoundSoFar script (record sofar { section = section })
at_section script sofar section is so = record { stocks = so.stocks; sessions = so.sessions; section = is }

pub statement_bound : (script : List ℕ) (catalog : List TableDef) (s : Statement) → HasNames s → bind_fault script catalog s ≡ None
    → WasBound script catalog (bound_of script catalog s)
statement_bound script catalog s names h = record {
  statement = s;
  earlier = catalog;
  later = [];
  tables = sym (append-nil catalog);
  names = names;
  accepted = h;
  is = refl;
}

and_bound_bound : (script : List ℕ) (sofar : SoFar) (s : Statement) (section : Section) → HasNames s → statement_code_at script sofar section s ≡ None
    → IsSection script sofar.catalog section → IsSection script sofar.catalog (and_bound section script sofar.catalog s)
and_bound_bound script sofar s Defining names h is = tt
and_bound_bound script sofar s (Between session) names h is = is
and_bound_bound script sofar s (Within session txn) names h is = (
  is.0,
  All-push (WasBound script sofar.catalog) txn.statements (bound_of script sofar.catalog s) is.1
      (statement_bound script sofar.catalog s names (statement_taken script sofar.catalog (standing_of txn) s h).bound),
)
and_bound_bound script sofar s Scheduled names h is = tt

with_bound : (script : List ℕ) (sofar : SoFar) (s : Statement) (section : Section) → sofar.section ≡ section → HasNames s
    → statement_code_at script sofar section s ≡ None → BoundSoFar script sofar → BoundSoFar script (with_statement script sofar s)
with_bound script sofar s section is names h so =
    let code : statement_code_at script sofar sofar.section s ≡ None = subst (λ (p : Section). statement_code_at script sofar p s ≡ None) (sym is) h in
    at_section script sofar (and_bound sofar.section script sofar.catalog s) (and_bound_bound script sofar s sofar.section names code so.section) so

insert_bound : (script : List ℕ) (options : Options) (sofar : SoFar) (section : Section) (table : Span) (values : List Literal) → sofar.section ≡ section
    → insert_code_at script options sofar section (tree.Insert table values) table values ≡ None → BoundSoFar script sofar
    → BoundSoFar script (with_insert script sofar section (tree.Insert table values) table values)
insert_bound script options sofar Defining table values is h so = row_bound script options sofar table values h so
insert_bound script options sofar (Between session) table values is h so = row_bound script options sofar table values h so
insert_bound script options sofar (Within session txn) table values is h so =
    with_bound script sofar (tree.Insert table values) (Within session txn) is tt h so
insert_bound script options sofar Scheduled table values is h so = row_bound script options sofar table values h so

begun_bound : (script : List ℕ) (catalog : List TableDef) (only : Bool) (section : Section) → IsSection script catalog section
    → IsSection script catalog (begun only section)
begun_bound script catalog only Defining is = tt
begun_bound script catalog only (Between session) is = (is, All-nil (WasBound script catalog))
begun_bound script catalog only (Within session txn) is = is
begun_bound script catalog only Scheduled is = tt

closed_bound : (script : List ℕ) (catalog : List TableDef) (commits : Bool) (section : Section) → IsSection script catalog section
    → IsSection script catalog (closed commits section)
closed_bound script catalog commits Defining is = tt
closed_bound script catalog commits (Between session) is = is
closed_bound script catalog commits (Within session txn) is =
    All-push (λ (txn : Txn). All (WasBound script catalog) txn.statements) session.txns
    (record { read_only = txn.read_only; statements = txn.statements; commits = commits }) is.0 is.1
closed_bound script catalog commits Scheduled is = tt

-- ---- SESSION and SCHEDULE

sessions_bound : (script : List ℕ) (catalog : List TableDef) (sessions : List NamedTxns) (section : Section) → All (IsSession script catalog) sessions
    → IsSection script catalog section → All (IsSession script catalog) (all_sessions sessions section)
sessions_bound script catalog sessions Defining all is = all
sessions_bound script catalog sessions (Between session) all is = All-push (IsSession script catalog) sessions session all is
sessions_bound script catalog sessions (Within session txn) all is = All-push (IsSession script catalog) sessions session all is.0
sessions_bound script catalog sessions Scheduled all is = all

session_more : (script : List ℕ) (sofar : SoFar) (name : Span) → BoundSoFar script sofar → BoundSoFar script (with_session script sofar name)
session_more script sofar name so = record {
  stocks = so.stocks;
  sessions = sessions_bound script sofar.catalog sofar.sessions sofar.section so.sessions so.section;
  section = All-nil (λ (txn : Txn). All (WasBound script sofar.catalog) txn.statements);
}

schedule_more : (script : List ℕ) (sofar : SoFar) (turns : List Turn) → BoundSoFar script sofar → BoundSoFar script (with_schedule script sofar turns)
schedule_more script sofar turns so = record {
  stocks = so.stocks;
  sessions = sessions_bound script sofar.catalog sofar.sessions sofar.section so.sessions so.section;
  section = tt;
}

-- ---- all statements

kept : (script : List ℕ) (options : Options) (sofar : SoFar) (s : Statement) → IsGrouped s → refusal_in script options sofar s ≡ None
    → BoundSoFar script sofar → BoundSoFar script (after script sofar s)
kept script options sofar (tree.Create table columns) grouped h so = table_bound script sofar (table_def script table columns) so
kept script options sofar (tree.Insert table values) grouped h so = insert_bound script options sofar sofar.section table values refl h so
kept script options sofar (tree.Session name) grouped h so = session_more script sofar name so
kept script options sofar (tree.Begin only) grouped h so =
    at_section script sofar (begun only sofar.section) (begun_bound script sofar.catalog only sofar.section so.section) so
kept script options sofar tree.Commit grouped h so =
    at_section script sofar (closed true sofar.section) (closed_bound script sofar.catalog true sofar.section so.section) so
kept script options sofar tree.Rollback grouped h so =
    at_section script sofar (closed false sofar.section) (closed_bound script sofar.catalog false sofar.section so.section) so
kept script options sofar (tree.Select selection) grouped h so = with_bound script sofar (tree.Select selection) sofar.section refl tt h so
kept script options sofar (tree.Update table sets test) grouped h so = with_bound script sofar (tree.Update table sets test) sofar.section refl tt h so
kept script options sofar (tree.Delete table test) grouped h so = with_bound script sofar (tree.Delete table test) sofar.section refl tt h so
kept script options sofar (tree.Savepoint name) grouped h so = with_bound script sofar (tree.Savepoint name) sofar.section refl tt h so
kept script options sofar (tree.RollbackTo name) grouped h so = with_bound script sofar (tree.RollbackTo name) sofar.section refl tt h so
kept script options sofar (tree.Release name) grouped h so = with_bound script sofar (tree.Release name) sofar.section refl tt h so
kept script options sofar (tree.Schedule turns) grouped h so = schedule_more script sofar turns so
kept script options sofar tree.End grouped h so = so

whole : (script : List ℕ) (options : Options) (sofar : SoFar) → BoundSoFar script sofar → IsBound script (script_of options sofar)
whole script options sofar so = record {
  rows = zip_map (WereGiven script) (λ (stock : Stock). stock.rows) sofar.catalog sofar.stocks so.stocks;
  statements = sessions_bound script sofar.catalog sofar.sessions sofar.section so.sessions so.section;
}

-- a script that the bytes spell was bound and not refused
pub reads_bound : ((bytes : List ℕ) (at : ℕ) (s : Statement) (end : ℕ) → (parsed bytes at ≡ Ok (s, end)) ↔ Parses bytes at s end)
    → (bytes : List ℕ) (options : Options) (read : Script) → Reads bytes options (Ok read) → IsBound bytes read
reads_bound parsing bytes options read reads =
    let holds : Holds bytes options (BoundSoFar bytes) (IsBound bytes) = record {
      parsing = parsing;
      first = nothing_bound bytes;
      kept = kept bytes options;
      whole = whole bytes options;
    } in
    read_script_holds bytes options (BoundSoFar bytes) (IsBound bytes) holds read reads
