-- What is read of a script fits, statement by statement.
use Rattle.std.specs.Prelude.{◌*◌, ◌↔◌}
use Rattle.std.specs.Cmp.{IsTotalOrder}
use Rattle.std.specs.List.{All}
use Rattle.std.proofs.Common.{◌≡◌, ℕ, ◌<◌, ◌≤◌, true, false, List, [], ◌∷◌, ◌++◌, None, Ok, length, map, refl, sym, ◌∙◌, subst, arith}
use Rattle.std.proofs.lemmas.List.{length-map, length_push, map_push}
use Rattle.std.proofs.lemmas.List.Elements.{All-nil, All-map, All-weaker}
use Rattle.hy_value.specs.Order.{value_cmp}
use Rattle.hy_schema.specs.declared.TableDef.{TableDef}
use Rattle.hy_token.specs.declared.Span.{Span}
use Rattle.hy_ast.specs.declared.ColumnDef.{ColumnDef}
use Rattle.hy_ast.specs.declared.Literal.{Literal}
use Rattle.hy_ast.specs.declared.Turn.{Turn}
use Rattle.hy_ast.specs.Trees.{Statement}
use Rattle.hy_ast.specs.Trees as tree
use Rattle.hy_parse.specs.Grammar.{IsGrouped, HasItem}
use Rattle.hy_parse.specs.Parsing.{parsed, Parses}
use Rattle.hy_bound.specs.declared.Shape.{Shape}
use Rattle.hy_bound.specs.declared.schedule.Item.{Item}
use Rattle.hy_bound.specs.Fits.{FitsShape, FitsSession, Fits}
use Rattle.hy_bound.specs.Schedules.{FitsSchedule}
use Rattle.hy_bind.specs.Literals.{text_of_span}
use Rattle.hy_bind.specs.Shapes.{defined_shape, catalog_shapes}
use Rattle.hy_bind.specs.Statements.{HasNames}
use Rattle.hy_script.specs.declared.Options.{Options}
use Rattle.hy_script.specs.declared.NamedTxns.{NamedTxns}
use Rattle.hy_script.specs.declared.Script.{Script}
use Rattle.hy_script.specs.declared.sofar.Section.{Section}
use Rattle.hy_script.specs.declared.sofar.Section.TheVariants.{Defining, Between, Within, Scheduled}
use Rattle.hy_script.specs.declared.sofar.SoFar.{SoFar}
use Rattle.hy_script.specs.Growing.{nothing, table_def, with_table, with_first_row, with_statement, with_insert, with_session, with_schedule, begun, closed, and_bound, all_sessions, after, script_of}
use Rattle.hy_script.specs.Reading.{Reads}
use Rattle.hy_script.specs.Refusals.{refusal_in, name_in, insert_code_at, first_row_code, statement_code_at, create_code, session_code, schedule_code}
use Rattle.hy_script.proofs.Accepted.{session_taken, schedule_taken}
use Rattle.hy_script.specs.Definitions.{FitDefinitions}
use Rattle.hy_script.proofs.Definitions.{Binding, room, none_defined, keys_there, rows_fit, table_more, is_table, row_defined}
use Rattle.hy_script.proofs.Induction.{Holds, read_script_holds}
use Rattle.hy_script.proofs.MoreTables.{session_kept}
use Rattle.hy_script.proofs.Sections.{IsSection, IsSession, no_txns, section_kept, begun_section, bound_section, closed_section, sessions_fit, begun_many, bound_many, closed_many}
use Rattle.hy_script.proofs.Turns.{schedule_fits, schedule_kept}
use Rattle.hy_limits.specs.declared.TheConstants.{MOST_SESSIONS}

-- the laws of the crates below on which this rests
pub record Laws : Type 0 where
  pub order : IsTotalOrder value_cmp
  pub parsing : (bytes : List ℕ) (at : ℕ) (s : Statement) (end : ℕ) → (parsed bytes at ≡ Ok (s, end)) ↔ Parses bytes at s end
  pub binding : Binding

-- what is read so far fits tables of these shapes
pub record FitsSoFar (options : Options) (shapes : List Shape) (sofar : SoFar) : Type 0 where
  pub defined : FitDefinitions (room options) shapes sofar.stocks
  pub sessions : All (IsSession shapes) sofar.sessions
  pub section : IsSection shapes sofar.section
  pub few_sessions : length sofar.names ≤ MOST_SESSIONS
  pub as_many : length (all_sessions sofar.sessions sofar.section) ≡ length sofar.names
  pub schedule : FitsSchedule (length sofar.names) sofar.schedule

abbrev pub IsGood : Options → SoFar → Type 0
IsGood options sofar = FitsSoFar options (catalog_shapes sofar.catalog) sofar

pub nothing_good : (options : Options) → IsGood options nothing
nothing_good options = record {
  defined = none_defined (room options);
  sessions = All-nil (IsSession []);
  section = tt;
  few_sessions = omega arith;
  as_many = refl;
  schedule = record { few = omega arith; known = All-nil (λ (item : Item). item.session < 0) };
}

-- ---- CREATE TABLE

one_table_more : (options : Options) (shapes : List Shape) (sofar : SoFar) (def : TableDef) → length shapes < 16 → FitsShape (defined_shape def) → FitsSoFar options shapes sofar
    → FitsSoFar options (shapes ++ defined_shape def ∷ []) (with_table sofar def)
one_table_more options shapes sofar def few fits good =
    let shape : Shape = defined_shape def in
    record {
      defined = table_more (room options) shapes sofar.stocks def few fits good.defined;
      sessions = All-weaker (IsSession shapes) (IsSession (shapes ++ shape ∷ [])) (λ session is. session_kept shapes (shape ∷ []) session.txns is) sofar.sessions good.sessions;
      section = section_kept shapes (shape ∷ []) sofar.section good.section;
      few_sessions = good.few_sessions;
      as_many = good.as_many;
      schedule = good.schedule;
    }

create_kept : (script : List ℕ) (options : Options) (sofar : SoFar) (table : Span) (columns : List ColumnDef) → HasItem columns → create_code script sofar table columns ≡ None → IsGood options sofar
    → IsGood options (with_table sofar (table_def script table columns))
create_kept script options sofar table columns item h good =
    let def : TableDef = table_def script table columns in
    let is = is_table script sofar table columns item h in
    subst (λ (shapes : List Shape). FitsSoFar options shapes (with_table sofar def)) (sym (map_push defined_shape sofar.catalog def))
    (one_table_more options (catalog_shapes sofar.catalog) sofar def is.few is.fits good)

-- ---- a first row

row_kept : Laws → (script : List ℕ) (options : Options) (sofar : SoFar) (table : Span) (values : List Literal) → first_row_code script options sofar (tree.Insert table values) table values ≡ None
    → IsGood options sofar → IsGood options (with_first_row script sofar table values)
row_kept laws script options sofar table values h good =
    record {
      defined = row_defined laws.order laws.binding script options sofar table values h good.defined;
      sessions = good.sessions;
      section = good.section;
      few_sessions = good.few_sessions;
      as_many = good.as_many;
      schedule = good.schedule;
    }

-- ---- another section in the same sessions

at_section : (options : Options) (sofar : SoFar) (section : Section) → IsSection (catalog_shapes sofar.catalog) section → length (all_sessions sofar.sessions section) ≡ length (all_sessions sofar.sessions sofar.section)
    → IsGood options sofar → IsGood options (record sofar { section = section })
at_section options sofar section is many good = record {
  defined = good.defined;
  sessions = good.sessions;
  section = is;
  few_sessions = good.few_sessions;
  as_many = many ∙ good.as_many;
  schedule = good.schedule;
}

statement_kept : Laws → (script : List ℕ) (options : Options) (sofar : SoFar) (s : Statement) (section : Section) → sofar.section ≡ section → HasNames s → statement_code_at script sofar section s ≡ None → IsGood options sofar
    → IsGood options (with_statement script sofar s)
statement_kept laws script options sofar s section is names h good =
    let code : statement_code_at script sofar sofar.section s ≡ None = subst (λ (p : Section). statement_code_at script sofar p s ≡ None) (sym is) h in
    at_section options sofar (and_bound sofar.section script sofar.catalog s)
    (bound_section (catalog_shapes sofar.catalog) script sofar s sofar.section names (laws.binding script sofar.catalog s names (keys_there (room options) (catalog_shapes sofar.catalog) sofar.stocks good.defined)) code good.section)
    (bound_many sofar.sessions script sofar.catalog s sofar.section) good

insert_kept : Laws → (script : List ℕ) (options : Options) (sofar : SoFar) (section : Section) (table : Span) (values : List Literal) → sofar.section ≡ section
    → insert_code_at script options sofar section (tree.Insert table values) table values ≡ None → IsGood options sofar → IsGood options (with_insert script sofar section (tree.Insert table values) table values)
insert_kept laws script options sofar Defining table values is h good = row_kept laws script options sofar table values h good
insert_kept laws script options sofar (Between session) table values is h good = row_kept laws script options sofar table values h good
insert_kept laws script options sofar (Within session txn) table values is h good = statement_kept laws script options sofar (tree.Insert table values) (Within session txn) is tt h good
insert_kept laws script options sofar Scheduled table values is h good = row_kept laws script options sofar table values h good

-- ---- SESSION and SCHEDULE

session_more : (script : List ℕ) (options : Options) (sofar : SoFar) (name : Span) → session_code script sofar name ≡ None → IsGood options sofar → IsGood options (with_session script sofar name)
session_more script options sofar name h good =
    let free = session_taken script sofar name h in
    let names = length_push sofar.names (text_of_span script name) in
    let before : List NamedTxns = all_sessions sofar.sessions sofar.section in
    let sessions = length_push before (record { name = name_in script name; txns = [] }) in
    let many = good.as_many in
    record {
      defined = good.defined;
      sessions = sessions_fit (catalog_shapes sofar.catalog) sofar.sessions sofar.section good.sessions good.section;
      section = no_txns (catalog_shapes sofar.catalog);
      few_sessions = omega (arith, free, names);
      as_many = omega (arith, many, sessions, names);
      schedule = schedule_kept (length sofar.names) (length (sofar.names ++ text_of_span script name ∷ [])) sofar.schedule (omega (arith, names)) good.schedule;
    }

schedule_more : (script : List ℕ) (options : Options) (sofar : SoFar) (turns : List Turn) → schedule_code script sofar turns ≡ None → IsGood options sofar → IsGood options (with_schedule script sofar turns)
schedule_more script options sofar turns h good =
    let taken = schedule_taken script sofar turns h in
    record {
      defined = good.defined;
      sessions = sessions_fit (catalog_shapes sofar.catalog) sofar.sessions sofar.section good.sessions good.section;
      section = tt;
      few_sessions = good.few_sessions;
      as_many = good.as_many;
      schedule = schedule_fits script sofar.names turns taken.0 taken.1;
    }

-- what is read stays good with a statement that is taken
pub kept : Laws → (script : List ℕ) (options : Options) (sofar : SoFar) (s : Statement) → IsGrouped s → refusal_in script options sofar s ≡ None → IsGood options sofar → IsGood options (after script sofar s)
kept laws script options sofar (tree.Create table columns) grouped h good = create_kept script options sofar table columns grouped h good
kept laws script options sofar (tree.Insert table values) grouped h good = insert_kept laws script options sofar sofar.section table values refl h good
kept laws script options sofar (tree.Session name) grouped h good = session_more script options sofar name h good
kept laws script options sofar (tree.Begin only) grouped h good =
    at_section options sofar (begun only sofar.section) (begun_section (catalog_shapes sofar.catalog) only sofar.section h good.section) (begun_many sofar.sessions only sofar.section) good
kept laws script options sofar tree.Commit grouped h good =
    at_section options sofar (closed true sofar.section) (closed_section (catalog_shapes sofar.catalog) true sofar.section good.section) (closed_many sofar.sessions true sofar.section) good
kept laws script options sofar tree.Rollback grouped h good =
    at_section options sofar (closed false sofar.section) (closed_section (catalog_shapes sofar.catalog) false sofar.section good.section) (closed_many sofar.sessions false sofar.section) good
kept laws script options sofar (tree.Select selection) grouped h good = statement_kept laws script options sofar (tree.Select selection) sofar.section refl tt h good
kept laws script options sofar (tree.Update table sets test) grouped h good = statement_kept laws script options sofar (tree.Update table sets test) sofar.section refl tt h good
kept laws script options sofar (tree.Delete table test) grouped h good = statement_kept laws script options sofar (tree.Delete table test) sofar.section refl tt h good
kept laws script options sofar (tree.Savepoint name) grouped h good = statement_kept laws script options sofar (tree.Savepoint name) sofar.section refl tt h good
kept laws script options sofar (tree.RollbackTo name) grouped h good = statement_kept laws script options sofar (tree.RollbackTo name) sofar.section refl tt h good
kept laws script options sofar (tree.Release name) grouped h good = statement_kept laws script options sofar (tree.Release name) sofar.section refl tt h good
kept laws script options sofar (tree.Schedule turns) grouped h good = schedule_more script options sofar turns h good
kept laws script options sofar tree.End grouped h good = good

-- ---- the whole script

-- a script that was read under these options fits
pub record ScriptFits (options : Options) (script : Script) : Type 0 where
  pub fits : Fits (catalog_shapes script.catalog) (options.chunks * options.rows) script.rows (map (λ (session : NamedTxns). session.txns) script.sessions)
  pub schedule : FitsSchedule (length script.sessions) script.schedule
  pub same : script.options ≡ options

pub script_fits : (options : Options) (sofar : SoFar) → IsGood options sofar → ScriptFits options (script_of options sofar)
script_fits options sofar good =
    let sessions : List NamedTxns = all_sessions sofar.sessions sofar.section in
    let shapes = catalog_shapes sofar.catalog in
    let programs = length-map sessions (λ (session : NamedTxns). session.txns) in
    let many = good.as_many in
    let few = good.few_sessions in
    record {
      fits = record {
        few_tables = good.defined.few;
        tables = good.defined.tables;
        first_rows = rows_fit (room options) shapes sofar.stocks good.defined;
        few_sessions = omega (arith, programs, many, few);
        sessions = All-map (FitsSession shapes) (λ (session : NamedTxns). session.txns) sessions (sessions_fit shapes sofar.sessions sofar.section good.sessions good.section);
      };
      schedule = schedule_kept (length sofar.names) (length sessions) sofar.schedule (omega (arith, many)) good.schedule;
      same = refl;
    }

-- a script that the bytes spell fits
pub reads_fit : Laws → (bytes : List ℕ) (options : Options) (read : Script) → Reads bytes options (Ok read) → ScriptFits options read
reads_fit laws bytes options read reads =
    let holds : Holds bytes options (IsGood options) (ScriptFits options) = record {
      parsing = laws.parsing;
      first = nothing_good options;
      kept = kept laws bytes options;
      whole = script_fits options;
    } in
    read_script_holds bytes options (IsGood options) (ScriptFits options) holds read reads
