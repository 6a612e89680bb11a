-- What is read of a script is named, statement by statement.
use Rattle.std.specs.Prelude.{◌≢◌, ◌↔◌, ◌<◌, nat_le, nat_lt, not, is_some, get_or}
use Rattle.std.specs.List.{All, list_all, prefix_len}
use Rattle.std.specs.Str.{bytes_eq}
use Rattle.std.proofs.Common.{◌≡◌, ℕ, ◌≤◌, Bool, true, false, cond, List, [], ◌∷◌, ◌++◌, Option, None, Some, Ok, length, refl, sym, ap, subst, ◌∙◌, arith}
use Rattle.std.proofs.lemmas.Bool.{le-leb, ltb-false, or_parts, false≢true}
use Rattle.std.proofs.lemmas.List.{map_push}
use Rattle.std.proofs.lemmas.List.Elements.{All-nil, All-head, All-tail, All-push}
use Rattle.std.proofs.lemmas.List.Quantifiers.{all_pairs_push}
use Rattle.std.proofs.lemmas.List.Sums.{prefix_len_passes}
use Rattle.std.proofs.lemmas.Slice.Eq.{bytes_eq-Decides}
use Rattle.hy_token.specs.declared.Span.{Span}
use Rattle.hy_token.specs.Lengths.{continues_word}
use Rattle.hy_value.specs.TextBytes.{is_text, text_of}
use Rattle.hy_schema.specs.declared.TableDef.{TableDef}
use Rattle.hy_schema.specs.Names.{table_names, table_number, number_of}
use Rattle.hy_ast.specs.declared.ColumnDef.{ColumnDef}
use Rattle.hy_ast.specs.declared.Literal.{Literal}
use Rattle.hy_ast.specs.declared.Turn.{Turn}
use Rattle.hy_ast.specs.Trees.{Statement}
use Rattle.hy_ast.specs.Trees as tree
use Rattle.hy_parse.specs.Parsing.{parsed, Parses}
use Rattle.hy_bind.specs.Literals.{text_of_span}
use Rattle.hy_script.specs.declared.Options.{Options}
use Rattle.hy_script.specs.declared.NamedTxns.{NamedTxns}
use Rattle.hy_script.specs.declared.Script.{Script}
use Rattle.hy_script.specs.declared.sofar.Section.{Section}
use Rattle.hy_script.specs.declared.sofar.Section.TheVariants.{Defining, Between, Within, Scheduled}
use Rattle.hy_script.specs.declared.sofar.SoFar.{SoFar}
use Rattle.hy_script.specs.Growing.{nothing, table_def, with_table, with_first_row, with_statement, with_insert, with_session, with_schedule, begun, closed, and_bound, all_sessions, after, script_of}
use Rattle.hy_script.specs.Reading.{Reads}
use Rattle.hy_script.specs.declared.codes.Code.{Code}
use Rattle.hy_script.specs.Codes.{rank, first_of_two, code_if_so}
use Rattle.hy_script.specs.Refusals.{name_in, refusal_in, create_code, session_code}
use Rattle.hy_script.specs.Sentences.{SpellsFrom, NoneIsRefused, after_all, IsAccepted}
use Rattle.hy_setting.specs.Texts.{PiecesAreTokens}
use Rattle.hy_top.specs.Naming.{IsWord, AreNames, session_names, IsNamed}
use Rattle.hy_top.proofs.NameWords.{table_is_word, session_is_word}

-- ---- names

-- a letter, a digit or `_` is no control character
printable : (byte : ℕ) → continues_word byte ≡ true → nat_le 32 byte ≡ true
printable byte h = grind arith

all_printable : (name : List ℕ) → All (λ byte. continues_word byte ≡ true) name → list_all (λ byte. nat_le 32 byte) name ≡ true
all_printable [] all = refl
all_printable (byte ∷ name) all =
    let IsPart : ℕ → Type 0 = λ byte. continues_word byte ≡ true in
    rw (printable byte (All-head IsPart byte name all)) (all_printable name (All-tail IsPart byte name all))

-- a word is a text
word_is_text : (name : List ℕ) → IsWord name → text_of name ≡ name
word_is_text name is =
    let few : length name ≤ 255 = let short = is.short in omega (arith, short) in
    let text : is_text name ≡ true = rw (le-leb (length name) 255 few) (all_printable name is.letters) in
    rw text refl

-- a name that has no number is none of these
new_name : (names : List (List ℕ)) (name : List ℕ) → is_some (number_of names name) ≡ false → (k : ℕ) (d : List ℕ) → k < length names → get_or names k d ≢ name
new_name names name new k d within same =
    let all : nat_lt (prefix_len (λ other. not (bytes_eq name other)) names) (length names) ≡ false = no_number (nat_lt _ _) _ new in
    let behind = ltb-false (prefix_len (λ other. not (bytes_eq name other)) names) (length names) all in
    let differs = prefix_len_passes (λ other. not (bytes_eq name other)) names k d (omega (arith, behind, within)) in
    let equal : bytes_eq name (get_or names k d) ≡ true = (bytes_eq-Decides name (get_or names k d)).1 (sym same) in
    false≢true (sym (ap not equal) ∙ differs)
  where
    no_number : (b : Bool) (n : ℕ) → is_some (cond b (Some n) None) ≡ false → b ≡ false
    no_number true n h = absurd cc
    no_number false n h = refl

-- a name more
one_more : (names : List (List ℕ)) (name : List ℕ) → AreNames names → IsWord name → is_some (number_of names name) ≡ false → AreNames (names ++ name ∷ [])
one_more names name are word new = record {
  words = All-push IsWord names name are.words word;
  differ = all_pairs_push (λ one other. one ≢ other) names name are.differ (new_name names name new);
}

-- ---- what is not refused

never : (b : Bool) (x y : Code) → cond b (Some x) (Some y) ≡ None → ⊥
never true x y h = absurd cc
never false x y h = absurd cc

not_first : (one other : Option Code) → first_of_two one other ≡ None → one ≡ None
not_first None other h = refl
not_first (Some x) None h = absurd cc
not_first (Some x) (Some y) h = absurd (never (nat_le (rank x) (rank y)) x y h)

not_so : (so : Bool) (x : Code) → code_if_so so x ≡ None → so ≡ false
not_so true x h = absurd cc
not_so false x h = refl

-- the name of a table that is created is new
table_is_new : (script : List ℕ) (sofar : SoFar) (table : Span) (columns : List ColumnDef) → create_code script sofar table columns ≡ None
    → is_some (table_number sofar.catalog (name_in script table)) ≡ false
table_is_new script sofar table columns h = (or_parts _ _ (or_parts _ _ (not_so _ _ (not_first _ _ h))).0).0

-- and that of a session
session_is_new : (script : List ℕ) (sofar : SoFar) (name : Span) → session_code script sofar name ≡ None
    → is_some (number_of sofar.names (text_of_span script name)) ≡ false
session_is_new script sofar name h = not_so _ _ (not_first _ _ h)

-- ---- what is read so far

-- the names of the sessions, with the one that the script stands in
abbrev names_at : List NamedTxns → Section → List (List ℕ)
names_at sessions Defining = session_names sessions
names_at sessions (Between session) = session_names sessions ++ session.name ∷ []
names_at sessions (Within session txn) = session_names sessions ++ session.name ∷ []
names_at sessions Scheduled = session_names sessions

all_names : (sessions : List NamedTxns) (section : Section) → session_names (all_sessions sessions section) ≡ names_at sessions section
all_names sessions Defining = refl
all_names sessions (Between session) = map_push (λ (session : NamedTxns). session.name) sessions session
all_names sessions (Within session txn) = map_push (λ (session : NamedTxns). session.name) sessions session
all_names sessions Scheduled = refl

record NamedSoFar (sofar : SoFar) : Type 0 where
  tables : AreNames (table_names sofar.catalog)
  sessions : AreNames sofar.names
  same : names_at sofar.sessions sofar.section ≡ sofar.names

no_names : AreNames []
no_names = record { words = All-nil IsWord; differ = λ i j d before within. absurd (omega (arith, within)) }

nothing_named : NamedSoFar nothing
nothing_named = record { tables = no_names; sessions = no_names; same = refl }

-- ---- a statement more

table_named : (script : List ℕ) (sofar : SoFar) (table : Span) (columns : List ColumnDef) → create_code script sofar table columns ≡ None
    → IsWord (text_of_span script table) → NamedSoFar sofar → NamedSoFar (with_table sofar (table_def script table columns))
table_named script sofar table columns h word so =
    let def : TableDef = table_def script table columns in
    let text = word_is_text (text_of_span script table) word in
    record {
      tables =
          subst AreNames (sym (map_push (λ (table : TableDef). table.name) sofar.catalog def))
          (one_more (table_names sofar.catalog) (name_in script table) so.tables (subst IsWord (sym text) word) (table_is_new script sofar table columns h));
      sessions = so.sessions;
      same = so.same;
    }

session_named : (script : List ℕ) (sofar : SoFar) (name : Span) → session_code script sofar name ≡ None → IsWord (text_of_span script name) → NamedSoFar sofar
    → NamedSoFar (with_session script sofar name)
session_named script sofar name h word so =
    let text = word_is_text (text_of_span script name) word in
    record {
      tables = so.tables;
      sessions = one_more sofar.names (text_of_span script name) so.sessions word (session_is_new script sofar name h);
      same =
          ap (λ (names : List (List ℕ)). names ++ name_in script name ∷ []) (all_names sofar.sessions sofar.section ∙ so.same)
          ∙ ap (λ (last : List ℕ). sofar.names ++ last ∷ []) text;
    }

schedule_named : (script : List ℕ) (sofar : SoFar) (turns : List Turn) → NamedSoFar sofar → NamedSoFar (with_schedule script sofar turns)
schedule_named script sofar turns so =
    record { tables = so.tables; sessions = so.sessions; same = all_names sofar.sessions sofar.section ∙ so.same }

-- another section of the same session
at_section : (sofar : SoFar) (section : Section) → names_at sofar.sessions section ≡ names_at sofar.sessions sofar.section → NamedSoFar sofar
    → NamedSoFar (record sofar { section = section })
at_section sofar section same so = record { tables = so.tables; sessions = so.sessions; same = same ∙ so.same }

begun_same : (sessions : List NamedTxns) (only : Bool) (section : Section) → names_at sessions (begun only section) ≡ names_at sessions section
begun_same sessions only Defining = refl
begun_same sessions only (Between session) = refl
begun_same sessions only (Within session txn) = refl
begun_same sessions only Scheduled = refl

closed_same : (sessions : List NamedTxns) (commits : Bool) (section : Section) → names_at sessions (closed commits section) ≡ names_at sessions section
closed_same sessions commits Defining = refl
closed_same sessions commits (Between session) = refl
closed_same sessions commits (Within session txn) = refl
closed_same sessions commits Scheduled = refl

bound_same : (sessions : List NamedTxns) (script : List ℕ) (catalog : List TableDef) (s : Statement) (section : Section)
    → names_at sessions (and_bound section script catalog s) ≡ names_at sessions section
bound_same sessions script catalog s Defining = refl
bound_same sessions script catalog s (Between session) = refl
bound_same sessions script catalog s (Within session txn) = refl
bound_same sessions script catalog s Scheduled = refl

statement_named : (script : List ℕ) (sofar : SoFar) (s : Statement) → NamedSoFar sofar → NamedSoFar (with_statement script sofar s)
statement_named script sofar s so =
    at_section sofar (and_bound sofar.section script sofar.catalog s) (bound_same sofar.sessions script sofar.catalog s sofar.section) so

row_named : (script : List ℕ) (sofar : SoFar) (table : Span) (values : List Literal) → NamedSoFar sofar → NamedSoFar (with_first_row script sofar table values)
row_named script sofar table values so = record { tables = so.tables; sessions = so.sessions; same = so.same }

insert_named : (script : List ℕ) (sofar : SoFar) (section : Section) (s : Statement) (table : Span) (values : List Literal) → NamedSoFar sofar
    → NamedSoFar (with_insert script sofar section s table values)
insert_named script sofar Defining s table values so = row_named script sofar table values so
insert_named script sofar (Between session) s table values so = row_named script sofar table values so
insert_named script sofar (Within session txn) s table values so = statement_named script sofar s so
insert_named script sofar Scheduled s table values so = row_named script sofar table values so

kept : PiecesAreTokens → (script : List ℕ) (options : Options) (at end : ℕ) (sofar : SoFar) (s : Statement) → Parses script at s end → refusal_in script options sofar s ≡ None
    → NamedSoFar sofar → NamedSoFar (after script sofar s)
kept tokens script options at end sofar (tree.Create table columns) parses h so =
    table_named script sofar table columns h (table_is_word script _ table columns parses.written.matches (tokens script at)) so
kept tokens script options at end sofar (tree.Insert table values) parses h so = insert_named script sofar sofar.section (tree.Insert table values) table values so
kept tokens script options at end sofar (tree.Session name) parses h so =
    session_named script sofar name h (session_is_word script _ name parses.written.matches (tokens script at)) so
kept tokens script options at end sofar (tree.Begin only) parses h so = at_section sofar (begun only sofar.section) (begun_same sofar.sessions only sofar.section) so
kept tokens script options at end sofar tree.Commit parses h so = at_section sofar (closed true sofar.section) (closed_same sofar.sessions true sofar.section) so
kept tokens script options at end sofar tree.Rollback parses h so = at_section sofar (closed false sofar.section) (closed_same sofar.sessions false sofar.section) so
kept tokens script options at end sofar (tree.Savepoint name) parses h so = statement_named script sofar (tree.Savepoint name) so
kept tokens script options at end sofar (tree.RollbackTo name) parses h so = statement_named script sofar (tree.RollbackTo name) so
kept tokens script options at end sofar (tree.Release name) parses h so = statement_named script sofar (tree.Release name) so
kept tokens script options at end sofar (tree.Select selection) parses h so = statement_named script sofar (tree.Select selection) so
kept tokens script options at end sofar (tree.Update table sets test) parses h so = statement_named script sofar (tree.Update table sets test) so
kept tokens script options at end sofar (tree.Delete table test) parses h so = statement_named script sofar (tree.Delete table test) so
kept tokens script options at end sofar (tree.Schedule turns) parses h so = schedule_named script sofar turns so
kept tokens script options at end sofar tree.End parses h so = so

-- ---- all statements

-- where statements are parsed their tokens are a sentence of the grammar
abbrev pub ParsesSentences : Type 0
ParsesSentences = (bytes : List ℕ) (at : ℕ) (s : Statement) (end : ℕ) → (parsed bytes at ≡ Ok (s, end)) ↔ Parses bytes at s end

all_kept : PiecesAreTokens → ParsesSentences → (script : List ℕ) (options : Options) (at : ℕ) (sofar : SoFar) (all : List Statement) → SpellsFrom script at all
    → NoneIsRefused script options sofar all → NamedSoFar sofar → NamedSoFar (after_all script sofar all)
all_kept tokens sentences script options at sofar [] spelled free so = so
all_kept tokens sentences script options at sofar (s ∷ rest) spelled free so =
    all_kept tokens sentences script options spelled.0 (after script sofar s) rest spelled.2 free.1
    (kept tokens script options at spelled.0 sofar s ((sentences script at s spelled.0).0 spelled.1) free.0 so)

whole : (options : Options) (sofar : SoFar) → NamedSoFar sofar → IsNamed (script_of options sofar)
whole options sofar so = record {
  tables = so.tables;
  sessions = subst AreNames (sym (all_names sofar.sessions sofar.section ∙ so.same)) so.sessions;
}

-- a script that the bytes spell is named
pub reads_named : PiecesAreTokens → ParsesSentences → ((bytes : List ℕ) (options : Options) (read : Script) → Reads bytes options (Ok read) ↔ IsAccepted bytes options read)
    → (bytes : List ℕ) (options : Options) (read : Script) → Reads bytes options (Ok read) → IsNamed read
reads_named tokens sentences accepted bytes options read reads =
    let is = (accepted bytes options read).0 reads in
    subst IsNamed (sym is.says) (whole options _ (all_kept tokens sentences bytes options 0 nothing is.statements is.spelled is.free nothing_named))
