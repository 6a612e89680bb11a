-- The text of tables, with END behind it, is a script that is accepted, and says these tables.
use Rattle.std.specs.Prelude.{◌*◌, codes}
use Rattle.std.specs.List.{AllZip}
use Rattle.std.specs.Str.{IsUtf8}
use Rattle.std.proofs.Common.{◌≡◌, ℕ, ◌+◌, ◌≤◌, List, [], ◌∷◌, ◌++◌, length, suc, Ok, refl, sym, ap, subst, ◌∙◌, arith}
use Rattle.std.proofs.lemmas.Str.{IsUtf8-append}
use Rattle.hy_token.specs.declared.Span.{Span}
use Rattle.hy_token.specs.declared.Token.TheVariants as token
use Rattle.hy_token.specs.Lengths.{blank_len}
use Rattle.hy_token.specs.Token.{first_token, lexed}
use Rattle.hy_limits.specs.declared.TheConstants.{MOST_BYTES}
use Rattle.hy_value.specs.declared.Value.{Value}
use Rattle.hy_ast.specs.Trees.{Statement}
use Rattle.hy_ast.specs.Trees as tree
use Rattle.hy_schema.specs.declared.TableDef.{TableDef}
use Rattle.hy_script.specs.declared.Options.{Options}
use Rattle.hy_script.specs.Definitions.{AreDefined}
use Rattle.hy_script.specs.Growing.{nothing, script_of}
use Rattle.hy_script.specs.Sentences.{IsAccepted, SpellsFrom, after_all, none, no_schedule, script}
use Rattle.hy_dump.specs.Dump.{dump}
use Rattle.hy_dump.specs.ReadBack.{only_tables, whole_text}
use Rattle.hy_dump.specs.Writable.{AreRowsOf, CanBeWritten}
use Rattle.hy_dump.proofs.Tokens.{none as nowhere}
use Rattle.hy_dump.proofs.LinesRead.{end_read}
use Rattle.hy_dump.proofs.TablesTaken.{defining}
use Rattle.hy_dump.proofs.Told.{Laws, SpellsTo, both_free, both_said}
use Rattle.hy_dump.proofs.TablesTold.{zipped, zipped_text, tables_told}
use Rattle.hy_dump.proofs.Utf8.{tables_utf8, end_utf8}

-- behind the last line feed there is nothing
nothing_more : (at : ℕ) → (span : Span) × (lexed at (10 ∷ []) ≡ Ok (token.End, span))
unfolding lexed blank_len first_token
nothing_more at = (record { start = at + 1; end = at + 1 + 0 }, refl)

spells_on : (bytes : List ℕ) (at mid : ℕ) (one other : List Statement) → SpellsTo bytes at one mid → SpellsFrom bytes mid other → SpellsFrom bytes at (one ++ other)
spells_on bytes at mid [] other first second = subst (λ (n : ℕ). SpellsFrom bytes n other) (sym first) second
spells_on bytes at mid (s ∷ one) other first second = (first.0, first.1, spells_on bytes first.0 mid one other first.2 second)

rows_for_all : (room : ℕ) (catalog : List TableDef) (tables : List (List (List Value))) → AllZip (AreRowsOf room) catalog tables → length tables ≡ length catalog
rows_for_all room [] [] fit = refl
rows_for_all room [] (rows ∷ tables) fit = absurd fit
rows_for_all room (table ∷ catalog) [] fit = absurd fit
rows_for_all room (table ∷ catalog) (rows ∷ tables) fit = ap suc (rows_for_all room catalog tables fit.1)

pub accepted : (options : Options) → Laws options → AreDefined options nothing → (catalog : List TableDef) (tables : List (List (List Value)))
    → CanBeWritten (options.chunks * options.rows) catalog tables → length (whole_text catalog tables) ≤ MOST_BYTES
    → IsAccepted (whole_text catalog tables) options (only_tables options catalog tables)
accepted options laws first catalog tables can short =
    let bytes : List ℕ = whole_text catalog tables in
    let room : ℕ = options.chunks * options.rows in
    let same : dump catalog tables ≡ zipped_text catalog tables = zipped [] tables catalog (rows_for_all room catalog tables can.filled) in
    let few : length catalog ≤ 16 = can.defined.few in
    let all = tables_told options laws bytes catalog tables [] [] 0 nowhere (codes "END;\n") refl first can.defined.each can.filled can.defined.differ (omega (arith, few))
    (ap (λ (text : List ℕ). text ++ codes "END;\n") same) in
    let last = end_read laws.parses bytes all.told.end all.told.gap (10 ∷ []) all.told.behind in
    let more = nothing_more last.end in
    let end : SpellsFrom bytes all.told.end (tree.End ∷ []) = (last.end, last.parsed, (more.0, ap (lexed last.end) last.behind ∙ more.1)) in
    let whole : List Statement = all.told.statements ++ tree.End ∷ [] in
    let said : after_all bytes nothing whole ≡ defining catalog all.stocks = both_said bytes nothing all.told.statements (tree.End ∷ []) ∙ all.told.says in
    record {
      short = short;
      utf8 =
          subst (λ (text : List ℕ). IsUtf8 (text ++ codes "END;\n")) (sym same)
          (IsUtf8-append (zipped_text catalog tables) (codes "END;\n") (tables_utf8 room catalog tables can.defined.each can.filled) end_utf8);
      statements = whole;
      spelled = spells_on bytes 0 all.told.end all.told.statements (tree.End ∷ []) all.told.spelled end;
      sentence = script all.told.statements [] [] all.told.definitions none no_schedule;
      free = both_free bytes options nothing all.told.statements (tree.End ∷ []) all.told.free (refl, tt);
      says =
          ap (λ (rows : List (List (List Value))). only_tables options catalog rows) (sym all.rows)
          ∙ sym (ap (script_of options) said);
    }
