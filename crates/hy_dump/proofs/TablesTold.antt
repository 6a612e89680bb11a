-- What the lines of tables tell, table after table.
use Rattle.std.specs.Prelude.{◌*◌, is_some, Option}
use Rattle.std.specs.List.{flat_map, AllByRecursion, AllZip}
use Rattle.std.proofs.Common.{◌≡◌, ℕ, suc, ◌+◌, ◌<◌, ◌≤◌, false, List, [], ◌∷◌, ◌++◌, length, map, drop, Some, None, refl, sym, ap, subst, ◌∙◌, append_assoc, arith}
use Rattle.std.proofs.lemmas.Bool.{or_parts}
use Rattle.std.proofs.lemmas.List.{append-nil, length-append, map-append}
use Rattle.std.proofs.Math.Seq.{get_or-append_seam}
use Rattle.hy_value.specs.declared.Value.{Value}
use Rattle.hy_ast.specs.Trees as tree
use Rattle.hy_schema.specs.declared.Column.{Column}
use Rattle.hy_schema.specs.declared.TableDef.{TableDef}
use Rattle.hy_schema.specs.Names.{number_of, table_names}
use Rattle.hy_bind.specs.Statements.{comes_again}
use Rattle.hy_script.specs.declared.Options.{Options}
use Rattle.hy_script.specs.declared.stocks.Stock.{Stock}
use Rattle.hy_script.specs.Definitions.{AreDefined}
use Rattle.hy_script.specs.Stocks.{no_rows}
use Rattle.hy_dump.specs.Dump.{create_line, dump_from, insert_line, rows_at, table_text}
use Rattle.hy_dump.specs.Writable.{AreRowsOf, IsTable}
use Rattle.hy_dump.proofs.Tokens.{Gap, feed, gap_text}
use Rattle.hy_dump.proofs.LinesRead.{create_read}
use Rattle.hy_dump.proofs.TablesTaken.{defining, create_taken, KeyWithin}
use Rattle.hy_dump.proofs.RowsTaken.{names_end}
use Rattle.hy_dump.proofs.Told.{Told, Laws, ComesNext, rows_told, own_keys, told_more, told_none, told_both}

-- the key of a table is one of its columns
key_within : (key : Option ℕ) (width : ℕ) → ((k : ℕ) → key ≡ Some k → k < width) → KeyWithin key width
key_within None width within = tt
key_within (Some key) width within = within key refl

-- after a table and its rows
record TableTold (bytes : List ℕ) (options : Options) (at : ℕ) (done : List TableDef) (before : List Stock) (table : TableDef) (rows : List (List Value)) (rest : List ℕ) : Type 0 where
  last : Stock
  is : last.rows ≡ rows
  defined : AreDefined options (defining (done ++ table ∷ []) (before ++ last ∷ []))
  told : Told bytes options at (defining done before) (defining (done ++ table ∷ []) (before ++ last ∷ [])) rest

-- a table and its rows are told behind the tables before it
abbrev IsTold : Options → List ℕ → List TableDef → List Stock → TableDef → Type 0
IsTold options bytes done before table =
    (rows : List (List Value)) (at : ℕ) (gap : Gap) (rest : List ℕ) → ComesNext done before table → IsTable table → length done < 16
    → AreDefined options (defining done before) → AreRowsOf (options.chunks * options.rows) table rows
    → drop at bytes ≡ gap_text gap ++ (table_text table rows ++ rest) → TableTold bytes options at done before table rows rest

some_told : (options : Options) → Laws options → (bytes : List ℕ) (done : List TableDef) (before : List Stock) (named : List ℕ) (column : Column) (columns : List Column)
    (key : Option ℕ) → IsTold options bytes done before (record { name = named; columns = column ∷ columns; key = key })
some_told options laws bytes done before named column columns key rows at gap rest stands is room defined fit here =
    let table : TableDef = record { name = named; columns = column ∷ columns; key = key } in
    let catalog : List TableDef = done ++ table ∷ [] in
    let lines : List ℕ = flat_map (insert_line named) rows in
    let few : length (column ∷ columns) ≤ 32 = stands.few in
    let split : (create_line table ++ lines) ++ rest ≡ create_line table ++ (lines ++ rest) = append_assoc (create_line table) lines rest in
    let read = create_read laws.parses bytes at gap named column columns key (lines ++ rest) is.name is.columns (omega (arith, few))
    (here ∙ ap (λ (back : List ℕ). gap_text gap ++ back) split) in
    let taken = create_taken bytes options done before table read.span read.defs (record {
      named = is.name;
      columns = is.columns;
      differ = is.differ;
      few = few;
      key = key_within key (length (column ∷ columns)) is.fits.key;
      other = stands.other;
      room = room;
    }) (record { name = read.name; columns = read.columns }) in
    let none : Stock = no_rows key in
    let fits : AreDefined options (defining catalog (before ++ none ∷ [])) =
    subst (AreDefined options) taken.says (laws.table bytes (defining done before) read.span read.defs read.some taken.free defined) in
    let enough : length rows ≤ options.chunks * options.rows = fit.fit.few in
    let more = rows_told options laws bytes done before named column columns key stands rows none read.end feed rest fits fit.typed
    (own_keys (options.chunks * options.rows) table rows fit.fit) (omega (arith, enough)) read.behind in
    record {
      last = more.last;
      is = more.rows;
      defined = more.defined;
      told =
          told_more bytes options at read.end (defining done before) (defining catalog (before ++ none ∷ [])) (defining catalog (before ++ more.last ∷ [])) rest
          (tree.Create read.span read.defs) tt read.parsed taken.free taken.says more.told;
    }

table_told : (options : Options) → Laws options → (bytes : List ℕ) (done : List TableDef) (before : List Stock) (table : TableDef) → 1 ≤ length table.columns
    → IsTold options bytes done before table
table_told options laws bytes done before table some = by_columns table.columns refl
  where
    by_columns : (columns : List Column) → table.columns ≡ columns → IsTold options bytes done before table
    by_columns [] is = let none : length table.columns ≡ 0 = ap (λ (columns : List Column). length columns) is in absurd (omega (arith, some, none))
    by_columns (column ∷ columns) is =
        let whole : TableDef = record { name = table.name; columns = column ∷ columns; key = table.key } in
        let same : whole ≡ table =
        ap (λ (columns : List Column). let made : TableDef = record { name = table.name; columns = columns; key = table.key } in made) (sym is) in
        subst (IsTold options bytes done before) same (some_told options laws bytes done before table.name column columns table.key)

-- ---- tables

-- tables with their rows, one after another
abbrev pub zipped_text : List TableDef → List (List (List Value)) → List ℕ
zipped_text [] tables = []
zipped_text (table ∷ later) [] = []
zipped_text (table ∷ later) (rows ∷ tables) = table_text table rows ++ zipped_text later tables

-- the rows by number are those beside the tables
pub zipped : (before tables : List (List (List Value))) (defined : List TableDef) → length tables ≡ length defined
    → dump_from (before ++ tables) (length before) defined ≡ zipped_text defined tables
zipped before tables [] long = refl
zipped before [] (table ∷ defined) long = absurd (omega (arith, long))
zipped before (rows ∷ tables) (table ∷ defined) long =
    let all : List (List (List Value)) = before ++ rows ∷ tables in
    let here : rows_at all (length before) ≡ rows = get_or-append_seam before rows tables [] in
    let number : length (before ++ rows ∷ []) ≡ suc (length before) = omega (arith, length-append before (rows ∷ [])) in
    let more : dump_from ((before ++ rows ∷ []) ++ tables) (length (before ++ rows ∷ [])) defined ≡ zipped_text defined tables =
    zipped (before ++ rows ∷ []) tables defined (omega (arith, long)) in
    let same : dump_from all (suc (length before)) defined ≡ zipped_text defined tables =
    ap (λ (n : ℕ). dump_from all n defined) (sym number)
    ∙ (ap (λ (all : List (List (List Value))). dump_from all (length (before ++ rows ∷ [])) defined) (sym (append_assoc before (rows ∷ []) tables)) ∙ more) in
    ap (λ (rows : List (List Value)). table_text table rows ++ dump_from all (suc (length before)) defined) here
    ∙ ap (λ (back : List ℕ). table_text table rows ++ back) same

-- the first rows of stocks
abbrev pub first_rows : List Stock → List (List (List Value))
first_rows stocks = map (λ (stock : Stock). stock.rows) stocks

pub record TablesTold (bytes : List ℕ) (options : Options) (at : ℕ) (done : List TableDef) (before : List Stock) (later : List TableDef) (tables : List (List (List Value)))
    (rest : List ℕ) : Type 0 where
  pub stocks : List Stock
  pub rows : first_rows stocks ≡ first_rows before ++ tables
  pub told : Told bytes options at (defining done before) (defining (done ++ later) stocks) rest

pub tables_told : (options : Options) → Laws options → (bytes : List ℕ) (later : List TableDef) (tables : List (List (List Value))) (done : List TableDef) (before : List Stock)
    (at : ℕ) (gap : Gap) (rest : List ℕ) → length before ≡ length done → AreDefined options (defining done before) → AllByRecursion IsTable later
    → AllZip (AreRowsOf (options.chunks * options.rows)) later tables → comes_again (table_names done) (table_names later) ≡ false
    → length done + length later ≤ 16 → drop at bytes ≡ gap_text gap ++ (zipped_text later tables ++ rest)
    → TablesTold bytes options at done before later tables rest
tables_told options laws bytes [] [] done before at gap rest long defined are fit differ few here = record {
  stocks = before;
  rows = sym (append-nil (first_rows before));
  told =
      subst (λ (catalog : List TableDef). Told bytes options at (defining done before) (defining catalog before) rest) (sym (append-nil done))
      (told_none bytes options at gap (defining done before) rest here);
}
tables_told options laws bytes [] (rows ∷ tables) done before at gap rest long defined are fit differ few here = absurd fit
tables_told options laws bytes (table ∷ later) [] done before at gap rest long defined are fit differ few here = absurd fit
tables_told options laws bytes (table ∷ later) (rows ∷ tables) done before at gap rest long defined are fit differ few here =
    let others : List ℕ = zipped_text later tables in
    let split : (table_text table rows ++ others) ++ rest ≡ table_text table rows ++ (others ++ rest) = append_assoc (table_text table rows) others rest in
    let apart = or_parts (is_some (number_of (table_names done) table.name)) (comes_again (table_names done ++ table.name ∷ []) (table_names later)) differ in
    let columns : length table.columns ≤ 32 = are.0.fits.few in
    let one = table_told options laws bytes done before table are.0.fits.some rows at gap (others ++ rest)
    (record { long = long; other = apart.0; named = are.0.name; few = columns }) are.0 (omega (arith, few)) defined fit.0
    (here ∙ ap (λ (back : List ℕ). gap_text gap ++ back) split) in
    let now : List TableDef = done ++ table ∷ [] in
    let held : List Stock = before ++ one.last ∷ [] in
    let as_long : length held ≡ length now = omega (arith, long, length-append before (one.last ∷ []), length-append done (table ∷ [])) in
    let more = tables_told options laws bytes later tables now held one.told.end one.told.gap rest as_long one.defined are.1 fit.1
    (ap (λ (names : List (List ℕ)). comes_again names (table_names later)) (names_end done table) ∙ apart.1)
    (omega (arith, few, length-append done (table ∷ []))) one.told.behind in
    record {
      stocks = more.stocks;
      rows =
          more.rows
          ∙ (ap (λ (front : List (List (List Value))). front ++ tables) (map-append (λ (stock : Stock). stock.rows) before (one.last ∷ []))
          ∙ (append_assoc (first_rows before) (one.last.rows ∷ []) tables
          ∙ ap (λ (rows : List (List Value)). first_rows before ++ rows ∷ tables) one.is));
      told =
          subst (λ (catalog : List TableDef). Told bytes options at (defining done before) (defining catalog more.stocks) rest) (append_assoc done (table ∷ []) later)
          (told_both bytes options at (defining done before) (defining now held) (defining (now ++ later) more.stocks) (others ++ rest) rest one.told more.told);
    }
