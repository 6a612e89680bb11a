-- The text of tables whose texts are UTF-8 is UTF-8.
use Rattle.std.specs.Prelude.{◌&&◌, ◌==◌, codes, nat_le, ℤ, pos, negsuc, Option}
use Rattle.std.specs.Fmt.{decimal, signed_decimal}
use Rattle.std.specs.List.{flat_map, list_all, AllByRecursion, AllZip}
use Rattle.std.specs.Str.{IsAscii, IsUtf8}
use Rattle.std.proofs.Common.{◌≡◌, ℕ, zero, suc, ◌+◌, ◌<◌, ◌≤◌, Bool, true, false, cond, List, [], ◌∷◌, ◌++◌, length, get_or, take, drop, refl, sym, ap, subst, ◌∙◌, append_assoc, arith}
use Rattle.std.proofs.lemmas.Bool.{eqb-true, leb-true}
use Rattle.std.proofs.lemmas.Fmt.{IsAscii-decimal}
use Rattle.std.proofs.lemmas.List.{drop_at, take_at, length-append}
use Rattle.std.proofs.lemmas.Str.{IsUtf8-nil, IsUtf8-append, IsUtf8-from_ascii, IsUtf8-drop, IsUtf8-take, IsCharBoundary-after_ascii, IsCharBoundary-before_ascii}
use Rattle.std.proofs.Math.Seq.{get_or-append_seam}
use Rattle.hy_value.specs.declared.Kind.{Kind}
use Rattle.hy_value.specs.declared.Kind.TheVariants as kinds
use Rattle.hy_value.specs.declared.Value.{Value}
use Rattle.hy_value.specs.declared.Value.TheVariants as values
use Rattle.hy_value.specs.Print.{doubled_quote, printed}
use Rattle.hy_schema.specs.declared.Column.{Column}
use Rattle.hy_schema.specs.declared.TableDef.{TableDef}
use Rattle.hy_dump.specs.Dump.{comma_before, kind_word, is_key, key_mark, column_text, columns_text, enclosed, create_line, values_text, insert_line, table_text}
use Rattle.hy_dump.specs.Writable.{AreRowsOf, IsName, IsOfKind, IsRowOf, IsTable}
use Rattle.hy_dump.proofs.Names.{name_ascii}
use Rattle.hy_dump.proofs.TablesTold.{zipped_text}

-- ---- bytes of ASCII

ascii_bytes : (bytes : List ℕ) → list_all (λ b. nat_le b 127) bytes ≡ true → IsAscii bytes
ascii_bytes [] all = λ i. omega arith
ascii_bytes (b ∷ bytes) all = by_first (nat_le b 127) refl all (ascii_bytes bytes)
  where
    both : b ≤ 127 → IsAscii bytes → IsAscii (b ∷ bytes)
    both low rest zero = omega (arith, low)
    both low rest (suc i) = rest i

    by_first : (passes : Bool) → nat_le b 127 ≡ passes → (passes && list_all (λ b. nat_le b 127) bytes) ≡ true
        → (list_all (λ b. nat_le b 127) bytes ≡ true → IsAscii bytes) → IsAscii (b ∷ bytes)
    by_first true is all more = both (leb-true b 127 is) (more all)
    by_first false is all more = absurd cc

-- a text that is written out
pub plain : (bytes : List ℕ) → list_all (λ b. nat_le b 127) bytes ≡ true → IsUtf8 bytes
plain bytes all = IsUtf8-from_ascii bytes (ascii_bytes bytes all)

name_utf8 : (name : List ℕ) → IsName name → IsUtf8 name
name_utf8 name is = IsUtf8-from_ascii name (name_ascii name is)

-- ---- values

-- both parts around an ASCII byte are UTF-8
pub parts_utf8 : (front bytes : List ℕ) (b : ℕ) → b < 128 → IsUtf8 (front ++ b ∷ bytes) → IsUtf8 front × IsUtf8 bytes
parts_utf8 front bytes b ascii utf8 =
    let all : List ℕ = front ++ b ∷ bytes in
    let there : get_or all (length front) 0 ≡ b = get_or-append_seam front b bytes 0 in
    let within : length front < length all = omega (arith, length-append front (b ∷ bytes)) in
    let small : get_or all (length front) 0 < 128 = omega (arith, there, ascii) in
    let before : IsUtf8 (take (length front) all) = IsUtf8-take all (length front) utf8 (IsCharBoundary-before_ascii all (length front) within small) in
    let behind : IsUtf8 (drop (length front + 1) all) =
    IsUtf8-drop all (length front + 1) utf8 (IsCharBoundary-after_ascii all (length front) utf8 within small) in
    let rest : drop (length front + 1) all ≡ bytes =
    ap (drop (length front + 1)) (sym (append_assoc front (b ∷ []) bytes))
    ∙ drop_at (front ++ b ∷ []) bytes (length front + 1) (length-append front (b ∷ [])) in
    (subst IsUtf8 (take_at front (b ∷ bytes) (length front) refl) before, subst IsUtf8 rest behind)

quotes_utf8 : IsUtf8 (39 ∷ 39 ∷ [])
quotes_utf8 = plain (39 ∷ 39 ∷ []) refl

-- with its quotes doubled a text is still UTF-8, behind some bytes
doubled_behind : (front text : List ℕ) → IsUtf8 (front ++ text) → IsUtf8 (front ++ flat_map doubled_quote text)
doubled_behind front [] utf8 = utf8
doubled_behind front (b ∷ text) utf8 = by_quote (b == 39) refl (doubled_behind [] text) (doubled_behind (front ++ b ∷ []) text)
  where
    by_quote : (quote : Bool) → (b == 39) ≡ quote → (IsUtf8 text → IsUtf8 (flat_map doubled_quote text))
        → (IsUtf8 ((front ++ b ∷ []) ++ text) → IsUtf8 ((front ++ b ∷ []) ++ flat_map doubled_quote text))
        → IsUtf8 (front ++ (cond quote (39 ∷ 39 ∷ []) (b ∷ []) ++ flat_map doubled_quote text))
    by_quote true is anew more =
        let small : b < 128 = let same : b ≡ 39 = eqb-true b 39 is in omega (arith, same) in
        let around = parts_utf8 front text b small utf8 in
        IsUtf8-append front (39 ∷ 39 ∷ flat_map doubled_quote text) around.0
        (IsUtf8-append (39 ∷ 39 ∷ []) (flat_map doubled_quote text) quotes_utf8 (anew around.1))
    by_quote false is anew more =
        subst IsUtf8 (append_assoc front (b ∷ []) (flat_map doubled_quote text)) (more (subst IsUtf8 (sym (append_assoc front (b ∷ []) text)) utf8))

number_utf8 : (n : ℤ) (kind : Kind) → IsOfKind kind (values.Int n) → IsUtf8 (signed_decimal n)
number_utf8 n kinds.Str is = absurd is
number_utf8 (pos n) kinds.Int is = IsUtf8-from_ascii (decimal n) (IsAscii-decimal n (omega (arith, is)))
number_utf8 (negsuc n) kinds.Int is =
    IsUtf8-append (45 ∷ []) (decimal (suc n)) (plain (45 ∷ []) refl) (IsUtf8-from_ascii (decimal (suc n)) (IsAscii-decimal (suc n) (omega (arith, is))))

text_utf8 : (text : List ℕ) (kind : Kind) → IsOfKind kind (values.Text text) → IsUtf8 ((39 ∷ []) ++ flat_map doubled_quote text ++ 39 ∷ [])
text_utf8 text kinds.Int is = absurd is
text_utf8 text kinds.Str is =
    let quote : IsUtf8 (39 ∷ []) = plain (39 ∷ []) refl in
    IsUtf8-append (39 ∷ []) (flat_map doubled_quote text ++ 39 ∷ []) quote
    (IsUtf8-append (flat_map doubled_quote text) (39 ∷ []) (doubled_behind [] text is.1) quote)

value_utf8 : (value : Value) (kind : Kind) → IsOfKind kind value → IsUtf8 (printed value)
value_utf8 values.Null kind is = plain (codes "NULL") refl
value_utf8 (values.Int n) kind is = number_utf8 n kind is
value_utf8 (values.Text text) kind is = text_utf8 text kind is

comma_utf8 : (number : ℕ) → IsUtf8 (comma_before number)
comma_utf8 zero = IsUtf8-nil
comma_utf8 (suc number) = plain (codes ", ") refl

values_utf8 : (number : ℕ) (columns : List Column) (row : List Value) → IsRowOf columns row → IsUtf8 (values_text number row)
values_utf8 number [] [] may = IsUtf8-nil
values_utf8 number [] (value ∷ row) may = absurd may
values_utf8 number (column ∷ columns) [] may = absurd may
values_utf8 number (column ∷ columns) (value ∷ row) may =
    IsUtf8-append (comma_before number ++ printed value) (values_text (suc number) row)
    (IsUtf8-append (comma_before number) (printed value) (comma_utf8 number) (value_utf8 value column.kind may.0))
    (values_utf8 (suc number) columns row may.1)

-- ---- lines

kind_utf8 : (kind : Kind) → IsUtf8 (kind_word kind)
kind_utf8 kinds.Int = plain (codes " INT") refl
kind_utf8 kinds.Str = plain (codes " TEXT") refl

mark_utf8 : (key : Bool) → IsUtf8 (key_mark key)
mark_utf8 true = plain (codes " PRIMARY KEY") refl
mark_utf8 false = IsUtf8-nil

column_utf8 : (column : Column) (key : Bool) → IsName column.name → IsUtf8 (column_text column key)
column_utf8 column key is =
    IsUtf8-append (column.name ++ kind_word column.kind) (key_mark key)
    (IsUtf8-append column.name (kind_word column.kind) (name_utf8 column.name is) (kind_utf8 column.kind)) (mark_utf8 key)

columns_utf8 : (key : Option ℕ) (number : ℕ) (columns : List Column) → AllByRecursion (λ (column : Column). IsName column.name) columns → IsUtf8 (columns_text key number columns)
columns_utf8 key number [] names = IsUtf8-nil
columns_utf8 key number (column ∷ columns) names =
    IsUtf8-append (comma_before number ++ column_text column (is_key key number)) (columns_text key (suc number) columns)
    (IsUtf8-append (comma_before number) (column_text column (is_key key number)) (comma_utf8 number) (column_utf8 column (is_key key number) names.0))
    (columns_utf8 key (suc number) columns names.1)

enclosed_utf8 : (list : List ℕ) → IsUtf8 list → IsUtf8 (enclosed list)
enclosed_utf8 list utf8 =
    IsUtf8-append (codes " (" ++ list) (codes ");\n") (IsUtf8-append (codes " (") list (plain (codes " (") refl) utf8) (plain (codes ");\n") refl)

create_utf8 : (table : TableDef) → IsTable table → IsUtf8 (create_line table)
create_utf8 table is =
    IsUtf8-append (codes "CREATE TABLE " ++ table.name) (enclosed (columns_text table.key 0 table.columns))
    (IsUtf8-append (codes "CREATE TABLE ") table.name (plain (codes "CREATE TABLE ") refl) (name_utf8 table.name is.name))
    (enclosed_utf8 (columns_text table.key 0 table.columns) (columns_utf8 table.key 0 table.columns is.columns))

insert_utf8 : (name : List ℕ) (columns : List Column) (row : List Value) → IsName name → IsRowOf columns row → IsUtf8 (insert_line name row)
insert_utf8 name columns row is may =
    IsUtf8-append ((codes "INSERT INTO " ++ name) ++ codes " VALUES") (enclosed (values_text 0 row))
    (IsUtf8-append (codes "INSERT INTO " ++ name) (codes " VALUES")
    (IsUtf8-append (codes "INSERT INTO ") name (plain (codes "INSERT INTO ") refl) (name_utf8 name is)) (plain (codes " VALUES") refl))
    (enclosed_utf8 (values_text 0 row) (values_utf8 0 columns row may))

rows_utf8 : (name : List ℕ) (columns : List Column) (rows : List (List Value)) → IsName name → AllByRecursion (IsRowOf columns) rows → IsUtf8 (flat_map (insert_line name) rows)
rows_utf8 name columns [] is may = IsUtf8-nil
rows_utf8 name columns (row ∷ rows) is may =
    IsUtf8-append (insert_line name row) (flat_map (insert_line name) rows) (insert_utf8 name columns row is may.0) (rows_utf8 name columns rows is may.1)

pub tables_utf8 : (room : ℕ) (catalog : List TableDef) (tables : List (List (List Value))) → AllByRecursion IsTable catalog → AllZip (AreRowsOf room) catalog tables
    → IsUtf8 (zipped_text catalog tables)
tables_utf8 room [] [] are fit = IsUtf8-nil
tables_utf8 room [] (rows ∷ tables) are fit = absurd fit
tables_utf8 room (table ∷ catalog) [] are fit = absurd fit
tables_utf8 room (table ∷ catalog) (rows ∷ tables) are fit =
    IsUtf8-append (table_text table rows) (zipped_text catalog tables)
    (IsUtf8-append (create_line table) (flat_map (insert_line table.name) rows) (create_utf8 table are.0)
    (rows_utf8 table.name table.columns rows are.0.name fit.0.typed))
    (tables_utf8 room catalog tables are.1 fit.1)

pub end_utf8 : IsUtf8 (codes "END;\n")
end_utf8 = plain (codes "END;\n") refl
