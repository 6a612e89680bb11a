-- A row's line is taken by a script whose last table it is of: the table has one first row more.
use Rattle.std.specs.Prelude.{◌≢◌, ◌*◌, ◌||◌, is_some, nat_le, nat_lt, not, Option, slice_get, slice_index_or, slice_set}
use Rattle.std.specs.List.{prefix_len, slice_range, AllByRecursion}
use Rattle.std.specs.Option.{option_map, option_map_or}
use Rattle.std.specs.Ordering.{is_eq}
use Rattle.std.specs.Str.{bytes_eq}
use Rattle.std.specs.declared.cmp.Ordering.{Ordering}
use Rattle.std.specs.declared.cmp.Ordering.TheVariants.{Less, Equal, Greater}
use Rattle.std.proofs.Common.{◌≡◌, ℕ, zero, suc, ◌+◌, ◌<◌, ◌≤◌, Bool, true, false, cond, List, [], ◌∷◌, ◌++◌, length, map, Some, None, refl, sym, ap, ◌∙◌, arith}
use Rattle.std.proofs.lemmas.Bool.{ltb-false}
use Rattle.std.proofs.lemmas.List.{length-append, map-append}
use Rattle.std.proofs.lemmas.List.Sums.{prefix_len-le-length}
use Rattle.std.proofs.lemmas.Slice.Eq.{bytes_eq-Decides}
use Rattle.std.proofs.Math.Seq.{get_or-append_seam, set-append_seam}
use Rattle.hy_token.specs.declared.Span.{Span}
use Rattle.hy_value.specs.declared.Value.{Value}
use Rattle.hy_value.specs.declared.Value.TheVariants.{Null}
use Rattle.hy_value.specs.Order.{value_cmp}
use Rattle.hy_value.specs.Sorted.{is_one_of}
use Rattle.hy_ast.specs.declared.Literal.{Literal}
use Rattle.hy_ast.specs.Trees as tree
use Rattle.hy_schema.specs.declared.Column.{Column}
use Rattle.hy_schema.specs.declared.TableDef.{TableDef}
use Rattle.hy_schema.specs.Names.{number_of, table_names, table_number}
use Rattle.hy_bound.specs.Predicate.{column_of}
use Rattle.hy_bind.specs.Literals.{literal_kind, literal_value, text_of_span}
use Rattle.hy_bind.specs.Refusals.{agree, fault_if, first_of}
use Rattle.hy_bind.specs.Statements.{bind_fault, is_null, key_fault, value_fault, values_fault, and_number, fault_of_numbered, columns_in, key_in}
use Rattle.hy_bind.specs.declared.refusals.BindFault.{BindFault}
use Rattle.hy_bind.specs.declared.refusals.BindFault.TheVariants as fault
use Rattle.hy_script.specs.declared.Options.{Options}
use Rattle.hy_script.specs.declared.codes.Code.{Code}
use Rattle.hy_script.specs.declared.codes.Code.TheVariants as code
use Rattle.hy_script.specs.declared.stocks.Stock.{Stock}
use Rattle.hy_script.specs.Codes.{code_if_so, code_of, first_of_two}
use Rattle.hy_script.specs.Growing.{after}
use Rattle.hy_script.specs.Refusals.{refusal_in, stock_at}
use Rattle.hy_script.specs.Stocks.{key_there, no_rows, with_row}
use Rattle.hy_dump.specs.Writable.{IsOfKind, IsRowOf}
use Rattle.hy_dump.proofs.Tokens.{run_ends}
use Rattle.hy_dump.proofs.Lists.{AreFrom}
use Rattle.hy_dump.proofs.ValuesRead.{IsLiteral}
use Rattle.hy_dump.proofs.TablesTaken.{defining}

-- ---- the values of the row

-- literals, the first of which has this number, say these values
abbrev AreValues : List ℕ → ℕ → List Value → List Literal → Type 0
AreValues bytes number row values = AreFrom (λ number. IsLiteral bytes) number row values

values_are : (bytes : List ℕ) (number : ℕ) (row : List Value) (values : List Literal) → AreValues bytes number row values → map (literal_value bytes) values ≡ row
values_are bytes number [] [] are = refl
values_are bytes number [] (l ∷ values) are = absurd are
values_are bytes number (value ∷ row) [] are = absurd are
values_are bytes number (value ∷ row) (l ∷ values) are =
    ap (λ (first : Value). first ∷ map (literal_value bytes) values) are.0.is
    ∙ ap (λ (rest : List Value). value ∷ rest) (values_are bytes (suc number) row values are.1)

value_free : (bytes : List ℕ) (column : Column) (value : Value) (l : Literal) → IsLiteral bytes value l → IsOfKind column.kind value
    → value_fault bytes column l ≡ None
value_free bytes column value l is may =
    ap (λ (found : Option BindFault). first_of found (fault_if (not (agree (literal_kind l) (Some column.kind))) fault.WrongType)) is.fine
    ∙ ap (λ (so : Bool). fault_if (not so) fault.WrongType) (is.agrees column.kind may)

-- there is a value for each column, of its type
values_free : (bytes : List ℕ) (number : ℕ) (columns : List Column) (row : List Value) (values : List Literal) → AreValues bytes number row values
    → IsRowOf columns row → values_fault bytes columns values ≡ None
values_free bytes number [] [] [] are may = refl
values_free bytes number [] [] (l ∷ values) are may = absurd are
values_free bytes number [] (value ∷ row) values are may = absurd may
values_free bytes number (column ∷ columns) [] values are may = absurd may
values_free bytes number (column ∷ columns) (value ∷ row) [] are may = absurd are
values_free bytes number (column ∷ columns) (value ∷ row) (l ∷ values) are may =
    ap (λ (found : Option BindFault). first_of found (values_fault bytes columns values)) (value_free bytes column value l are.0 may.0)
    ∙ values_free bytes (suc number) columns row values are.1 may.1

-- where a literal is NULL the row has NULL
null_there : (bytes : List ℕ) (number : ℕ) (row : List Value) (values : List Literal) (column : ℕ) → AreValues bytes number row values
    → is_null (slice_get values column) ≡ true → column_of row column ≡ Null
null_there bytes number [] [] column are so = refl
null_there bytes number [] (l ∷ values) column are so = absurd are
null_there bytes number (value ∷ row) [] column are so = absurd are
null_there bytes number (value ∷ row) (l ∷ values) zero are so = are.0.null so
null_there bytes number (value ∷ row) (l ∷ values) (suc column) are so = null_there bytes (suc number) row values column are.1 so

-- the row's key is not NULL, if the table has one
abbrev pub HasKey : Option ℕ → List Value → Type 0
HasKey None row = Unit {0}
HasKey (Some key) row = column_of row key ≢ Null

key_free : (bytes : List ℕ) (key : Option ℕ) (row : List Value) (values : List Literal) → AreValues bytes 0 row values → HasKey key row → key_fault key values ≡ None
key_free bytes None row values are has = refl
key_free bytes (Some key) row values are has = by_null (is_null (slice_get values key)) refl
  where
    by_null : (so : Bool) → is_null (slice_get values key) ≡ so → fault_if so fault.KeyNull ≡ None
    by_null true is = absurd (has (null_there bytes 0 row values key are is))
    by_null false is = refl

-- ---- the table of the row

pub names_end : (done : List TableDef) (table : TableDef) → table_names (done ++ table ∷ []) ≡ table_names done ++ table.name ∷ []
names_end done table = map-append (λ (table : TableDef). table.name) done (table ∷ [])

not_there : (n len : ℕ) → n ≤ len → is_some (cond {A = Option ℕ} (nat_lt n len) (Some n) None) ≡ false → n ≡ len
not_there n len within none = by_test (nat_lt n len) refl none
  where
    by_test : (so : Bool) → nat_lt n len ≡ so → is_some (cond {A = Option ℕ} so (Some n) None) ≡ false → n ≡ len
    by_test true is none = absurd cc
    by_test false is none = let past : len ≤ n = ltb-false n len is in omega (arith, past, within)

-- the last of some names, which differs from the others, has the last number
name_at_end : (names : List (List ℕ)) (name : List ℕ) → is_some (number_of names name) ≡ false → number_of (names ++ name ∷ []) name ≡ Some (length names)
name_at_end names name none =
    let differs : List ℕ → Bool = λ (other : List ℕ). not (bytes_eq name other) in
    let all : prefix_len differs names ≡ length names =
    not_there (prefix_len differs names) (length names) (prefix_len-le-length differs names) none in
    let same : bytes_eq name name ≡ true = (bytes_eq-Decides name name).1 refl in
    let last : prefix_len differs (names ++ name ∷ []) ≡ length names =
    run_ends differs names [] name all (ap not same) in
    let more : length (names ++ name ∷ []) ≡ length names + 1 = length-append names (name ∷ []) in
    let within : nat_lt (length names) (length names + 1) ≡ true = below (length names) in
    ap (λ (n : ℕ). cond {A = Option ℕ} (nat_lt n (length (names ++ name ∷ []))) (Some n) None) last
    ∙ (ap (λ (len : ℕ). cond {A = Option ℕ} (nat_lt (length names) len) (Some (length names)) None) more
    ∙ ap (λ (so : Bool). cond {A = Option ℕ} so (Some (length names)) None) within)
  where
    below : (n : ℕ) → nat_lt n (n + 1) ≡ true
    below n = grind arith

length_names : (done : List TableDef) → length (table_names done) ≡ length done
length_names [] = refl
length_names (table ∷ done) = ap suc (length_names done)

table_at_end : (done : List TableDef) (table : TableDef) → is_some (table_number done table.name) ≡ false
    → table_number (done ++ table ∷ []) table.name ≡ Some (length done)
table_at_end done table none =
    ap (λ (names : List (List ℕ)). number_of names table.name) (names_end done table)
    ∙ (name_at_end (table_names done) table.name none ∙ ap Some (length_names done))

got_at_end : {X : Type 0} (xs : List X) (x : X) → slice_get (xs ++ x ∷ []) (length xs) ≡ Some x
got_at_end [] x = refl
got_at_end (y ∷ xs) x = got_at_end xs x

-- ---- the key of the row

-- a value that is none of these is not found among them
pub none_of : ((x y : Value) → value_cmp x y ≡ Equal → x ≡ y) → (values : List Value) (value : Value) → AllByRecursion (λ (other : Value). other ≢ value) values
    → is_one_of values value ≡ false
none_of ties [] value differ = refl
none_of ties (other ∷ values) value differ = by_order (value_cmp value other) refl (none_of ties values value differ.1)
  where
    by_order : (order : Ordering) → value_cmp value other ≡ order → is_one_of values value ≡ false
        → (is_eq order || is_one_of values value) ≡ false
    by_order Less is more = more
    by_order Equal is more = absurd (differ.0 (sym (ties value other is)))
    by_order Greater is more = more

-- ---- the row

-- when a script takes a row more of its last table
pub record MayFollow (room : ℕ) (done : List TableDef) (table : TableDef) (stock : Stock) (row : List Value) : Type 0 where
  pub other : is_some (table_number done table.name) ≡ false
  pub typed : IsRowOf table.columns row
  pub key : HasKey table.key row
  pub few : length stock.rows < room
  pub own : key_there stock row ≡ false

pub record InsertTaken (bytes : List ℕ) (options : Options) (catalog : List TableDef) (before : List Stock) (stock : Stock) (row : List Value) (span : Span) (values : List Literal) : Type 0 where
  pub free : refusal_in bytes options (defining catalog (before ++ stock ∷ [])) (tree.Insert span values) ≡ None
  pub says : after bytes (defining catalog (before ++ stock ∷ [])) (tree.Insert span values) ≡ defining catalog (before ++ with_row stock row ∷ [])

all_three : (one two three : Option Code) → one ≡ None → two ≡ None → three ≡ None → first_of_two one (first_of_two two three) ≡ None
all_three one two three x y z = rw (x, y, z) refl

pub insert_taken : (bytes : List ℕ) (options : Options) (done : List TableDef) (table : TableDef) (before : List Stock) (stock : Stock) (row : List Value) (span : Span)
    (values : List Literal) → length before ≡ length done → slice_range bytes span.start span.end ≡ table.name → AreValues bytes 0 row values
    → MayFollow (options.chunks * options.rows) done table stock row → InsertTaken bytes options (done ++ table ∷ []) before stock row span values
insert_taken bytes options done table before stock row span values long is_name are may =
    let catalog : List TableDef = done ++ table ∷ [] in
    let stocks : List Stock = before ++ stock ∷ [] in
    let number : table_number catalog (text_of_span bytes span) ≡ Some (length done) =
    ap (table_number catalog) is_name ∙ table_at_end done table may.other in
    let same_row : map (literal_value bytes) values ≡ row = values_are bytes 0 row values are in
    let there : stock_at (table_number catalog (text_of_span bytes span)) stocks ≡ stock =
    ap (λ (number : Option ℕ). stock_at number stocks) number
    ∙ (ap (λ (n : ℕ). slice_index_or stocks n (no_rows None)) (sym long) ∙ get_or-append_seam before stock [] (no_rows None)) in
    let def : slice_get catalog (length done) ≡ Some table = got_at_end done table in
    let bound : bind_fault bytes catalog (tree.Insert span values) ≡ None =
    ap (λ (number : Option ℕ). fault_of_numbered bytes catalog (and_number number (Some [])) (tree.Insert span values)) number
    ∙ (ap (λ (def : Option TableDef). first_of (values_fault bytes (columns_in def) values) (key_fault (key_in def) values)) def
    ∙ (ap (λ (found : Option BindFault). first_of found (key_fault table.key values)) (values_free bytes 0 table.columns row values are may.typed)
    ∙ key_free bytes table.key row values are may.key)) in
    let full : nat_le (options.chunks * options.rows) (length (stock_at (table_number catalog (text_of_span bytes span)) stocks).rows) ≡ false =
    ap (λ (stock : Stock). nat_le (options.chunks * options.rows) (length stock.rows)) there
    ∙ has_room (options.chunks * options.rows) (length stock.rows) may.few in
    let twice : key_there (stock_at (table_number catalog (text_of_span bytes span)) stocks) (map (literal_value bytes) values) ≡ false =
    ap (λ (stock : Stock). key_there stock (map (literal_value bytes) values)) there ∙ (ap (key_there stock) same_row ∙ may.own) in
    record {
      free =
          all_three _ _ _ (ap (option_map code_of) bound) (ap (λ (so : Bool). code_if_so so code.Limit) full) (ap (λ (so : Bool). code_if_so so code.KeyTwice) twice);
      says =
          ap (λ (number : Option ℕ). defining catalog (slice_set stocks (option_map_or (λ number. number) number 0) (with_row (stock_at number stocks) (map (literal_value bytes) values)))) number
          ∙ (ap (λ (stock : Stock). defining catalog (slice_set stocks (length done) (with_row stock (map (literal_value bytes) values))))
          (sym (ap (λ (number : Option ℕ). stock_at number stocks) number) ∙ there)
          ∙ (ap (λ (row : List Value). defining catalog (slice_set stocks (length done) (with_row stock row))) same_row
          ∙ (ap (λ (n : ℕ). defining catalog (slice_set stocks n (with_row stock row))) (sym long)
          ∙ ap (defining catalog) (set-append_seam before stock [] (with_row stock row)))));
    }
  where
    has_room : (room n : ℕ) → n < room → nat_le room n ≡ false
    has_room room n few = grind arith
