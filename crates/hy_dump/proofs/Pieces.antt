-- Texts that are put together piece by piece.
use Rattle.std.proofs.Common.{◌≡◌, ℕ, suc, ◌+◌, ◌<◌, List, [], ◌∷◌, ◌++◌, length, drop, take, get_or, add-one, refl, ap, sym, ◌∙◌, subst, append_assoc}
use Rattle.std.specs.List.{flat_map}
use Rattle.std.proofs.lemmas.List.{drop_more, flat_map_more, take_more}
use Rattle.hy_value.specs.declared.Value.{Value}
use Rattle.hy_value.specs.Print.{printed}
use Rattle.hy_schema.specs.declared.TableDef.{TableDef}
use Rattle.hy_dump.specs.Dump.{comma_before, create_line, dump_from, insert_line, rows_at, values_text}

-- two pieces behind a text, one after the other
pub two_put : (out first second one two : List ℕ) → one ≡ out ++ first → two ≡ one ++ second → two ≡ out ++ (first ++ second)
two_put out first second one two e f = f ∙ (ap (λ (l : List ℕ). l ++ second) e ∙ append_assoc out first second)

-- a piece that is spelled so
pub spelled_put : (out found name one : List ℕ) → one ≡ out ++ found → found ≡ name → one ≡ out ++ name
spelled_put out found name one put is = put ∙ ap (λ (l : List ℕ). out ++ l) is

-- a text of a list from a number on, once the item of that number was put
pub item_put : {X : Type 0} (from : ℕ → List X → List ℕ) (item : List ℕ) (out before after : List ℕ) (all : List X) (number : ℕ) (x : X)
    → number < length all → x ≡ get_or all number x → from number (x ∷ drop (number + 1) all) ≡ item ++ from (suc number) (drop (number + 1) all)
    → before ++ from number (drop number all) ≡ out → after ≡ before ++ item → after ++ from (number + 1) (drop (number + 1) all) ≡ out
item_put {X = X} from item out before after all number x below is one so put =
    let rest : List ℕ = from (suc number) (drop (number + 1) all) in
    let next : drop number all ≡ x ∷ drop (number + 1) all
    = drop_more all number x below ∙ ap (λ (v : X). v ∷ drop (number + 1) all) (sym is) in
    let whole : after ++ rest ≡ before ++ (item ++ rest) = ap (λ (l : List ℕ). l ++ rest) put ∙ append_assoc before item rest in
    let left : before ++ (item ++ rest) ≡ before ++ from number (drop number all)
    = ap (λ (l : List ℕ). before ++ l) (sym one ∙ ap (from number) (sym next)) in
    subst (λ (n : ℕ). after ++ from n (drop (number + 1) all) ≡ out) (sym (add-one number)) (whole ∙ (left ∙ so))

-- the next value of a row
pub value_put : (out before comma after : List ℕ) (row : List Value) (number : ℕ) (value : Value) → number < length row → value ≡ get_or row number value
    → before ++ values_text number (drop number row) ≡ out → comma ≡ before ++ comma_before number → after ≡ comma ++ printed value
    → after ++ values_text (number + 1) (drop (number + 1) row) ≡ out
value_put out before comma after row number value below is so e f =
    item_put values_text (comma_before number ++ printed value) out before after row number value below is
    refl so
    (two_put before (comma_before number) (printed value) comma after e f)

-- the next table with its rows
pub table_put : (tables : List (List (List Value))) (out before made after : List ℕ) (defined : List TableDef) (number : ℕ) (table : TableDef)
    → number < length defined → table ≡ get_or defined number table → before ++ dump_from tables number (drop number defined) ≡ out
    → made ≡ before ++ create_line table → after ≡ made ++ flat_map (insert_line table.name) (rows_at tables number)
    → after ++ dump_from tables (number + 1) (drop (number + 1) defined) ≡ out
table_put tables out before made after defined number table below is so e f =
    item_put (dump_from tables) (create_line table ++ flat_map (insert_line table.name) (rows_at tables number)) out before after defined number table below is
    refl so (two_put before (create_line table) (flat_map (insert_line table.name) (rows_at tables number)) made after e f)

-- the line of the next row
pub row_put : (name out before after : List ℕ) (rows : List (List Value)) (number : ℕ) (row : List Value) → number < length rows → row ≡ get_or rows number row
    → before ≡ out ++ flat_map (insert_line name) (take number rows) → after ≡ before ++ insert_line name row
    → after ≡ out ++ flat_map (insert_line name) (take (number + 1) rows)
row_put name out before after rows number row below is so put =
    let more : take (number + 1) rows ≡ take number rows ++ row ∷ []
    = take_more rows number row below ∙ ap (λ (r : List Value). take number rows ++ r ∷ []) (sym is) in
    put ∙ (ap (λ (l : List ℕ). l ++ insert_line name row) so
    ∙ (flat_map_more (insert_line name) out (take number rows) row
    ∙ ap (λ (those : List (List Value)). out ++ flat_map (insert_line name) those) (sym more)))
