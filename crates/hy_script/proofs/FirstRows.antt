-- The first rows of a table, as far as they are read.
use Rattle.std.specs.Cmp.{IsTotalOrder}
use Rattle.std.specs.List.{All}
use Rattle.std.specs.Ordering.{is_eq, ordering_reverse}
use Rattle.std.specs.declared.cmp.Ordering.{Ordering}
use Rattle.std.specs.declared.cmp.Ordering.TheVariants.{Less, Equal, Greater}
use Rattle.std.proofs.Common.{◌≡◌, ◌≢◌, ℕ, ◌<◌, Bool, true, false, ◌||◌, List, [], ◌∷◌, ◌++◌, Option, Some, length, map, refl, sym, ap, ◌∙◌, subst, arith}
use Rattle.std.proofs.lemmas.Bool.{or_parts, false≢true}
use Rattle.std.proofs.lemmas.List.{get_or-map, length-map, length_push, map_push}
use Rattle.std.proofs.lemmas.List.Elements.{All-nil, All-cons, All-push, All-get_or}
use Rattle.std.proofs.lemmas.List.Folds.{list_any-append}
use Rattle.std.proofs.lemmas.List.Quantifiers.{all_pairs_push}
use Rattle.hy_value.specs.declared.Value.{Value}
use Rattle.hy_value.specs.declared.Value.TheVariants.{Null}
use Rattle.hy_value.specs.Order.{value_cmp}
use Rattle.hy_value.specs.Sorted.{is_one_of}
use Rattle.hy_value.specs.Distinct.{one_of_more}
use Rattle.hy_bound.specs.declared.Shape.{Shape}
use Rattle.hy_bound.specs.Fits.{HaveOwnKeys, FitsRows, FitsInsert}
use Rattle.hy_script.specs.declared.stocks.Stock.{Stock}
use Rattle.hy_script.specs.Definitions.{IsStock}
use Rattle.hy_script.specs.Stocks.{value_in, key_among, key_there, with_key, no_rows, with_row}

-- ---- values that differ

equal_itself : (order : Ordering) → order ≡ ordering_reverse order → is_eq order ≡ true
equal_itself Less h = absurd cc
equal_itself Equal h = refl
equal_itself Greater h = absurd cc

-- between a value and itself the order sees no difference
is_itself : IsTotalOrder value_cmp → (v : Value) → is_eq (value_cmp v v) ≡ true
is_itself total v = equal_itself (value_cmp v v) (total.antisymm v v)

differ : IsTotalOrder value_cmp → (v other : Value) → is_eq (value_cmp v other) ≡ false → other ≢ v
differ total v other h same = false≢true (sym h ∙ subst (λ (u : Value). is_eq (value_cmp v u) ≡ true) (sym same) (is_itself total v))

-- what is not among values differs from each
not_among : IsTotalOrder value_cmp → (others : List Value) (v : Value) → is_one_of others v ≡ false → All (λ other. other ≢ v) others
not_among total [] v h = All-nil (λ (other : Value). other ≢ v)
not_among total (other ∷ others) v h =
    let parts = or_parts (is_eq (value_cmp v other)) (is_one_of others v) h in
    All-cons (λ (u : Value). u ≢ v) other others (differ total v other parts.0) (not_among total others v parts.1)

-- ---- stocks

no_keys : (key : ℕ) → HaveOwnKeys key []
no_keys key = record { known = All-nil (λ (row : List Value). value_in row key ≢ Null); differ = λ i j d before within. absurd (omega (arith, within)) }

-- no rows
pub none_stocked : (room : ℕ) (shape : Shape) → IsStock room shape (no_rows shape.key)
none_stocked room shape = record {
  key = refl;
  rows = record { widths = All-nil (λ (row : List Value). length row ≡ shape.width); few = omega arith; keys = λ key _. no_keys key };
  keys = λ key is value. refl;
}

own_key : IsTotalOrder value_cmp → (rows : List (List Value)) (row : List Value) (key : ℕ) → is_one_of (map (λ r. value_in r key) rows) (value_in row key) ≡ false → HaveOwnKeys key rows → value_in row key ≢ Null
    → HaveOwnKeys key (rows ++ row ∷ [])
own_key total rows row key new have known = record {
  known = All-push (λ (r : List Value). value_in r key ≢ Null) rows row have.known known;
  differ =
      all_pairs_push (λ one other. value_in one key ≢ value_in other key) rows row have.differ (λ k d within.
      let keys = map (λ r. value_in r key) rows in
      let many = length-map rows (λ (r : List Value). value_in r key) in
      let apart = All-get_or (λ other. other ≢ value_in row key) keys k Null (omega (arith, within, many)) (not_among total keys (value_in row key) new) in
      λ same. apart (get_or-map (λ (r : List Value). value_in r key) rows k d Null within ∙ same));
}

or_last : (a b : Bool) → (a || b) ≡ (b || (a || false))
or_last true true = refl
or_last true false = refl
or_last false true = refl
or_last false false = refl

one_of_pushed : (values : List Value) (last value : Value) → (is_eq (value_cmp value last) || is_one_of values value) ≡ is_one_of (values ++ last ∷ []) value
one_of_pushed values last value =
    or_last (is_eq (value_cmp value last)) (is_one_of values value) ∙ sym (list_any-append (λ other. is_eq (value_cmp value other)) values (last ∷ []))

-- a row more, for which there is room and whose key no other has
pub row_stocked : IsTotalOrder value_cmp → (room : ℕ) (shape : Shape) (stock : Stock) (row : List Value) → length stock.rows < room → key_there stock row ≡ false → FitsInsert shape row → IsStock room shape stock
    → IsStock room shape (with_row stock row)
row_stocked total room shape stock row free new fits is =
    let many = length_push stock.rows row in
    record {
      key = is.key;
      rows = record {
        widths = All-push (λ (r : List Value). length r ≡ shape.width) stock.rows row is.rows.widths fits.width;
        few = omega (arith, free, many);
        keys = λ key has.
            let alone : key_among (Some key) stock.keys row ≡ false = subst (λ (k : Option ℕ). key_among k stock.keys row ≡ false) (is.key ∙ has) new in
            own_key total stock.rows row key (sym (is.keys key has (value_in row key)) ∙ alone) (is.rows.keys key has) (fits.known key has);
      };
      keys = λ key has value.
          ap (λ (k : Option ℕ). is_one_of (with_key k stock.keys row) value) (is.key ∙ has)
          ∙ (one_of_more stock.keys (value_in row key) value
          ∙ (ap (λ (b : Bool). is_eq (value_cmp value (value_in row key)) || b) (is.keys key has value)
          ∙ (one_of_pushed (map (λ (r : List Value). value_in r key) stock.rows) (value_in row key) value
          ∙ ap (λ (keys : List Value). is_one_of keys value) (sym (map_push (λ (r : List Value). value_in r key) stock.rows row)))));
    }
