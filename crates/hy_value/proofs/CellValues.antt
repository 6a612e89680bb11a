-- Values of cells as cells and texts come.
use Rattle.std.proofs.Common.{◌≡◌, ℕ, ◌<◌, ◌≤◌, List, [], ◌∷◌, ◌++◌, length, get_or, refl, ap, arith}
use Rattle.std.proofs.lemmas.Grind.{common_steps}
use Rattle.std.proofs.lemmas.List.{map-append}
use Rattle.std.proofs.lemmas.List.Elements.{All-weaker, All-head, All-tail, All-push}
use Rattle.hy_value.specs.declared.Value.{Value}
use Rattle.hy_value.specs.declared.Value.TheVariants as value
use Rattle.hy_value.specs.declared.cells.Cell.{Cell}
use Rattle.hy_value.specs.declared.cells.Cell.TheVariants.{Null, Int, Text}
use Rattle.hy_value.specs.Cells.{cell_value, values_of, IsWithin, Within}

within_more : (m n : ℕ) → m ≤ n → (c : Cell) → IsWithin m c → IsWithin n c
within_more m n h Null w = tt
within_more m n h (Int k) w = tt
within_more m n h (Text k) w = omega arith

-- more texts leave the cells within
within_longer : (texts more : List (List ℕ)) (cells : List Cell) → length texts ≤ length more → Within texts cells → Within more cells
within_longer texts more cells h w = All-weaker (IsWithin (length texts)) (IsWithin (length more)) (within_more (length texts) (length more) h) cells w

-- a cell that comes
pub within_push : (texts : List (List ℕ)) (cells : List Cell) (c : Cell) → IsWithin (length texts) c → Within texts cells → Within texts (cells ++ c ∷ [])
within_push texts cells c w s = All-push (IsWithin (length texts)) cells c s w

-- a text that comes with its cell
pub within_push_text : (texts : List (List ℕ)) (t : List ℕ) (cells : List Cell) (n : ℕ) → n ≡ length texts → Within texts cells → Within (texts ++ t ∷ []) (cells ++ Text n ∷ [])
within_push_text texts t cells n e s =
    let more : length texts < length (texts ++ t ∷ []) = grind (arith, common_steps) in
    rw e (within_push (texts ++ t ∷ []) cells (Text (length texts)) more (within_longer texts (texts ++ t ∷ []) cells (omega arith) s))

cons_same : {x y : Value} {xs ys : List Value} → x ≡ y → xs ≡ ys → x ∷ xs ≡ y ∷ ys
cons_same e f = cc

-- a text that comes changes no value
value_longer : (texts : List (List ℕ)) (t : List ℕ) (c : Cell) → IsWithin (length texts) c → cell_value (texts ++ t ∷ []) c ≡ cell_value texts c
value_longer texts t Null w = refl
value_longer texts t (Int n) w = refl
value_longer texts t (Text k) w = ap value.Text (grind (arith, common_steps))

values_longer : (texts : List (List ℕ)) (t : List ℕ) (cells : List Cell) → Within texts cells → values_of (texts ++ t ∷ []) cells ≡ values_of texts cells
values_longer texts t [] w = refl
values_longer texts t (c ∷ cells) w =
    cons_same (value_longer texts t c (All-head (IsWithin (length texts)) c cells w)) (values_longer texts t cells (All-tail (IsWithin (length texts)) c cells w))

-- the last text of a list
last_text : (texts : List (List ℕ)) (t : List ℕ) → get_or (texts ++ t ∷ []) (length texts) [] ≡ t
last_text texts t = grind (arith, common_steps)

pub values_push : (texts : List (List ℕ)) (cells : List Cell) (c : Cell) → values_of texts (cells ++ c ∷ []) ≡ values_of texts cells ++ cell_value texts c ∷ []
values_push texts cells c = map-append (cell_value texts) cells (c ∷ [])

pub values_push_text : (texts : List (List ℕ)) (t : List ℕ) (cells : List Cell) (n : ℕ) → n ≡ length texts → Within texts cells → values_of (texts ++ t ∷ []) (cells ++ Text n ∷ []) ≡ values_of texts cells ++ value.Text t ∷ []
values_push_text texts t cells n e s =
    rw (e, values_push (texts ++ t ∷ []) cells (Text (length texts)), values_longer texts t cells s, last_text texts t) refl
