-- Rows in pieces, one piece after another.
use Rattle.std.proofs.Common.{◌≡◌, ℕ, ◌+◌, ◌-◌, ◌<◌, ◌≤◌, List, [], ◌∷◌, ◌++◌, length, get_or, take, drop, ap, sym, ◌∙◌, arith}
use Rattle.std.proofs.lemmas.List.{at_drop_more, drop_all, flat_map_more, get_or_append_left, get_or-append_right, length-append, take-append-drop, take_more}
use Rattle.std.proofs.lemmas.Grind.{flat_map-append}
use Rattle.hy_value.specs.declared.Value.{Value}
use Rattle.hy_plan.specs.Cells.{GatheredRows}
use Rattle.hy_meaning.specs.Statement.{Table}
use Rattle.hy_gathered.specs.Pieces.{rows_in_pieces}

-- one piece more
pub pieces_more : (pieces : List GatheredRows) (piece : GatheredRows) → rows_in_pieces (pieces ++ piece ∷ []) ≡ rows_in_pieces pieces ++ piece.rows
pieces_more pieces piece = sym (flat_map_more (λ (p : GatheredRows). p.rows) [] pieces piece)

-- the pieces so far and one more
pub pieces_taken : (pieces : List GatheredRows) (i : ℕ) (piece : GatheredRows) → i < length pieces → piece ≡ get_or pieces i piece
    → rows_in_pieces (take (i + 1) pieces) ≡ rows_in_pieces (take i pieces) ++ piece.rows
pieces_taken pieces i piece h is =
    ap rows_in_pieces (take_more pieces i piece h)
    ∙ (pieces_more (take i pieces) (get_or pieces i piece) ∙ ap (λ (p : GatheredRows). rows_in_pieces (take i pieces) ++ p.rows) (sym is))

-- the pieces from one on
pub pieces_at : (pieces : List GatheredRows) (i : ℕ) (piece : GatheredRows) → i < length pieces → piece ≡ get_or pieces i piece
    → rows_in_pieces (drop i pieces) ≡ piece.rows ++ rows_in_pieces (drop (i + 1) pieces)
pieces_at pieces i piece h is =
    at_drop_more rows_in_pieces pieces i piece h ∙ ap (λ (p : GatheredRows). p.rows ++ rows_in_pieces (drop (i + 1) pieces)) (sym is)

-- the pieces so far and one more have no more rows than all
pub pieces_few : (pieces : List GatheredRows) (i : ℕ) (piece : GatheredRows) → i < length pieces → piece ≡ get_or pieces i piece
    → length (rows_in_pieces (take i pieces)) + length piece.rows ≤ length (rows_in_pieces pieces)
pieces_few pieces i piece h is =
    let taken : Table = rows_in_pieces (take i pieces) in
    let others : Table = rows_in_pieces (drop (i + 1) pieces) in
    let all = ap (λ (those : List GatheredRows). length (rows_in_pieces those)) (sym (take-append-drop i pieces))
    ∙ (ap length (flat_map-append (λ (p : GatheredRows). p.rows) (take i pieces) (drop i pieces))
    ∙ (length-append taken (rows_in_pieces (drop i pieces)) ∙ ap (λ (rows : Table). length taken + length rows) (pieces_at pieces i piece h is))) in
    let rest = length-append piece.rows others in
    omega (arith, all, rest)

-- a row that is sought stands in this piece
pub in_this_piece : (pieces : List GatheredRows) (i left : ℕ) (piece : GatheredRows) (row : List Value) → i < length pieces → piece ≡ get_or pieces i piece
    → left < length piece.rows → get_or (rows_in_pieces (drop i pieces)) left [] ≡ row → get_or piece.rows left [] ≡ row
in_this_piece pieces i left piece row h is low sought =
    sym (get_or_append_left piece.rows (rows_in_pieces (drop (i + 1) pieces)) [] left low)
    ∙ (ap (λ (rows : Table). get_or rows left []) (sym (pieces_at pieces i piece h is)) ∙ sought)

-- or in those behind it
pub in_later_pieces : (pieces : List GatheredRows) (i left many : ℕ) (piece : GatheredRows) (row : List Value) → i < length pieces
    → piece ≡ get_or pieces i piece → many ≡ length piece.rows → many ≤ left → get_or (rows_in_pieces (drop i pieces)) left [] ≡ row
    → get_or (rows_in_pieces (drop (i + 1) pieces)) (left - many) [] ≡ row
in_later_pieces pieces i left many piece row h is count high sought =
    sym (get_or-append_right piece.rows (rows_in_pieces (drop (i + 1) pieces)) many left [] (sym count) high)
    ∙ (ap (λ (rows : Table). get_or rows left []) (sym (pieces_at pieces i piece h is)) ∙ sought)

pub fewer_left : (pieces : List GatheredRows) (i left many : ℕ) (piece : GatheredRows) → i < length pieces → piece ≡ get_or pieces i piece
    → many ≡ length piece.rows → many ≤ left → left < length (rows_in_pieces (drop i pieces)) → left - many < length (rows_in_pieces (drop (i + 1) pieces))
fewer_left pieces i left many piece h is count high low =
    let rest : Table = rows_in_pieces (drop (i + 1) pieces) in
    let all : length (rows_in_pieces (drop i pieces)) ≡ length (piece.rows ++ rest) = ap length (pieces_at pieces i piece h is) in
    let each : length (piece.rows ++ rest) ≡ length piece.rows + length rest = length-append piece.rows rest in
    omega (arith, all, each)

-- behind the last piece there is none
pub none_left : (pieces : List GatheredRows) (i left : ℕ) → length pieces ≤ i → left < length (rows_in_pieces (drop i pieces)) → ⊥
none_left pieces i left h low =
    let none = ap (λ (those : List GatheredRows). length (rows_in_pieces those)) (drop_all i pieces h) in
    omega (arith, none)
