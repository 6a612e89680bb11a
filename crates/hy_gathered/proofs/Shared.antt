-- Runs of rows in pieces, and shares of rows.
use Rattle.std.proofs.Common.{◌≡◌, ℕ, zero, suc, ◌+◌, ◌-◌, ◌*◌, ◌<◌, ◌≤◌, ◌^◌, List, [], ◌∷◌, ◌++◌, length, get_or, take, drop, refl, ap, sym, ◌∙◌, subst, arith}
use Rattle.std.specs.Prelude.{min, nat_lt}
use Rattle.std.proofs.Math.Nat.{suc-mul}
use Rattle.std.proofs.Math.Seq.{take-add}
use Rattle.std.proofs.lemmas.List.{append-nil, drop_all, drop-append-le, drop_min, drop-take, length-append, length-take, length-take-le, take_all, take_min, take_more}
use Rattle.hy_value.specs.declared.Value.{Value}
use Rattle.hy_plan.specs.Cells.{GatheredRows}
use Rattle.hy_meaning.specs.Statement.{Table}
use Rattle.hy_gathered.specs.Groups.{IsTallyOf, groups_by}
use Rattle.hy_gathered.specs.Pieces.{rows_in_pieces}
use Rattle.hy_gathered.specs.Shares.{run_of, share_begin, share_count, share_end, share_of, share_size}
use Rattle.hy_gathered.specs.Tally.{Tallied}
use Rattle.hy_gathered.specs.declared.tally.Grouping.{Grouping}
use Rattle.hy_gathered.proofs.Piled.{pieces_taken}

-- ---- runs of rows

-- behind other rows a run of none
pub run_none : (from : ℕ) (rows others : Table) → rows ++ run_of from from others ≡ rows
run_none from rows others =
    ap (λ (those : Table). rows ++ those) (drop_all from (take from others) (omega (arith, length-take from others))) ∙ append-nil rows

-- one row more
pub run_next : (rows : Table) (from to : ℕ) → from ≤ to → to < length rows → run_of from (to + 1) rows ≡ run_of from to rows ++ get_or rows to [] ∷ []
run_next rows from to order below =
    let some : length (take to rows) ≡ to = length-take-le to rows (omega (arith, below)) in
    ap (drop from) (take_more rows to [] below) ∙ drop-append-le from (take to rows) (get_or rows to [] ∷ []) (omega (arith, order, some))

-- the rows up to a run, and those of the run
pub run_behind : (rows : Table) (from to : ℕ) → from ≤ to → take from rows ++ run_of from to rows ≡ take to rows
run_behind rows from to order =
    let many : from + (to - from) ≡ to = omega (arith, order) in
    ap (λ (those : Table). take from rows ++ those) (ap (λ (n : ℕ). drop from (take n rows)) (sym many) ∙ drop-take from (to - from) rows)
    ∙ (sym (take-add from (to - from) rows) ∙ ap (λ (n : ℕ). take n rows) many)

take_both : (rows others : Table) (n past : ℕ) → past ≡ n - length rows → take n (rows ++ others) ≡ take n rows ++ take past others
take_both [] others zero past is = let e : zero ≡ past = omega (arith, is) in ap (λ (k : ℕ). take k others) e
take_both [] others (suc n) past is = let e : suc n ≡ past = omega (arith, is) in ap (λ (k : ℕ). take k others) e
take_both (row ∷ rows) others zero past is = let e : zero ≡ past = omega (arith, is) in ap (λ (k : ℕ). take k others) e
take_both (row ∷ rows) others (suc n) past is =
    let e : past ≡ n - length rows = omega (arith, is) in ap (λ (those : Table). row ∷ those) (take_both rows others n past e)

drop_both : (rows others : Table) (n past : ℕ) → past ≡ n - length rows → drop n (rows ++ others) ≡ drop n rows ++ drop past others
drop_both [] others zero past is = let e : zero ≡ past = omega (arith, is) in ap (λ (k : ℕ). drop k others) e
drop_both [] others (suc n) past is = let e : suc n ≡ past = omega (arith, is) in ap (λ (k : ℕ). drop k others) e
drop_both (row ∷ rows) others zero past is = let e : zero ≡ past = omega (arith, is) in ap (λ (k : ℕ). row ∷ (rows ++ drop k others)) e
drop_both (row ∷ rows) others (suc n) past is = let e : past ≡ n - length rows = omega (arith, is) in drop_both rows others n past e

same_drop : (rows : Table) (j k : ℕ) → min j (length rows) ≡ min k (length rows) → drop j rows ≡ drop k rows
same_drop rows j k alike = sym (drop_min j rows) ∙ (ap (λ (n : ℕ). drop n rows) alike ∙ drop_min k rows)

-- a run of some rows and of others behind them
pub run_of_both : (rows others : Table) (from to first last : ℕ) → from ≤ to → first ≡ min (from - length rows) (length others)
    → last ≡ min (to - length rows) (length others) → run_of from to (rows ++ others) ≡ run_of from to rows ++ run_of first last others
run_of_both rows others from to first last order begins ends =
    let past : ℕ = from - length (take to rows) in
    let taken : take (to - length rows) others ≡ take last others =
    sym (take_min (to - length rows) others) ∙ ap (λ (n : ℕ). take n others) (sym ends) in
    let front = length-take to rows in
    let back = length-take last others in
    ap (drop from) (take_both rows others to (to - length rows) refl ∙ ap (λ (those : Table). take to rows ++ those) taken)
    ∙ (drop_both (take to rows) (take last others) from past refl
    ∙ ap (λ (those : Table). run_of from to rows ++ those) (same_drop (take last others) past first (omega (arith, front, back, order, begins, ends))))

-- the run of the pieces so far and of one more
pub run_of_pieces : (pieces : List GatheredRows) (i : ℕ) (piece : GatheredRows) (from to first last : ℕ) → from ≤ to → i < length pieces
    → piece ≡ get_or pieces i piece → first ≡ min (from - length (rows_in_pieces (take i pieces))) (length piece.rows)
    → last ≡ min (to - length (rows_in_pieces (take i pieces))) (length piece.rows)
    → run_of from to (rows_in_pieces (take (i + 1) pieces)) ≡ run_of from to (rows_in_pieces (take i pieces)) ++ run_of first last piece.rows
run_of_pieces pieces i piece from to first last order below is begins ends =
    ap (run_of from to) (pieces_taken pieces i piece below is)
    ∙ run_of_both (rows_in_pieces (take i pieces)) piece.rows from to first last order begins ends

-- ---- shares

pub share_is_ordered : (rows number : ℕ) → share_begin rows number ≤ share_end rows number
share_is_ordered rows number = omega arith

-- a share begins where the one before ends
follows_by : (number size rows : ℕ) → min (min (number * size) rows + size) rows ≡ min ((number + 1) * size) rows
follows_by number size rows =
    let one : suc number ≡ number + 1 = omega arith in
    let more : (number + 1) * size ≡ number * size + size = subst (λ (k : ℕ). k * size ≡ number * size + size) one (suc-mul number size) in
    omega (arith, more)

pub share_follows : (rows number : ℕ) → share_end rows number ≡ share_begin rows (number + 1)
share_follows rows number = follows_by number (share_size rows) rows

-- the rows before a share, and those of the share
pub share_behind : (rows : Table) (number : ℕ)
    → take (share_begin (length rows) number) rows ++ share_of number rows ≡ take (share_begin (length rows) (number + 1)) rows
share_behind rows number =
    run_behind rows (share_begin (length rows) number) (share_end (length rows) number) (share_is_ordered (length rows) number)
    ∙ ap (λ (n : ℕ). take n rows) (share_follows (length rows) number)

-- as many as there are have all rows
pub shares_are_all : (rows : Table) → take (share_begin (length rows) 4) rows ≡ rows
shares_are_all rows = take_all (share_begin (length rows) 4) rows (omega arith)

-- ---- totals of shares

-- with those of the next share there is room for both
pub room_for_share : (grouping : Grouping) (rows : Table) (number : ℕ) (all tally : Tallied) → length rows < 2 ^ 64
    → IsTallyOf grouping (take (share_begin (length rows) number) rows) all → IsTallyOf grouping (share_of number rows) tally → all.rows + tally.rows < 2 ^ 64
room_for_share grouping rows number all tally few before this =
    let both = ap length (share_behind rows number) in
    let longer = length-append (take (share_begin (length rows) number) rows) (share_of number rows) in
    let taken = length-take (share_begin (length rows) (number + 1)) rows in
    let first = before.0 in
    let second = this.0 in
    omega (arith, both, longer, taken, first, second, few)

-- and those of the next share are added
pub share_added : (grouping : Grouping) (rows : Table) (number : ℕ) (all tally both : Tallied)
    → IsTallyOf grouping (take (share_begin (length rows) number) rows) all → IsTallyOf grouping (share_of number rows) tally
    → both.rows ≡ all.rows + tally.rows
    → ((by : Grouping) (those others : Table) → all.groups ≡ groups_by by those → tally.groups ≡ groups_by by others → both.groups ≡ groups_by by (those ++ others))
    → IsTallyOf grouping (take (share_begin (length rows) (number + 1)) rows) both
share_added grouping rows number all tally both before this count groups =
    let joined = share_behind rows number in
    let more = ap length joined in
    let longer = length-append (take (share_begin (length rows) number) rows) (share_of number rows) in
    let first = before.0 in
    let second = this.0 in (
      (omega (arith, more, longer, first, second, count)),
      groups grouping (take (share_begin (length rows) number) rows) (share_of number rows) before.1 this.1 ∙ ap (groups_by grouping) joined,
    )
