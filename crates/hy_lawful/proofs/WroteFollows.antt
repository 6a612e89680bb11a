-- What own writes hold at a position after a sweep of an UPDATE or a DELETE.
use Rattle.std.proofs.Common.{◌≡◌, ℕ, zero, suc, ◌+◌, ◌<◌, ◌≤◌, List, [], ◌∷◌, ◌++◌, Option, None, Some, Result, Ok}
use Rattle.std.proofs.Common.{get_or, refl, ap, sym, ◌∙◌, subst, arith, inl, inr}
use Rattle.std.proofs.Math.ListN.{set}
use Rattle.std.specs.List.{range_with_len}
use Rattle.std.proofs.lemmas.Bool.{cases_lt}
use Rattle.hy_bound.specs.declared.Ending.{Ending}
use Rattle.hy_machine.specs.Writes.{Write, with_write, with_writes}
use Rattle.hy_machine.specs.Positions.{item_at}
use Rattle.hy_machine.specs.Tables.{Cell, Own}
use Rattle.hy_machine.specs.Visits.{write_of, sweep}
use Rattle.hy_replay.specs.Ran.{one}
use Rattle.hy_lawful.specs.Written.{writes}
use Rattle.hy_lawful.proofs.RunSweeps.{AndWritten, and_written, write_apart}

-- ---- a position that own writes have

abbrev pub RoomIn : List (Option Cell) → ℕ → Type 0
RoomIn [] pos = ⊥
RoomIn (item ∷ items) zero = Unit {0}
RoomIn (item ∷ items) (suc pos) = RoomIn items pos

abbrev pub Room : Own → ℕ → ℕ → Type 0
Room [] table pos = ⊥
Room (items ∷ own) zero pos = RoomIn items pos
Room (items ∷ own) (suc table) pos = Room own table pos

set_room : (items : List (Option Cell)) (at : ℕ) (item : Option Cell) (pos : ℕ) → RoomIn items pos → RoomIn (set items at item) pos
set_room [] at item pos h = absurd h
set_room (one ∷ items) zero item zero h = tt
set_room (one ∷ items) zero item (suc pos) h = h
set_room (one ∷ items) (suc at) item zero h = tt
set_room (one ∷ items) (suc at) item (suc pos) h = set_room items at item pos h

put_room : (own : Own) (written at : ℕ) (cell : Cell) (table pos : ℕ) → Room own table pos
    → Room (set own written (set (get_or own written []) at (Some cell))) table pos
put_room [] written at cell table pos h = absurd h
put_room (items ∷ own) zero at cell zero pos h = set_room items at (Some cell) pos h
put_room (items ∷ own) zero at cell (suc table) pos h = h
put_room (items ∷ own) (suc written) at cell zero pos h = h
put_room (items ∷ own) (suc written) at cell (suc table) pos h = put_room own written at cell table pos h

pub writes_room : (own : Own) (writes : List Write) (table pos : ℕ) → Room own table pos → Room (with_writes own writes) table pos
writes_room own [] table pos h = h
writes_room own (write ∷ writes) table pos h =
    writes_room (with_write own write) writes table pos (put_room own write.table write.pos write.cell table pos h)

set_here : (items : List (Option Cell)) (item : Option Cell) (pos : ℕ) → RoomIn items pos → get_or (set items pos item) pos None ≡ item
set_here [] item pos h = absurd h
set_here (one ∷ items) item zero h = refl
set_here (one ∷ items) item (suc pos) h = set_here items item pos h

-- what is written at a position stands there
pub put_here : (own : Own) (cell : Cell) (table pos : ℕ) → Room own table pos
    → item_at (set own table (set (get_or own table []) pos (Some cell))) table pos ≡ Some cell
put_here [] cell table pos h = absurd h
put_here (items ∷ own) cell zero pos h = set_here items (Some cell) pos h
put_here (items ∷ own) cell (suc table) pos h = put_here own cell table pos h

pub put_other : (own : Own) (written at : ℕ) (cell : Cell) (table pos : ℕ) → (written ≡ table → ⊥)
    → item_at (set own written (set (get_or own written []) at (Some cell))) table pos ≡ item_at own table pos
put_other [] written at cell table pos n = refl
put_other (items ∷ own) zero at cell zero pos n = absurd (n refl)
put_other (items ∷ own) zero at cell (suc table) pos n = refl
put_other (items ∷ own) (suc written) at cell zero pos n = refl
put_other (items ∷ own) (suc written) at cell (suc table) pos n = put_other own written at cell table pos (λ e. n (ap suc e))

-- ---- sweeps

pub sweep_other : (of : ℕ) (judge : ℕ → Result (Option Cell) Ending) (first many : ℕ) (writes : List Write) (own : Own) (table pos : ℕ)
    → sweep of judge (range_with_len first many) ≡ Ok writes → (of ≡ table → ⊥) → item_at (with_writes own writes) table pos ≡ item_at own table pos
sweep_other of judge first zero writes own table pos e n =
    ap (λ (all : List Write). item_at (with_writes own all) table pos) (let same : writes ≡ [] = cc in same)
sweep_other of judge first (suc many) writes own table pos e n =
    let here : AndWritten of first (judge first) (sweep of judge (range_with_len (first + 1) many)) writes =
    and_written of first (judge first) (sweep of judge (range_with_len (first + 1) many)) writes e in
    ap (λ (all : List Write). item_at (with_writes own all) table pos) (sym here.both) ∙ by_cell here.cell here.others
    (λ start. sweep_other of judge (first + 1) many here.others start table pos here.there n)
  where
    by_cell : (cell : Option Cell) (others : List Write) → ((start : Own) → item_at (with_writes start others) table pos ≡ item_at start table pos)
        → item_at (with_writes own (write_of of first cell ++ others)) table pos ≡ item_at own table pos
    by_cell None others f = f own
    by_cell (Some cell) others f = f _ ∙ put_other own of first cell table pos n

pub sweep_above : (of : ℕ) (judge : ℕ → Result (Option Cell) Ending) (first many : ℕ) (writes : List Write) (own : Own) (table pos : ℕ)
    → sweep of judge (range_with_len first many) ≡ Ok writes → pos < first → item_at (with_writes own writes) table pos ≡ item_at own table pos
sweep_above of judge first zero writes own table pos e below =
    ap (λ (all : List Write). item_at (with_writes own all) table pos) (let same : writes ≡ [] = cc in same)
sweep_above of judge first (suc many) writes own table pos e below =
    let here : AndWritten of first (judge first) (sweep of judge (range_with_len (first + 1) many)) writes =
    and_written of first (judge first) (sweep of judge (range_with_len (first + 1) many)) writes e in
    ap (λ (all : List Write). item_at (with_writes own all) table pos) (sym here.both) ∙ by_cell here.cell here.others
    (λ start. sweep_above of judge (first + 1) many here.others start table pos here.there (omega arith))
  where
    by_cell : (cell : Option Cell) (others : List Write) → ((start : Own) → item_at (with_writes start others) table pos ≡ item_at start table pos)
        → item_at (with_writes own (write_of of first cell ++ others)) table pos ≡ item_at own table pos
    by_cell None others f = f own
    by_cell (Some cell) others f = f _ ∙ write_apart own of first cell table pos (λ e. absurd (omega (arith, below, e)))

-- what a position holds after a verdict on it
abbrev pub laid : Option Cell → Option Cell → Option Cell
laid None item = item
laid (Some cell) item = Some cell

pub record SweptAt (judged : Result (Option Cell) Ending) (before after : Option Cell) : Type 0 where
  pub cell : Option Cell
  pub here : judged ≡ Ok cell
  pub item : after ≡ laid cell before

pub sweep_at : (table : ℕ) (judge : ℕ → Result (Option Cell) Ending) (first many : ℕ) (writes : List Write) (own : Own) (pos : ℕ)
    → sweep table judge (range_with_len first many) ≡ Ok writes → Room own table pos → first ≤ pos → pos < first + many
    → SweptAt (judge pos) (item_at own table pos) (item_at (with_writes own writes) table pos)
sweep_at table judge first zero writes own pos e room from below = absurd (omega arith)
sweep_at table judge first (suc many) writes own pos e room from below =
    let here : AndWritten table first (judge first) (sweep table judge (range_with_len (first + 1) many)) writes =
    and_written table first (judge first) (sweep table judge (range_with_len (first + 1) many)) writes e in
    subst (λ (all : List Write). SweptAt (judge pos) (item_at own table pos) (item_at (with_writes own all) table pos)) here.both
    (elim (cases_lt first pos) [
      | inl above ↦ by_cell above here.cell here.others
          (λ start there. sweep_at table judge (first + 1) many here.others start pos here.there there (omega arith) (omega arith))
      | inr there ↦ at_first (let same : first ≡ pos = omega arith in same) here.cell here.here here.others
          (λ start. sweep_above table judge (first + 1) many here.others start table pos here.there (omega arith))
    ])
  where
    by_cell : first < pos → (cell : Option Cell) (others : List Write)
        → ((start : Own) → Room start table pos → SweptAt (judge pos) (item_at start table pos) (item_at (with_writes start others) table pos))
        → SweptAt (judge pos) (item_at own table pos) (item_at (with_writes own (write_of table first cell ++ others)) table pos)
    by_cell above None others f = f own room
    by_cell above (Some cell) others f =
        let start : Own = with_write own (record { table = table; pos = first; cell = cell }) in
        subst (λ (item : Option Cell). SweptAt (judge pos) item (item_at (with_writes start others) table pos))
        (write_apart own table first cell table pos (λ e. absurd (omega (arith, above, e))))
        (f start (put_room own table first cell table pos room))

    at_first : first ≡ pos → (cell : Option Cell) → judge first ≡ Ok cell → (others : List Write)
        → ((start : Own) → item_at (with_writes start others) table pos ≡ item_at start table pos)
        → SweptAt (judge pos) (item_at own table pos) (item_at (with_writes own (write_of table first cell ++ others)) table pos)
    at_first same None j others f = record { cell = None; here = ap judge (sym same) ∙ j; item = f own }
    at_first same (Some cell) j others f = record {
      cell = Some cell;
      here = ap judge (sym same) ∙ j;
      item = f _ ∙ (ap (λ (n : ℕ). item_at (set own table (set (get_or own table []) n (Some cell))) table pos) same ∙ put_here own cell table pos room);
    }
