-- What writes make of own writes, position by position.
use Rattle.std.proofs.Common.{◌≡◌, ℕ, zero, suc, List, [], ◌∷◌, ◌++◌, Option, None, Some, Bool, true, false, is_some}
use Rattle.std.proofs.Common.{length, map, get_or, replicate, refl, ap, sym, ◌∙◌, arith, inl, inr, ◌⊎◌}
use Rattle.std.proofs.Math.ListN.{set}
use Rattle.std.specs.Prelude.{filter}
use Rattle.std.specs.List.{AllByRecursion, list_any, range_with_len}
use Rattle.std.specs.Option.{option_or}
use Rattle.std.proofs.lemmas.List.{length-set, length-map}
use Rattle.hy_value.specs.declared.Value.{Value}
use Rattle.hy_machine.specs.declared.Setting.{Setting}
use Rattle.hy_machine.specs.Positions.{item_at}
use Rattle.hy_machine.specs.Tables.{Cell, Own, capacity, positions_in}
use Rattle.hy_machine.specs.Writes.{Write, blank_own, with_write, with_writes, has_written_in, chunks_in_table, chunks_from, written_chunks}
use Rattle.hy_machine.specs.Kept.{OwnFits}

-- ---- own writes with places for the same positions

abbrev pub SamePlaces : Own → Own → Type 0
SamePlaces [] [] = Unit {0}
SamePlaces [] (others ∷ other) = ⊥
SamePlaces (cells ∷ own) [] = ⊥
SamePlaces (cells ∷ own) (others ∷ other) = (length cells ≡ length others) × SamePlaces own other

pub same_places : (own : Own) → SamePlaces own own
same_places [] = tt
same_places (cells ∷ own) = (refl, same_places own)

places_swapped : (own other : Own) → SamePlaces own other → SamePlaces other own
places_swapped [] [] same = tt
places_swapped (cells ∷ own) (others ∷ other) same = (sym same.0, places_swapped own other same.1)
places_swapped [] (others ∷ other) same = same
places_swapped (cells ∷ own) [] same = same

put_places : (own other : Own) (table pos : ℕ) (cell : Cell) → SamePlaces own other
    → SamePlaces (set own table (set (get_or own table []) pos (Some cell))) other
put_places [] other table pos cell same = same
put_places (cells ∷ own) [] table pos cell same = absurd same
put_places (cells ∷ own) (others ∷ other) zero pos cell same = (length-set cells pos (Some cell) ∙ same.0, same.1)
put_places (cells ∷ own) (others ∷ other) (suc table) pos cell same = (same.0, put_places own other table pos cell same.1)

pub more_places : (own other : Own) (writes : List Write) → SamePlaces own other → SamePlaces (with_writes own writes) other
more_places own other [] same = same
more_places own other (write ∷ writes) same =
    more_places (with_write own write) other writes (put_places own other write.table write.pos write.cell same)

pub places_many : (own other : Own) → SamePlaces own other → length own ≡ length other
places_many [] [] same = refl
places_many [] (others ∷ other) same = absurd same
places_many (cells ∷ own) [] same = absurd same
places_many (cells ∷ own) (others ∷ other) same = ap suc (places_many own other same.1)

pub places_long : (own other : Own) → SamePlaces own other → (table : ℕ) → length (get_or own table []) ≡ length (get_or other table [])
places_long [] [] same table = refl
places_long [] (others ∷ other) same table = absurd same
places_long (cells ∷ own) [] same table = absurd same
places_long (cells ∷ own) (others ∷ other) same zero = same.0
places_long (cells ∷ own) (others ∷ other) same (suc table) = places_long own other same.1 table

fitting_lists : (n : ℕ) (own other : Own) → length own ≡ length other → AllByRecursion (λ cells. length cells ≡ n) own
    → AllByRecursion (λ cells. length cells ≡ n) other → SamePlaces own other
fitting_lists n [] [] long fits others = tt
fitting_lists n [] (cells ∷ other) long fits others = absurd (omega (arith, long))
fitting_lists n (cells ∷ own) [] long fits others = absurd (omega (arith, long))
fitting_lists n (cells ∷ own) (those ∷ other) long fits others =
    (fits.0 ∙ sym others.0, fitting_lists n own other (omega (arith, long)) fits.1 others.1)

-- own writes that have a place for each position of the tables
pub fitting_places : (setting : Setting) (own other : Own) → OwnFits setting own → OwnFits setting other → SamePlaces own other
fitting_places setting own other fits others =
    fitting_lists (capacity setting) own other (fits.tables ∙ sym others.tables) fits.positions others.positions

fitting_put : (n : ℕ) (own : Own) (table pos : ℕ) (cell : Cell) → AllByRecursion (λ cells. length cells ≡ n) own
    → AllByRecursion (λ cells. length cells ≡ n) (set own table (set (get_or own table []) pos (Some cell)))
fitting_put n [] table pos cell fits = fits
fitting_put n (cells ∷ own) zero pos cell fits = (length-set cells pos (Some cell) ∙ fits.0, fits.1)
fitting_put n (cells ∷ own) (suc table) pos cell fits = (fits.0, fitting_put n own table pos cell fits.1)

pub writes_fit : (setting : Setting) (own : Own) (writes : List Write) → OwnFits setting own → OwnFits setting (with_writes own writes)
writes_fit setting own [] fits = fits
writes_fit setting own (write ∷ writes) fits = writes_fit setting (with_write own write) writes (record {
  tables = length-set own write.table (set (get_or own write.table []) write.pos (Some write.cell)) ∙ fits.tables;
  positions = fitting_put (capacity setting) own write.table write.pos write.cell fits.positions;
})

-- ---- nothing is written

replicate_length : (n : ℕ) → length (replicate {A = Option Cell} n None) ≡ n
replicate_length zero = refl
replicate_length (suc n) = ap suc (replicate_length n)

blank_lists : (n : ℕ) (first : List (List (List Value))) → AllByRecursion (λ cells. length cells ≡ n) (map (λ rows. replicate {A = Option Cell} n None) first)
blank_lists n [] = tt
blank_lists n (rows ∷ first) = (replicate_length n, blank_lists n first)

pub blank_fits : (setting : Setting) → OwnFits setting (blank_own setting)
blank_fits setting = record {
  tables = length-map setting.first (λ rows. replicate {A = Option Cell} (capacity setting) None);
  positions = blank_lists (capacity setting) setting.first;
}

none_replicated : (n pos : ℕ) → get_or (replicate {A = Option Cell} n None) pos None ≡ None
none_replicated zero pos = refl
none_replicated (suc n) zero = refl
none_replicated (suc n) (suc pos) = none_replicated n pos

blank_cell : (n : ℕ) (first : List (List (List Value))) (table pos : ℕ)
    → item_at (map (λ rows. replicate {A = Option Cell} n None) first) table pos ≡ None
blank_cell n [] table pos = refl
blank_cell n (rows ∷ first) zero pos = none_replicated n pos
blank_cell n (rows ∷ first) (suc table) pos = blank_cell n first table pos

pub blank_at : (setting : Setting) (table pos : ℕ) → item_at (blank_own setting) table pos ≡ None
blank_at setting = blank_cell (capacity setting) setting.first

none_passes : (test : ℕ → Bool) → ((one : ℕ) → test one ≡ false) → (numbers : List ℕ) → filter test numbers ≡ []
none_passes test none [] = refl
none_passes test none (one ∷ numbers) = rw (none one) (none_passes test none numbers)

none_written_in : (setting : Setting) (positions : List ℕ)
    → list_any (λ pos. is_some (get_or (replicate {A = Option Cell} (capacity setting) None) pos None)) positions ≡ false
none_written_in setting [] = refl
none_written_in setting (pos ∷ positions) = rw (none_replicated (capacity setting) pos) (none_written_in setting positions)

blank_chunks : (setting : Setting) (table : ℕ) (first : List (List (List Value)))
    → chunks_from setting table (map (λ rows. replicate {A = Option Cell} (capacity setting) None) first) ≡ []
blank_chunks setting table [] = refl
blank_chunks setting table (rows ∷ first) =
    let cells : List (Option Cell) = replicate (capacity setting) None in
    ap (λ (chunks : List ℕ). map (λ chunk. (table, chunk)) chunks ++ chunks_from setting (suc table) (map (λ rows. cells) first))
    (none_passes (has_written_in setting cells) (λ chunk. none_written_in setting (positions_in setting chunk)) (range_with_len 0 setting.chunks))
    ∙ blank_chunks setting (suc table) first

pub blank_in_chunks : (setting : Setting) → written_chunks setting (blank_own setting) ≡ []
blank_in_chunks setting = blank_chunks setting 0 setting.first

-- ---- one write

-- of two lists of own cells, each is the cell that was put where it was put, or both are as they were
abbrev AlikePut : Cell → Option Cell → Option Cell → Option Cell → Option Cell → Type 0 → Type 0
AlikePut cell one later other later_other Here =
    (Here × ((later ≡ Some cell) × (later_other ≡ Some cell))) ⊎ ((later ≡ one) × (later_other ≡ other))

alike_sooner : (cell : Cell) (one later other later_other : Option Cell) (Here There : Type 0) → (Here → There)
    → AlikePut cell one later other later_other Here → AlikePut cell one later other later_other There
alike_sooner cell one later other later_other Here There so (inl put) = inl (so put.0, put.1)
alike_sooner cell one later other later_other Here There so (inr left) = inr left

put_cell : (cells others : List (Option Cell)) (at : ℕ) (cell : Cell) (pos : ℕ) → length cells ≡ length others
    → AlikePut cell (get_or cells pos None) (get_or (set cells at (Some cell)) pos None) (get_or others pos None)
    (get_or (set others at (Some cell)) pos None) (pos ≡ at)
put_cell [] [] at cell pos long = inr (refl, refl)
put_cell [] (other ∷ others) at cell pos long = absurd (omega (arith, long))
put_cell (one ∷ cells) [] at cell pos long = absurd (omega (arith, long))
put_cell (one ∷ cells) (other ∷ others) zero cell zero long = inl (refl, (refl, refl))
put_cell (one ∷ cells) (other ∷ others) zero cell (suc pos) long = inr (refl, refl)
put_cell (one ∷ cells) (other ∷ others) (suc at) cell zero long = inr (refl, refl)
put_cell (one ∷ cells) (other ∷ others) (suc at) cell (suc pos) long =
    alike_sooner cell (get_or cells pos None) (get_or (set cells at (Some cell)) pos None) (get_or others pos None)
    (get_or (set others at (Some cell)) pos None) (pos ≡ at) (suc pos ≡ suc at) (ap suc) (put_cell cells others at cell pos (omega (arith, long)))

abbrev own_put : Own → ℕ → ℕ → Cell → Own
own_put own written at cell = set own written (set (get_or own written []) at (Some cell))

put_place : (own other : Own) (written at : ℕ) (cell : Cell) (table pos : ℕ) → SamePlaces own other
    → AlikePut cell (item_at own table pos) (item_at (own_put own written at cell) table pos) (item_at other table pos)
    (item_at (own_put other written at cell) table pos) ((table ≡ written) × (pos ≡ at))
put_place [] [] written at cell table pos same = inr (refl, refl)
put_place [] (others ∷ other) written at cell table pos same = absurd same
put_place (cells ∷ own) [] written at cell table pos same = absurd same
put_place (cells ∷ own) (others ∷ other) zero at cell zero pos same =
    alike_sooner cell (get_or cells pos None) (get_or (set cells at (Some cell)) pos None) (get_or others pos None)
    (get_or (set others at (Some cell)) pos None) (pos ≡ at) ((zero ≡ zero) × (pos ≡ at)) (λ e. (refl, e)) (put_cell cells others at cell pos same.0)
put_place (cells ∷ own) (others ∷ other) zero at cell (suc table) pos same = inr (refl, refl)
put_place (cells ∷ own) (others ∷ other) (suc written) at cell zero pos same = inr (refl, refl)
put_place (cells ∷ own) (others ∷ other) (suc written) at cell (suc table) pos same =
    alike_sooner cell (item_at own table pos) (item_at (own_put own written at cell) table pos) (item_at other table pos)
    (item_at (own_put other written at cell) table pos) ((table ≡ written) × (pos ≡ at)) ((suc table ≡ suc written) × (pos ≡ at))
    (λ e. (ap suc e.0, e.1)) (put_place own other written at cell table pos same.1)

-- where another list has something a write leaves its cell
there_cell : (cells others : List (Option Cell)) (pos : ℕ) (cell : Cell) → length cells ≡ length others → is_some (get_or others pos None) ≡ true
    → get_or (set cells pos (Some cell)) pos None ≡ Some cell
there_cell cells [] pos cell long is = absurd cc
there_cell [] (other ∷ others) pos cell long is = absurd (omega (arith, long))
there_cell (one ∷ cells) (other ∷ others) zero cell long is = refl
there_cell (one ∷ cells) (other ∷ others) (suc pos) cell long is = there_cell cells others pos cell (omega (arith, long)) is

pub put_there : (own other : Own) (table pos : ℕ) (cell : Cell) → SamePlaces own other → is_some (item_at other table pos) ≡ true
    → item_at (own_put own table pos cell) table pos ≡ Some cell
put_there own [] table pos cell same is = absurd cc
put_there [] (others ∷ other) table pos cell same is = absurd same
put_there (cells ∷ own) (others ∷ other) zero pos cell same is = there_cell cells others pos cell same.0 is
put_there (cells ∷ own) (others ∷ other) (suc table) pos cell same is = put_there own other table pos cell same.1 is

put_elsewhere : (own : Own) (written at : ℕ) (cell : Cell) (table pos : ℕ) → ((table ≡ written) × (pos ≡ at) → ⊥)
    → item_at (own_put own written at cell) table pos ≡ item_at own table pos
put_elsewhere own written at cell table pos apart = elim (put_place own own written at cell table pos (same_places own)) [
  | inl put ↦ absurd (apart put.0)
  | inr left ↦ left.0
]

-- ---- writes, one after another

pub writes_joined : (own : Own) (writes others : List Write) → with_writes own (writes ++ others) ≡ with_writes (with_writes own writes) others
writes_joined own [] others = refl
writes_joined own (write ∷ writes) others = writes_joined (with_write own write) writes others

-- a write that isn't of a position leaves what stands there
abbrev pub IsApart : ℕ → ℕ → Write → Type 0
IsApart table pos write = (table ≡ write.table) × (pos ≡ write.pos) → ⊥

pub writes_leave : (own : Own) (writes : List Write) (table pos : ℕ) → AllByRecursion (IsApart table pos) writes
    → item_at (with_writes own writes) table pos ≡ item_at own table pos
writes_leave own [] table pos apart = refl
writes_leave own (write ∷ writes) table pos apart =
    writes_leave (with_write own write) writes table pos apart.1 ∙ put_elsewhere own write.table write.pos write.cell table pos apart.0

-- where own writes are what others lie over, they still are after the same writes
pub writes_laid : (own other : Own) (under : Option Cell) (writes : List Write) (table pos : ℕ) → SamePlaces own other
    → item_at own table pos ≡ option_or (item_at other table pos) under
    → item_at (with_writes own writes) table pos ≡ option_or (item_at (with_writes other writes) table pos) under
writes_laid own other under [] table pos same e = e
writes_laid own other under (write ∷ writes) table pos same e =
    writes_laid (with_write own write) (with_write other write) under writes table pos later
    (elim (put_place own other write.table write.pos write.cell table pos same) [
      | inl put ↦ put.1.0 ∙ sym (ap (λ (one : Option Cell). option_or one under) put.1.1)
      | inr left ↦ left.0 ∙ (e ∙ sym (ap (λ (one : Option Cell). option_or one under) left.1))
    ])
  where
    later : SamePlaces (with_write own write) (with_write other write)
    later = places_swapped (with_write other write) (with_write own write)
        (put_places other (with_write own write) write.table write.pos write.cell
        (places_swapped (with_write own write) other (put_places own other write.table write.pos write.cell same)))

-- each is a write of a position that is own
abbrev pub IsOfOwn : Own → Write → Type 0
IsOfOwn own write = is_some (item_at own write.table write.pos) ≡ true

own_put_again : (own : Own) (write : Write) (table pos : ℕ) → IsOfOwn own write
    → is_some (item_at (with_write own write) table pos) ≡ is_some (item_at own table pos)
own_put_again own write table pos of_own = elim (put_place own own write.table write.pos write.cell table pos (same_places own)) [
  | inl put ↦ ap is_some put.1.0
      ∙ sym (ap (λ (n : ℕ). is_some (item_at own n pos)) put.0.0 ∙ (ap (λ (n : ℕ). is_some (item_at own write.table n)) put.0.1 ∙ of_own))
  | inr left ↦ ap is_some left.0
]

all_still_own : (own : Own) (write : Write) (writes : List Write) → IsOfOwn own write → AllByRecursion (IsOfOwn own) writes
    → AllByRecursion (IsOfOwn (with_write own write)) writes
all_still_own own write [] of_own all = tt
all_still_own own write (other ∷ writes) of_own all =
    (own_put_again own write other.table other.pos of_own ∙ all.0, all_still_own own write writes of_own all.1)

-- such writes make no other position own
pub writes_again : (own : Own) (writes : List Write) (table pos : ℕ) → AllByRecursion (IsOfOwn own) writes
    → is_some (item_at (with_writes own writes) table pos) ≡ is_some (item_at own table pos)
writes_again own [] table pos all = refl
writes_again own (write ∷ writes) table pos all =
    writes_again (with_write own write) writes table pos (all_still_own own write writes all.0 all.1)
    ∙ own_put_again own write table pos all.0

-- ---- chunks

-- where the same positions are own the same chunks were written
chunks_alike : (setting : Setting) (first : ℕ) (own other : Own) → length own ≡ length other
    → ((table pos : ℕ) → is_some (item_at own table pos) ≡ is_some (item_at other table pos))
    → chunks_from setting first own ≡ chunks_from setting first other
chunks_alike setting first [] [] long alike = refl
chunks_alike setting first [] (others ∷ other) long alike = absurd (omega (arith, long))
chunks_alike setting first (cells ∷ own) [] long alike = absurd (omega (arith, long))
chunks_alike setting first (cells ∷ own) (others ∷ other) long alike =
    ap (λ (chunks : List (ℕ × ℕ)). chunks ++ chunks_from setting (suc first) own) here
    ∙ ap (λ (chunks : List (ℕ × ℕ)). chunks_in_table setting first others ++ chunks)
    (chunks_alike setting (suc first) own other (omega (arith, long)) (λ table pos. alike (suc table) pos))
  where
    here : chunks_in_table setting first cells ≡ chunks_in_table setting first others
    here = λ i. map (λ (chunk : ℕ). (first, chunk))
        (filter (λ (chunk : ℕ). list_any (λ (pos : ℕ). alike 0 pos i) (positions_in setting chunk)) (range_with_len 0 setting.chunks))

pub same_chunks : (setting : Setting) (own other : Own) → length own ≡ length other
    → ((table pos : ℕ) → is_some (item_at own table pos) ≡ is_some (item_at other table pos))
    → written_chunks setting own ≡ written_chunks setting other
same_chunks setting own other long alike = chunks_alike setting 0 own other long alike
