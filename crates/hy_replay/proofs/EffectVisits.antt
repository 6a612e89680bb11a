-- Visits of positions one after another come to what all of them come to at once.
use Rattle.std.proofs.Common.{◌≡◌, ℕ, zero, suc, ◌+◌, ◌*◌, ◌<◌, ◌≤◌, List, [], ◌∷◌, ◌++◌, Option, None, Some, Result}
use Rattle.std.proofs.Common.{Ok, Err, length, refl, ap, sym, ◌∙◌, arith}
use Rattle.std.specs.List.{AllByRecursion, range_with_len}
use Rattle.std.proofs.lemmas.List.{length-append}
use Rattle.hy_bound.specs.declared.Record.{Record}
use Rattle.hy_bound.specs.declared.WriteKind.{WriteKind}
use Rattle.hy_bound.specs.declared.WriteKind.TheVariants as kind
use Rattle.hy_bound.specs.Condition.{Condition}
use Rattle.hy_plan.specs.Reads.{records_of}
use Rattle.hy_bound.specs.declared.Ending.{Ending}
use Rattle.hy_machine.specs.declared.Setting.{Setting}
use Rattle.hy_machine.specs.Writes.{Write, with_writes}
use Rattle.hy_machine.specs.Positions.{item_at}
use Rattle.hy_machine.specs.Tables.{Cell, Tables, Own, capacity, over, positions_in}
use Rattle.hy_protocol.specs.Statements.{told_by}
use Rattle.hy_machine.specs.Visits.{verdict, sweep}
use Rattle.hy_replay.specs.Ran.{changed_by, writes_at}
use Rattle.hy_replay.specs.EffectUnseen.{change_of}
use Rattle.hy_replay.specs.EffectVisits.{Visited, visited_by, visit, then_visit, by_chunks, answered_by, VisitsAddUp, ChunksAddUp, ChangesByChunks}
use Rattle.hy_machine.specs.OwnCells.{writes_joined}
use Rattle.hy_replay.proofs.EffectSweeps.{alike_over, writes_apart, range_joined, both_written, sweep_joined}
use Rattle.hy_replay.proofs.EffectSweeps.{sweep_alike, AreBelow, sweep_below}

-- what stands so after writes
abbrev wrote : Visited → List Write → Visited
wrote before writes = record { own = with_writes before.own writes; count = before.count + length writes }

counted : (count : ℕ) (writes others : List Write) → count + length (writes ++ others) ≡ count + length writes + length others
counted count writes others = omega (arith, length-append writes others)

both_visited : (before : Visited) (writes : List Write) (others : Result (List Write) Ending)
    → visited_by (wrote before writes) others ≡ visited_by before (both_written (Ok writes) others)
both_visited before writes (Err cause) = refl
both_visited before writes (Ok others) =
    ap (λ (own : Own). Ok (record { own = own; count = before.count + length writes + length others }))
    (sym (writes_joined before.own writes others))
    ∙ ap (λ (count : ℕ). Ok (record { own = with_writes before.own (writes ++ others); count = count })) (sym (counted before.count writes others))

abbrev judge_of : WriteKind → Condition → Tables → ℕ → Own → ℕ → Result (Option Cell) Ending
judge_of kind pred tables table own = λ pos. verdict kind pred table pos None (item_at (over tables own) table pos)

all_lower : (writes : List Write) (end pos : ℕ) → end ≤ pos → AllByRecursion (λ (write : Write). write.pos < end) writes
    → AllByRecursion (λ (write : Write). write.pos < pos) writes
all_lower [] end pos h below = tt
all_lower (write ∷ writes) end pos h below = (omega (arith, h, below.0), all_lower writes end pos h below.1)

-- behind the positions that were visited everything stands as it stood
visited_first : (kind : WriteKind) (pred : Condition) (tables : Tables) (table end more : ℕ) (before : Visited) (result : Result (List Write) Ending)
    → AreBelow end result
    → then_visit kind pred tables table (range_with_len end more) (visited_by before result)
    ≡ visited_by before (both_written result (sweep table (judge_of kind pred tables table before.own) (range_with_len end more)))
visited_first kind pred tables table end more before (Err cause) below = refl
visited_first kind pred tables table end more before (Ok writes) below =
    ap (visited_by (wrote before writes))
    (sweep_alike table (judge_of kind pred tables table (with_writes before.own writes)) (judge_of kind pred tables table before.own) end more
    (λ pos h. ap (verdict kind pred table pos None) (alike_over tables (with_writes before.own writes) before.own table pos
    (writes_apart before.own writes table pos (all_lower writes end pos h below)))))
    ∙ both_visited before writes (sweep table (judge_of kind pred tables table before.own) (range_with_len end more))

pub visits_add_up : VisitsAddUp
visits_add_up kind pred tables table first many more before =
    let judge : ℕ → Result (Option Cell) Ending = judge_of kind pred tables table before.own in
    visited_first kind pred tables table (first + many) more before (sweep table judge (range_with_len first many))
    (sweep_below table judge first many (first + many) (omega arith))
    ∙ ap (visited_by before) (sym (sweep_joined table judge (range_with_len first many) (range_with_len (first + many) more))
    ∙ ap (sweep table judge) (sym (range_joined first many more)))

-- ---- chunk by chunk

pub chunks_add_up : ChunksAddUp
chunks_add_up setting kind pred tables table zero before =
    ap (λ (count : ℕ). Ok (record { own = before.own; count = count })) (let same : before.count ≡ before.count + 0 = omega arith in same)
    ∙ ap (λ (positions : ℕ). visit kind pred tables table (range_with_len 0 positions) before) (let same : 0 ≡ 0 * setting.rows = omega arith in same)
chunks_add_up setting kind pred tables table (suc chunks) before =
    ap (then_visit kind pred tables table (positions_in setting chunks)) (chunks_add_up setting kind pred tables table chunks before)
    ∙ (ap (λ (from : ℕ). then_visit kind pred tables table (range_with_len from setting.rows)
    (visit kind pred tables table (range_with_len 0 (chunks * setting.rows)) before))
    (let same : chunks * setting.rows ≡ 0 + chunks * setting.rows = omega arith in same)
    ∙ (visits_add_up kind pred tables table 0 (chunks * setting.rows) setting.rows before
    ∙ ap (λ (positions : ℕ). visit kind pred tables table (range_with_len 0 positions) before)
    (let same : chunks * setting.rows + setting.rows ≡ suc chunks * setting.rows = omega arith in same)))

-- ---- statements

changed_answer : (own : Own) (kind : WriteKind) (records : List Record) (result : Result (List Write) Ending)
    → changed_by own kind records result ≡ answered_by kind records (visited_by (record { own = own; count = 0 }) result)
changed_answer own kind records (Err cause) = refl
changed_answer own kind records (Ok writes) =
    ap (λ (count : ℕ). Some (record { own = with_writes own writes; reply = told_by kind count; records = records }))
    (let same : length writes ≡ 0 + length writes = omega arith in same)

whole : (setting : Setting) (tables : Tables) (own : Own) (kind : WriteKind) (table : ℕ) (pred : Condition) (records : List Record)
    → changed_by own kind records (writes_at kind pred (over tables own) table (range_with_len 0 (capacity setting)))
    ≡ answered_by kind records (by_chunks setting kind pred tables table setting.chunks (record { own = own; count = 0 }))
whole setting tables own kind table pred records =
    changed_answer own kind records (writes_at kind pred (over tables own) table (range_with_len 0 (capacity setting)))
    ∙ ap (answered_by kind records) (sym (chunks_add_up setting kind pred tables table setting.chunks (record { own = own; count = 0 })))

pub changes_by_chunks : ChangesByChunks
changes_by_chunks setting tables own number (kind.Set sets) table pred at =
    whole setting tables own (kind.Set sets) table pred (records_of setting.shapes number (change_of (kind.Set sets) table pred) [])
changes_by_chunks setting tables own number kind.Delete table pred at =
    whole setting tables own kind.Delete table pred (records_of setting.shapes number (change_of kind.Delete table pred) [])
