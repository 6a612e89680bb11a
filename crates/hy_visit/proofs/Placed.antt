-- What becomes of a chunk in a visit of an INSERT that looks for a free position.
use Rattle.std.proofs.Common.{◌≡◌, ℕ, zero, suc, ◌+◌, ◌≤◌, ◌<◌, Bool, List, [], ◌∷◌, None, Some, length, map, sym, ap, ◌∙◌, subst, cond, arith}
use Rattle.std.specs.Prelude.{Option, slice_set}
use Rattle.std.specs.List.{AllByRecursion}
use Rattle.std.specs.Option.{option_map}
use Rattle.std.proofs.lemmas.Bool.{le-ltb, lt-ltb}
use Rattle.std.proofs.lemmas.List.{map-id}
use Rattle.std.proofs.lemmas.Option.{slice_get-get_or}
use Rattle.hy_value.specs.declared.Value.{Value}
use Rattle.hy_stamp.specs.declared.Label.{Label}
use Rattle.hy_stamp.specs.declared.Viewer.{Viewer}
use Rattle.hy_prune.specs.declared.Cover.{Cover}
use Rattle.hy_prune.specs.Fates.{watermark_of}
use Rattle.hy_chain.specs.Pruning.{count_old}
use Rattle.hy_value.specs.declared.change.Change.{Change}
use Rattle.hy_notes.specs.Notes.{with_note}
use Rattle.hy_undo.specs.Places.{Place}
use Rattle.hy_undo.specs.Chunks.{ChunkData, Placed}
use Rattle.hy_chunk.specs.Fields.{nth, blank_with}
use Rattle.hy_chunk.specs.Steps.{least_free, IsPut}
use Rattle.hy_event.specs.Inserting.{Comes, free_index, free_position}
use Rattle.hy_visit.specs.declared.writing.Writer.{Writer}
use Rattle.hy_visit.specs.Placing.{PlaceDone}
use Rattle.hy_visit.specs.Pruning.{AllShort}
use Rattle.hy_event.specs.Changing.{PrunesFirst}
use Rattle.hy_visit.proofs.Shortened.{count_in, late_first}
use Rattle.hy_visit.proofs.Stamps.{count_of}

pub free_found : (cover : Cover) (chunk : ChunkData) → least_free (watermark_of cover) chunk.places < length chunk.places
    → free_index cover chunk ≡ Some (least_free (watermark_of cover) chunk.places)
free_found cover chunk there =
    ap (λ (b : Bool). cond b (Some (least_free (watermark_of cover) chunk.places)) None)
    (lt-ltb (least_free (watermark_of cover) chunk.places) (length chunk.places) there)

-- where none is free, none is found
pub free_none : (cover : Cover) (chunk : ChunkData) → least_free (watermark_of cover) chunk.places ≡ length chunk.places → free_index cover chunk ≡ None
free_none cover chunk all =
    ap (λ (b : Bool). cond b (Some (least_free (watermark_of cover) chunk.places)) None)
    (le-ltb (least_free (watermark_of cover) chunk.places) (length chunk.places) (omega (arith, all)))

pub position_of : (cover : Cover) (chunk : ChunkData) (index : Option ℕ) → free_index cover chunk ≡ index
    → free_position cover chunk ≡ option_map (λ (i : ℕ). chunk.first + i) index
position_of cover chunk index is = ap (option_map (λ (i : ℕ). chunk.first + i)) is

-- the row comes to the first free position
pub row_comes : (viewer : Viewer) (label : Label) (cover : Cover) (row : List Value) (old new : ChunkData)
    → least_free (watermark_of cover) old.places < length old.places
    → new ≡ record old { places = new.places }
    → IsPut (least_free (watermark_of cover) old.places) (Placed viewer label (watermark_of cover) row) old.places new.places
    → Comes viewer label cover row (free_index cover old) old new
row_comes viewer label cover row old new there others put =
    let index : ℕ = least_free (watermark_of cover) old.places in
    let comes : Comes viewer label cover row (Some index) old new = record {
      places = record {
        was = nth old.places index;
        becomes = nth new.places index;
        found = slice_get-get_or old.places index (blank_with []) there;
        change = put.here;
        others = put.others;
      };
      others = others;
    } in
    subst (λ (found : Option ℕ). Comes viewer label cover row found old new) (sym (free_found cover old there)) comes

-- that is a visit, with the pruning before it and the note of the row
pub place_done : (writer : Writer) (row : List Value) (old between new : ChunkData) (notes now : List Change) (levels later : List (List Change)) (pos : ℕ)
    → PrunesFirst writer.prunes writer.cover.now old between → between.table ≡ old.table
    → pos ≡ between.first + least_free (watermark_of writer.cover.now) between.places
    → least_free (watermark_of writer.cover.now) between.places < length between.places
    → new ≡ record between { places = new.places }
    → IsPut (least_free (watermark_of writer.cover.now) between.places) (Placed writer.viewer writer.label (watermark_of writer.cover.now) row)
    between.places new.places
    → now ≡ with_note (record { table = between.table; pos = pos; before = None; after = Some row }) notes
    → later ≡ map (with_note (record { table = between.table; pos = pos; before = None; after = Some row })) levels
    → PlaceDone writer row old notes levels (Some pos) new now later
place_done writer row old between new notes now levels later pos pruned same is there others put noted in_levels = record {
  between = between;
  prunes = pruned;
  chunk = row_comes writer.viewer writer.label writer.cover.now row between new there others put;
  told = ap (λ (p : ℕ). Some p) is
      ∙ sym (position_of writer.cover.now between (Some (least_free (watermark_of writer.cover.now) between.places))
      (free_found writer.cover.now between there));
  noted = noted ∙ ap (λ (t : ℕ). with_note (record { table = t; pos = pos; before = None; after = Some row }) notes) same;
  in_each = in_levels ∙ ap (λ (t : ℕ). map (with_note (record { table = t; pos = pos; before = None; after = Some row })) levels) same;
}

-- ---- the bound after pruning stays

all_set : (P : Place → Type 0) (places : List Place) (index : ℕ) (place : Place) → AllByRecursion P places → P place
    → AllByRecursion P (slice_set places index place)
all_set P [] index place all here = tt
all_set P (first ∷ places) zero place all here = (here, all.1)
all_set P (first ∷ places) (suc index) place all here = (all.0, all_set P places index place all.1 here)

one_alone : (cover : Cover) (viewer : Viewer) (label : Label) (row : List Value) (old new : Place) → cover.next ≤ viewer.id
    → Placed viewer label (watermark_of cover) row old new → count_old cover new.chain ≤ length cover.starts
one_alone cover viewer label row old new late placed =
    let none : ◌≡◌ {A = ℕ} (count_old cover new.chain) 0 = count_of cover.next new.chain ∙ ap (count_in cover.next) placed.stamps
    ∙ late_first cover.next viewer.id label [] late in
    subst (λ (n : ℕ). n ≤ length cover.starts) (sym none) (omega arith)

pub short_placed : (cover : Cover) (viewer : Viewer) (label : Label) (row : List Value) (index : ℕ) (olds news : List Place) → cover.next ≤ viewer.id
    → AllShort cover olds → IsPut index (Placed viewer label (watermark_of cover) row) olds news → AllShort cover news
short_placed cover viewer label row index olds news late short put =
    subst (AllShort cover) (sym put.others)
    (all_set (λ place. count_old cover place.chain ≤ length cover.starts) olds index (nth news index) short
    (one_alone cover viewer label row (nth olds index) (nth news index) late put.here))

-- no position is free: nothing is told, and nothing changes
pub none_done : (writer : Writer) (row : List Value) (old between new : ChunkData) (notes now : List Change) (levels later : List (List Change))
    → PrunesFirst writer.prunes writer.cover.now old between → least_free (watermark_of writer.cover.now) between.places ≡ length between.places
    → new ≡ between → now ≡ notes → later ≡ levels → PlaceDone writer row old notes levels None new now later
none_done writer row old between new notes now levels later pruned all stays same_notes same_levels =
    let none : free_index writer.cover.now between ≡ None = free_none writer.cover.now between all in
    record {
      between = between;
      prunes = pruned;
      chunk = subst (λ (index : Option ℕ). Comes writer.viewer writer.label writer.cover.now row index between new) (sym none) stays;
      told = sym (position_of writer.cover.now between None none);
      noted = same_notes;
      in_each = same_levels ∙ sym (map-id levels);
    }
