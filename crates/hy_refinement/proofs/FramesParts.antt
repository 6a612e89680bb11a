-- Where one transaction goes on, in one chunk or in none, all is shown.
use Rattle.std.proofs.Common.{◌≡◌, ℕ, suc, ◌+◌, ◌*◌, ◌<◌, ◌≤◌, List, length, set, Some, sym, ap, ◌∙◌, subst, arith, inl, inr}
use Rattle.std.specs.Prelude.{slice_get}
use Rattle.std.proofs.lemmas.Bool.{cases_eq, cases_lt}
use Rattle.std.proofs.lemmas.Option.{slice_get_within}
use Rattle.std.proofs.Math.Nat.{mul-le-mul_right}
use Rattle.hy_undo.specs.Places.{Place}
use Rattle.hy_undo.specs.Chunks.{ChunkData}
use Rattle.hy_journal.specs.declared.CoreData.{CoreData}
use Rattle.hy_event.specs.Events.{Part, ChunkPart}
use Rattle.hy_machine.specs.declared.Setting.{Setting}
use Rattle.hy_refinement.specs.Parts.{IsChunkPart, ChunkIs, HasChunk, PartsAre, OfPlaces}
use Rattle.hy_refinement.specs.Places.{PlaceShows}
use Rattle.hy_refinement.specs.Taken.{chunk_number}
use Rattle.hy_refinement.specs.Frames.{gone_on, sessions_on, UnmovedPlacesShow, ChunkVisitsShow, OwnStepsShow}
use Rattle.hy_refinement.proofs.FramesLists.{got_set, got_other, set_length}
use Rattle.hy_refinement.proofs.FramesCores.{core_stays}
use Rattle.hy_refinement.proofs.FramesSessions.{sessions_stay}
use Rattle.hy_refinement.proofs.FramesTurns.{one_chunk}

-- ---- the numbers of parts

not_before : (chunks table other chunk another : ℕ) → chunk < chunks → table < other → table * chunks + chunk ≡ other * chunks + another → ⊥
not_before chunks table other chunk another below less e =
    let more : suc table * chunks ≤ other * chunks = mul-le-mul_right chunks (let s : suc table ≤ other = omega (arith, less) in s) in
    let next : suc table * chunks ≡ table * chunks + chunks = omega arith in
    absurd (omega (arith, below, e, more, next))

-- a number is of one chunk of one table
pub one_number : (chunks table other chunk another : ℕ) → chunk < chunks → another < chunks → table * chunks + chunk ≡ other * chunks + another
    → (table ≡ other) × (chunk ≡ another)
one_number chunks table other chunk another below small e = elim (cases_lt table other) [
  | inl less ↦ absurd (not_before chunks table other chunk another below less e)
  | inr more ↦ elim (cases_lt other table) [
    | inl less ↦ absurd (not_before chunks other table another chunk small less (sym e))
    | inr most ↦
        let same : table ≡ other = omega (arith, more, most) in
        let rows : table * chunks ≡ other * chunks = ap (λ (n : ℕ). n * chunks) same in
        (same, omega (arith, rows, e))
  ]
]

-- the core is behind all chunks
pub core_behind : (chunks tables table chunk : ℕ) → table < tables → chunk < chunks → tables * chunks ≡ table * chunks + chunk → ⊥
core_behind chunks tables table chunk below small e =
    let more : suc table * chunks ≤ tables * chunks = mul-le-mul_right chunks (let s : suc table ≤ tables = omega (arith, below) in s) in
    let next : suc table * chunks ≡ table * chunks + chunks = omega arith in
    absurd (omega (arith, small, e, more, next))

-- ---- parts of which one chunk is another

abbrev parts_with : Setting → List Part → ℕ → ℕ → ChunkData → List Part
parts_with setting parts table chunk new = set parts (chunk_number setting table chunk) (ChunkPart new)

parts_still : (setting : Setting) (parts : List Part) (core : CoreData) (table chunk : ℕ) (old new : ChunkData) → PartsAre setting parts core
    → IsChunkPart setting parts table chunk old → ChunkIs setting table chunk new → PartsAre setting (parts_with setting parts table chunk new) core
parts_still setting parts core table chunk old new are is_part is = record {
  count = set_length parts (chunk_number setting table chunk) (ChunkPart new) ∙ are.count;
  chunks = has;
  core_last =
      got_other parts (chunk_number setting table chunk) (length setting.shapes * setting.chunks) (ChunkPart new)
      (core_behind setting.chunks (length setting.shapes) table chunk is_part.table_below is_part.chunk_below) ∙ are.core_last;
}
  where
    has : (other another : ℕ) → other < length setting.shapes → another < setting.chunks
        → HasChunk setting (parts_with setting parts table chunk new) other another
    has other another below small = elim (cases_eq (chunk_number setting other another) (chunk_number setting table chunk)) [
      | inl e ↦
          let same = one_number setting.chunks other table another chunk small is_part.chunk_below e in
          record {
            part = new;
            is_part = record {
              table_below = below;
              chunk_below = small;
              found = ap (slice_get (parts_with setting parts table chunk new)) e
                  ∙ got_set parts (chunk_number setting table chunk) (ChunkPart old) (ChunkPart new) is_part.found;
            };
            chunk_is = subst (λ (t : ℕ). ChunkIs setting t another new) (sym same.0)
                (subst (λ (c : ℕ). ChunkIs setting table c new) (sym same.1) is);
          }
      | inr apart ↦
          let was = are.chunks other another below small in
          record {
            part = was.part;
            is_part = record {
              table_below = below;
              chunk_below = small;
              found = got_other parts (chunk_number setting table chunk) (chunk_number setting other another) (ChunkPart new) apart ∙ was.is_part.found;
            };
            chunk_is = was.chunk_is;
          }
    ]

-- an index of a place of a chunk is within a chunk
pub index_within : (setting : Setting) (parts : List Part) (core : CoreData) (table chunk index : ℕ) (part : ChunkData) (place : Place)
    → PartsAre setting parts core → IsChunkPart setting parts table chunk part → slice_get part.places index ≡ Some place → index < setting.rows
index_within setting parts core table chunk index part place are is e =
    let has = are.chunks table chunk is.table_below is.chunk_below in
    let same = one_chunk parts (table * setting.chunks + chunk) has.part part has.is_part.found is.found in
    let long : length part.places ≡ setting.rows = ap (λ (one : ChunkData). length one.places) (sym same) ∙ has.chunk_is.places in
    let within = slice_get_within part.places index place e in
    omega (arith, long, within)

-- ---- all is shown

pub chunk_visits : UnmovedPlacesShow → ChunkVisitsShow
chunk_visits unmoved setting state parts sessions number session now then current later table chunk old new at keeps on elsewhere is chunk_shows =
    let shown = at.at_open.shown.shows in
    let is_open = at.at_open.is_open in
    record {
      core = shown.core;
      parts_are = parts_still setting parts shown.core table chunk old new shown.parts_are at.is_part is;
      core_shows = core_stays state shown.core sessions number session now then current later is_open keeps shown.core_shows setting on;
      sessions_show = sessions_stay setting state shown.core sessions number session now then current later is_open keeps on shown.sessions_show;
      places_show = places;
    }
  where
    places : OfPlaces setting (parts_with setting parts table chunk new)
        (PlaceShows setting (gone_on state number later) at.at_open.shown.shows.core (sessions_on sessions number session then))
    places other another index part place of e =
        elim (cases_eq (chunk_number setting other another) (chunk_number setting table chunk)) [
          | inl g ↦
              let same = one_number setting.chunks other table another chunk of.chunk_below at.is_part.chunk_below g in
              let one : new ≡ part = one_chunk (parts_with setting parts table chunk new) (chunk_number setting table chunk) new part
              (got_set parts (chunk_number setting table chunk) (ChunkPart old) (ChunkPart new) at.is_part.found)
              (sym (ap (slice_get (parts_with setting parts table chunk new)) g) ∙ of.found) in
              subst (λ (t : ℕ). PlaceShows setting (gone_on state number later) at.at_open.shown.shows.core (sessions_on sessions number session then) t another
              (another * setting.rows + index) place) (sym same.0)
              (subst (λ (c : ℕ). PlaceShows setting (gone_on state number later) at.at_open.shown.shows.core (sessions_on sessions number session then) table c
              (c * setting.rows + index) place) (sym same.1)
              (chunk_shows index place (ap (λ (chunk_data : ChunkData). slice_get chunk_data.places index) one ∙ e)))
          | inr apart ↦
              let was : IsChunkPart setting parts other another part = record {
                table_below = of.table_below;
                chunk_below = of.chunk_below;
                found = sym (got_other parts (chunk_number setting table chunk) (chunk_number setting other another) (ChunkPart new) apart) ∙ of.found;
              } in
              unmoved setting state at.at_open.shown.shows.core sessions number session now then current later
              other another (another * setting.rows + index) place
              at.at_open.is_open keeps
              (elsewhere other another index (λ both. apart (both_same other another both))
              (index_within setting parts at.at_open.shown.shows.core other another index part place
              at.at_open.shown.shows.parts_are was e))
              (at.at_open.shown.shows.places_show other another index part place was e)
        ]
      where
        both_same : (t c : ℕ) → (t ≡ table) × (c ≡ chunk) → chunk_number setting t c ≡ chunk_number setting table chunk
        both_same t c both = ap (λ (n : ℕ). n * setting.chunks + c) both.0 ∙ ap (λ (n : ℕ). table * setting.chunks + n) both.1

pub own_steps : UnmovedPlacesShow → OwnStepsShow
own_steps unmoved setting state parts sessions number session now then current later at keeps on everywhere =
    let shown = at.shown.shows in
    record {
      core = shown.core;
      parts_are = shown.parts_are;
      core_shows = core_stays state shown.core sessions number session now then current later at.is_open keeps shown.core_shows setting on;
      sessions_show = sessions_stay setting state shown.core sessions number session now then current later at.is_open keeps on shown.sessions_show;
      places_show = λ table chunk index part place of e.
          unmoved setting state shown.core sessions number session now then current later table chunk (chunk * setting.rows + index) place
          at.is_open keeps (everywhere table chunk index (index_within setting parts shown.core table chunk index part place shown.parts_are of e))
          (shown.places_show table chunk index part place of e);
    }
