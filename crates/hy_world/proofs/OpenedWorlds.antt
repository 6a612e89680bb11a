-- Laid chunks, one after another, and that with new sessions they are the machine's opening.
use Rattle.std.proofs.Common.{◌≡◌, ℕ, zero, suc, ◌+◌, ◌*◌, ◌<◌, ◌≤◌, List, [], ◌∷◌, ◌++◌, Bool, Option}
use Rattle.std.proofs.Common.{None, Some, length, map, drop, get_or, replicate, refl, sym, ap, subst, ◌∙◌, arith, inl, inr}
use Rattle.std.specs.Prelude.{slice_get}
use Rattle.std.specs.Option.{option_map}
use Rattle.std.specs.List.{All, AllByRecursion}
use Rattle.std.proofs.lemmas.Bool.{cases_lt}
use Rattle.std.proofs.lemmas.List.{length-map, length-replicate, length-take, length_push}
use Rattle.std.proofs.lemmas.List.Elements.{All-take, All-drop, All-weaker, recursion_from_All}
use Rattle.std.proofs.lemmas.Nat.{mul-add-lt, same_from_place}
use Rattle.hy_value.specs.declared.Kind.{Kind}
use Rattle.hy_value.specs.declared.Value.{Value}
use Rattle.hy_bound.specs.declared.Shape.{Shape}
use Rattle.hy_bound.specs.declared.Txn.{Txn}
use Rattle.hy_bound.specs.Fits.{FitsSession}
use Rattle.hy_bound.specs.Records.{no_shape, shape_of}
use Rattle.hy_stamp.specs.declared.Label.{Label}
use Rattle.hy_journal.specs.declared.CoreData.{CoreData}
use Rattle.hy_journal.specs.declared.Entry.{Entry}
use Rattle.hy_undo.specs.Places.{Place}
use Rattle.hy_undo.specs.Chunks.{ChunkData}
use Rattle.hy_chunk.specs.Fields.{blank_place}
use Rattle.hy_chunk.specs.Sound.{FitsRow}
use Rattle.hy_chunk.specs.Views.{Whole, with_places}
use Rattle.hy_event.specs.declared.SessionData.{SessionData}
use Rattle.hy_event.specs.Events.{ChunkPart, CorePart}
use Rattle.hy_limits.specs.declared.TheConstants.{MOST_TXNS}
use Rattle.hy_machine.specs.declared.Setting.{Setting}
use Rattle.hy_machine.specs.Runs.{opening_of}
use Rattle.hy_machine.specs.Sessions.{program_of}
use Rattle.hy_session.specs.declared.Layout.{Layout}
use Rattle.hy_refinement.specs.Laws.{OpeningIsShown}
use Rattle.hy_refinement.specs.Parts.{ChunkIs, PartsAre, OfPlaces}
use Rattle.hy_refinement.specs.Shows.{IsFresh, IsLaidOut, IsOpening, blank_core}
use Rattle.hy_stepping.specs.Runnable.{IsRunnable}
use Rattle.hy_stepping.specs.Typed.{AreTyped, kinds_of}
use Rattle.hy_world.specs.Openings.{places_with, first_rows, rows_in, laid_chunk, IsLaid, AreLaid, new_session, sessions_from, layout_of, IsOpened}
use Rattle.hy_world.specs.declared.opening.Opened.{Opened}
use Rattle.hy_world.specs.Worlds.{ShowsState, IsWorld, HaveTypes, parts_of, plain, seen_world}
use Rattle.hy_world.proofs.ListsAt.{got, below, in_front, at_end, got_map, got_take, got_drop, as_long, both_at}
use Rattle.hy_world.proofs.LaidChunks.{places_long, laid_at}

-- ---- a chunk

-- a new chunk into which its rows were loaded
abbrev blank_data : Setting → ℕ → ℕ → List Kind → Option ℕ → ChunkData
blank_data setting table number types key = record {
  table = table;
  first = number * setting.rows;
  width = length types;
  key = key;
  places = replicate setting.rows (blank_place types);
}

pub laid_from : (setting : Setting) (kinds : List (List Kind)) (table number : ℕ) (types : List Kind) (key : Option ℕ) (rows : List (List Value))
    (made new : Whole) → made.shown ≡ blank_data setting table number types key → made.kinds ≡ types → types ≡ kinds_of kinds table
    → key ≡ (shape_of setting.shapes table).key → rows ≡ rows_in setting table number
    → new ≡ with_places made (places_with made.kinds (length made.shown.places) rows) new.room → IsLaid setting kinds table number new
laid_from setting kinds table number types key rows made new is made_types typed keyed first e =
    let table_types = kinds_of kinds table in
    let all = rows_in setting table number in
    let blank : made.shown ≡ blank_data setting table number table_types (shape_of setting.shapes table).key =
    is ∙ (ap (λ (types : List Kind). blank_data setting table number types key) typed
    ∙ ap (blank_data setting table number table_types) keyed) in
    let with_rows : ChunkData → List Kind → ℕ → List (List Value) → ChunkData =
    λ shown types count rows. record shown { places = places_with types count rows } in
    record {
      shown = ap (λ (whole : Whole). whole.shown) e
          ∙ (ap (λ (shown : ChunkData). with_rows shown made.kinds (length shown.places) rows) blank
          ∙ (ap (λ (types : List Kind). with_rows (blank_data setting table number table_types (shape_of setting.shapes table).key) types
          (length (replicate setting.rows (blank_place table_types))) rows) (made_types ∙ typed)
          ∙ (ap (λ (count : ℕ). with_rows (blank_data setting table number table_types (shape_of setting.shapes table).key) table_types count rows)
          (length-replicate setting.rows (blank_place table_types))
          ∙ ap (with_rows (blank_data setting table number table_types (shape_of setting.shapes table).key) table_types setting.rows) first)));
      types = ap (λ (whole : Whole). whole.kinds) e ∙ (made_types ∙ typed);
    }

-- ---- what stands in the lists of tables

pub kinds_there : (setting : Setting) (kinds : List (List Kind)) (table : ℕ) → AreTyped kinds setting.shapes setting.first setting.programs
    → table < length setting.shapes → table < length kinds
kinds_there setting kinds table typed there =
    omega (arith, as_long (λ (shape : Shape) (types : List Kind). length types ≡ shape.width) setting.shapes kinds typed.tables)

pub rows_there : (setting : Setting) (kinds : List (List Kind)) (table : ℕ) → AreTyped kinds setting.shapes setting.first setting.programs
    → table < length setting.shapes → table < length setting.first
rows_there setting kinds table typed there =
    let under : table < length kinds = kinds_there setting kinds table typed there in
    omega (arith, as_long (λ (types : List Kind) (rows : List (List Value)). All (FitsRow types) rows) kinds setting.first typed.rows)

-- the first rows of a chunk are of its table's types
pub rows_fit : (setting : Setting) (kinds : List (List Kind)) (table number : ℕ) (types : List Kind) (rows : List (List Value))
    → AreTyped kinds setting.shapes setting.first setting.programs → table < length setting.shapes → types ≡ kinds_of kinds table
    → rows ≡ rows_in setting table number → All (FitsRow types) rows
rows_fit setting kinds table number types rows typed there of_table in_chunk =
    let fits = FitsRow (kinds_of kinds table) in
    let all = first_rows setting.first table in
    let fit : All fits all =
    both_at (λ (types : List Kind) (rows : List (List Value)). All (FitsRow types) rows) kinds setting.first table [] [] typed.rows
    (kinds_there setting kinds table typed there) in
    let part : All fits (rows_in setting table number) =
    All-take fits setting.rows (drop (number * setting.rows) all) (All-drop fits (number * setting.rows) all fit) in
    subst (λ (types : List Kind). All (FitsRow types) rows) (sym of_table) (subst (All fits) (sym in_chunk) part)

-- ---- chunks

pub none_laid : (setting : Setting) (kinds : List (List Kind)) → AreLaid setting kinds (0 * setting.chunks) []
none_laid setting kinds = record { many = omega arith; each = λ table chunk part within e. absurd cc }

laid_there : (setting : Setting) (kinds : List (List Kind)) (table number other another : ℕ) (part found : Whole)
    → IsLaid setting kinds table number part → (other ≡ table) × (another ≡ number) → part ≡ found → IsLaid setting kinds other another found
laid_there setting kinds table number other another part found laid same is =
    subst (λ (one : Whole). IsLaid setting kinds other another one) is
    (subst (λ (n : ℕ). IsLaid setting kinds n another part) (sym same.0) (subst (λ (n : ℕ). IsLaid setting kinds table n part) (sym same.1) laid))

pub laid_more : (setting : Setting) (kinds : List (List Kind)) (table number : ℕ) (chunks : List Whole) (part : Whole) → number < setting.chunks
    → AreLaid setting kinds (table * setting.chunks + number) chunks → IsLaid setting kinds table number part
    → AreLaid setting kinds (table * setting.chunks + (number + 1)) (chunks ++ part ∷ [])
laid_more setting kinds table number chunks part within laid new = record {
  many = omega (arith, length_push chunks part, laid.many);
  each = each;
}
  where
    each : (other another : ℕ) (found : Whole) → another < setting.chunks
        → slice_get (chunks ++ part ∷ []) (other * setting.chunks + another) ≡ Some found → IsLaid setting kinds other another found
    each other another found under e = elim (cases_lt (other * setting.chunks + another) (length chunks)) [
      | inl h ↦ laid.each other another found under (sym (in_front chunks (part ∷ []) (other * setting.chunks + another) h) ∙ e)
      | inr h ↦
          let last : other * setting.chunks + another ≡ length chunks =
          omega (arith, below (chunks ++ part ∷ []) (other * setting.chunks + another) found e, length_push chunks part) in
          let stands : slice_get (chunks ++ part ∷ []) (other * setting.chunks + another) ≡ Some part =
          ap (slice_get (chunks ++ part ∷ [])) last ∙ at_end chunks part in
          let is : part ≡ found = cc in
          laid_there setting kinds table number other another part found new
          (same_from_place other another table number setting.chunks under within (last ∙ laid.many)) is
    ]

pub table_laid : (setting : Setting) (kinds : List (List Kind)) (table number : ℕ) (chunks : List Whole) → number ≡ setting.chunks
    → AreLaid setting kinds (table * setting.chunks + number) chunks → AreLaid setting kinds ((table + 1) * setting.chunks) chunks
table_laid setting kinds table number chunks all laid =
    let e : table * setting.chunks + number ≡ (table + 1) * setting.chunks = omega arith in
    subst (λ (count : ℕ). AreLaid setting kinds count chunks) e laid

pub have_types : (setting : Setting) (kinds : List (List Kind)) (count : ℕ) (chunks : List Whole) → AreLaid setting kinds count chunks
    → HaveTypes kinds setting.chunks chunks
have_types setting kinds count chunks laid = λ table chunk part within e. (laid.each table chunk part within e).types

-- ---- parts

pub part_got : (chunks : List Whole) (core : CoreData) (n : ℕ) (whole : Whole) → slice_get chunks n ≡ Some whole
    → slice_get (parts_of (plain chunks) core) n ≡ Some (ChunkPart whole.shown)
part_got chunks core n whole e =
    let shown : Whole → ChunkData = λ whole. whole.shown in
    let within : n < length (map ChunkPart (plain chunks)) =
    omega (arith, below chunks n whole e, length-map (plain chunks) ChunkPart, length-map chunks shown) in
    in_front (map ChunkPart (plain chunks)) (CorePart core ∷ []) n within
    ∙ (got_map ChunkPart (plain chunks) n ∙ ap (option_map ChunkPart) (got_map shown chunks n ∙ ap (option_map shown) e))

pub parts_long : (chunks : List Whole) (core : CoreData) → length (parts_of (plain chunks) core) ≡ suc (length chunks)
parts_long chunks core =
    let shown : Whole → ChunkData = λ whole. whole.shown in
    omega (arith, length_push (map ChunkPart (plain chunks)) (CorePart core), length-map (plain chunks) ChunkPart, length-map chunks shown)

pub core_got : (chunks : List Whole) (core : CoreData) (n : ℕ) → n ≡ length chunks → slice_get (parts_of (plain chunks) core) n ≡ Some (CorePart core)
core_got chunks core n e =
    let shown : Whole → ChunkData = λ whole. whole.shown in
    let is : n ≡ length (map ChunkPart (plain chunks)) = omega (arith, length-map (plain chunks) ChunkPart, length-map chunks shown) in
    ap (slice_get (parts_of (plain chunks) core)) is ∙ at_end (map ChunkPart (plain chunks)) (CorePart core)

-- ---- sessions

pub sessions_long : (shapes : List Shape) (layout : Layout) (prunes : Bool) (number : ℕ) (programs : List (List Txn))
    → length (sessions_from shapes layout prunes number programs) ≡ length programs
sessions_long shapes layout prunes number [] = refl
sessions_long shapes layout prunes number (program ∷ programs) = ap suc (sessions_long shapes layout prunes (suc number) programs)

pub session_is : (shapes : List Shape) (layout : Layout) (prunes : Bool) (first n : ℕ) (programs : List (List Txn)) (session : SessionData)
    → slice_get (sessions_from shapes layout prunes first programs) n ≡ Some session
    → new_session shapes layout prunes (first + n) (get_or programs n []) ≡ session
session_is shapes layout prunes first n [] session e = absurd cc
session_is shapes layout prunes first zero (program ∷ programs) session e =
    let here : first + zero ≡ first = omega arith in
    let is : new_session shapes layout prunes first program ≡ session = cc in
    ap (λ (number : ℕ). new_session shapes layout prunes number program) here ∙ is
session_is shapes layout prunes first (suc n) (program ∷ programs) session e =
    let there : first + suc n ≡ suc first + n = omega arith in
    ap (λ (number : ℕ). new_session shapes layout prunes number (get_or programs n [])) there
    ∙ session_is shapes layout prunes (suc first) n programs session e

fresh_is : (setting : Setting) (prunes : Bool) (number : ℕ) (session : SessionData)
    → slice_get (sessions_from setting.shapes (layout_of setting) prunes 0 setting.programs) number ≡ Some session → IsFresh setting number session
fresh_is setting prunes number session e =
    let here : number ≡ 0 + number = omega arith in
    let is : new_session setting.shapes (layout_of setting) prunes number (program_of setting number) ≡ session =
    ap (λ (n : ℕ). new_session setting.shapes (layout_of setting) prunes n (program_of setting number)) here
    ∙ session_is setting.shapes (layout_of setting) prunes 0 number setting.programs session e in
    subst (IsFresh setting number) is
    (record {
      session_is = record { number_is = refl; program = refl; shapes = refl; chunks = refl; rows = refl };
      done = refl;
      now = refl;
    })

-- ---- the opening

pub core_is : (core : CoreData) → core.next ≡ 1 → core.active ≡ [] → core.entries ≡ [] → core.mark ≡ None → core ≡ blank_core
core_is core next active entries mark =
    let made : ℕ → List ℕ → List Entry → Option Label → CoreData =
    λ next active entries mark. record { next = next; active = active; entries = entries; mark = mark } in
    ap (λ n. made n core.active core.entries core.mark) next
    ∙ (ap (λ starts. made 1 starts core.entries core.mark) active
    ∙ (ap (λ all. made 1 [] all core.mark) entries ∙ ap (made 1 [] []) mark))

record AreOpened (setting : Setting) (kinds : List (List Kind)) (chunks : List Whole) : Type 0 where
  runnable : IsRunnable setting
  typed : AreTyped kinds setting.shapes setting.first setting.programs
  laid : AreLaid setting kinds (length setting.shapes * setting.chunks) chunks

-- the chunk of a table and number
chunk_there : (setting : Setting) (kinds : List (List Kind)) (chunks : List Whole) (core : CoreData) (table chunk : ℕ) → AreOpened setting kinds chunks
    → table < length setting.shapes → chunk < setting.chunks
    → slice_get (parts_of (plain chunks) core) (table * setting.chunks + chunk) ≡ Some (ChunkPart (laid_chunk setting kinds table chunk))
chunk_there setting kinds chunks core table chunk opened there within =
    let n = table * setting.chunks + chunk in
    let under : n < length chunks = omega (arith, opened.laid.many, mul-add-lt table setting.chunks chunk (length setting.shapes) there within) in
    let one = got chunks n under in
    part_got chunks core n one.0 one.1 ∙ ap (λ (shown : ChunkData). Some (ChunkPart shown)) (opened.laid.each table chunk one.0 within one.1).shown

rows_few : (setting : Setting) (table chunk : ℕ) → length (rows_in setting table chunk) ≤ setting.rows
rows_few setting table chunk = omega (arith, length-take setting.rows (drop (chunk * setting.rows) (first_rows setting.first table)))

chunk_is : (setting : Setting) (kinds : List (List Kind)) (chunks : List Whole) (table chunk : ℕ) → AreOpened setting kinds chunks
    → table < length setting.shapes → ChunkIs setting table chunk (laid_chunk setting kinds table chunk)
chunk_is setting kinds chunks table chunk opened there = record {
  table_is = refl;
  first = refl;
  width = both_at (λ (shape : Shape) (types : List Kind). length types ≡ shape.width) setting.shapes kinds table no_shape [] opened.typed.tables there;
  key = refl;
  places = places_long (kinds_of kinds table) setting.rows (rows_in setting table chunk) (rows_few setting table chunk);
}

parts_are : (setting : Setting) (kinds : List (List Kind)) (chunks : List Whole) (core : CoreData) → AreOpened setting kinds chunks
    → PartsAre setting (parts_of (plain chunks) core) core
parts_are setting kinds chunks core opened = record {
  count = parts_long chunks core ∙ ap suc opened.laid.many;
  chunks = λ table chunk there within. record {
    part = laid_chunk setting kinds table chunk;
    is_part = record {
      table_below = there;
      chunk_below = within;
      found = chunk_there setting kinds chunks core table chunk opened there within;
    };
    chunk_is = chunk_is setting kinds chunks table chunk opened there;
  };
  core_last = core_got chunks core (length setting.shapes * setting.chunks) (sym opened.laid.many);
}

place_laid : (setting : Setting) (kinds : List (List Kind)) (chunks : List Whole) (table chunk index : ℕ) (place : Place) → AreOpened setting kinds chunks
    → table < length setting.shapes → chunk < setting.chunks → slice_get (laid_chunk setting kinds table chunk).places index ≡ Some place
    → IsLaidOut setting table (chunk * setting.rows + index) place
place_laid setting kinds chunks table chunk index place opened there within e =
    let types = kinds_of kinds table in
    let rows = rows_in setting table chunk in
    let under : index < setting.rows =
    omega (arith, below (places_with types setting.rows rows) index place e, places_long types setting.rows rows (rows_few setting table chunk)) in
    let first : table < length setting.first = rows_there setting kinds table opened.typed there in
    let fits : chunk * setting.rows + index < setting.chunks * setting.rows = omega (arith, mul-add-lt chunk setting.rows index setting.chunks within under) in
    let same : slice_get rows index ≡ slice_get (first_rows setting.first table) (chunk * setting.rows + index) =
    got_take (drop (chunk * setting.rows) (first_rows setting.first table)) setting.rows index under
    ∙ got_drop (first_rows setting.first table) (chunk * setting.rows) index in
    laid_at setting types setting.rows rows table index (chunk * setting.rows + index) place first fits same e

places_laid : (setting : Setting) (kinds : List (List Kind)) (chunks : List Whole) (core : CoreData) → AreOpened setting kinds chunks
    → OfPlaces setting (parts_of (plain chunks) core) (λ table chunk pos place. IsLaidOut setting table pos place)
places_laid setting kinds chunks core opened = λ table chunk index part place is e.
    let there = chunk_there setting kinds chunks core table chunk opened is.table_below is.chunk_below in
    let found = is.found in
    let same : laid_chunk setting kinds table chunk ≡ part = cc in
    place_laid setting kinds chunks table chunk index place opened is.table_below is.chunk_below
    (ap (λ (shown : ChunkData). slice_get shown.places index) same ∙ e)

-- laid chunks, a blank core and new sessions show the opening
pub opened_shows : OpeningIsShown → (setting : Setting) (kinds : List (List Kind)) (prunes : Bool) (tables : ℕ) (chunks : List Whole) (core : CoreData)
    (sessions : List SessionData) → IsRunnable setting → AreTyped kinds setting.shapes setting.first setting.programs
    → AreLaid setting kinds (length setting.shapes * setting.chunks) chunks → core ≡ blank_core
    → sessions ≡ sessions_from setting.shapes (layout_of setting) prunes 0 setting.programs → tables ≡ length setting.shapes
    → ShowsState setting (opening_of setting)
    (seen_world tables setting.chunks chunks core sessions)
opened_shows law setting kinds prunes tables chunks core sessions runnable typed laid blank fresh count =
    let opened : AreOpened setting kinds chunks = record { runnable = runnable; typed = typed; laid = laid } in
    let parts = parts_of (plain chunks) core in
    let all = sessions_from setting.shapes (layout_of setting) prunes 0 setting.programs in
    let opening : IsOpening setting parts all = record {
      parts_are = subst (PartsAre setting parts) blank (parts_are setting kinds chunks core opened);
      places = places_laid setting kinds chunks core opened;
      count = sessions_long setting.shapes (layout_of setting) prunes 0 setting.programs;
      each = fresh_is setting prunes;
    } in
    record {
      tables = sym count;
      per_table = refl;
      shown = record {
        runnable = runnable;
        reached = ([], refl);
        shows = law setting parts sessions (subst (IsOpening setting parts) (sym fresh) opening);
      };
    }

-- so that they are a world
pub opened_world : OpeningIsShown → (setting : Setting) (kinds : List (List Kind)) (prunes : Bool) (tables : ℕ) (chunks : List Whole) (core : CoreData)
    (sessions : List SessionData) → IsRunnable setting → AreTyped kinds setting.shapes setting.first setting.programs
    → AreLaid setting kinds (length setting.shapes * setting.chunks) chunks → core ≡ blank_core
    → sessions ≡ sessions_from setting.shapes (layout_of setting) prunes 0 setting.programs → tables ≡ length setting.shapes
    → IsWorld setting.shapes tables setting.chunks chunks core sessions
opened_world law setting kinds prunes tables chunks core sessions runnable typed laid blank fresh count = record {
  setting = setting;
  kinds = kinds;
  state = opening_of setting;
  shapes_are = refl;
  typed = typed;
  types = have_types setting kinds (length setting.shapes * setting.chunks) chunks laid;
  shows = opened_shows law setting kinds prunes tables chunks core sessions runnable typed laid blank fresh count;
}

-- a session has few enough transactions
pub txns_few : (setting : Setting) → IsRunnable setting → AllByRecursion (λ (program : List Txn). length program ≤ MOST_TXNS) setting.programs
txns_few setting runnable =
    let few : List Txn → Type 0 = λ program. length program ≤ MOST_TXNS in
    recursion_from_All few setting.programs
    (All-weaker (FitsSession setting.shapes) few (λ program fits. fits.few) setting.programs runnable.fits.sessions)

-- ---- of what was opened

-- what was opened shows the opening
pub shown_opened : OpeningIsShown → (setting : Setting) (kinds : List (List Kind)) (prunes : Bool) (tables : ℕ) (opened : Opened) → IsRunnable setting
    → AreTyped kinds setting.shapes setting.first setting.programs → IsOpened setting kinds prunes opened → tables ≡ length opened.shapes
    → ShowsState setting (opening_of setting)
    (seen_world tables opened.per_table opened.chunks.items opened.core opened.sessions.items)
shown_opened law setting kinds prunes tables opened runnable typed is count =
    subst (λ (per : ℕ). ShowsState setting (opening_of setting)
    (seen_world tables per opened.chunks.items opened.core opened.sessions.items))
    (sym is.per_table)
    (opened_shows law setting kinds prunes tables opened.chunks.items opened.core opened.sessions.items runnable typed is.laid is.core is.sessions
    (count ∙ ap length is.shapes))

-- and is a world
pub world_opened : OpeningIsShown → (setting : Setting) (kinds : List (List Kind)) (prunes : Bool) (tables : ℕ) (opened : Opened) → IsRunnable setting
    → AreTyped kinds setting.shapes setting.first setting.programs → IsOpened setting kinds prunes opened → tables ≡ length opened.shapes
    → IsWorld opened.shapes tables opened.per_table opened.chunks.items opened.core opened.sessions.items
world_opened law setting kinds prunes tables opened runnable typed is count =
    subst (λ (shapes : List Shape). IsWorld shapes tables opened.per_table opened.chunks.items opened.core opened.sessions.items) (sym is.shapes)
    (subst (λ (per : ℕ). IsWorld setting.shapes tables per opened.chunks.items opened.core opened.sessions.items) (sym is.per_table)
    (opened_world law setting kinds prunes tables opened.chunks.items opened.core opened.sessions.items runnable typed is.laid is.core is.sessions
    (count ∙ ap length is.shapes)))

-- its chunks have the types of their tables
pub types_opened : (setting : Setting) (kinds : List (List Kind)) (prunes : Bool) (opened : Opened) → IsOpened setting kinds prunes opened
    → HaveTypes kinds setting.chunks opened.chunks.items
types_opened setting kinds prunes opened is = have_types setting kinds (length setting.shapes * setting.chunks) opened.chunks.items is.laid
