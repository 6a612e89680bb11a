-- What becomes of a chunk in a visit of a ROLLBACK TO, one note after the other.
use Rattle.std.proofs.Common.{◌≡◌, ◌≢◌, ℕ, zero, suc, ◌+◌, ◌-◌, ◌<◌, ◌≤◌, Bool, true, false, List, [], ◌∷◌, ◌++◌, None, Some, length, get_or, map, take, refl, sym, ap, ◌∙◌, subst, arith, add-one, inl, inr}
use Rattle.std.specs.Prelude.{Option, ◌==◌, ◌&&◌, nat_le, nat_lt, slice_get}
use Rattle.std.specs.List.{AllByRecursion, range_with_len}
use Rattle.std.specs.Cmp.{ranks, tied_itself}
use Rattle.std.specs.Ordering.{MatchOrdering, nat_cmp, ordering_then}
use Rattle.std.specs.declared.cmp.Ordering.{Ordering}
use Rattle.std.specs.declared.cmp.Ordering.TheVariants.{Less}
use Rattle.std.proofs.lemmas.Bool.{and_parts, cases_eq, eqb-true, leb-true, ltb-true, ne_eqb}
use Rattle.std.proofs.lemmas.Cmp.{nat_cmp_total}
use Rattle.std.proofs.lemmas.List.{get_or-set_other, length-set, map-id, map_more, take_all, take_more}
use Rattle.std.proofs.lemmas.Option.{slice_get-get_or}
use Rattle.std.proofs.lemmas.Simd.{map-map}
use Rattle.hy_value.specs.declared.Kind.{Kind}
use Rattle.hy_value.specs.declared.change.Change.{Change}
use Rattle.hy_stamp.specs.declared.Label.{Label}
use Rattle.hy_stamp.specs.declared.Viewer.{Viewer}
use Rattle.hy_notes.specs.Notes.{Ascends, is_between, order_of, with_note}
use Rattle.hy_undo.specs.Places.{Place, Cell, sees}
use Rattle.hy_undo.specs.Chunks.{ChunkData, Written}
use Rattle.hy_undo.specs.Sweeps.{AllWritten}
use Rattle.hy_chunk.specs.Backing.{MayGoBack, change_back}
use Rattle.hy_chunk.specs.Fields.{nth, blank_with}
use Rattle.hy_chunk.specs.Steps.{IsPut}
use Rattle.hy_event.specs.Backing.{noted_before, cells_back}
use Rattle.hy_event.specs.Changing.{OnlyPlaces, change_of, changes_from}
use Rattle.hy_event.specs.Turns.{with_notes}
use Rattle.hy_visit.specs.declared.writing.Writer.{Writer}
use Rattle.hy_visit.specs.Backing.{BackDone, MayAllGoBack, changes_back}
use Rattle.hy_visit.proofs.NotedBefore.{all_at, at, at_itself, found, fresh, last_here, last_other, less_apart, passed, same_range, tells}

-- a note is of a position of a chunk
pub record IsHere (chunk : ChunkData) (note : Change) : Type 0 where
  pub table : note.table ≡ chunk.table
  pub first : chunk.first ≤ note.pos
  pub within : note.pos < chunk.first + length chunk.places

pub here_of : (chunk : ChunkData) (note : Change) → is_between chunk.table chunk.first (chunk.first + length chunk.places) note ≡ true → IsHere chunk note
here_of chunk note e =
    let parts = and_parts (note.table == chunk.table) (nat_le chunk.first note.pos && nat_lt note.pos (chunk.first + length chunk.places)) e in
    let bounds = and_parts (nat_le chunk.first note.pos) (nat_lt note.pos (chunk.first + length chunk.places)) parts.1 in
    record {
      table = eqb-true note.table chunk.table parts.0;
      first = leb-true chunk.first note.pos bounds.0;
      within = ltb-true note.pos (chunk.first + length chunk.places) bounds.1;
    }

-- a position is gone back on, or stays
abbrev pub IsBack : Viewer → Label → Option Cell → Place → Place → Type 0
IsBack viewer label None old new = new ≡ old
IsBack viewer label (Some cell) old new = Written viewer label cell old new

both_false : (b c : Bool) → c ≡ false → (b && c) ≡ false
both_false true c e = e
both_false false c e = refl

other_apart : (note : Change) (table pos : ℕ) → note.pos ≢ pos → at note table pos ≡ false
other_apart note table pos ne = both_false (note.table == table) (note.pos == pos) (ne_eqb note.pos pos ne)

-- one more note behind others
notes_more : (notes changes : List Change) (last : Change) → with_notes notes (changes ++ last ∷ []) ≡ with_note last (with_notes notes changes)
notes_more notes [] last = refl
notes_more notes (change ∷ changes) last = notes_more (with_note change notes) changes last

module _ (writer : Writer) (since : List Change) (old : ChunkData) (notes : List Change) (levels : List (List Change)) where
  abbrev back : Change → Change
  back note = change_back writer.viewer old note

  -- the first so many notes are gone back on
  pub record BackTo (news : List Place) (now : List Change) (later : List (List Change)) (count : ℕ) : Type 0 where
    pub size : length news ≡ length old.places
    pub done : (k : ℕ) → k < length old.places
        → IsBack writer.viewer writer.label (noted_before (take count since) old.table (old.first + k)) (nth old.places k) (nth news k)
    pub noted : now ≡ with_notes notes (map back (take count since))
    pub in_each : later ≡ map (λ one. with_notes one (map back (take count since))) levels

  pub back_none : BackTo old.places notes levels 0
  back_none = record { size = refl; done = λ k l. refl; noted = refl; in_each = sym (map-id levels) }

  module _ (rises : Ascends since) (all : AllByRecursion (λ (note : Change). is_between old.table old.first (old.first + length old.places) note ≡ true) since)
      (i : ℕ) (note : Change) (within : i < length since) (is : note ≡ get_or since i note) where
    pub note_here : IsHere old note
    note_here =
        here_of old note
        (subst (λ (x : Change). is_between old.table old.first (old.first + length old.places) x ≡ true) (sym is)
        (all_at (λ (x : Change). is_between old.table old.first (old.first + length old.places) x ≡ true) since i note all within))

    abbrev index : ℕ
    index = note.pos - old.first

    index_is : old.first + index ≡ note.pos
    index_is = let low = note_here.first in omega (arith, low)

    pub index_within : index < length old.places
    index_within = let low = note_here.first in let high = note_here.within in omega (arith, low, high)

    fresh_here : noted_before (take i since) old.table (old.first + index) ≡ None
    fresh_here =
        (λ j. noted_before (take i since) (sym note_here.table j) (index_is j))
        ∙ ((λ j. noted_before (take i since) (is j).table (is j).pos) ∙ fresh since i note rises within)

    tells_here : noted_before since old.table (old.first + index) ≡ Some note.before
    tells_here =
        (λ j. noted_before since (sym note_here.table j) (index_is j))
        ∙ ((λ j. noted_before since (is j).table (is j).pos) ∙ (tells since i note rises within ∙ λ j. Some (sym is j).before))

    -- its position is as it was
    pub place_same : (news : List Place) (now : List Change) (later : List (List Change)) → BackTo news now later i → nth news index ≡ nth old.places index
    place_same news now later was =
        subst (λ (cell : Option Cell). IsBack writer.viewer writer.label cell (nth old.places index) (nth news index)) fresh_here (was.done index index_within)

    -- and may be gone back on
    pub may_here : (kinds : List Kind) (key : Option ℕ) → MayAllGoBack kinds key writer.viewer.id since old → (news : List Place) (now : List Change)
        (later : List (List Change)) → BackTo news now later i → MayGoBack kinds key writer.viewer.id note.before (nth news index)
    may_here kinds key may news now later was =
        subst (MayGoBack kinds key writer.viewer.id note.before) (sym (place_same news now later was))
        (may index (nth old.places index) note.before (slice_get-get_or old.places index (blank_with []) index_within) tells_here)

    pub back_one : (news after : List Place) (now then : List Change) (later thens : List (List Change)) → BackTo news now later i
        → IsPut index (Written writer.viewer writer.label note.before) news after
        → then ≡ with_note (change_back writer.viewer (record old { places = news }) note) now
        → thens ≡ map (with_note (change_back writer.viewer (record old { places = news }) note)) later → BackTo after then thens (i + 1)
    back_one news after now then later thens was put told told_later =
        let same = place_same news now later was in
        let change : change_back writer.viewer (record old { places = news }) note ≡ back note =
        λ j. record { table = old.table; pos = note.pos; before = sees writer.viewer (same j); after = note.before } in
        let last : take (i + 1) since ≡ take i since ++ note ∷ [] = take_more since i note within ∙ ap (λ (x : Change). take i since ++ x ∷ []) (sym is) in
        let lasts : map back (take (i + 1) since) ≡ map back (take i since) ++ back note ∷ [] =
        map_more back since i note within ∙ ap (λ (x : Change). map back (take i since) ++ back x ∷ []) (sym is) in
        let more : (one : List Change) → with_note (back note) (with_notes one (map back (take i since))) ≡ with_notes one (map back (take (i + 1) since)) =
        λ one. sym (notes_more one (map back (take i since)) (back note)) ∙ ap (with_notes one) (sym lasts) in
        record {
          size = ap (λ (places : List Place). length places) put.others ∙ (length-set news index (nth after index) ∙ was.size);
          done = λ k l. elim (cases_eq k index) [
            | inl eq ↦
                let pos : old.first + k ≡ note.pos = ap (λ (n : ℕ). old.first + n) eq ∙ index_is in
                let cell : noted_before (take (i + 1) since) old.table (old.first + k) ≡ Some note.before =
                ap (λ (list : List Change). noted_before list old.table (old.first + k)) last
                ∙ last_here (take i since) note old.table (old.first + k) (ap (λ (n : ℕ). noted_before (take i since) old.table (old.first + n)) eq ∙ fresh_here)
                (at_itself note old.table (old.first + k) note_here.table (sym pos)) in
                let wrote : Written writer.viewer writer.label note.before (nth old.places index) (nth after index) =
                subst (λ (p : Place). Written writer.viewer writer.label note.before p (nth after index)) same put.here in
                subst (λ (c : Option Cell). IsBack writer.viewer writer.label c (nth old.places k) (nth after k)) (sym cell)
                (subst (λ (n : ℕ). Written writer.viewer writer.label note.before (nth old.places n) (nth after n)) (sym eq) wrote)
            | inr other ↦
                let apart : at note old.table (old.first + k) ≡ false = other_apart note old.table (old.first + k)
                (λ eq. other (let low = note_here.first in omega (arith, low, eq))) in
                let cell : noted_before (take (i + 1) since) old.table (old.first + k) ≡ noted_before (take i since) old.table (old.first + k) =
                ap (λ (list : List Change). noted_before list old.table (old.first + k)) last ∙ last_other (take i since) note old.table (old.first + k) apart in
                let stays : nth after k ≡ nth news k = ap (λ (places : List Place). nth places k) put.others
                ∙ get_or-set_other news index k (nth after index) (blank_with []) other in
                subst (λ (c : Option Cell). IsBack writer.viewer writer.label c (nth old.places k) (nth after k)) (sym cell)
                (subst (IsBack writer.viewer writer.label (noted_before (take i since) old.table (old.first + k)) (nth old.places k)) (sym stays) (was.done k l))
          ];
          noted = told ∙ ((λ j. with_note (change j) (was.noted j)) ∙ more notes);
          in_each = told_later
              ∙ ((λ j. map (with_note (change j)) (was.in_each j))
              ∙ (map-map (with_note (back note)) (λ one. with_notes one (map back (take i since))) levels
              ∙ (λ j. map (λ (one : List Change). more one j) levels)));
        }

-- each position is gone back on, or stays
each_back : (writer : Writer) (told : ℕ → Option Cell) (pos : ℕ) (olds news : List Place) → length news ≡ length olds
    → ((k : ℕ) → k < length olds → IsBack writer.viewer writer.label (told (pos + k)) (nth olds k) (nth news k))
    → AllWritten writer.viewer writer.label (map told (range_with_len pos (length olds))) olds news
each_back writer told pos [] [] size each = tt
each_back writer told pos [] (new ∷ news) size each = absurd (omega arith)
each_back writer told pos (place ∷ olds) [] size each = absurd (omega arith)
each_back writer told pos (place ∷ olds) (new ∷ news) size each =
    let zero_pos : ◌≡◌ {A = ℕ} (pos + zero) pos = omega arith in
    let rest = each_back writer told (pos + 1) olds news (omega arith) (λ k l.
    let next : ◌≡◌ {A = ℕ} (pos + suc k) ((pos + 1) + k) = omega arith in
    subst (λ (n : ℕ). IsBack writer.viewer writer.label (told n) (nth olds k) (nth news k)) next (each (suc k) (omega (arith, l)))) in
    first (told pos) (map told (range_with_len (pos + 1) (length olds))) place new olds news
    (subst (λ (n : ℕ). IsBack writer.viewer writer.label (told n) place new) zero_pos (each zero (omega arith))) rest
  where
    first : (cell : Option Cell) (cells : List (Option Cell)) (place new : Place) (olds news : List Place)
        → IsBack writer.viewer writer.label cell place new → AllWritten writer.viewer writer.label cells olds news
        → AllWritten writer.viewer writer.label (cell ∷ cells) (place ∷ olds) (new ∷ news)
    first None cells place new olds news is rest = (is, rest)
    first (Some cell) cells place new olds news is rest = (is, rest)

-- notes of a table whose positions rise from one on up to another
abbrev pub InOrder : ℕ → ℕ → ℕ → List Change → Type 0
InOrder table from to [] = Unit {0}
InOrder table from to (note ∷ notes) = (note.table ≡ table) × ((from ≤ note.pos) × ((note.pos < to) × InOrder table (suc note.pos) to notes))

less_pos : (note later : Change) → order_of note later.table later.pos ≡ Less → note.table ≡ later.table → note.pos < later.pos
less_pos note later less same =
    let by_pos : nat_cmp note.pos later.pos ≡ Less =
    sym ((λ i. ordering_then (nat_cmp note.table (sym same i)) (nat_cmp note.pos later.pos))
    ∙ ap (λ (o : Ordering). ordering_then o (nat_cmp note.pos later.pos)) (tied_itself nat_cmp_total note.table)) ∙ less in
    subst (λ (o : Ordering). MatchOrdering o (note.pos < later.pos) (note.pos ≡ later.pos) (later.pos < note.pos)) by_pos (ranks note.pos later.pos)

above : (chunk : ChunkData) (note : Change) (notes : List Change) → note.table ≡ chunk.table
    → AllByRecursion (λ (later : Change). order_of note later.table later.pos ≡ Less) notes
    → AllByRecursion (λ (later : Change). is_between chunk.table chunk.first (chunk.first + length chunk.places) later ≡ true) notes
    → AllByRecursion (λ (later : Change). suc note.pos ≤ later.pos) notes
above chunk note [] same less here = tt
above chunk note (later ∷ notes) same less here = (
  (let l = less_pos note later less.0 (same ∙ sym (here_of chunk later here.0).table) in omega (arith, l)),
  above chunk note notes same less.1 here.1,
)

in_order : (chunk : ChunkData) (from : ℕ) (notes : List Change) → Ascends notes
    → AllByRecursion (λ (note : Change). is_between chunk.table chunk.first (chunk.first + length chunk.places) note ≡ true) notes
    → AllByRecursion (λ (note : Change). from ≤ note.pos) notes → InOrder chunk.table from (chunk.first + length chunk.places) notes
in_order chunk from [] rises here low = tt
in_order chunk from (note ∷ notes) rises here low =
    let own = here_of chunk note here.0 in (
      own.table,
      (low.0, (own.within, in_order chunk (suc note.pos) notes rises.1 here.1 (above chunk note notes own.table rises.0 here.1))),
    )

each_low : (chunk : ChunkData) (notes : List Change)
    → AllByRecursion (λ (note : Change). is_between chunk.table chunk.first (chunk.first + length chunk.places) note ≡ true) notes
    → AllByRecursion (λ (note : Change). chunk.first ≤ note.pos) notes
each_low chunk [] here = tt
each_low chunk (note ∷ notes) here = ((here_of chunk note here.0).first, each_low chunk notes here.1)

-- nothing is told of a position below them
none_below : (table from to pos : ℕ) (notes : List Change) → InOrder table from to notes → pos < from → noted_before notes table pos ≡ None
none_below table from to pos [] order l = refl
none_below table from to pos (note ∷ notes) order l =
    let low = order.1.0 in
    passed note notes table pos (other_apart note table pos (λ e. absurd (omega (arith, l, low, e))))
    ∙ none_below table (suc note.pos) to pos notes order.1.1.1 (omega (arith, l, low))

-- what is changed at the positions of such notes is changed note by note
module _ (viewer : Viewer) (table to : ℕ) (seen : ℕ → Place) where
  abbrev changed_at : Change → Change
  changed_at note = record { table = table; pos = note.pos; before = sees viewer (seen note.pos); after = note.before }

  abbrev cells_of : List Change → ℕ → ℕ → List (Option Cell)
  cells_of notes from many = map (noted_before notes table) (range_with_len from many)

  next_are : (pos : ℕ) (place : Place) (places : List Place) → ((k : ℕ) → k < length (place ∷ places) → nth (place ∷ places) k ≡ seen (pos + k))
      → (k : ℕ) → k < length places → nth places k ≡ seen ((pos + 1) + k)
  next_are pos place places are k l =
      let next : ◌≡◌ {A = ℕ} (pos + suc k) ((pos + 1) + k) = omega arith in are (suc k) (omega (arith, l)) ∙ ap seen next

  pub changes_are : (pos : ℕ) (places : List Place) (notes : List Change) → pos + length places ≡ to → InOrder table pos to notes
      → ((k : ℕ) → k < length places → nth places k ≡ seen (pos + k))
      → changes_from table pos viewer (cells_of notes pos (length places)) places ≡ map changed_at notes
  changes_are pos [] [] e order are = refl
  changes_are pos [] (note ∷ notes) e order are = absurd (let low = order.1.0 in let high = order.1.1.0 in omega (arith, e, low, high))
  changes_are pos (place ∷ places) [] e order are =
      ap (λ (n : ℕ). changes_from table n viewer (cells_of [] (pos + 1) (length places)) places) (sym (add-one pos))
      ∙ changes_are (pos + 1) places [] (omega (arith, e)) tt (next_are pos place places are)
  changes_are pos (place ∷ places) (note ∷ notes) e order are = elim (cases_eq note.pos pos) [
    | inl same ↦
        let told : noted_before (note ∷ notes) table pos ≡ Some note.before = found note notes table pos (at_itself note table pos order.0 same) in
        let others : cells_of (note ∷ notes) (pos + 1) (length places) ≡ cells_of notes (pos + 1) (length places) =
        same_range (noted_before (note ∷ notes) table) (noted_before notes table) (pos + 1) (length places)
        (λ k l. passed note notes table ((pos + 1) + k) (other_apart note table ((pos + 1) + k) (λ q. absurd (omega (arith, q, same))))) in
        let here : place ≡ seen note.pos =
        (let none : ◌≡◌ {A = ℕ} (pos + zero) note.pos = omega (arith, same) in are zero (omega arith) ∙ ap seen none) in
        ap (λ (cell : Option Cell). change_of table pos (sees viewer place) cell
        ++ changes_from table (suc pos) viewer (cells_of (note ∷ notes) (pos + 1) (length places)) places) told
        ∙ ((λ j. record { table = table; pos = sym same j; before = sees viewer (here j); after = note.before }
        ∷ changes_from table (sym (add-one pos) j) viewer (others j) places)
        ∙ ap (λ (changes : List Change). changed_at note ∷ changes)
        (changes_are (pos + 1) places notes (omega (arith, e))
        (subst (λ (n : ℕ). InOrder table n to notes) (let n : ◌≡◌ {A = ℕ} (suc note.pos) (pos + 1) = omega (arith, same) in n) order.1.1.1)
        (next_are pos place places are)))
    | inr other ↦
        let low = order.1.0 in
        let later : InOrder table (pos + 1) to (note ∷ notes) = (order.0, (omega (arith, low, other), order.1.1)) in
        ap (λ (cell : Option Cell). change_of table pos (sees viewer place) cell
        ++ changes_from table (suc pos) viewer (cells_of (note ∷ notes) (pos + 1) (length places)) places)
        (none_below table (pos + 1) to pos (note ∷ notes) later (omega arith))
        ∙ (ap (λ (n : ℕ). changes_from table n viewer (cells_of (note ∷ notes) (pos + 1) (length places)) places) (sym (add-one pos))
        ∙ changes_are (pos + 1) places (note ∷ notes) (omega (arith, e)) later (next_are pos place places are))
  ]

pub changes_each : (writer : Writer) (since : List Change) (old : ChunkData) → Ascends since
    → AllByRecursion (λ (note : Change). is_between old.table old.first (old.first + length old.places) note ≡ true) since
    → changes_back writer since old ≡ map (change_back writer.viewer old) since
changes_each writer since old rises here =
    changes_are writer.viewer old.table (old.first + length old.places) (λ pos. nth old.places (pos - old.first)) old.first old.places since refl
    (in_order old old.first since rises here (each_low old since here))
    (λ k l. let n : ◌≡◌ {A = ℕ} k (old.first + k - old.first) = omega arith in ap (nth old.places) n)

-- when all notes are gone back on, the visit is done
pub back_all : (writer : Writer) (since : List Change) (old : ChunkData) (notes : List Change) (levels : List (List Change)) → Ascends since
    → AllByRecursion (λ (note : Change). is_between old.table old.first (old.first + length old.places) note ≡ true) since
    → (new : ChunkData) (now : List Change) (later : List (List Change)) (count : ℕ) → length since ≤ count → new ≡ record old { places = new.places }
    → BackTo writer since old notes levels new.places now later count → BackDone writer since old notes levels new now later
back_all writer since old notes levels rises here new now later count end others was =
    let all : take count since ≡ since = take_all count since end in
    let changes : map (change_back writer.viewer old) (take count since) ≡ changes_back writer since old =
    ap (map (change_back writer.viewer old)) all ∙ sym (changes_each writer since old rises here) in
    record {
      chunk = record {
        places = each_back writer (noted_before since old.table) old.first old.places new.places was.size
            (λ k l. subst (λ (list : List Change). IsBack writer.viewer writer.label (noted_before list old.table (old.first + k)) (nth old.places k)
            (nth new.places k)) all (was.done k l));
        others = others;
      };
      noted = was.noted ∙ ap (with_notes notes) changes;
      in_each = was.in_each ∙ (λ j. map (λ (one : List Change). with_notes one (changes j)) levels);
    }
