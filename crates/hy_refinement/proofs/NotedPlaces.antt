-- The positions that an open transaction has noted are those that the machine's has written.
use Rattle.std.proofs.Common.{◌≡◌, ℕ, zero, suc, ◌+◌, ◌<◌, List, [], ◌∷◌, map, get_or, Option, None, Some, Bool, true, false, refl, sym}
use Rattle.std.proofs.Common.{ap, ◌∙◌, subst, arith, cond, zero-add, add-zero}
use Rattle.std.specs.Prelude.{is_some, ◌||◌, ◌&&◌, ◌==◌}
use Rattle.std.specs.List.{list_any}
use Rattle.std.proofs.Math.Bool.{or-false}
use Rattle.std.proofs.lemmas.Bool.{ne_eqb, eq-eqb, and_from, and_left, and_right, or_left}
use Rattle.std.proofs.lemmas.List.Folds.{list_any-append}
use Rattle.std.proofs.lemmas.Option.{same_Some}
use Rattle.hy_value.specs.declared.change.Change.{Change}
use Rattle.hy_notes.specs.Notes.{Cell, note_at}
use Rattle.hy_render.specs.declared.Place.{Place}
use Rattle.hy_event.specs.declared.SessionData.{SessionData}
use Rattle.hy_event.specs.declared.Open.{Open}
use Rattle.hy_protocol.specs.declared.Phase.{Phase}
use Rattle.hy_protocol.specs.declared.Phase.TheVariants as phase
use Rattle.hy_protocol.specs.Turns.{is_stamping}
use Rattle.hy_event.specs.Sessions.{place_noted, written_in, written}
use Rattle.hy_event.specs.Events.{Part}
use Rattle.hy_machine.specs.declared.Setting.{Setting}
use Rattle.hy_machine.specs.States.{State, Open as MachineOpen}
use Rattle.hy_machine.specs.Positions.{item_at, by_position, by_table}
use Rattle.hy_machine.specs.Tables.{Own}
use Rattle.hy_machine.specs.Writes.{place_at, written as written_there}
use Rattle.hy_machine.specs.Sessions.{session_at, snapshot, pair_of}
use Rattle.hy_refinement.specs.Numbers.{noted}
use Rattle.hy_refinement.specs.Sessions.{OpenShows}
use Rattle.hy_machine.specs.Kept.{Kept}
use Rattle.hy_refinement.specs.Taken.{AtOpen}
use Rattle.hy_refinement.proofs.RivalTops.{open_shown}

-- a place is of this position
abbrev pub is_at : ℕ → ℕ → Place → Bool
is_at table pos place = place.table == table && place.pos == pos

-- these places are those where something is written
abbrev pub PlacesAre : List Place → Own → Type 0
PlacesAre places own = (table pos : ℕ) → list_any (is_at table pos) places ≡ is_some (item_at own table pos)

-- ---- the places of notes

pub noted_places : (notes : List Change) (table pos : ℕ) → list_any (is_at table pos) (map place_noted notes) ≡ is_some (note_at notes table pos)
noted_places [] table pos = refl
noted_places (note ∷ notes) table pos = by (note.table == table && note.pos == pos) (noted_places notes table pos)
  where
    by : (b : Bool) → list_any (is_at table pos) (map place_noted notes) ≡ is_some (note_at notes table pos)
        → (b || list_any (is_at table pos) (map place_noted notes)) ≡ is_some (cond b (Some (note.before, note.after)) (note_at notes table pos))
    by true later = refl
    by false later = later

pub some_noted : (before : Cell) (own : Option Cell) → is_some (noted (pair_of before own)) ≡ is_some own
some_noted before None = refl
some_noted before (Some cell) = refl

-- ---- the places of written cells

-- a place at another position, or of another table, is none of these
elsewhere : (table pos at first : ℕ) → (first ≡ pos → ⊥) → is_at table pos (record { table = at; pos = first }) ≡ false
elsewhere table pos at first apart = and_right (at == table) (first == pos) (ne_eqb first pos apart)

none_before : (table pos at first : ℕ) (items : List (Option Cell)) → pos < first
    → list_any (is_at table pos) (by_position (place_at at) first items) ≡ false
none_before table pos at first [] less = refl
none_before table pos at first (None ∷ items) less = none_before table pos at (suc first) items (omega (arith, less))
none_before table pos at first (Some item ∷ items) less =
    ap (λ (b : Bool). b || list_any (is_at table pos) (by_position (place_at at) (suc first) items))
    (elsewhere table pos at first (λ e. omega (arith, e, less)))
    ∙ none_before table pos at (suc first) items (omega (arith, less))

none_of_table : (table pos at first : ℕ) (items : List (Option Cell)) → (at ≡ table → ⊥)
    → list_any (is_at table pos) (by_position (place_at at) first items) ≡ false
none_of_table table pos at first [] apart = refl
none_of_table table pos at first (None ∷ items) apart = none_of_table table pos at (suc first) items apart
none_of_table table pos at first (Some item ∷ items) apart =
    ap (λ (b : Bool). b || list_any (is_at table pos) (by_position (place_at at) (suc first) items))
    (and_left (at == table) (first == pos) (ne_eqb at table apart))
    ∙ none_of_table table pos at (suc first) items apart

places_of_table : (at first k : ℕ) (items : List (Option Cell))
    → list_any (is_at at (first + k)) (by_position (place_at at) first items) ≡ is_some (get_or items k None)
places_of_table at first k [] = refl
places_of_table at first zero (None ∷ items) = none_before at (first + zero) at (suc first) items (omega arith)
places_of_table at first zero (Some item ∷ items) =
    or_left (is_at at (first + zero) (record { table = at; pos = first })) (list_any (is_at at (first + zero)) (by_position (place_at at) (suc first) items))
    (and_from (at == at) (first == first + zero) (eq-eqb at at refl) (eq-eqb first (first + zero) (sym (add-zero first))))
places_of_table at first (suc k) (None ∷ items) =
    ap (λ (n : ℕ). list_any (is_at at n) (by_position (place_at at) (suc first) items)) (let e : first + suc k ≡ suc first + k = omega arith in e)
    ∙ places_of_table at (suc first) k items
places_of_table at first (suc k) (Some item ∷ items) =
    ap (λ (b : Bool). b || list_any (is_at at (first + suc k)) (by_position (place_at at) (suc first) items))
    (elsewhere at (first + suc k) at first (λ e. omega (arith, e)))
    ∙ (ap (λ (n : ℕ). list_any (is_at at n) (by_position (place_at at) (suc first) items)) (let e : first + suc k ≡ suc first + k = omega arith in e)
    ∙ places_of_table at (suc first) k items)

none_of_tables : (table pos first : ℕ) (own : Own) → table < first → list_any (is_at table pos) (by_table place_at first own) ≡ false
none_of_tables table pos first [] less = refl
none_of_tables table pos first (cells ∷ own) less =
    list_any-append (is_at table pos) (by_position (place_at first) 0 cells) (by_table place_at (suc first) own)
    ∙ (ap (λ (b : Bool). b || list_any (is_at table pos) (by_table place_at (suc first) own))
    (none_of_table table pos first 0 cells (λ e. omega (arith, e, less)))
    ∙ none_of_tables table pos (suc first) own (omega (arith, less)))

places_of_tables : (first table pos : ℕ) (own : Own)
    → list_any (is_at (first + table) pos) (by_table place_at first own) ≡ is_some (item_at own table pos)
places_of_tables first table pos [] = refl
places_of_tables first zero pos (cells ∷ own) =
    ap (λ (n : ℕ). list_any (is_at n pos) (by_table place_at first (cells ∷ own))) (add-zero first)
    ∙ (list_any-append (is_at first pos) (by_position (place_at first) 0 cells) (by_table place_at (suc first) own)
    ∙ (ap (λ (b : Bool). list_any (is_at first pos) (by_position (place_at first) 0 cells) || b)
    (none_of_tables first pos (suc first) own (omega arith))
    ∙ (or-false (list_any (is_at first pos) (by_position (place_at first) 0 cells))
    ∙ (ap (λ (n : ℕ). list_any (is_at first n) (by_position (place_at first) 0 cells)) (sym (zero-add pos))
    ∙ places_of_table first 0 pos cells))))
places_of_tables first (suc table) pos (cells ∷ own) =
    list_any-append (is_at (first + suc table) pos) (by_position (place_at first) 0 cells) (by_table place_at (suc first) own)
    ∙ (ap (λ (b : Bool). b || list_any (is_at (first + suc table) pos) (by_table place_at (suc first) own))
    (none_of_table (first + suc table) pos first 0 cells (λ e. omega (arith, e)))
    ∙ (ap (λ (n : ℕ). list_any (is_at n pos) (by_table place_at (suc first) own)) (let e : first + suc table ≡ suc first + table = omega arith in e)
    ∙ places_of_tables (suc first) table pos own))

pub written_places : (own : Own) → PlacesAre (written_there own) own
written_places own table pos =
    ap (λ (n : ℕ). list_any (is_at n pos) (by_table place_at 0 own)) (sym (zero-add table)) ∙ places_of_tables 0 table pos own

-- ---- what an open transaction wrote

-- one that isn't stamping is not marked
pub not_marked : (setting : Setting) (state : State) (number : ℕ) (current : MachineOpen) → Kept setting state → (session_at state number).now ≡ Some current
    → is_stamping current.phase ≡ false → state.mark ≡ Some number → ⊥
not_marked setting state number current kept is quiet marked =
    let one = kept.ranks.marked number marked in
    let same : one.0 ≡ current = same_Some one.0 current (sym one.1.0 ∙ is) in
    absurd (let e = sym one.1.1 ∙ (ap (λ (c : MachineOpen). is_stamping c.phase) same ∙ quiet) in cc)

-- by its notes, or by the places that it keeps
pub places_are : (setting : Setting) (state : State) (parts : List Part) (sessions : List SessionData) (number : ℕ) (session : SessionData)
    (now : Open) (current : MachineOpen)
    → AtOpen setting state parts sessions number session now current → PlacesAre (written now) current.begun.own
places_are setting state parts sessions number session now current at = by now.phase refl (sym open_is.open_shows.phase)
  where
    open_is : OpenShows setting state at.shown.shows.core number now current
    open_is = open_shown setting state at.shown.shows.core sessions number session now current at.shown.shows.sessions_show at.is_open

    by_notes : is_stamping current.phase ≡ false → PlacesAre (map place_noted now.notes) current.begun.own
    by_notes quiet table pos =
        noted_places now.notes table pos
        ∙ (ap is_some ((open_is.notes_show (not_marked setting state number current at.shown.kept at.is_open.open_there quiet)).all.each table pos)
        ∙ some_noted (item_at (snapshot setting state current.begun.prefix) table pos) (item_at current.begun.own table pos))

    by : (stands : Phase) → now.phase ≡ stands → current.phase ≡ stands → PlacesAre (written_in now stands) current.begun.own
    by (phase.Working visited count) here there = by_notes (ap is_stamping there)
    by (phase.Stamping visited) here there =
        subst (λ (places : List Place). PlacesAre places current.begun.own)
        (sym (at.shown.shows.core_shows.mark_shows.stamping number session now current at.is_open visited here).wrote)
        (written_places current.begun.own)
    by (phase.Undoing visited ending) here there = by_notes (ap is_stamping there)
