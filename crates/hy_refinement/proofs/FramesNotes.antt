-- A change that is noted shows the cell that is written: among all notes, and among those since each savepoint.
use Rattle.std.proofs.Common.{◌≡◌, ◌≢◌, ℕ, ◌≤◌, ◌<◌, List, [], ◌∷◌, ◌++◌, Option, Some, None, Bool, true, false, length, take, drop, map}
use Rattle.std.proofs.Common.{cond, refl, sym, ap, ◌∙◌, inl, inr, subst}
use Rattle.std.specs.Prelude.{◌&&◌, ◌==◌}
use Rattle.std.specs.List.{AllByRecursion}
use Rattle.std.proofs.lemmas.Bool.{cases_eq, eq-eqb, ne_eqb, and_from}
use Rattle.hy_value.specs.declared.change.Change.{Change}
use Rattle.hy_bound.specs.Savepoints.{Saved}
use Rattle.hy_bound.specs.SavedRelations.{AreAlike}
use Rattle.hy_notes.specs.Notes.{Cell, with_note, note_at}
use Rattle.hy_notes.specs.Telling.{NotesTell, before_or}
use Rattle.hy_event.specs.declared.SavedNotes.{SavedNotes}
use Rattle.hy_event.specs.Sessions.{savepoint_of}
use Rattle.hy_event.specs.Turns.{note_since}
use Rattle.hy_machine.specs.declared.Setting.{Setting}
use Rattle.hy_machine.specs.Writes.{Write, blank_own, with_write, with_writes}
use Rattle.hy_machine.specs.Positions.{item_at}
use Rattle.hy_machine.specs.Tables.{Own, Tables, over, capacity}
use Rattle.hy_machine.specs.Sessions.{snapshot, view, pair_of}
use Rattle.hy_machine.specs.Kept.{OwnFits, TrailFits}
use Rattle.hy_refinement.specs.Numbers.{noted}
use Rattle.hy_refinement.specs.Sessions.{NotesHave, SinceHave}
use Rattle.hy_refinement.specs.Frames.{NotesFollowWrites}
use Rattle.hy_refinement.proofs.Orders.{tables_over}
use Rattle.hy_refinement.proofs.Trails.{first_stays, since_follows, since_fits, laid_over}
use Rattle.hy_refinement.proofs.WritesOwn.{write_here, write_away}

-- ---- what is noted

-- the first row before is the one of the start
before_is : (start seen : Cell) (own : Option Cell) → (own ≡ None → seen ≡ start) → before_or seen (noted (pair_of start own)) ≡ start
before_is start seen None same = same refl
before_is start seen (Some cell) same = refl

second_false : (b : Bool) → (b && false) ≡ false
second_false true = refl
second_false false = refl

module _ (tell : NotesTell) (setting : Setting) (tables : Tables) (own : Own) (notes : List Change) (table pos : ℕ) (before cell : Cell)
    (fits : OwnFits setting own) (below : table < length setting.first) (within : pos < capacity setting)
    (seen : before ≡ item_at (over tables own) table pos) (have : NotesHave tables own notes) where
  abbrev change : Change
  change = record { table = table; pos = pos; before = before; after = cell }

  abbrev write : Write
  write = record { table = table; pos = pos; cell = cell }

  here : note_at (with_note change notes) table pos ≡ noted (pair_of (item_at tables table pos) (item_at (with_write own write) table pos))
  here =
      (tell change notes table pos have.ascends).0
      ∙ (ap (λ (b : Bool). cond b (Some (before_or before (note_at notes table pos), cell)) (note_at notes table pos))
      (and_from (table == table) (pos == pos) (eq-eqb table table refl) (eq-eqb pos pos refl))
      ∙ (ap (λ (first : Cell). let pair : Cell × Cell = (first, cell) in Some pair)
      (ap (before_or before) (have.each table pos)
      ∙ before_is (item_at tables table pos) before (item_at own table pos)
      (λ none. seen ∙ tables_over (λ own. own) tables own table pos none))
      ∙ ap (λ (mine : Option Cell). noted (pair_of (item_at tables table pos) mine)) (sym (write_here setting own write fits below within))))

  away : (other at : ℕ) → (table == other && pos == at) ≡ false → (other ≡ table → at ≢ pos)
      → note_at (with_note change notes) other at ≡ noted (pair_of (item_at tables other at) (item_at (with_write own write) other at))
  away other at isnt apart =
      (tell change notes other at have.ascends).0
      ∙ (ap (λ (b : Bool). cond b (Some (before_or before (note_at notes other at), cell)) (note_at notes other at)) isnt
      ∙ (have.each other at
      ∙ ap (λ (mine : Option Cell). noted (pair_of (item_at tables other at) mine))
      (sym (write_away setting own write other at fits below (λ same. apart same.0 same.1)))))

  told : (other at : ℕ) → note_at (with_note change notes) other at ≡ noted (pair_of (item_at tables other at) (item_at (with_write own write) other at))
  told other at = elim (cases_eq table other) [
    | inr apart ↦ away other at (ap (λ (b : Bool). b && pos == at) (ne_eqb table other apart)) (λ e. absurd (apart (sym e)))
    | inl same ↦ elim (cases_eq pos at) [
      | inr apart ↦
          away other at (ap (λ (b : Bool). table == other && b) (ne_eqb pos at apart) ∙ second_false (table == other)) (λ e f. apart (sym f))
      | inl e ↦
          subst (λ (n : ℕ). note_at (with_note change notes) n at ≡ noted (pair_of (item_at tables n at) (item_at (with_write own write) n at))) same
          (subst (λ (n : ℕ). note_at (with_note change notes) table n ≡ noted (pair_of (item_at tables table n) (item_at (with_write own write) table n)))
          e here)
    ]
  ]

  -- a note more, from what is seen over the tables
  pub one_more : NotesHave tables (with_write own write) (with_note change notes)
  one_more = record { each = told; ascends = (tell change notes 0 0 have.ascends).1 }

-- ---- since savepoints

module _ (tell : NotesTell) (setting : Setting) (tables : Tables) (trail : List Write) (table pos : ℕ) (cell : Cell)
    (below : table < length setting.first) (within : pos < capacity setting) where
  abbrev seen_there : Cell
  seen_there = item_at (over tables (with_writes (blank_own setting) trail)) table pos

  abbrev one_change : Change
  one_change = record { table = table; pos = pos; before = seen_there; after = cell }

  abbrev one_write : Write
  one_write = record { table = table; pos = pos; cell = cell }

  since_more : (notes : List Change) (count : ℕ) → count ≤ length trail → SinceHave setting tables trail notes count
      → SinceHave setting tables (trail ++ one_write ∷ []) (with_note one_change notes) count
  since_more notes count made have =
      subst (λ (then : List Write). NotesHave (over tables (with_writes (blank_own setting) then))
      (with_writes (blank_own setting) (drop count (trail ++ one_write ∷ []))) (with_note one_change notes))
      (sym (first_stays count trail one_write made))
      (subst (λ (own : Own). NotesHave (over tables (with_writes (blank_own setting) (take count trail))) own (with_note one_change notes))
      (sym (since_follows setting count trail one_write made))
      (one_more tell setting (over tables (with_writes (blank_own setting) (take count trail)))
      (with_writes (blank_own setting) (drop count trail)) notes table pos seen_there cell (since_fits setting (drop count trail)) below within
      (sym (laid_over setting tables trail count table pos)) have))

  pub all_more : (kept : List SavedNotes) (there : List (Saved ℕ)) → AllByRecursion (λ (one : Saved ℕ). one.was ≤ length trail) there
      → AreAlike (SinceHave setting tables trail) (map savepoint_of kept) there
      → AreAlike (SinceHave setting tables (trail ++ one_write ∷ [])) (map savepoint_of (map (note_since one_change) kept)) there
  all_more [] [] made shows = tt
  all_more [] (there ∷ theres) made shows = absurd shows
  all_more (kept ∷ keepers) [] made shows = absurd shows
  all_more (kept ∷ keepers) (there ∷ theres) made shows =
      ((shows.0.0, since_more kept.since there.was made.0 shows.0.1), all_more keepers theres made.1 shows.1)

-- ---- the law

pub follow : NotesTell → NotesFollowWrites
follow tell setting state now current table pos cell fits trail below within show = record {
  all = one_more tell setting start current.begun.own now.notes table pos (item_at (view setting state current.begun) table pos) cell fits below within
      refl show.all;
  saved = subst (λ (own : Own). AreAlike (SinceHave setting start (current.begun.trail ++ write ∷ []))
      (map savepoint_of (map (note_since (record { table = table; pos = pos; before = item_at (over start own) table pos; after = cell })) now.saved))
      current.begun.saved)
      (sym trail.own_is)
      (all_more tell setting start current.begun.trail table pos cell below within now.saved current.begun.saved trail.within show.saved);
}
  where
    start : Tables
    start = snapshot setting state current.begun.prefix

    write : Write
    write = record { table = table; pos = pos; cell = cell }
