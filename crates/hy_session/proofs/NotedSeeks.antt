-- What the notes tell of the first position from one on is what the positions that they are of tell.
use Rattle.std.proofs.Common.{◌≡◌, ℕ, suc, ◌+◌, ◌<◌, List, [], ◌∷◌, Bool, true, false, Option, None, Some, map, cond, refl, sym, ap, ◌∙◌, arith, inl, inr, ⊎_elim}
use Rattle.std.specs.Prelude.{◌==◌, slice_get}
use Rattle.std.specs.Option.{option_map}
use Rattle.std.specs.List.{prefix_len}
use Rattle.std.specs.Cmp.{ranks}
use Rattle.std.specs.Ordering.{MatchOrdering, nat_cmp, ordering_then, is_lt}
use Rattle.std.specs.declared.cmp.Ordering.{Ordering}
use Rattle.std.specs.declared.cmp.Ordering.TheVariants.{Less, Equal, Greater}
use Rattle.hy_value.specs.declared.change.Change.{Change}
use Rattle.hy_notes.specs.declared.NotedPlace.{NotedPlace}
use Rattle.hy_notes.specs.Notes.{below, place_of}
use Rattle.hy_render.specs.declared.Place.{Place}
use Rattle.hy_event.specs.Sessions.{place_noted}
use Rattle.hy_session.specs.Seeking.{Rises, comes_before, first_from, of_table, written_place}
use Rattle.hy_session.proofs.OrderedPlaces.{is_before, not_before, passed, found_by}

-- positions that are noted are written so
pub written_noted : (notes : List Change) → map written_place (map place_of notes) ≡ map place_noted notes
written_noted [] = refl
written_noted (note ∷ notes) = ap (λ (places : List Place). place_noted note ∷ places) (written_noted notes)

-- a position that may be noted
pub written_one : (note : Option Change) → option_map written_place (option_map place_of note) ≡ option_map place_noted note
written_one None = refl
written_one (Some note) = refl

-- to come before is to be less, by table and then position
is_less : (o p : Ordering) (table pos : ℕ) (place : Place) → MatchOrdering o (place.table < table) (place.table ≡ table) (table < place.table)
    → MatchOrdering p (place.pos < pos) (place.pos ≡ pos) (pos < place.pos) → comes_before table pos place ≡ is_lt (ordering_then o p)
is_less Less p table pos place m n = is_before table pos place (inl m)
is_less Equal Less table pos place m n = is_before table pos place (inr (m, n))
is_less Equal Equal table pos place m n = not_before table pos place (⊎_elim (λ l. omega (arith, l, m)) (λ r. omega (arith, r.1, n)))
is_less Equal Greater table pos place m n = not_before table pos place (⊎_elim (λ l. omega (arith, l, m)) (λ r. omega (arith, r.1, n)))
is_less Greater p table pos place m n = not_before table pos place (⊎_elim (λ l. omega (arith, l, m)) (λ r. omega (arith, r.0, m)))

comes_below : (table pos : ℕ) (note : Change) → comes_before table pos (place_noted note) ≡ below table pos note
comes_below table pos note =
    is_less (nat_cmp note.table table) (nat_cmp note.pos pos) table pos (place_noted note) (ranks note.table table) (ranks note.pos pos)

-- the first note from a position on, by the first note
noted_by : (table from : ℕ) (note : Change) (notes : List Change) → Rises (map place_noted (note ∷ notes)) → (b : Bool) → below table from note ≡ b
    → of_table table (option_map place_noted (slice_get notes (prefix_len (below table from) notes))) ≡ first_from table from (map place_noted notes)
    → of_table table (option_map place_noted (slice_get (note ∷ notes) (prefix_len (below table from) (note ∷ notes))))
    ≡ first_from table from (map place_noted (note ∷ notes))
noted_by table from note notes up true is rest =
    let one : 1 + prefix_len (below table from) notes ≡ suc (prefix_len (below table from) notes) = omega arith in
    ap (λ (c : Bool). of_table table (option_map place_noted (slice_get (note ∷ notes) (cond c (1 + prefix_len (below table from) notes) 0)))) is
    ∙ (ap (λ (n : ℕ). of_table table (option_map place_noted (slice_get (note ∷ notes) n))) one
    ∙ (rest ∙ sym (passed table from (place_noted note) (map place_noted notes) (comes_below table from note ∙ is))))
noted_by table from note notes up false is rest =
    ap (λ (c : Bool). of_table table (option_map place_noted (slice_get (note ∷ notes) (cond c (1 + prefix_len (below table from) notes) 0)))) is
    ∙ sym (found_by table from (place_noted note) (map place_noted notes) (note.table == table) refl (comes_below table from note ∙ is) up.0)

pub first_noted : (table from : ℕ) (notes : List Change) → Rises (map place_noted notes)
    → of_table table (option_map place_noted (slice_get notes (prefix_len (below table from) notes))) ≡ first_from table from (map place_noted notes)
first_noted table from [] up = refl
first_noted table from (note ∷ notes) up = noted_by table from note notes up (below table from note) refl (first_noted table from notes up.1)

-- what is found among the notes is the first position of the table, or none
pub found_noted : (table from : ℕ) (notes : List Change) (found : Option NotedPlace) → Rises (map place_noted notes)
    → found ≡ option_map place_of (slice_get notes (prefix_len (below table from) notes))
    → of_table table (option_map written_place found) ≡ first_from table from (map place_noted notes)
found_noted table from notes found up is =
    ap (λ (o : Option NotedPlace). of_table table (option_map written_place o)) is
    ∙ (ap (of_table table) (written_one (slice_get notes (prefix_len (below table from) notes))) ∙ first_noted table from notes up)
