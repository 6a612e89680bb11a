-- The notes of a transaction since a savepoint have what it saw when that was made: its own cell, or that of its start.
use Rattle.std.proofs.Common.{◌≡◌, ℕ, List, take, Option, None, Some, true, refl, sym, ap, ◌∙◌, inl, inr}
use Rattle.std.specs.Prelude.{is_some}
use Rattle.std.specs.Option.{option_map}
use Rattle.std.proofs.lemmas.Option.{same_Some}
use Rattle.hy_notes.specs.Notes.{Cell}
use Rattle.hy_protocol.specs.declared.Phase.TheVariants as phase
use Rattle.hy_protocol.specs.Turns.{is_stamping}
use Rattle.hy_machine.specs.declared.Setting.{Setting}
use Rattle.hy_machine.specs.States.{State, Begun}
use Rattle.hy_machine.specs.Positions.{item_at}
use Rattle.hy_machine.specs.Tables.{Own, over, opening_tables}
use Rattle.hy_machine.specs.Kept.{OpenFits}
use Rattle.hy_machine.specs.Saving.{count_at, own_at, own_since}
use Rattle.hy_machine.specs.Sessions.{snapshot, pair_of}
use Rattle.hy_machine.specs.Holding.{undone}
use Rattle.hy_refinement.specs.Numbers.{noted}
use Rattle.hy_refinement.specs.OwnRecords.{WasSeen, NotesHaveWhatWasSeen}
use Rattle.hy_refinement.proofs.RivalTops.{open_shown}
use Rattle.hy_refinement.proofs.Orders.{tables_over}
use Rattle.hy_refinement.proofs.LastCells.{pair_over, stays_along}
use Rattle.hy_refinement.proofs.WritesOwn.{own_within, has_position}
use Rattle.hy_refinement.proofs.WritesViews.{none_or_some, holds_own}
use Rattle.hy_refinement.proofs.Trails.{since_fits, since_own}
use Rattle.hy_refinement.proofs.Since.{since_shown}

-- what was seen there then is its own, or that of its start
was_seen : (setting : Setting) (state : State) (begun : Begun) (name : List ℕ) (table pos : ℕ) (cell : Cell)
    → item_at (over (snapshot setting state begun.prefix) (own_at setting begun name)) table pos ≡ cell → WasSeen setting state begun name table pos cell
was_seen setting state begun name table pos cell seen = elim (none_or_some (item_at own table pos)) [
  | inl none ↦ inr (sym seen ∙ tables_over (λ (own : Cell). own) (snapshot setting state begun.prefix) own table pos none)
  | inr some ↦
      let within = own_within setting own table pos some.0 (since_fits setting (take (count_at begun name) begun.trail)) some.1 in
      let there = stays_along (opening_tables setting) (take begun.prefix state.order) table pos (has_position setting table pos within.0 within.1) in
      inl (some.1 ∙ ap (λ (cell : Cell). Some cell)
      (sym (pair_over (λ (own : Cell). own) (snapshot setting state begun.prefix) own table pos some.0 some.1 there.table_below there.pos_below) ∙ seen))
]
  where
    own : Own
    own = own_at setting begun name

-- what is noted of what was seen and is own is what was seen, and it is own
noted_there : (seen : Cell) (own : Option Cell) (cell : Cell) → option_map (λ (pair : Cell × Cell). pair.0) (noted (pair_of seen own)) ≡ Some cell
    → (is_some own ≡ true) × (seen ≡ cell)
noted_there seen None cell e = absurd cc
noted_there seen (Some mine) cell e = (refl, same_Some seen cell e)

pub notes_have : NotesHaveWhatWasSeen
notes_have setting state parts sessions number session now current visited count name table pos cell at phase_is here = (
  holds_own setting current table pos fits.own (ap undone working) ∙ since_own setting current.begun name fits.trail table pos found.0,
  was_seen setting state current.begun name table pos cell found.1,
)
  where
    fits : OpenFits setting state number current
    fits = at.shown.kept.fits.opens number current at.is_open.open_there

    working : current.phase ≡ phase.Working visited count
    working = sym (open_shown setting state at.shown.shows.core sessions number session now current at.shown.shows.sessions_show at.is_open).open_shows.phase
        ∙ phase_is

    seen : Cell
    seen = item_at (over (snapshot setting state current.begun.prefix) (own_at setting current.begun name)) table pos

    since : Option Cell
    since = item_at (own_since setting current.begun name) table pos

    found : (is_some since ≡ true) × (seen ≡ cell)
    found = noted_there seen since cell
        (sym (ap (λ (o : Option (Cell × Cell)). option_map (λ (pair : Cell × Cell). pair.0) o)
        ((since_shown setting state parts sessions number session now current name at (ap is_stamping working)).each table pos)) ∙ here)
