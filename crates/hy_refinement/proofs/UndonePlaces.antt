-- A position whose newest record is taken back by the transaction that holds it: what is left there.
use Rattle.std.proofs.Common.{◌≡◌, ℕ, ◌≤◌, List, drop, sym, ap, ◌∙◌, arith}
use Rattle.std.specs.Prelude.{is_some}
use Rattle.hy_stamp.specs.declared.Viewer.{Viewer}
use Rattle.hy_stamp.specs.Times.{id_of}
use Rattle.hy_chain.specs.Pruning.{stamps_of}
use Rattle.hy_undo.specs.Images.{before}
use Rattle.hy_undo.specs.Places.{Place, sees, cell_of, stamps}
use Rattle.hy_undo.specs.Chunks.{Undone}
use Rattle.hy_journal.specs.declared.CoreData.{CoreData}
use Rattle.hy_event.specs.declared.SessionData.{SessionData}
use Rattle.hy_event.specs.declared.Open.{Open}
use Rattle.hy_event.specs.Sessions.{label_of}
use Rattle.hy_machine.specs.declared.Setting.{Setting}
use Rattle.hy_machine.specs.States.{State, Open as MachineOpen}
use Rattle.hy_machine.specs.Positions.{item_at}
use Rattle.hy_machine.specs.Sessions.{snapshot}
use Rattle.hy_refinement.specs.Stamped.{entries_counted}
use Rattle.hy_refinement.proofs.Frees.{stopped, live_is}
use Rattle.hy_refinement.proofs.OwnRecords.{HasOwnRecord, newest_among, stamps_are, behind_early, early_start, newcomer_saw, behind_counted, counted_start}

-- the newest record of a position, that of the open transaction which holds it, is taken back
pub record TakesBack (setting : Setting) (state : State) (core : CoreData) (sessions : List SessionData) (table chunk pos : ℕ) (old new : Place)
    (number : ℕ) (session : SessionData) (now : Open) (current : MachineOpen) : Type 0 where
  pub has : HasOwnRecord setting state core sessions table chunk pos old number session now current
  pub undone : Undone (id_of (label_of session)) old new

module _ {setting : Setting} {state : State} {core : CoreData} {sessions : List SessionData} {table chunk pos : ℕ} {old new : Place}
    {number : ℕ} {session : SessionData} {now : Open} {current : MachineOpen}
    (back : TakesBack setting state core sessions table chunk pos old new number session now current) where
  abbrev counted : ℕ
  counted = entries_counted setting state table chunk

  -- the stamps that are left are those behind the own one
  pub stamps_left : stamps new ≡ stamps_of back.has.rest
  stamps_left = back.undone.stamps ∙ ap (drop 1) (stamps_are back.has)

  -- who starts no earlier stops at once
  pub stops_there : (viewer : Viewer) → now.start ≤ viewer.start → sees viewer new ≡ cell_of new.version
  stops_there viewer later =
      ap cell_of (stopped viewer new.version new.chain (λ stamp e.
      let early = behind_early back.has stamp (newest_among new.chain stamp (stamps_of back.has.rest) stamps_left e) in
      omega (arith, early, later)))

  -- ---- by a newcomer

  -- what is in place is what the entries leave that count
  in_place_counted : cell_of new.version ≡ item_at (snapshot setting state counted) table pos
  in_place_counted =
      let ids = back.has.shown.below_ids in
      let early = early_start back.has in
      sym (stops_there (record { id = core.next; start = core.next }) (omega (arith, early)))
      ∙ (back.undone.others (record { id = core.next; start = core.next }) (record {
        other = λ e. absurd (omega (arith, e, ids));
        start = omega (arith, ids);
      })
      ∙ newcomer_saw back.has)

  -- and what was there at its start
  pub in_place_prefix : cell_of new.version ≡ item_at (snapshot setting state current.begun.prefix) table pos
  in_place_prefix = in_place_counted ∙ counted_start back.has

  -- the record says whether a row was there
  pub image_live : back.has.undo.image.live ≡ is_some (item_at (snapshot setting state counted) table pos)
  image_live = sym (live_is (before back.has.undo.image old.version)) ∙ ap is_some (behind_counted back.has)
