-- What a transaction that undoes nothing yet holds and sees: its own cells, over those of its start.
use Rattle.std.proofs.Common.{◌≡◌, ◌⊎◌, ℕ, ◌≤◌, List, length, take, drop, Option, None, Some, Bool, true, false}
use Rattle.std.proofs.Common.{refl, sym, ap, ◌∙◌, arith, inl, inr, cond}
use Rattle.std.specs.Prelude.{is_some, ◌&&◌, ◌||◌}
use Rattle.std.specs.List.{list_any}
use Rattle.std.proofs.lemmas.Bool.{cases_Bool, and_from, or_left, or_right}
use Rattle.hy_value.specs.declared.Value.{Value}
use Rattle.hy_machine.specs.declared.Setting.{Setting}
use Rattle.hy_machine.specs.States.{State, Session, Open as MachineOpen, Begun}
use Rattle.hy_machine.specs.Positions.{item_at}
use Rattle.hy_machine.specs.Tables.{Cell, chunk_of, opening_tables}
use Rattle.hy_machine.specs.Writes.{written_chunks, is_among}
use Rattle.hy_machine.specs.Sessions.{session_at, snapshot, view}
use Rattle.hy_machine.specs.Holding.{holds, is_held, has_pair, undone}
use Rattle.hy_refinement.specs.Places.{cell_held, is_used}
use Rattle.hy_machine.specs.Kept.{OwnFits, Kept}
use Rattle.hy_machine.specs.WrittenPlaces.{own_among}
use Rattle.hy_refinement.proofs.Orders.{tables_over, cell_stays}
use Rattle.hy_refinement.proofs.LastCells.{any_true, pair_over, stays_along}
use Rattle.hy_refinement.proofs.Holders.{is_there}
use Rattle.hy_refinement.proofs.WritesOwn.{own_within, has_position}

pub none_or_some : {A : Type 0} (o : Option A) → (o ≡ None) ⊎ ((x : A) × (o ≡ Some x))
none_or_some None = inl refl
none_or_some (Some x) = inr (x, refl)

-- ---- the view

pub view_own : (setting : Setting) (state : State) (begun : Begun) (table pos : ℕ) (cell : Cell) → OwnFits setting begun.own
    → item_at begun.own table pos ≡ Some cell → item_at (view setting state begun) table pos ≡ cell
view_own setting state begun table pos cell fits e =
    let within = own_within setting begun.own table pos cell fits e in
    let there = stays_along (opening_tables setting) (take begun.prefix state.order) table pos (has_position setting table pos within.0 within.1) in
    pair_over (λ (own : Cell). own) (snapshot setting state begun.prefix) begun.own table pos cell e there.table_below there.pos_below

pub view_kept : (setting : Setting) (state : State) (begun : Begun) (table pos : ℕ) → item_at begun.own table pos ≡ None
    → item_at (view setting state begun) table pos ≡ item_at (snapshot setting state begun.prefix) table pos
view_kept setting state begun table pos e = tables_over (λ (own : Cell). own) (snapshot setting state begun.prefix) begun.own table pos e

-- two transactions of one start that wrote the same at a position see the same there
pub views_alike : (setting : Setting) (state : State) (begun after : Begun) (table pos : ℕ) → OwnFits setting begun.own → OwnFits setting after.own
    → after.prefix ≡ begun.prefix → item_at after.own table pos ≡ item_at begun.own table pos
    → item_at (view setting state after) table pos ≡ item_at (view setting state begun) table pos
views_alike setting state begun after table pos fits fits_after prefix e = elim (none_or_some (item_at begun.own table pos)) [
  | inl none ↦
      view_kept setting state after table pos (e ∙ none)
      ∙ (ap (λ (n : ℕ). item_at (snapshot setting state n) table pos) prefix ∙ sym (view_kept setting state begun table pos none))
  | inr some ↦
      view_own setting state after table pos some.0 fits_after (e ∙ some.1) ∙ sym (view_own setting state begun table pos some.0 fits some.1)
]

-- ---- what it holds

pub holds_own : (setting : Setting) (current : MachineOpen) (table pos : ℕ) → OwnFits setting current.begun.own → undone current.phase ≡ 0
    → holds setting table pos (Some current) ≡ is_some (item_at current.begun.own table pos)
holds_own setting current table pos fits none = elim (cases_Bool (is_some (item_at current.begun.own table pos))) [
  | inl own ↦
      and_from (is_some (item_at current.begun.own table pos))
      (is_among (drop (undone current.phase) (written_chunks setting current.begun.own)) table (chunk_of setting pos)) own
      (ap (λ (n : ℕ). is_among (drop n (written_chunks setting current.begun.own)) table (chunk_of setting pos)) none
      ∙ own_among setting current.begun.own table pos fits own)
      ∙ sym own
  | inr not_own ↦
      ap (λ (b : Bool). b && is_among (drop (undone current.phase) (written_chunks setting current.begun.own)) table (chunk_of setting pos)) not_own
      ∙ sym not_own
]

no_item : {A : Type 0} (o : Option A) → is_some o ≡ false → o ≡ None
no_item None e = refl
no_item (Some x) e = absurd cc

-- its cell, by whether it holds the position
abbrev pub cell_if : Setting → State → MachineOpen → ℕ → ℕ → Bool → Cell
cell_if setting state current table pos held =
    cond held (item_at (view setting state current.begun) table pos) (item_at (snapshot setting state current.begun.prefix) table pos)

-- its cell is that of its view
pub held_is_view : (setting : Setting) (state : State) (current : MachineOpen) (table pos : ℕ) → OwnFits setting current.begun.own → undone current.phase ≡ 0
    → cell_held setting state table pos current ≡ item_at (view setting state current.begun) table pos
held_is_view setting state current table pos fits none = elim (cases_Bool (holds setting table pos (Some current))) [
  | inl held ↦
      ap (cell_if setting state current table pos) held
  | inr not_held ↦
      ap (cell_if setting state current table pos) not_held
      ∙ sym (view_kept setting state current.begun table pos
      (no_item (item_at current.begun.own table pos) (sym (holds_own setting current table pos fits none) ∙ not_held)))
]

-- ---- a row that is seen is in use

unused_stays : (setting : Setting) (state : State) (table pos prefix : ℕ) → prefix ≤ length state.order
    → list_any (has_pair table pos) state.order ≡ false
    → item_at (snapshot setting state prefix) table pos ≡ item_at (opening_tables setting) table pos
unused_stays setting state table pos prefix within none =
    cell_stays setting state table pos 0 prefix (omega arith) within (λ rank entry l m e. elim (cases_Bool (has_pair table pos entry)) [
      | inr not_there ↦ not_there
      | inl there ↦ absurd (let f = sym none ∙ any_true (has_pair table pos) state.order rank entry e there in cc)
    ])

pub used_where_seen : (setting : Setting) (state : State) (number : ℕ) (current : MachineOpen) (table pos : ℕ) (row : List Value) → Kept setting state
    → (session_at state number).now ≡ Some current
    → cell_held setting state table pos current ≡ Some row → is_used setting state table pos ≡ true
used_where_seen setting state number current table pos row kept there seen =
    elim (cases_Bool (holds setting table pos (Some current))) [
      | inl held ↦ by_use (inr (inr (any_true (λ (one : Session). holds setting table pos one.now) state.sessions number (session_at state number)
          (is_there state number current there)
          (ap (holds setting table pos) there ∙ held))))
      | inr not_held ↦
          let at_start : item_at (snapshot setting state current.begun.prefix) table pos ≡ Some row =
          sym (ap (cell_if setting state current table pos) not_held) ∙ seen in
          elim (cases_Bool (list_any (has_pair table pos) state.order)) [
            | inl wrote ↦ by_use (inr (inl wrote))
            | inr none ↦ by_use (inl (ap is_some (sym (unused_stays setting state table pos current.begun.prefix
                (kept.starts.opens number current there).1 none)
                ∙ at_start)))
          ]
    ]
  where
    by_use : (is_some (item_at (opening_tables setting) table pos) ≡ true)
        ⊎ ((list_any (has_pair table pos) state.order ≡ true) ⊎ (is_held setting state table pos ≡ true))
        → is_used setting state table pos ≡ true
    by_use (inl first) =
        or_left (is_some (item_at (opening_tables setting) table pos)) (list_any (has_pair table pos) state.order || is_held setting state table pos) first
    by_use (inr (inl wrote)) =
        or_right (is_some (item_at (opening_tables setting) table pos)) (list_any (has_pair table pos) state.order || is_held setting state table pos)
        (or_left (list_any (has_pair table pos) state.order) (is_held setting state table pos) wrote)
    by_use (inr (inr held)) =
        or_right (is_some (item_at (opening_tables setting) table pos)) (list_any (has_pair table pos) state.order || is_held setting state table pos)
        (or_right (list_any (has_pair table pos) state.order) (is_held setting state table pos) held)

-- ---- a position that is held is in use

pub used_where_held : (setting : Setting) (state : State) (number : ℕ) (current : MachineOpen) (table pos : ℕ)
    → (session_at state number).now ≡ Some current → holds setting table pos (Some current) ≡ true → is_used setting state table pos ≡ true
used_where_held setting state number current table pos there held =
    or_right (is_some (item_at (opening_tables setting) table pos)) (list_any (has_pair table pos) state.order || is_held setting state table pos)
    (or_right (list_any (has_pair table pos) state.order) (is_held setting state table pos)
    (any_true (λ (one : Session). holds setting table pos one.now) state.sessions number (session_at state number)
    (is_there state number current there) (ap (holds setting table pos) there ∙ held)))
