-- In each state that the machine comes to, an entry has what its transaction wrote, over the cells of its rank, and what a
-- transaction holds no other one holds and no entry wrote since its start.
use Rattle.std.proofs.Common.{◌≡◌, ℕ, ◌-◌, List, Option, None, Some, false, is_some, length, refl, ap, sym, ◌∙◌}
use Rattle.std.proofs.Common.{subst, arith}
use Rattle.std.specs.Prelude.{IfSome}
use Rattle.hy_stamp.specs.declared.Label.{Label}
use Rattle.hy_machine.specs.declared.Setting.{Setting}
use Rattle.hy_protocol.specs.declared.Phase.{Phase}
use Rattle.hy_protocol.specs.declared.Phase.TheVariants.{Working, Stamping, Undoing}
use Rattle.hy_machine.specs.States.{State, Begun, Finished}
use Rattle.hy_machine.specs.Tables.{Entry, Pair, Cell, Tables, covered}
use Rattle.hy_machine.specs.Positions.{item_at}
use Rattle.hy_machine.specs.Sessions.{session_at, pair_of}
use Rattle.hy_machine.specs.Runs.{IsReached}
use Rattle.hy_machine.specs.Kept.{IsAtOrOpen, ended, at_work, IsRanked, committed, entered, EntriesAre, PositionsAreOwn, HoldersApart}
use Rattle.hy_machine.specs.Kept as kept
use Rattle.hy_lawful.specs.Outcomes.{committed_at}
use Rattle.hy_lawful.proofs.Lists.{one_of}
use Rattle.hy_lawful.proofs.Fits.{FitsTables, PhaseFits, Stamps, NowStamps}
use Rattle.hy_lawful.proofs.Followers.{done_fits}
use Rattle.hy_lawful.proofs.Reached.{reached_fits}
use Rattle.hy_lawful.proofs.PassTables.{tables_at, cell_at, pair_at, AllFit, tables_are, covered_at, cell_next}
use Rattle.hy_lawful.proofs.PassStates.{BornEmpty, Passed, untouched, EndPasses, HeldClear, PhasePasses, Befores}
use Rattle.hy_lawful.proofs.PassSteps.{reached_passes}
use Rattle.hy_lawful.proofs.KeptFits.{open_fits}
use Rattle.hy_lawful.proofs.KeptStarts.{open_passes}
use Rattle.hy_lawful.proofs.PrintedTables.{pair_there}

-- ---- those that have come into the commit order

ended_passed : (setting : Setting) (state : State) → IsReached setting state → (number before : ℕ) (finished : Finished) (rank : ℕ)
    → kept.IsEnded state number before finished → committed_at finished.ending ≡ Some rank → Passed setting state.order finished.begun rank
ended_passed setting state r number before finished rank at e =
    subst (λ (place : Option ℕ). IfSome place (Passed setting state.order finished.begun)) e
    (one_of (EndPasses setting state.order) (session_at state number).done ((reached_passes setting state r).sessions number).done before finished at).0

stamping_passed : (setting : Setting) (order : List Entry) (begun : Begun) (phase : Phase) → PhasePasses setting order begun phase → Stamps phase
    → Passed setting order begun (length order - 1)
stamping_passed setting order begun (Working visited count) h s = absurd s
stamping_passed setting order begun (Stamping visited) h s = h
stamping_passed setting order begun (Undoing visited cause) h s = absurd s

-- the transaction of an entry was passed, and what it wrote fits the tables
record RankedFits (setting : Setting) (state : State) (rank : ℕ) (begun : Begun) : Type 0 where
  own : FitsTables setting begun.own
  passed : Passed setting state.order begun rank

ranked_fits : (setting : Setting) (state : State) → IsReached setting state → (rank : ℕ) (label : Label) (begun : Begun)
    → IsRanked state rank label begun → RankedFits setting state rank begun
ranked_fits setting state r rank label begun (committed before finished txn at e) = record {
  own = (done_fits setting state (reached_fits setting state r) label.session before finished at).own;
  passed = ended_passed setting state r label.session before finished rank at (ap committed_at e);
}
ranked_fits setting state r rank label begun (entered current m same is last) =
    let stamps : Stamps current.phase = subst NowStamps is ((reached_fits setting state r).marked label.session m) in
    record {
      own = (open_fits setting state r label.session current is).own;
      passed = subst (Passed setting state.order current.begun) (let e : length state.order - 1 ≡ rank = omega (arith, last) in e)
          (stamping_passed setting state.order current.begun current.phase (open_passes setting state r label.session current is).phase stamps);
    }

-- ---- what an entry does

same_pair : (pair : Pair) (before after : Cell) → pair.before ≡ before → pair.after ≡ after → Some pair ≡ pair_of before (Some after)
same_pair pair before after b a =
    ap (λ (cell : Cell). pair_of cell (Some pair.after)) b ∙ ap (λ (cell : Cell). pair_of before (Some cell)) a

-- it leaves the cell that its transaction wrote
left_is : (setting : Setting) (order : List Entry) → AllFit setting order → (begun : Begun) (rank : ℕ) → FitsTables setting begun.own
    → Passed setting order begun rank → (table pos : ℕ) (pair : Pair) (cell : Cell) → pair_at order rank table pos ≡ Some pair
    → item_at begun.own table pos ≡ Some cell → pair.after ≡ cell
left_is setting order fit begun rank own passed table pos pair cell p o =
    sym (cell_next setting order fit rank table pos (Some pair) p)
    ∙ (ap (λ (tables : Tables). item_at tables table pos) passed.lays
    ∙ (covered_at setting (λ (own : Cell). own) (tables_at setting order rank) begun.own (tables_are setting order rank) own table pos
    ∙ ap (covered (λ (own : Cell). own) (cell_at setting order rank table pos)) o))

pair_is : (setting : Setting) (order : List Entry) → AllFit setting order → Befores setting order → (begun : Begun) (rank : ℕ)
    → FitsTables setting begun.own → Passed setting order begun rank → (table pos : ℕ)
    → pair_at order rank table pos ≡ pair_of (cell_at setting order rank table pos) (item_at begun.own table pos)
pair_is setting order fit befores begun rank own passed table pos =
    by_items (pair_at order rank table pos) (item_at begun.own table pos) refl refl
  where
    by_items : (pair : Option Pair) (cell : Option Cell) → pair_at order rank table pos ≡ pair → item_at begun.own table pos ≡ cell
        → pair ≡ pair_of (cell_at setting order rank table pos) cell
    by_items None None p o = refl
    by_items None (Some cell) p o =
        let never : is_some (pair_at order rank table pos) ≡ false = ap is_some p in
        absurd (cc (never, passed.has table pos (ap is_some o)))
    by_items (Some pair) None p o =
        let never : is_some (item_at begun.own table pos) ≡ false = ap is_some o in
        absurd (cc (never, passed.wrote table pos pair p))
    by_items (Some pair) (Some cell) p o =
        same_pair pair (cell_at setting order rank table pos) cell (befores rank table pos pair p)
        (left_is setting order fit begun rank own passed table pos pair cell p o)

pub entries_kept : (setting : Setting) (state : State) → IsReached setting state → EntriesAre setting state
entries_kept setting state r rank entry begun stands ranked table pos =
    let of : RankedFits setting state rank begun = ranked_fits setting state r rank entry.label begun ranked in
    sym (pair_there state.order rank entry stands table pos)
    ∙ pair_is setting state.order (reached_fits setting state r).cells (reached_passes setting state r).befores begun rank of.own of.passed table pos

-- ---- what is written and held

held_clear : (setting : Setting) (order : List Entry) (mark : Option ℕ) (number before : ℕ) (begun : Begun) (phase : Phase)
    → PhaseFits setting order mark number before begun phase → (mark ≡ Some number → ⊥) → PhasePasses setting order begun phase
    → HeldClear setting order (record { begun = begun; phase = phase })
held_clear setting order mark number before begun (Working visited count) f free h = h
held_clear setting order mark number before begun (Stamping visited) f free h = absurd (free f.0)
held_clear setting order mark number before begun (Undoing visited cause) f free h = h.0

pub positions_kept : (setting : Setting) (state : State) → IsReached setting state → PositionsAreOwn setting state
positions_kept setting state r = record {
  committed = λ rank other entry earlier begun stands ranked from below there table pos own.
      ap is_some (sym (pair_there state.order other earlier there table pos)
      ∙ untouched setting state.order begun rank (ranked_fits setting state r rank entry.label begun ranked).passed table pos own other from below);
  held = λ number current is free other entry from there table pos h.
      ap is_some (sym (pair_there state.order other entry there table pos)
      ∙ held_clear setting state.order state.mark number (length (session_at state number).done) current.begun current.phase
      (open_fits setting state r number current is).phase free (open_passes setting state r number current is).phase table pos h other from);
}

pub holders_kept : (setting : Setting) (state : State) → IsReached setting state → HoldersApart setting state
holders_kept setting state r number other apart table pos h k =
    (reached_passes setting state r).alone number other table pos (λ same. apart (sym same)) h k

born_of : (setting : Setting) (state : State) → IsReached setting state → (rank : ℕ) (begun : Begun) → IsAtOrOpen state rank begun
    → BornEmpty setting state.order begun
born_of setting state r rank begun (ended number before finished at e) =
    (ended_passed setting state r number before finished rank at (ap committed_at e)).born
born_of setting state r rank begun (at_work number current is) = (open_passes setting state r number current is).born

pub born_kept : (setting : Setting) (state : State) → IsReached setting state → kept.BornEmpty setting state
born_kept setting state r rank begun there = (born_of setting state r rank begun there).empty
