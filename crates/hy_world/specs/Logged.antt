-- What a redo log has of a run: the entries of the commit order so far, whatever moment a crash comes at.
use Rattle.std.specs.Prelude.{◌≡◌, ◌⊎◌, ℕ, ◌≤◌, List, [], ◌∷◌, ◌++◌, Option, None, Some, Ok, map, length, take}
use Rattle.hy_journal.specs.declared.Entry.{Entry}
use Rattle.hy_value.specs.declared.Kind.{Kind}
use Rattle.hy_log_record.specs.declared.HeldTable.{HeldTable}
use Rattle.hy_machine.specs.declared.Setting.{Setting}
use Rattle.hy_machine.specs.States.{State}
use Rattle.hy_machine.specs.Tables.{Entry as Entered}
use Rattle.hy_machine.specs.Sessions.{snapshot}
use Rattle.hy_machine.specs.Validation.{committed_of}
use Rattle.hy_redo.specs.Logs.{IsLogOf}
use Rattle.hy_redo.specs.Recovery.{Recovers}
use Rattle.hy_recovery.specs.Recovered.{first_tables}
use Rattle.hy_redo.specs.Crashes.{AreLogsOf}
use Rattle.hy_render.specs.declared.Committed.{Committed}
use Rattle.hy_stepping.specs.Outcomes.{told_entry}
use Rattle.hy_stepping.specs.Texts.{CanBeLogged}
use Rattle.hy_world.specs.Worlds.{WorldData, ShowsState}

-- these, and others behind them
pub record Extend {A : Type 0} (old new : List A) : Type 0 where
  pub others : List A
  pub behind : new ≡ old ++ others

-- no entry more, or one
abbrev pub GrowByOne : List Entry → List Entry → Type 0
GrowByOne old new = (new ≡ old) ⊎ ((entry : Entry) × (new ≡ old ++ entry ∷ []))

-- the bytes are the log of some first ones of these entries
pub record IsLogOfFirst (entries : List Entry) (bytes : List ℕ) : Type 0 where
  pub first : List Entry
  pub gate : ℕ
  pub are_first : Extend first entries
  pub log : IsLogOf first gate bytes

-- the bytes are the log of these entries, or of all but the last
pub record IsLogButTheLast (entries : List Entry) (bytes : List ℕ) : Type 0 where
  pub first : List Entry
  pub gate : ℕ
  pub but_last : GrowByOne first entries
  pub log : IsLogOf first gate bytes

-- where a log is kept, a crash now leaves the log of these entries
abbrev pub IsKept : {D : Type 0} → (D → List ℕ → Type 0) → List Entry → Option ℕ → D → Type 0
IsKept image entries None disk = Unit {0}
IsKept image entries (Some gate) disk = AreLogsOf (image disk) entries gate

-- where a log is kept, a crash now leaves the log of these entries, or of all but the last
abbrev pub IsKeptButTheLast : {D : Type 0} → (D → List ℕ → Type 0) → List Entry → Option ℕ → D → Type 0
IsKeptButTheLast image entries None disk = Unit {0}
IsKeptButTheLast image entries (Some gate) disk = (bytes : List ℕ) → image disk bytes → IsLogButTheLast entries bytes

-- What a part of a run, in which the entries became more, did to its disk: what a crash leaves at any moment of it is the log
-- of some first ones of them.
pub record Logs {D : Type 0} (clock : D → ℕ) (image_since : D → ℕ → List ℕ → Type 0) (old new : List Entry) (before after : D) : Type 0 where
  pub grow : Extend old new
  pub later : clock before ≤ clock after
  pub moments : (time : ℕ) (bytes : List ℕ) → time ≤ clock before → image_since after time bytes
      → image_since before time bytes ⊎ IsLogOfFirst new bytes

-- A log has been kept of these entries since this time: a crash now leaves their log, and one at any moment since then the log of
-- some first ones of them.
pub record IsKeptSince {D : Type 0} (image : D → List ℕ → Type 0) (image_since : D → ℕ → List ℕ → Type 0) (entries : List Entry) (time : ℕ)
    (disk : D) : Type 0 where
  pub gate : ℕ
  pub logged : AreLogsOf (image disk) entries gate
  pub moments : (bytes : List ℕ) → image_since disk time bytes → IsLogOfFirst entries bytes

-- so of the entries that tell this commit order
pub record HasLogged {D : Type 0} (image : D → List ℕ → Type 0) (image_since : D → ℕ → List ℕ → Type 0) (order : List Committed) (time : ℕ)
    (disk : D) : Type 0 where
  pub entries : List Entry
  pub tell : map told_entry entries ≡ order
  pub kept : IsKeptSince image image_since entries time disk

-- ---- a run that broke off

-- a state is shown, and this commit order has its entries first
pub record IsUnderWay (setting : Setting) (order : List Entered) (world : WorldData) : Type 0 where
  pub state : State
  pub shows : ShowsState setting state world
  pub first : Extend state.order order

-- What the machine makes of each state that was shown has the commit order of the state that is shown now, or more behind it.
abbrev pub Approaches : (Setting → State → State) → WorldData → WorldData → Type 0
Approaches makes old new = (setting : Setting) (state : State) → ShowsState setting state old → IsUnderWay setting (makes setting state).order new

-- ---- what these recover to

-- the bytes recover to tables that have the machine's rows after so many entries of a state's commit order
abbrev pub RecoversAfter : Setting → List (List Kind) → State → ℕ → List ℕ → Type 0
RecoversAfter setting kinds state count bytes = (found : List HeldTable) × Recovers (first_tables kinds setting) bytes (Ok found)
    × (map (λ (table : HeldTable). table.rows) found ≡ snapshot setting state count)

-- What a crash leaves now recovers to the tables after a state's commit order, and what one left at any moment since this time to
-- the tables after some first entries of it.
pub record IsDurable {D : Type 0} (image : D → List ℕ → Type 0) (image_since : D → ℕ → List ℕ → Type 0) (setting : Setting)
    (kinds : List (List Kind)) (state : State) (time : ℕ) (disk : D) : Type 0 where
  pub now : (bytes : List ℕ) → image disk bytes → RecoversAfter setting kinds state (length state.order) bytes
  pub moments : (bytes : List ℕ) → image_since disk time bytes → (count : ℕ) × RecoversAfter setting kinds state count bytes

-- the bytes are the log of so many first entries of this commit order
pub record IsLogOfOrder (order : List Committed) (count : ℕ) (bytes : List ℕ) : Type 0 where
  pub entries : List Entry
  pub tell : map told_entry entries ≡ take count order
  pub gate : ℕ
  pub log : IsLogOf entries gate bytes

-- the bytes are the log of some first entries of a state's commit order, and recover to the machine's rows after these
pub record IsLogOfRun (setting : Setting) (kinds : List (List Kind)) (state : State) (bytes : List ℕ) : Type 0 where
  pub count : ℕ
  pub log : IsLogOfOrder (map committed_of state.order) count bytes
  pub recovers : RecoversAfter setting kinds state count bytes

-- What a run that leads to this state did to its disk, also where it broke off: a crash at any moment of it leaves what one could leave
-- before, or the log of some first entries of the commit order.
pub record LogsRun {D : Type 0} (clock : D → ℕ) (image_since : D → ℕ → List ℕ → Type 0) (setting : Setting) (kinds : List (List Kind))
    (state : State) (before after : D) : Type 0 where
  pub later : clock before ≤ clock after
  pub moments : (time : ℕ) (bytes : List ℕ) → time ≤ clock before → image_since after time bytes
      → image_since before time bytes ⊎ IsLogOfRun setting kinds state bytes

-- ---- laws

-- What the log of a world tells of the machine: of a world that shows a state its entries tell the commit order, and their log recovers
-- to the tables after it; and the log of some first entries is that of some first ones of each order that has the world's first.
pub record LogsTellOrders : Type 0 where
  pub order : (setting : Setting) (state : State) (world : WorldData) → ShowsState setting state world
      → map told_entry world.core.entries ≡ map committed_of state.order
  pub all : (setting : Setting) (kinds : List (List Kind)) (state : State) (world : WorldData) → ShowsState setting state world → CanBeLogged kinds setting
      → (gate : ℕ) (bytes : List ℕ) → IsLogOf world.core.entries gate bytes → RecoversAfter setting kinds state (length state.order) bytes
  pub first : (setting : Setting) (kinds : List (List Kind)) (state : State) (world : WorldData) → IsUnderWay setting state.order world
      → CanBeLogged kinds setting → (bytes : List ℕ) → IsLogOfFirst world.core.entries bytes → IsLogOfRun setting kinds state bytes
