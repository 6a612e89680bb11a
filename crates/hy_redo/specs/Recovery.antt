-- What bytes recover to: tables, or the offset where they are damaged.
use Rattle.std.specs.Prelude.{◌≡◌, ◌⊎◌, ℕ, List, ◌∷◌, ◌++◌, Option, None, Result, Ok, Err}
use Rattle.hy_journal.specs.declared.Entry.{Entry}
use Rattle.hy_disk.specs.Bytes.{IsOwn}
use Rattle.hy_redo.specs.declared.errors.RecoverError.{RecoverError}
use Rattle.hy_redo.specs.declared.errors.RecoverError.TheVariants.{Damaged, DiskFault, OutOfMemory}
use Rattle.hy_redo.specs.Tables.{Held, Stands, AllStand, applied, last_time}
use Rattle.hy_redo.specs.Logs.{header, OpensWith, Leads, IsLogOf}

-- the bytes are the log of entries that stand on the tables, one after the other, and these are the tables after them
pub record RecoversTo (tables : Held) (bytes : List ℕ) (found : Held) : Type 0 where
  pub entries : List Entry
  pub gate : ℕ
  pub log : IsLogOf entries gate bytes
  pub stand : AllStand tables None entries
  pub are : found ≡ applied tables entries

-- neither a closed gate, nor an open one with the record of an entry that stands next
pub record IsBroken (tables : Held) (last : Option ℕ) (bytes : List ℕ) : Type 0 where
  pub not_closed : (follows : List ℕ) → bytes ≡ 0 ∷ follows → ⊥
  pub not_open : (entry : Entry) (rest : List ℕ) → OpensWith entry bytes rest → Stands tables last entry → ⊥

-- behind the records of entries that stand comes a gate that is broken
pub record IsBrokenAt (tables : Held) (bytes : List ℕ) (offset : ℕ) : Type 0 where
  pub entries : List Entry
  pub rest : List ℕ
  pub leads : Leads entries bytes offset rest
  pub stand : AllStand tables None entries
  pub broken : IsBroken (applied tables entries) (last_time None entries) rest

-- the header is missing
abbrev pub HasNoHeader : List ℕ → Type 0
HasNoHeader bytes = (behind : List ℕ) → bytes ≡ header ++ behind → ⊥

-- the bytes are damaged at this offset: at 0 where the header is missing, else at the first gate that is broken
abbrev pub IsDamagedAt : Held → List ℕ → ℕ → Type 0
IsDamagedAt tables bytes offset = (HasNoHeader bytes × (offset ≡ 0)) ⊎ IsBrokenAt tables bytes offset

-- what the bytes recover to
abbrev pub Recovers : Held → List ℕ → Result Held ℕ → Type 0
Recovers tables bytes (Ok found) = RecoversTo tables bytes found
Recovers tables bytes (Err offset) = IsDamagedAt tables bytes offset

-- an error that tells of damage tells where it is
abbrev pub DamagedAt : Held → List ℕ → RecoverError → Type 0
DamagedAt tables bytes (Damaged offset) = Recovers tables bytes (Err offset)
DamagedAt tables bytes DiskFault = Unit {0}
DamagedAt tables bytes OutOfMemory = Unit {0}

-- ---- of a disk

-- what the bytes of a disk recover to: there are such bytes, and where it tells its own it is those
abbrev pub RecoversFrom : Held → Option (List ℕ) → Result Held ℕ → Type 0
RecoversFrom tables held outcome = (bytes : List ℕ) × IsOwn held bytes × Recovers tables bytes outcome

-- an error that tells of damage tells where those are damaged
abbrev pub DamagedIn : Held → Option (List ℕ) → RecoverError → Type 0
DamagedIn tables held (Damaged offset) = RecoversFrom tables held (Err offset)
DamagedIn tables held DiskFault = Unit {0}
DamagedIn tables held OutOfMemory = Unit {0}
