-- What the tests of the code compute. Proofs show that they decide whether an entry stands.
use Rattle.std.specs.Prelude.{◌≡◌, ℕ, List, ◌∷◌, ◌++◌, drop, Bool, true, false, ◌&&◌, nat_lt, Option, None, Some, Result, Ok, Err}
use Rattle.std.specs.List.{list_all}
use Rattle.std.specs.Ordering.{is_eq}
use Rattle.hy_value.specs.Order.{row_cmp}
use Rattle.hy_value.specs.declared.change.Change.{Change}
use Rattle.hy_notes.specs.Notes.{Cell}
use Rattle.hy_journal.specs.declared.Entry.{Entry}
use Rattle.hy_disk.specs.Bytes.{IsOwn}
use Rattle.hy_log_record.specs.Bytes.{net_of}
use Rattle.hy_log_record.specs.Bodies.{IsBody}
use Rattle.hy_redo.specs.declared.errors.RecoverError.{RecoverError}
use Rattle.hy_redo.specs.declared.errors.RecoverError.TheVariants.{Damaged, DiskFault, OutOfMemory}
use Rattle.hy_redo.specs.Tables.{Held, held_at, rise, AllStand, Stands, applied, last_time}
use Rattle.hy_log_record.specs.declared.BodyError.{BodyError}
use Rattle.hy_log_record.specs.declared.BodyError.TheVariants as bodies
use Rattle.hy_redo.specs.declared.recovery.Stop.{Stop}
use Rattle.hy_redo.specs.declared.recovery.Stop.TheVariants as stops
use Rattle.hy_redo.specs.Logs.{OpensWith, Leads}
use Rattle.hy_redo.specs.Recovery.{IsBroken}

abbrev pub same_cells : Cell → Cell → Bool
same_cells None None = true
same_cells None (Some row) = false
same_cells (Some row) None = false
same_cells (Some row) (Some other) = is_eq (row_cmp row other)

abbrev pub stands_there : Option Cell → Cell → Bool
stands_there None cell = false
stands_there (Some held) cell = same_cells held cell

abbrev pub begins_from : Held → Change → Bool
begins_from tables change = stands_there (held_at tables change.table change.pos) change.before

abbrev pub is_behind : Option ℕ → ℕ → Bool
is_behind None time = true
is_behind (Some last) time = nat_lt last time

abbrev pub stand_test : Held → Option ℕ → ℕ → List Change → Bool
stand_test tables last time changes = rise changes && (list_all (begins_from tables) changes && is_behind last time)

-- the body of an entry that stands next, of net changes
pub record IsStanding (tables : Held) (last : Option ℕ) (entry : Entry) (bytes : List ℕ) : Type 0 where
  pub body : IsBody tables entry bytes
  pub stands : Stands tables last entry
  pub net : net_of entry ≡ entry.notes

-- an open gate and the record of an entry that stands next, of net changes
pub record IsNext (tables : Held) (last : Option ℕ) (bytes : List ℕ) (entry : Entry) (rest : List ℕ) : Type 0 where
  pub opens : OpensWith entry bytes rest
  pub stands : Stands tables last entry
  pub net : net_of entry ≡ entry.notes

-- the bytes are a closed gate, and whatever follows it
abbrev pub IsClosed : List ℕ → Type 0
IsClosed bytes = (follows : List ℕ) × (bytes ≡ 0 ∷ follows)

-- what was done so far of the bytes: these entries, of which the tables and the last time are, and the rest is left
pub record Redone (first : Held) (bytes : List ℕ) (now : Held) (time : Option ℕ) (rest : List ℕ) : Type 0 where
  pub entries : List Entry
  pub offset : ℕ
  pub leads : Leads entries bytes offset rest
  pub stand : AllStand first None entries
  pub tables : now ≡ applied first entries
  pub last : time ≡ last_time None entries

-- what was done so far of the bytes, up to the gate at this offset
abbrev pub IsRedone : Held → List ℕ → Held → Option ℕ → ℕ → Type 0
IsRedone first bytes now time gate = Redone first bytes now time (drop gate bytes)

-- these bytes are the first of a disk's own, where it tells them
abbrev pub IsFrontOf : Option (List ℕ) → List ℕ → Type 0
IsFrontOf held bytes = (more : List ℕ) × IsOwn held (bytes ++ more)

-- the bytes begin with those
abbrev pub BeginsWith : List ℕ → List ℕ → Type 0
BeginsWith bytes front = (more : List ℕ) × (bytes ≡ front ++ more)

-- an error that tells of no damage
abbrev pub IsNoDamage : RecoverError → Type 0
IsNoDamage (Damaged offset) = ⊥
IsNoDamage DiskFault = Unit {0}
IsNoDamage OutOfMemory = Unit {0}

-- why no entry was read, of these bytes: where they are short that is so only if nothing follows them, else whatever does
abbrev pub StopsAt : Held → Option ℕ → List ℕ → Stop → Type 0
StopsAt tables last bytes stops.Closed = IsClosed bytes
StopsAt tables last bytes stops.Short = IsBroken tables last bytes
StopsAt tables last bytes stops.Broken = (more : List ℕ) → IsBroken tables last (bytes ++ more)
StopsAt tables last bytes stops.OutOfMemory = Unit {0}

-- what reading comes to where it stops, with these tables, at the gate at this offset
abbrev pub stopped_at : Stop → Held → ℕ → Result Held RecoverError
stopped_at stops.Closed tables gate = Ok tables
stopped_at stops.Short tables gate = Err (Damaged gate)
stopped_at stops.Broken tables gate = Err (Damaged gate)
stopped_at stops.OutOfMemory tables gate = Err OutOfMemory

abbrev pub as_stop : BodyError → Stop
as_stop bodies.Malformed = stops.Broken
as_stop bodies.OutOfMemory = stops.OutOfMemory
