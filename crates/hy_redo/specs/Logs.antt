-- The bytes of a log.
use Rattle.std.specs.Prelude.{◌≡◌, ℕ, ◌+◌, ◌<◌, List, [], ◌∷◌, ◌++◌, Option, Some, length, codes}
use Rattle.std.specs.List.{flat_map, AllByRecursion}
use Rattle.hy_journal.specs.declared.Entry.{Entry}
use Rattle.hy_log_record.specs.Bytes.{record_of, HasBytes}

-- the first eight bytes: seven letters and LF
abbrev pub header : List ℕ
header = codes "HYREDO1" ++ 10 ∷ []

-- the log of these entries, each behind a gate 1
abbrev pub gated : Entry → List ℕ
gated entry = 1 ∷ record_of entry

abbrev pub log_of : List Entry → List ℕ
log_of entries = header ++ (flat_map gated entries ++ 0 ∷ [])

-- what stands behind the gate of the first of some entries: their records, with an open gate between each two, and a closed gate
abbrev pub closing : List Entry → List ℕ
closing [] = 0 ∷ []
closing (entry ∷ others) = (record_of entry ++ flat_map gated others) ++ 0 ∷ []

-- the bytes are a batch of these entries, of which there are some: what stands behind the gate of the first
pub record IsBatchOf (more : List Entry) (batch : List ℕ) : Type 0 where
  pub some : 0 < length more
  pub bytes : batch ≡ closing more
  pub has : AllByRecursion HasBytes more

-- a gate that isn't 0, the record of the entry, and then the rest
pub record OpensWith (entry : Entry) (bytes rest : List ℕ) : Type 0 where
  pub gate : ℕ
  pub nonzero : 0 < gate
  pub has : HasBytes entry
  pub is : bytes ≡ gate ∷ (record_of entry ++ rest)

-- the gates and records of these entries, in order, and then the rest
abbrev pub OpenWith : List Entry → List ℕ → List ℕ → Type 0
OpenWith [] bytes rest = bytes ≡ rest
OpenWith (entry ∷ entries) bytes rest = (behind : List ℕ) × OpensWith entry bytes behind × OpenWith entries behind rest

-- The bytes are the header, the records of these entries, and then the rest, which begins at this offset.
pub record Leads (entries : List Entry) (bytes : List ℕ) (offset : ℕ) (rest : List ℕ) : Type 0 where
  pub behind : List ℕ
  pub headed : bytes ≡ header ++ behind
  pub records : OpenWith entries behind rest
  pub counted : offset + length rest ≡ length bytes

-- The bytes begin with the log of these entries, whose closed gate, which is 0, stands at this offset. What follows it is anything.
pub record IsLogOf (entries : List Entry) (gate : ℕ) (bytes : List ℕ) : Type 0 where
  pub follows : List ℕ
  pub leads : Leads entries bytes gate (0 ∷ follows)

-- a read gives just the log of these entries, each behind a gate 1, and its closed gate stands at this offset, at the end
pub record IsWholeLog (held : Option (List ℕ)) (entries : List Entry) (gate : ℕ) : Type 0 where
  pub told : held ≡ Some (log_of entries)
  pub last : gate + 1 ≡ length (log_of entries)
