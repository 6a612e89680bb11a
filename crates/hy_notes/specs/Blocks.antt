-- Notes in blocks: lists of bounded length, one behind the other.
use Rattle.std.specs.Prelude.{◌≡◌, ℕ, ◌+◌, ◌*◌, ◌<◌, ◌≤◌, suc, List, [], ◌∷◌, ◌++◌, Bool, false, Option, None, Some, length, take, drop, min, max, slice_index_or, vec_len, vec_capacity}
use Rattle.std.specs.List.{flat_map, AllByRecursion}
use Rattle.std.specs.Ordering.{is_le}
use Rattle.std.specs.declared.cmp.Ordering.TheVariants.{Less, Greater}
use Rattle.std.specs.Global.{Vec}
use Rattle.hy_value.specs.declared.change.Change.{Change}
use Rattle.hy_notes.specs.Notes.{order_of}
use Rattle.hy_notes.specs.declared.blocks.Blocks.{Blocks}
use Rattle.hy_notes.specs.declared.blocks.TheConstants.{MOST, LEAST}

-- the notes of blocks
abbrev pub joined : List (Vec Change) → List Change
joined blocks = flat_map (λ block. block.items) blocks

-- all notes
abbrev pub notes_in : Blocks → List Change
notes_in blocks = blocks.first.items ++ joined blocks.later.items

-- whether a block begins at a position or before it
abbrev pub begins_list : ℕ → ℕ → List Change → Bool
begins_list table pos [] = false
begins_list table pos (note ∷ notes) = is_le (order_of note table pos)

abbrev pub begins : ℕ → ℕ → Vec Change → Bool
begins table pos block = begins_list table pos block.items

-- each note is before the position, or behind it
abbrev pub AreBefore : ℕ → ℕ → List Change → Type 0
AreBefore table pos notes = AllByRecursion (λ note. order_of note table pos ≡ Less) notes

abbrev pub AreBehind : ℕ → ℕ → List Change → Type 0
AreBehind table pos notes = AllByRecursion (λ note. order_of note table pos ≡ Greater) notes

-- a block, the first or one behind it: its notes, those before it and those behind it
abbrev pub notes_at : Blocks → Option ℕ → List Change
notes_at blocks None = blocks.first.items
notes_at blocks (Some k) = (slice_index_or blocks.later.items k blocks.first).items

abbrev pub notes_before : Blocks → Option ℕ → List Change
notes_before blocks None = []
notes_before blocks (Some k) = blocks.first.items ++ joined (take k blocks.later.items)

abbrev pub notes_behind : Blocks → Option ℕ → List Change
notes_behind blocks None = joined blocks.later.items
notes_behind blocks (Some k) = joined (drop (suc k) blocks.later.items)

abbrev pub IsWithin : Blocks → Option ℕ → Type 0
IsWithin blocks None = Unit {0}
IsWithin blocks (Some k) = k < length blocks.later.items

-- the block behind this one
abbrev pub next_block : Option ℕ → ℕ
next_block None = 0
next_block (Some k) = suc k

-- the block in which a position is or belongs
pub record IsPlace (blocks : Blocks) (at : Option ℕ) (table pos : ℕ) : Type 0 where
  pub within : IsWithin blocks at
  pub before : AreBefore table pos (notes_before blocks at)
  pub behind : AreBehind table pos (notes_behind blocks at)

-- a block behind the first: at least half full, with room for the most
pub record IsLater (block : Vec Change) : Type 0 where
  pub least : LEAST ≤ length block.items
  pub most : length block.items ≤ MOST
  pub wide : MOST ≤ vec_capacity block

pub record IsBlank (block : Vec Change) : Type 0 where
  pub empty : block.items ≡ []
  pub wide : MOST ≤ vec_capacity block

-- so many notes, no block over the most; and blocks for all that may come
pub record AreBlocks (blocks : Blocks) : Type 0 where
  pub most : length blocks.first.items ≤ MOST
  pub wide : min blocks.limit MOST ≤ vec_capacity blocks.first
  pub later : AllByRecursion IsLater blocks.later.items
  pub blank : AllByRecursion IsBlank blocks.blank.items
  pub count : blocks.count ≡ length (notes_in blocks)
  pub within : blocks.count ≤ blocks.limit
  pub enough : blocks.limit ≤ max MOST ((1 + vec_len blocks.later + vec_len blocks.blank) * LEAST)
  pub room : vec_len blocks.later + vec_len blocks.blank ≤ vec_capacity blocks.later
  pub blank_room : vec_len blocks.later + vec_len blocks.blank ≤ vec_capacity blocks.blank
