-- What a write does to bytes, whether it is done or cut short.
use Rattle.std.specs.Prelude.{◌≡◌, ◌⊎◌, ℕ, ◌+◌, ◌<◌, ◌≤◌, List, ◌++◌, length, take, drop, Option, Some, None, slice_get, ⊤}

-- the bytes with these in place of those from `at` on, and past the end
abbrev pub overwritten : List ℕ → ℕ → List ℕ → List ℕ
overwritten bytes at from = take at bytes ++ from ++ drop (at + length from) bytes

-- The new bytes are the old ones at each offset outside the range of `count` bytes from `at` on. In the range, and past the old end, they may be any.
abbrev pub Touched : ℕ → ℕ → List ℕ → List ℕ → Type 0
Touched at count old new = (i : ℕ) → i < length old → (i < at) ⊎ (at + count ≤ i) → slice_get new i ≡ slice_get old i

-- the same of bytes that a disk tells
abbrev pub TouchedWhereTold : ℕ → ℕ → Option (List ℕ) → Option (List ℕ) → Type 0
TouchedWhereTold at count None new = ⊤
TouchedWhereTold at count (Some old) None = ⊥
TouchedWhereTold at count (Some old) (Some new) = Touched at count old new

-- these bytes are a disk's own, where it tells them
abbrev pub IsOwn : Option (List ℕ) → List ℕ → Type 0
IsOwn None bytes = ⊤
IsOwn (Some own) bytes = own ≡ bytes

-- where the bytes are told, they are so many
abbrev pub HasLength : Option (List ℕ) → ℕ → Type 0
HasLength None count = ⊤
HasLength (Some bytes) count = count ≡ length bytes

-- where the bytes are told, this offset is not past their end
abbrev pub ReachesTo : Option (List ℕ) → ℕ → Type 0
ReachesTo None offset = ⊤
ReachesTo (Some bytes) offset = offset ≤ length bytes

-- where the bytes are told, these are those from `at` on
abbrev pub ReadsAt : Option (List ℕ) → ℕ → List ℕ → Type 0
ReadsAt None at into = ⊤
ReadsAt (Some bytes) at into = into ≡ take (length into) (drop at bytes)
