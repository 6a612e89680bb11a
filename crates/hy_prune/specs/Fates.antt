-- Which records of a chain pruning keeps, and the watermark below which all viewers see alike.
use Rattle.std.specs.Prelude.{ℕ, Bool, false, ◌&&◌, ◌==◌, nat_le, nat_lt, Option, None, Some, count_by, slice_index_or, if◌then◌else◌}
use Rattle.hy_prune.specs.declared.Cover.{Cover}
use Rattle.hy_prune.specs.declared.Fate.{Fate}
use Rattle.hy_prune.specs.declared.Fate.TheVariants.{Keep, Merge, Drop}

-- the group of a time: how many of the starts are below it
abbrev pub group : Cover → ℕ → ℕ
group cover time = count_by (λ start. nat_lt start time) cover.starts

-- a record of this time is of the group of a newer one that stays
abbrev pub is_same_group : Cover → Option ℕ → ℕ → Bool
is_same_group cover None time = false
is_same_group cover (Some newer) time = nat_lt newer cover.next && group cover newer == group cover time

-- what becomes of a record of this time, behind one that stays: records from the cover's time on stay, below
-- it those that no start is below go, and of the others those of one group become one
abbrev pub fate_of : Cover → Option ℕ → ℕ → Fate
fate_of cover kept time =
    if nat_le cover.next time then Keep
    else if group cover time == 0 then Drop
    else if is_same_group cover kept time then Merge
    else Keep

-- the first start, or the next time where there is none
abbrev pub watermark_of : Cover → ℕ
watermark_of cover = slice_index_or cover.starts 0 cover.next
