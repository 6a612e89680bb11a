-- Changes that are noted in each of some lists of notes.
use Rattle.std.specs.Prelude.{◌≡◌, List, [], ◌∷◌, ◌++◌, map, refl}
use Rattle.std.specs.List.{AllByRecursion}
use Rattle.hy_value.specs.declared.change.Change.{Change}
use Rattle.hy_notes.specs.Notes.{Ascends, with_note, noted_in_all}
use Rattle.hy_notes.specs.Telling.{NotesTell}

-- some changes and then others
pub in_all_both : (changes more : List Change) (levels : List (List Change)) → noted_in_all (changes ++ more) levels ≡ noted_in_all more (noted_in_all changes levels)
in_all_both [] more levels = refl
in_all_both (change ∷ changes) more levels = in_all_both changes more (map (with_note change) levels)

-- in no list nothing is noted, and a list is noted in whatever stands behind it
pub in_none : (changes : List Change) → noted_in_all changes [] ≡ []
in_none [] = refl
in_none (change ∷ changes) = in_none changes

pub in_one_more : (changes : List Change) (level : List Change) (levels : List (List Change))
    → (noted : List Change) × (noted_in_all changes (level ∷ []) ≡ noted ∷ []) × (noted_in_all changes (level ∷ levels) ≡ noted ∷ noted_in_all changes levels)
in_one_more [] level levels = (level, refl, refl)
in_one_more (change ∷ changes) level levels = in_one_more changes (with_note change level) (map (with_note change) levels)

-- lists that ascend do so with more changes
pub all_ascend : NotesTell → (changes : List Change) (levels : List (List Change)) → AllByRecursion Ascends levels → AllByRecursion Ascends (noted_in_all changes levels)
all_ascend tell [] levels all = all
all_ascend tell (change ∷ changes) levels all = all_ascend tell changes (map (with_note change) levels) (each levels all)
  where
    each : (ls : List (List Change)) → AllByRecursion Ascends ls → AllByRecursion Ascends (map (with_note change) ls)
    each [] all = tt
    each (l ∷ ls) all = ((tell change l change.table change.pos all.0).1, each ls all.1)
