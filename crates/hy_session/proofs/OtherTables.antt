-- Changes in tables that no record is of hit none of the records.
use Rattle.std.proofs.Common.{◌≡◌, ℕ, ◌+◌, List, [], ◌∷◌, refl, ap, ◌∙◌, cond}
use Rattle.std.specs.Prelude.{Bool, false, ◌&&◌, ◌==◌, Option, None, Some}
use Rattle.std.specs.Option.{option_or, option_map}
use Rattle.std.specs.List.{position_from}
use Rattle.std.proofs.lemmas.Bool.{or_parts}
use Rattle.std.proofs.lemmas.Iterator.Adapters.{position_from-zero}
use Rattle.hy_bound.specs.declared.Record.{Record}
use Rattle.hy_bound.specs.Records.{is_hit}
use Rattle.hy_value.specs.declared.change.Change.{Change}
use Rattle.hy_journal.specs.declared.Entry.{Entry}
use Rattle.hy_stamp.specs.declared.Label.{Label}
use Rattle.hy_validate.specs.declared.Invalid.{Invalid}
use Rattle.hy_validate.specs.TreeHits.{is_hit_by}
use Rattle.hy_validate.specs.Hits.{invalid_by, change_hit, hit_among, first_invalid}
use Rattle.hy_session.specs.Touched.{are_touched, reads_of, reads_table}

none_from : (records : List Record) (change : Change) (i : ℕ) → reads_table records change.table ≡ false
    → position_from (is_hit_by change) i records ≡ None
none_from [] change i h = refl
none_from (logged ∷ others) change i h =
    let parts = or_parts (logged.table == change.table) (reads_table others change.table) h in
    ap (λ (b : Bool). cond (b && is_hit logged change.before change.after) (Some i) (position_from (is_hit_by change) (i + 1) others)) parts.0
    ∙ none_from others change (i + 1) parts.1

no_change_hit : (records : List Record) (other : Label) (change : Change) → reads_table records change.table ≡ false → change_hit records other change ≡ None
no_change_hit records other change h =
    ap (option_map (invalid_by other change)) (position_from-zero (is_hit_by change) records ∙ none_from records change 0 h)

none_among : (records : List Record) (other : Label) (changes : List Change) → reads_of records changes ≡ false → hit_among records other changes ≡ None
none_among records other [] h = refl
none_among records other (change ∷ changes) h =
    let parts = or_parts (reads_table records change.table) (reads_of records changes) h in
    ap (λ (o : Option Invalid). option_or o (hit_among records other changes)) (no_change_hit records other change parts.0)
    ∙ none_among records other changes parts.1

-- entries without a change in a table that a record is of have no hit
pub none_invalid : (records : List Record) (entries : List Entry) → are_touched records entries ≡ false → first_invalid records entries ≡ None
none_invalid records [] h = refl
none_invalid records (entry ∷ entries) h =
    let parts = or_parts (reads_of records entry.notes) (are_touched records entries) h in
    ap (λ (o : Option Invalid). option_or o (first_invalid records entries)) (none_among records entry.label entry.notes parts.0)
    ∙ none_invalid records entries parts.1
