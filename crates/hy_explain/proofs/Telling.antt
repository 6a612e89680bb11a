-- What the lines tell of a refusal is so.
use Rattle.std.proofs.Common.{◌≡◌, ℕ, zero, suc, ◌+◌, ◌*◌, ◌≤◌, List, [], ◌∷◌, Option, None, Some, true, false, length, drop, map, refl, ap, sym, ◌∙◌, subst, arith}
use Rattle.std.specs.Prelude.{◌||◌, ◌==◌, IsTrue, IsFalse, IfSome, find, take, slice_get, slice_index_or}
use Rattle.std.specs.List.{AllByRecursion, range_with_len}
use Rattle.std.specs.Option.{IsSomeAnd, option_map}
use Rattle.std.proofs.lemmas.Bool.{eq-eqb, ltb-false}
use Rattle.std.proofs.lemmas.Option.{same_Some, slice_get_within}
use Rattle.hy_value.specs.declared.change.Change.{Change}
use Rattle.hy_value.specs.declared.Value.{Value}
use Rattle.hy_value.specs.Sorted.{sorted}
use Rattle.hy_bind.specs.Shapes.{catalog_shapes}
use Rattle.hy_bound.specs.declared.Bound.{Bound}
use Rattle.hy_bound.specs.declared.Txn.{Txn}
use Rattle.hy_bound.specs.declared.Ending.{Ending}
use Rattle.hy_bound.specs.declared.Ending.TheVariants.{Committed, Read, RolledBack, Conflict, Invalid, Range, Full}
use Rattle.hy_bound.specs.declared.Record.{Record}
use Rattle.hy_bound.specs.Changes.{present}
use Rattle.hy_bound.specs.Predicate.{truth_at, changes_on}
use Rattle.hy_bound.specs.Records.{is_hit}
use Rattle.hy_script.specs.declared.NamedTxns.{NamedTxns}
use Rattle.hy_script.specs.declared.Script.{Script}
use Rattle.hy_stamp.specs.declared.Label.{Label}
use Rattle.hy_render.specs.declared.TxnOutcome.{TxnOutcome}
use Rattle.hy_render.specs.declared.Committed.{Committed as Entry}
use Rattle.hy_render.specs.declared.Outcome.{Outcome}
use Rattle.hy_meaning.specs.Serial.{alone_of}
use Rattle.hy_machine.specs.declared.Setting.{Setting}
use Rattle.hy_machine.specs.Validation.{record_hit}
use Rattle.hy_lawful.specs.Cells.{bags_at, cell_at}
use Rattle.hy_lawful.specs.Databases.{alone_at, database_at, logged_by}
use Rattle.hy_lawful.specs.Lawful.{Lawful}
use Rattle.hy_lawful.specs.Outcomes.{outcome_at, committed_at}
use Rattle.hy_lawful.specs.Outcomes as outcomes
use Rattle.hy_lawful.specs.Overlaps.{NamesFull, is_below, stands_before}
use Rattle.hy_lawful.specs.Passing.{has_place}
use Rattle.hy_lawful.specs.Positions.{ArePositions, places_of}
use Rattle.hy_lawful.specs.Refusing.{IsInConflictAt, IsInvalidAt, IsRefusedBy}
use Rattle.hy_lawful.specs.Scripts.{numbered, statements_in, statements_of}
use Rattle.hy_lawful.specs.Serial.{IsSerial}
use Rattle.hy_lawful.specs.Written.{would_write}
use Rattle.hy_explain.specs.Behind.{alone_behind, cells_after, tables_behind}
use Rattle.hy_explain.specs.Found.{item_numbered, txns_in, statements_at, statement_at, refused_statement, rank_of, changes_in, changes_at, is_at, change_of, cell_before}
use Rattle.hy_explain.specs.Reads.{is_hit_by, reads_of}
use Rattle.hy_explain.specs.Truth.{IsSettingOf, Tells, TellsConflict, TellsInvalid, ExplanationsAreTrue}
use Rattle.hy_explain.proofs.Hits.{and_left, and_right, and_both, change_found, entry_found, get_dropped, hit_names, item_at_number, only_one, ranked, record_found}
use Rattle.hy_explain.proofs.Logged.{found_by, has_read, hit_too, logged_by_one, number_of}

-- ---- the script

txns_same : (sessions : List NamedTxns) (number : ℕ) → slice_index_or (map (λ (session : NamedTxns). session.txns) sessions) number [] ≡ txns_in (slice_get sessions number)
txns_same [] zero = refl
txns_same [] (suc number) = refl
txns_same (session ∷ sessions) zero = refl
txns_same (session ∷ sessions) (suc number) = txns_same sessions number

numbered_same : (txns : List Txn) (number : ℕ) → numbered txns number ≡ item_numbered txns number
numbered_same txns zero = refl
numbered_same txns (suc before) = refl

-- the statements of a transaction of the script are those of the setting
statements_same : (script : Script) (setting : Setting) → IsSettingOf script setting → (label : Label)
    → statements_of setting.programs label ≡ statements_at script label
statements_same script setting of label =
    ap (λ (programs : List (List Txn)). statements_of programs label) of.programs
    ∙ (ap (λ (txns : List Txn). statements_in (numbered txns label.txn)) (txns_same script.sessions label.session)
    ∙ ap statements_in (numbered_same (txns_in (slice_get script.sessions label.session)) label.txn))

refused_same : (script : Script) (setting : Setting) → IsSettingOf script setting → (txn : TxnOutcome)
    → outcomes.refused_statement setting.programs txn ≡ refused_statement script txn
refused_same script setting of txn = ap (λ (statements : List Bound). slice_get statements (length txn.replies)) (statements_same script setting of txn.label)

cell_same : (script : Script) (setting : Setting) → IsSettingOf script setting → (order : List Entry) (rank table pos : ℕ)
    → cell_at setting order rank table pos ≡ cell_before script.rows order rank table pos
cell_same script setting of order rank table pos = ap (λ (first : List (List (List Value))). cell_before first order rank table pos) of.first

one_of : {X : Type 0} (P : X → Type 0) (xs : List X) → AllByRecursion P xs → (i : ℕ) (x : X) → slice_get xs i ≡ Some x → P x
one_of P [] h i x e = absurd cc
one_of P (y ∷ xs) h zero x e = subst P (same_Some y x e) h.0
one_of P (y ∷ xs) h (suc i) x e = one_of P xs h.1 i x e

-- the tables behind the first entries are those that the printed changes leave
tables_same : (script : Script) (setting : Setting) → IsSettingOf script setting → (order : List Entry) (rank : ℕ)
    → bags_at setting order rank ≡ tables_behind script order rank
tables_same script setting of order rank = λ j.
    map (λ (table : ℕ). sorted (present (cells_after (slice_index_or (of.first j) table []) table (take rank order) (of.chunks j * of.rows j))))
    (range_with_len 0 (length (of.first j)))

-- and where these are those of the serial run, a transaction gives alone on them what it gives alone there
alone_same : (script : Script) (setting : Setting) → IsSettingOf script setting → (order : List Entry) (label : Label) (rank : ℕ)
    → bags_at setting order rank ≡ database_at setting order rank → alone_behind script order label rank ≡ alone_at setting order label rank
alone_same script setting of order label rank history = λ j.
    alone_of (sym of.shapes j) (sym (statements_same script setting of label) j) ((sym (tables_same script setting of order rank) ∙ history) j)

-- ---- validation

invalid_told : (script : Script) (setting : Setting) (outcome : Outcome) (txn : TxnOutcome) (table pos : ℕ) (other : Label) (number : ℕ)
    → IsSettingOf script setting → Lawful setting outcome → IsSerial setting outcome → IsInvalidAt setting outcome txn table pos other number
    → TellsInvalid script setting outcome txn table pos other number
invalid_told script setting outcome txn table pos other number of lawful serial h =
    let records : List Record = logged_by setting outcome.order txn in
    let entry = entry_found records (drop txn.start outcome.order) (Invalid table pos other number) h.hit in
    let change = change_found records entry.entry.label entry.entry.changes (Invalid table pos other number) entry.hits in
    let made : Change = change.change in
    let names = hit_names entry.entry.label made.table made.pos (record_hit records made.table made.before made.after) table pos other number change.hits in
    let found = record_found records made.table made.before made.after number names.hit_is in
    let statements : List Bound = statements_of setting.programs txn.label in
    let logged = logged_by_one setting.shapes [] 1 statements (database_at setting outcome.order txn.start) found.of found.has in
    let read = has_read setting.shapes (1 + logged.before) logged.statement logged.gathered found.of logged.has in
    let rank : ℕ = txn.start + entry.at in
    let stands : slice_get outcome.order rank ≡ Some entry.entry = sym (get_dropped txn.start outcome.order entry.at) ∙ entry.stands in
    let committed : rank_of outcome other ≡ Some rank
    = subst (λ (label : Label). rank_of outcome label ≡ Some rank) names.label_is
    (ranked (outcome_at outcome entry.entry.label) rank
    (item_at_number (λ (at : ℕ) (one : Entry). option_map (λ (o : TxnOutcome). o.ending) (outcome_at outcome one.label) ≡ Some (Committed at))
    outcome.order lawful.order rank entry.entry stands)) in
    let changes_are : changes_at outcome.order (rank_of outcome other) ≡ entry.entry.changes
    = ap (changes_at outcome.order) committed ∙ ap changes_in stands in
    let places = one_of (λ (one : Entry). ArePositions setting (places_of one.changes)) outcome.order lawful.changed_places rank entry.entry stands in
    let changed : change_of outcome other table pos ≡ Some made
    = ap (find (is_at table pos)) changes_are
    ∙ only_one table pos entry.entry.changes made places.ascend change.has names.table_is names.pos_is in
    let counted : number ≡ suc logged.before = sym found.number_is ∙ number_of setting.shapes statements found.of logged in
    let statement_is : statement_at script txn.label number ≡ Some logged.statement
    = (λ j. item_numbered (sym (statements_same script setting of txn.label) j) (counted j)) ∙ logged.stands in
    let one : suc logged.before ≡ 1 + logged.before = omega arith in
    let reads_are : reads_of (catalog_shapes script.catalog) number (statement_at script txn.label number)
    ≡ reads_of setting.shapes (1 + logged.before) (Some logged.statement)
    = λ j. reads_of (sym of.shapes j) ((counted ∙ one) j) (statement_is j) in
    let reads : List Record = reads_of setting.shapes (1 + logged.before) (Some logged.statement) in
    let passes : is_hit_by made read.read ≡ true
    = and_both (read.read.table == made.table) (is_hit read.read made.before made.after)
    (eq-eqb read.read.table made.table (read.less.table_is ∙ found.table_is))
    (hit_too found.of read.read read.less made.before made.after found.hit) in
    let hit = found_by (is_hit_by made) reads read.read read.has passes in
    let shown : Record = hit.item in
    let is_so = and_right (shown.table == made.table) (is_hit shown made.before made.after) hit.passes in
    record {
      rank = rank;
      committed = committed;
      since = omega arith;
      change = made;
      changed = changed;
      read = shown;
      hit = ap (find (is_hit_by made)) reads_are ∙ hit.is;
      is_true = and_left (truth_at shown.pred made.before || truth_at shown.pred made.after) (changes_on shown.columns made.before made.after) is_so;
      differs = and_right (truth_at shown.pred made.before || truth_at shown.pred made.after) (changes_on shown.columns made.before made.after) is_so;
      first = h.hit;
      behind = alone_same script setting of outcome.order txn.label (suc rank) (serial.history (suc rank) (slice_get_within outcome.order rank entry.entry stands));
    }

-- ---- conflicts

since_of : (start : ℕ) (committed : Option ℕ) → is_below start committed ≡ false → IfSome committed (λ (rank : ℕ). start ≤ rank)
since_of start None e = tt
since_of start (Some rank) e = ltb-false rank start e

conflict_told : (script : Script) (setting : Setting) (outcome : Outcome) (txn : TxnOutcome) (table pos : ℕ) (other : Label)
    → IsSettingOf script setting → IsInConflictAt setting outcome txn table pos other → TellsConflict script outcome txn table pos other
conflict_told script setting outcome txn table pos other of h = by_case (outcome_at outcome other) refl h.wrote h.not_before
  where
    by_case : (found : Option TxnOutcome) → outcome_at outcome other ≡ found
        → IsSomeAnd found (λ (rival : TxnOutcome). IsTrue (has_place rival.wrote table pos))
        → IsSomeAnd found (λ (rival : TxnOutcome). IsFalse (stands_before txn.start rival)) → TellsConflict script outcome txn table pos other
    by_case None is wrote before = absurd wrote
    by_case (Some rival) is wrote before = record {
      rival = rival;
      found = is;
      wrote = wrote;
      since = since_of txn.start (committed_at rival.ending) before;
      selects = sym (λ j. would_write table (refused_same script setting of txn j) (cell_same script setting of outcome.order txn.start table pos j)) ∙ h.selects;
      not_own = h.not_own;
    }

-- ---- all of them

told : (script : Script) (setting : Setting) (outcome : Outcome) → IsSettingOf script setting → Lawful setting outcome → IsSerial setting outcome
    → (txn : TxnOutcome) (ending : Ending)
    → IsRefusedBy setting outcome txn ending → NamesFull setting outcome txn ending → Tells script setting outcome txn ending
told script setting outcome of lawful serial txn (Committed rank) h full = tt
told script setting outcome of lawful serial txn Read h full = tt
told script setting outcome of lawful serial txn RolledBack h full = tt
told script setting outcome of lawful serial txn (Conflict table pos other) h full = conflict_told script setting outcome txn table pos other of h
told script setting outcome of lawful serial txn (Invalid table pos other number) h full = invalid_told script setting outcome txn table pos other number of lawful serial h
told script setting outcome of lawful serial txn (Range table pos) h full = h
told script setting outcome of lawful serial txn (Full table) h full = (h, full)

each_told : (script : Script) (setting : Setting) (outcome : Outcome) → IsSettingOf script setting → Lawful setting outcome → IsSerial setting outcome → (txns : List TxnOutcome)
    → AllByRecursion (λ (txn : TxnOutcome). IsRefusedBy setting outcome txn txn.ending) txns
    → AllByRecursion (λ (txn : TxnOutcome). NamesFull setting outcome txn txn.ending) txns
    → AllByRecursion (λ (txn : TxnOutcome). Tells script setting outcome txn txn.ending) txns
each_told script setting outcome of lawful serial [] h full = tt
each_told script setting outcome of lawful serial (txn ∷ txns) h full =
    (told script setting outcome of lawful serial txn txn.ending h.0 full.0, each_told script setting outcome of lawful serial txns h.1 full.1)

pub explanations_true : ExplanationsAreTrue
explanations_true script setting outcome of lawful serial = each_told script setting outcome of lawful serial outcome.txns serial.refusals lawful.full
