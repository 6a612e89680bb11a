-- What was refused was so for a cause.
use Rattle.std.proofs.Common.{◌≡◌, ℕ, suc, ◌+◌, ◌<◌, ◌≤◌, List, Option, None, Some, Bool, true, false, is_some}
use Rattle.std.proofs.Common.{inl, inr, length, map, take, drop, refl, ap, sym, ◌∙◌, subst, arith}
use Rattle.std.proofs.lemmas.Bool.{cases_Bool, ltb-true}
use Rattle.std.specs.Prelude.{IsTrue, IsFalse, IfSome, nat_lt, slice_get, ◌||◌, ◌&&◌, ◌==◌, is_none}
use Rattle.std.specs.List.{list_any}
use Rattle.std.specs.Option.{IsSomeAnd}
use Rattle.std.proofs.lemmas.List.{drop-map}
use Rattle.hy_bound.specs.declared.Bound.{Bound}
use Rattle.hy_bound.specs.declared.Bound.TheVariants.{Select, Group, Insert, Update, Delete, Savepoint, RollbackTo, Release}
use Rattle.hy_bound.specs.declared.Record.{Record}
use Rattle.hy_bound.specs.declared.Reply.{Reply}
use Rattle.hy_meaning.specs.Statement.{Database, rows_in}
use Rattle.hy_meaning.specs.Serial.{Alone, alone_of}
use Rattle.hy_stamp.specs.declared.Label.{Label}
use Rattle.hy_bound.specs.declared.Ending.{Ending}
use Rattle.hy_bound.specs.declared.Ending.TheVariants.{Committed, Read, RolledBack, Conflict, Invalid, Range, Full}
use Rattle.hy_render.specs.declared.TxnOutcome.{TxnOutcome}
use Rattle.hy_machine.specs.declared.Setting.{Setting}
use Rattle.hy_machine.specs.States.{State, Session, Begun, Finished}
use Rattle.hy_machine.specs.Positions.{item_at}
use Rattle.hy_machine.specs.Tables.{Cell, Tables, over}
use Rattle.hy_machine.specs.Sessions.{session_at, snapshot}
use Rattle.hy_machine.specs.Writes.{written}
use Rattle.hy_machine.specs.Validation.{committed_of, first_hit}
use Rattle.hy_machine.specs.Outcomes.{txn_outcome_of, outcome_of}
use Rattle.hy_replay.specs.Laws.{bags_of}
use Rattle.hy_replay.specs.BagLaws.{alone_as}
use Rattle.hy_lawful.specs.Scripts.{statements_of}
use Rattle.hy_lawful.specs.Outcomes.{outcome_at, committed_at, refused_statement}
use Rattle.hy_lawful.specs.Reached.{EndedHasRun, statements_at}
use Rattle.hy_lawful.specs.Databases.{database_at}
use Rattle.hy_lawful.specs.Refusing.{IsRefusedBy, IsMetBy, IsLeftAloneTo, WasRefused, goes_out, goes_out_at, finds_key}
use Rattle.hy_lawful.specs.Written.{would_write, followed, some_inserted}
use Rattle.hy_lawful.specs.Passing.{has_place, ChangesLieApart}
use Rattle.hy_lawful.specs.Cells.{cell_at as printed_at}
use Rattle.hy_lawful.proofs.Booleans.{and_right}
use Rattle.hy_lawful.specs.Overlaps.{reaches, may_overlap, is_below, stands_before}
use Rattle.hy_lawful.proofs.Over.{HasEnded, HasCommitted, entry_committed, outcome_has}
use Rattle.hy_lawful.proofs.FullOverlaps.{Overlap, swapped, overlap_told, reaches_told, Meets, label_has}
use Rattle.hy_lawful.proofs.FullPassed.{EndRoom, Met, Rivals}
use Rattle.hy_lawful.proofs.FullTables.{begun_ended, now_none}
use Rattle.hy_lawful.proofs.FoundRows.{FoundRow}
use Rattle.hy_lawful.proofs.FullSteps.{ended_room}
use Rattle.hy_lawful.proofs.Fits.{Ends, IsInvalid, OpenFits, NowFits}
use Rattle.hy_lawful.proofs.Followers.{done_fits}
use Rattle.hy_lawful.proofs.Outcomes.{outcome_found}
use Rattle.hy_lawful.proofs.SerialScripts.{statements_behind}
use Rattle.hy_lawful.proofs.PrintedTables.{printed_is}
use Rattle.hy_lawful.proofs.PassTables.{tables_are}
use Rattle.hy_lawful.proofs.PassStates.{IsFirstHit, IsRefusal}
use Rattle.hy_lawful.proofs.Lists.{one_of}
use Rattle.hy_lawful.proofs.PrintedPlaces.{place_missing, place_found, lies_apart}
use Rattle.hy_lawful.proofs.PassWritten.{HasWritten, by_ended, by_open, Names}
use Rattle.hy_lawful.proofs.SerialRanges.{found_in_bags, out_in_bags}
use Rattle.hy_lawful.proofs.RangeRows.{out_followed}
use Rattle.hy_lawful.proofs.RunSweeps.{kept_item}
use Rattle.hy_lawful.proofs.SerialEnd.{answered_all}
use Rattle.hy_lawful.proofs.SerialEnd.{ending_at, stands_committed, bags_at, order_of, end_passes, logs_alone, AtEnd, Laws}

-- the refused statement, by its label
refused_over : (setting : Setting) (state : State) (end : AtEnd setting state) → (number before : ℕ) (finished : Finished)
    → (at : slice_get (session_at state number).done before ≡ Some finished)
    → WasRefused setting.shapes (over (snapshot setting state finished.begun.prefix) finished.begun.own)
    (over (snapshot setting state finished.begun.prefix) (end.ran number before finished at).given.own)
    (refused_statement setting.programs (txn_outcome_of setting number before finished)) finished.ending
refused_over setting state end number before finished at =
    let has : EndedHasRun setting state number before finished = end.ran number before finished at in
    subst (λ (statements : List Bound). WasRefused setting.shapes (over (snapshot setting state finished.begun.prefix) finished.begun.own)
    (over (snapshot setting state finished.begun.prefix) has.given.own) (slice_get statements (length finished.begun.replies)) finished.ending)
    (sym (statements_behind setting (record { session = number; txn = suc before }) before refl)) has.refused

-- the answered statements give alone what they came to
answered_alone : Laws → (setting : Setting) (state : State) → (end : AtEnd setting state) → (number before : ℕ) (finished : Finished)
    → (at : slice_get (session_at state number).done before ≡ Some finished)
    → alone_of setting.shapes
    (take (length finished.begun.replies) (statements_of setting.programs (record { session = number; txn = suc before })))
    (database_at setting (map committed_of state.order) finished.begun.prefix)
    ≡ alone_as (snapshot setting state finished.begun.prefix) (end.ran number before finished at).given
answered_alone laws setting state end number before finished at =
    let has : EndedHasRun setting state number before finished = end.ran number before finished at in
    let start : ℕ = finished.begun.prefix in
    let many : ℕ = length finished.begun.replies in
    ap (λ (db : Database). alone_of setting.shapes (take many (statements_of setting.programs (record { session = number; txn = suc before }))) db)
    (sym (bags_at laws setting state end start (done_fits setting state end.over.fits number before finished at).start))
    ∙ (ap (λ (statements : List Bound). alone_of setting.shapes (take many statements) (bags_of (snapshot setting state start)))
    (statements_behind setting (record { session = number; txn = suc before }) before refl)
    ∙ laws.alone setting (snapshot setting state start) (take many (statements_at setting number before)) finished.begun.took has.given
    (tables_are setting state.order start) has.has_run.positions has.has_run.came_to)

-- at the end what has been written is an ended transaction's
rival_wrote : (setting : Setting) (state : State) → AtEnd setting state → (other : Label) (table pos : ℕ) → HasWritten state other table pos
    → IsSomeAnd (outcome_at (outcome_of setting state) other) (λ (rival : TxnOutcome). IsTrue (has_place rival.wrote table pos))
rival_wrote setting state end other table pos (by_ended before finished is at own) =
    subst (λ (o : Option TxnOutcome). IsSomeAnd o (λ (rival : TxnOutcome). IsTrue (has_place rival.wrote table pos)))
    (sym (outcome_found setting state other before finished is at)) (place_found finished.begun.own table pos own)
rival_wrote setting state end other table pos (by_open current is now own) =
    let session : Session = session_at state other.session in
    let present : OpenFits setting state.order state.mark other.session session.done current =
    subst (NowFits setting state.order state.mark other.session session.done) now (end.over.fits.sessions other.session).now in
    absurd (omega (arith, present.there, end.over.all other.session))

-- at the end the one that a conflict names may have been open with the refused one
rival_overlaps : (setting : Setting) (state : State) → AtEnd setting state → (number before : ℕ) (finished : Finished)
    → slice_get (session_at state number).done before ≡ Some finished → (other : Label) → Meets state number before finished.begun.prefix other
    → IsSomeAnd (outcome_at (outcome_of setting state) other)
    (λ (rival : TxnOutcome). IsTrue (may_overlap (outcome_of setting state) rival (txn_outcome_of setting number before finished)))
rival_overlaps setting state end number before finished at other m =
    let has : HasEnded state other = label_has setting state end.over other m.after m.begin m.is m.overlap.begins in
    subst (λ (o : Option TxnOutcome). IsSomeAnd o
    (λ (rival : TxnOutcome). IsTrue (may_overlap (outcome_of setting state) rival (txn_outcome_of setting number before finished))))
    (sym (outcome_has setting state other has))
    (overlap_told setting state other.session has.before m.begin number before finished.begun.prefix
    (subst (λ (n : ℕ). Overlap state other.session n m.begin number before finished.begun.prefix)
    (let same : m.after ≡ has.before = omega (arith, m.is, has.is) in same)
    (swapped state number before finished.begun.prefix other.session m.after m.begin m.overlap)) has.finished finished has.at at)

not_below : (prefix : ℕ) (ending : Ending) → ((rank : ℕ) → ending ≡ Committed rank → prefix ≤ rank) → is_below prefix (committed_at ending) ≡ false
not_below prefix ending h = by_rank (committed_at ending) refl
  where
    by_rank : (rank : Option ℕ) → committed_at ending ≡ rank → is_below prefix rank ≡ false
    by_rank None e = refl
    by_rank (Some rank) e = elim (cases_Bool (nat_lt rank prefix)) [
      | inl t ↦ absurd (let since : prefix ≤ rank = h rank (ending_at ending rank e) in
          let below : rank < prefix = ltb-true rank prefix t in omega (arith, since, below))
      | inr f ↦ f
    ]

-- at the end the one that a conflict names does not stand in the order before the start of the refused one
rival_since : (setting : Setting) (state : State) → AtEnd setting state → (number before : ℕ) (finished : Finished) (table pos : ℕ) (other : Label)
    → Rivals setting state number before finished.begun.prefix table pos other
    → IsSomeAnd (outcome_at (outcome_of setting state) other) (λ (rival : TxnOutcome). IsFalse (stands_before finished.begun.prefix rival))
rival_since setting state end number before finished table pos other h =
    let has : HasEnded state other =
    label_has setting state end.over other h.meets.after h.meets.begin h.meets.is h.meets.overlap.begins in
    subst (λ (o : Option TxnOutcome). IsSomeAnd o (λ (rival : TxnOutcome). IsFalse (stands_before finished.begun.prefix rival)))
    (sym (outcome_has setting state other has))
    (not_below finished.begun.prefix has.finished.ending (λ rank e. h.since rank
    ((stands_committed setting state end other.session has.before has.finished rank (record { at = has.at; ending = e })).stands
    ∙ ap (λ (txn : ℕ). Some (record { session = other.session; txn = txn })) (sym has.is))))

-- a row is selected
row_selected : (table : ℕ) (statement : Option Bound) (cell : Cell) → would_write table statement cell ≡ true → is_some cell ≡ true
row_selected table statement (Some row) e = refl
row_selected table None None e = absurd cc
row_selected table (Some (Select tables ons pred items)) None e = absurd cc
row_selected table (Some (Group of pred key aggregate)) None e = absurd cc
row_selected table (Some (Insert of row)) None e = absurd cc
row_selected table (Some (Update of sets pred)) None e = and_right (of == table) false e
row_selected table (Some (Delete of pred)) None e = and_right (of == table) false e
row_selected table (Some (Savepoint name)) None e = absurd cc
row_selected table (Some (RollbackTo name)) None e = absurd cc
row_selected table (Some (Release name)) None e = absurd cc

-- at the end the one that a conflict names found a row at the position
rival_found : (setting : Setting) (state : State) → AtEnd setting state → (other : Label) (table pos : ℕ) → FoundRow setting state other table pos
    → IsSomeAnd (outcome_at (outcome_of setting state) other)
    (λ (rival : TxnOutcome). IsTrue (is_some (printed_at setting (map committed_of state.order) rival.start table pos)))
rival_found setting state end other table pos h =
    let session : Session = session_at state other.session in
    let found = begun_ended session.done session.now (now_none setting state end.over other.session session.now refl) h.after h.begun h.has in
    subst (λ (o : Option TxnOutcome). IsSomeAnd o
    (λ (rival : TxnOutcome). IsTrue (is_some (printed_at setting (map committed_of state.order) rival.start table pos))))
    (sym (outcome_found setting state other h.after found.0 h.is found.1.0))
    (ap is_some (printed_is setting state.order (order_of setting state end) found.0.begun.prefix table pos)
    ∙ (ap (λ (begun : Begun). is_some (item_at (snapshot setting state begun.prefix) table pos)) found.1.1 ∙ h.row))

-- at the end the one that a hit names has committed, at a rank that came before the refused one ended
named_met : (setting : Setting) (state : State) → AtEnd setting state → (number before : ℕ) (finished : Finished) (other : Label)
    → Met state number before other
    → IsSomeAnd (outcome_at (outcome_of setting state) other) (IsMetBy (outcome_of setting state) (txn_outcome_of setting number before finished))
named_met setting state end number before finished other m =
    let committed : HasCommitted state other m.rank =
    entry_committed setting state end.over m.rank other (end.over.fits.ranked m.rank other m.stands) in
    subst (λ (o : Option TxnOutcome). IsSomeAnd o (IsMetBy (outcome_of setting state) (txn_outcome_of setting number before finished)))
    (sym (outcome_has setting state other committed.has))
    (subst (λ (ending : Ending). IsSomeAnd (committed_at ending)
    (λ (rank : ℕ). IsTrue (reaches (outcome_of setting state) (txn_outcome_of setting number before finished) (rank + 1)))) (sym committed.ending)
    (reaches_told setting state number before (m.rank + 1) finished m.reaches))

-- at the end no entry up to the one of a hit has changed what the refused one wrote
left_alone_to : (setting : Setting) (state : State) → AtEnd setting state → (number before : ℕ) (finished : Finished) (table pos : ℕ) (other : Label)
    (statement : ℕ) → IsFirstHit state.order finished.begun table pos other statement
    → IsSomeAnd (outcome_at (outcome_of setting state) other) (IsLeftAloneTo (outcome_of setting state) (txn_outcome_of setting number before finished))
left_alone_to setting state end number before finished table pos other statement first =
    let committed : HasCommitted state other first.rank =
    entry_committed setting state end.over first.rank other (end.over.fits.ranked first.rank other first.stands) in
    subst (λ (o : Option TxnOutcome). IsSomeAnd o (IsLeftAloneTo (outcome_of setting state) (txn_outcome_of setting number before finished)))
    (sym (outcome_has setting state other committed.has))
    (subst (λ (ending : Ending). IsSomeAnd (committed_at ending) (λ (rank : ℕ). (at : ℕ) → finished.begun.prefix ≤ at → at ≤ rank
    → IfSome (slice_get (map committed_of state.order) at) (ChangesLieApart (written finished.begun.own)))) (sym committed.ending)
    (λ at from to. lies_apart state.order finished.begun.own at (λ of there own. first.clear of there own at from to)))

end_names : (setting : Setting) (state : State) → AtEnd setting state → (number before : ℕ) (finished : Finished)
    → slice_get (session_at state number).done before ≡ Some finished → Names state finished.ending
end_names setting state end number before finished at =
    one_of (λ (one : Finished). Names state one.ending) (session_at state number).done (end.passes.names number).done before finished at

-- one that was refused was so for a cause
pub refused_by : Laws → (setting : Setting) (state : State) → AtEnd setting state → (number before : ℕ) (finished : Finished)
    → slice_get (session_at state number).done before ≡ Some finished → (ending : Ending) → finished.ending ≡ ending
    → IsRefusedBy setting (outcome_of setting state) (txn_outcome_of setting number before finished) ending
refused_by laws setting state end number before finished at (Committed rank) e = tt
refused_by laws setting state end number before finished at Read e = tt
refused_by laws setting state end number before finished at RolledBack e = tt
refused_by laws setting state end number before finished at (Conflict table pos other) e =
    let has : EndedHasRun setting state number before finished = end.ran number before finished at in
    let rivals : Rivals setting state number before finished.begun.prefix table pos other =
    subst (EndRoom setting state number before finished.begun.prefix) e (ended_room setting state end.reached number before finished at) in
    let free : item_at finished.begun.own table pos ≡ None =
    subst (IsRefusal state.order finished.begun) e (end_passes setting state end number before finished at).1 in
    let statement : Option Bound = refused_statement setting.programs (txn_outcome_of setting number before finished) in
    let selected : would_write table statement (item_at (snapshot setting state finished.begun.prefix) table pos) ≡ true =
    ap (would_write table statement)
    (sym (kept_item (λ (own : Cell). own) (snapshot setting state finished.begun.prefix) finished.begun.own table pos free))
    ∙ subst (WasRefused setting.shapes (over (snapshot setting state finished.begun.prefix) finished.begun.own)
    (over (snapshot setting state finished.begun.prefix) has.given.own) statement) e (refused_over setting state end number before finished at) in
    record {
      selects = ap (would_write table statement) (printed_is setting state.order (order_of setting state end) finished.begun.prefix table pos) ∙ selected;
      not_own = place_missing finished.begun.own table pos free;
      wrote = rival_wrote setting state end other table pos (subst (Names state) e (end_names setting state end number before finished at));
      found = rival_found setting state end other table pos
          (rivals.found (row_selected table statement (item_at (snapshot setting state finished.begun.prefix) table pos) selected));
      overlaps = rival_overlaps setting state end number before finished at other rivals.meets;
      not_before = rival_since setting state end number before finished table pos other rivals;
    }
refused_by laws setting state end number before finished at (Invalid table pos other statement) e =
    let invalid : IsInvalid setting state.order (txn_outcome_of setting number before finished) other statement =
    subst (Ends setting state.order (txn_outcome_of setting number before finished)) e
    (done_fits setting state end.over.fits number before finished at).ends in
    let first : IsFirstHit state.order finished.begun table pos other statement =
    subst (IsRefusal state.order finished.begun) e (end_passes setting state end number before finished at).1 in
    record {
      hit = ap (λ (records : List Record). first_hit records (drop finished.begun.prefix (map committed_of state.order)))
          (sym (logs_alone laws setting state end number before finished at (answered_all setting number before finished invalid.answers)))
          ∙ (ap (first_hit finished.begun.records) (drop-map committed_of finished.begun.prefix state.order) ∙ first.hit);
      met = named_met setting state end number before finished other
          (subst (EndRoom setting state number before finished.begun.prefix) e (ended_room setting state end.reached number before finished at));
      left_alone = left_alone_to setting state end number before finished table pos other statement first;
    }
refused_by laws setting state end number before finished at (Range table pos) e =
    let has : EndedHasRun setting state number before finished = end.ran number before finished at in
    let tables : Tables = snapshot setting state finished.begun.prefix in
    let many : ℕ = length finished.begun.replies in
    let label : Label = record { session = number; txn = suc before } in
    let out_here : List Bound → Cell → List Reply → Bool = λ statements cell replies.
    goes_out_at table (refused_statement setting.programs (txn_outcome_of setting number before finished)) (followed table statements cell)
    || (is_none cell && (has_place (written finished.begun.own) table pos
    && some_inserted (goes_out_at table (refused_statement setting.programs (txn_outcome_of setting number before finished))) table statements replies)) in
    let statement : Option Bound = refused_statement setting.programs (txn_outcome_of setting number before finished) in
    let refused : WasRefused setting.shapes (over tables finished.begun.own) (over tables has.given.own) statement (Range table pos) =
    subst (WasRefused setting.shapes (over tables finished.begun.own) (over tables has.given.own) statement) e
    (refused_over setting state end number before finished at) in
    record {
      some = ap (λ (one : Alone). list_any (goes_out table statement) (rows_in one.database table))
          (answered_alone laws setting state end number before finished at)
          ∙ out_in_bags table statement (over tables has.given.own) pos refused.0;
      here = ap (λ (cell : Cell). out_here (take many (statements_of setting.programs label)) cell finished.begun.replies)
          (printed_is setting state.order (order_of setting state end) finished.begun.prefix table pos)
          ∙ (ap (λ (statements : List Bound). out_here (take many statements) (item_at tables table pos) finished.begun.replies)
          (statements_behind setting label before refl)
          ∙ (ap (out_here (take many (statements_at setting number before)) (item_at tables table pos)) (sym has.has_run.replies)
          ∙ out_followed setting tables (take many (statements_at setting number before)) finished.begun.took has.given finished.begun.own table pos statement
          (tables_are setting state.order finished.begun.prefix) has.has_run.came_to refused.0 refused.1));
    }
refused_by laws setting state end number before finished at (Full table) e =
    let has : EndedHasRun setting state number before finished = end.ran number before finished at in
    let tables : Tables = snapshot setting state finished.begun.prefix in
    let statement : Option Bound = refused_statement setting.programs (txn_outcome_of setting number before finished) in
    let refused : WasRefused setting.shapes (over tables finished.begun.own) (over tables has.given.own) statement (Full table) =
    subst (WasRefused setting.shapes (over tables finished.begun.own) (over tables has.given.own) statement) e
    (refused_over setting state end number before finished at) in
    ap (λ (one : Alone). finds_key setting.shapes table statement (rows_in one.database table))
    (answered_alone laws setting state end number before finished at)
    ∙ (found_in_bags setting.shapes table statement (over tables has.given.own) ∙ refused)
