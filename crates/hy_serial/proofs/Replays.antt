-- The commit order replayed from the first rows on gives what was printed, and leaves the printed tables.
use Rattle.std.proofs.Common.{◌≡◌, ℕ, suc, ◌+◌, List, [], ◌∷◌, Option, None, Some, refl, sym, ap, ◌∙◌, subst, map, length, arith, zero-add}
use Rattle.std.specs.Prelude.{take, IfSome}
use Rattle.std.specs.List.{AllByRecursion}
use Rattle.std.specs.Option.{option_map}
use Rattle.std.proofs.Math.Seq.{take-length}
use Rattle.std.proofs.lemmas.Option.{same_Some}
use Rattle.hy_bound.specs.declared.Bound.{Bound}
use Rattle.hy_bound.specs.declared.Reply.{Reply}
use Rattle.hy_meaning.specs.Statement.{Database}
use Rattle.hy_meaning.specs.Serial.{Alone, serial, database_of}
use Rattle.hy_stamp.specs.declared.Label.{Label}
use Rattle.hy_bound.specs.declared.Ending.{Ending}
use Rattle.hy_bound.specs.declared.Ending.TheVariants.{Committed}
use Rattle.hy_render.specs.declared.TxnOutcome.{TxnOutcome}
use Rattle.hy_render.specs.declared.Committed.{Committed as Entry}
use Rattle.hy_render.specs.declared.Outcome.{Outcome}
use Rattle.hy_machine.specs.declared.Setting.{Setting}
use Rattle.hy_lawful.specs.Scripts.{txn_of, statements_of, ClosesWithCommit}
use Rattle.hy_lawful.specs.Outcomes.{EachFrom, outcome_at, committed_at}
use Rattle.hy_lawful.specs.Endings.{MayEnd}
use Rattle.hy_lawful.specs.Databases.{database_at, alone_at}
use Rattle.hy_lawful.specs.Lawful.{Lawful}
use Rattle.hy_lawful.specs.Serial.{IsSerial, ReplaysAt}
use Rattle.hy_serial.specs.Replaying.{alone_on, replayed_from, left_after, printed_of, ReplayingGivesWhatWasPrinted}
use Rattle.hy_serial.proofs.Items.{each_so, all_both}
use Rattle.hy_serial.proofs.Outcomes.{printed_so, has_label}

-- the statements of an entry's transaction
abbrev pub statements_at : Setting → Entry → List Bound
statements_at setting entry = statements_of setting.programs entry.label

-- ---- at each rank

-- an entry's transaction closes with COMMIT; alone from a database on, it is told what is printed of it, and does not stop
record TellsAsPrinted (setting : Setting) (outcome : Outcome) (entry : Entry) (db : Database) : Type 0 where
  told : Some (alone_on setting entry db).replies ≡ printed_of outcome entry
  runs_on : (alone_on setting entry db).stop ≡ None
  closes : ClosesWithCommit (txn_of setting.programs entry.label)

-- what an outcome says of a transaction that committed
abbrev EndsAndReplays : Setting → Outcome → TxnOutcome → Type 0
EndsAndReplays setting outcome txn =
    MayEnd setting.programs outcome txn txn.ending × IfSome (committed_at txn.ending) (ReplaysAt setting outcome.order txn)

tells_at : (setting : Setting) (outcome : Outcome) → AllByRecursion (EndsAndReplays setting outcome) outcome.txns → (rank : ℕ) (entry : Entry)
    (printed : Option TxnOutcome) → outcome_at outcome entry.label ≡ printed
    → option_map (λ (txn : TxnOutcome). txn.ending) printed ≡ Some (Committed rank)
    → TellsAsPrinted setting outcome entry (database_at setting outcome.order rank)
tells_at setting outcome h rank entry None e ends = absurd cc
tells_at setting outcome h rank entry (Some txn) e ends =
    let ended : txn.ending ≡ Committed rank = same_Some txn.ending (Committed rank) ends in
    let both : EndsAndReplays setting outcome txn = printed_so (EndsAndReplays setting outcome) outcome h entry.label txn e in
    let may : MayEnd setting.programs outcome txn (Committed rank) = subst (MayEnd setting.programs outcome txn) ended both.0 in
    let replays : ReplaysAt setting outcome.order txn rank =
    subst (λ (ending : Ending). IfSome (committed_at ending) (ReplaysAt setting outcome.order txn)) ended both.1 in
    let same : txn.label ≡ entry.label = has_label outcome entry.label txn e in
    record {
      told = ap (λ (replies : List Reply). Some replies)
          (ap (λ (label : Label). (alone_at setting outcome.order label rank).replies) (sym same) ∙ replays.gives)
          ∙ sym (ap (λ (found : Option TxnOutcome). option_map (λ (other : TxnOutcome). other.replies) found) e);
      runs_on = subst (λ (label : Label). (alone_at setting outcome.order label rank).stop ≡ None) same replays.runs_on;
      closes = subst (λ (label : Label). ClosesWithCommit (txn_of setting.programs label)) same may.closes;
    }

-- ---- along the order

-- entries, whose transactions close with COMMIT, give what is printed of them when they are replayed from a database on
pub record Replays (setting : Setting) (outcome : Outcome) (order : List Entry) (db : Database) : Type 0 where
  pub runs_on : AllByRecursion (λ (given : Alone). given.stop ≡ None) (replayed_from setting order db)
  pub closes : AllByRecursion (λ (entry : Entry). ClosesWithCommit (txn_of setting.programs entry.label)) order
  pub told : map (λ (given : Alone). Some given.replies) (replayed_from setting order db) ≡ map (printed_of outcome) order

-- an entry before others
replays_first : (setting : Setting) (outcome : Outcome) (entry : Entry) (order : List Entry) (db : Database) → TellsAsPrinted setting outcome entry db
    → Replays setting outcome order (alone_on setting entry db).database → Replays setting outcome (entry ∷ order) db
replays_first setting outcome entry order db tells rest = record {
  runs_on = (tells.runs_on, rest.runs_on);
  closes = (tells.closes, rest.closes);
  told = ap (λ (others : List (Option (List Reply))). Some (alone_on setting entry db).replies ∷ others) rest.told
      ∙ ap (λ (first : Option (List Reply)). first ∷ map (printed_of outcome) order) tells.told;
}

same_rest : {X : Type 0} {x y : X} (xs ys : List X) → x ∷ xs ≡ y ∷ ys → xs ≡ ys
same_rest xs ys e = cc

-- the others behind the first
pub replays_later : (setting : Setting) (outcome : Outcome) (entry : Entry) (order : List Entry) (db : Database)
    → Replays setting outcome (entry ∷ order) db → Replays setting outcome order (alone_on setting entry db).database
replays_later setting outcome entry order db replays = record {
  runs_on = replays.runs_on.1;
  closes = replays.closes.1;
  told = same_rest (map (λ (given : Alone). Some given.replies) (replayed_from setting order (alone_on setting entry db).database))
      (map (printed_of outcome) order) replays.told;
}

-- where the database of each rank is that of the transactions before it
replays_from : (setting : Setting) (outcome : Outcome) (at : ℕ → Database) (first : ℕ) (order : List Entry) (db : Database)
    → ((n : ℕ) → at (first + n) ≡ serial setting.shapes (map (statements_at setting) (take n order)) db)
    → EachFrom first (λ (rank : ℕ) (entry : Entry). TellsAsPrinted setting outcome entry (at rank)) order → Replays setting outcome order db
replays_from setting outcome at first [] db same h = record { runs_on = tt; closes = tt; told = refl }
replays_from setting outcome at first (entry ∷ order) db same h =
    let here : at first ≡ db = ap at (let e : first ≡ first + 0 = omega arith in e) ∙ same 0 in
    replays_first setting outcome entry order db (subst (TellsAsPrinted setting outcome entry) here h.0)
    (replays_from setting outcome at (suc first) order (alone_on setting entry db).database
    (λ n. ap at (let e : suc first + n ≡ first + suc n = omega arith in e) ∙ same (suc n)) h.1)

pub order_replays : (setting : Setting) (outcome : Outcome) → Lawful setting outcome → IsSerial setting outcome
    → Replays setting outcome outcome.order (database_of setting.first)
order_replays setting outcome lawful is_serial =
    let both : AllByRecursion (EndsAndReplays setting outcome) outcome.txns =
    all_both (λ (txn : TxnOutcome). MayEnd setting.programs outcome txn txn.ending)
    (λ (txn : TxnOutcome). IfSome (committed_at txn.ending) (ReplaysAt setting outcome.order txn)) outcome.txns lawful.endings is_serial.replays in
    replays_from setting outcome (database_at setting outcome.order) 0 outcome.order (database_of setting.first)
    (λ n. ap (database_at setting outcome.order) (zero-add n))
    (each_so 0 (λ (rank : ℕ) (entry : Entry). option_map (λ (txn : TxnOutcome). txn.ending) (outcome_at outcome entry.label) ≡ Some (Committed rank))
    (λ (rank : ℕ) (entry : Entry). TellsAsPrinted setting outcome entry (database_at setting outcome.order rank)) outcome.order
    (λ rank entry ends. tells_at setting outcome both rank entry (outcome_at outcome entry.label) refl ends) lawful.order)

-- ---- the last database

left_is_serial : (setting : Setting) (order : List Entry) (db : Database)
    → left_after db (replayed_from setting order db) ≡ serial setting.shapes (map (statements_at setting) order) db
left_is_serial setting [] db = refl
left_is_serial setting (entry ∷ order) db = left_is_serial setting order (alone_on setting entry db).database

-- the database at the end of the order is that of the whole order
at_the_end : (setting : Setting) (order : List Entry)
    → serial setting.shapes (map (statements_at setting) order) (database_of setting.first) ≡ database_at setting order (length order)
at_the_end setting order =
    ap (λ (entries : List Entry). serial setting.shapes (map (statements_at setting) entries) (database_of setting.first)) (sym (take-length order))

pub replaying_gives : ReplayingGivesWhatWasPrinted
replaying_gives setting outcome lawful is_serial = record {
  runs_on = (order_replays setting outcome lawful is_serial).runs_on;
  replies = (order_replays setting outcome lawful is_serial).told;
  tables = left_is_serial setting outcome.order (database_of setting.first) ∙ (at_the_end setting outcome.order ∙ sym is_serial.tables);
}
