-- The commit order replayed: its transactions run alone, one after another in the printed order, from the first rows on.
use Rattle.std.specs.Prelude.{◌≡◌, List, [], ◌∷◌, Option, None, Some, map}
use Rattle.std.specs.List.{AllByRecursion}
use Rattle.std.specs.Option.{option_map}
use Rattle.hy_bound.specs.declared.Reply.{Reply}
use Rattle.hy_meaning.specs.Statement.{Database}
use Rattle.hy_meaning.specs.Serial.{Alone, alone_of, database_of}
use Rattle.hy_render.specs.declared.TxnOutcome.{TxnOutcome}
use Rattle.hy_render.specs.declared.Committed.{Committed as Entry}
use Rattle.hy_render.specs.declared.Outcome.{Outcome}
use Rattle.hy_machine.specs.declared.Setting.{Setting}
use Rattle.hy_lawful.specs.Scripts.{statements_of}
use Rattle.hy_lawful.specs.Outcomes.{outcome_at}
use Rattle.hy_lawful.specs.Lawful.{Lawful}
use Rattle.hy_lawful.specs.Serial.{IsSerial}

-- what the transaction of an entry gives, alone from a database on
abbrev pub alone_on : Setting → Entry → Database → Alone
alone_on setting entry db = alone_of setting.shapes (statements_of setting.programs entry.label) db

-- what the transactions of these entries give, alone one after another: the first from this database on, each other one
-- from what the one before it leaves
abbrev pub replayed_from : Setting → List Entry → Database → List Alone
replayed_from setting [] db = []
replayed_from setting (entry ∷ order) db = alone_on setting entry db ∷ replayed_from setting order (alone_on setting entry db).database

-- the whole commit order, from the first rows on
abbrev pub replayed : Setting → List Entry → List Alone
replayed setting order = replayed_from setting order (database_of setting.first)

-- the database that the last of replayed transactions leaves; where there is none, the one that they begin from
abbrev pub left_after : Database → List Alone → Database
left_after db [] = db
left_after db (given ∷ others) = left_after given.database others

-- the replies that are printed of an entry's transaction
abbrev pub printed_of : Outcome → Entry → Option (List Reply)
printed_of outcome entry = option_map (λ (txn : TxnOutcome). txn.replies) (outcome_at outcome entry.label)

-- the commit order, replayed, gives what was printed
pub record GivesWhatWasPrinted (setting : Setting) (outcome : Outcome) : Type 0 where
  -- no transaction stops
  pub runs_on : AllByRecursion (λ (given : Alone). given.stop ≡ None) (replayed setting outcome.order)
  -- at each rank the replies are those that are printed of the transaction there
  pub replies : map (λ (given : Alone). Some given.replies) (replayed setting outcome.order) ≡ map (printed_of outcome) outcome.order
  -- the last one leaves the printed tables
  pub tables : left_after (database_of setting.first) (replayed setting outcome.order) ≡ outcome.tables

-- whoever replays the printed order, one transaction at a time and with nothing else going on, sees what was printed
abbrev pub ReplayingGivesWhatWasPrinted : Type 0
ReplayingGivesWhatWasPrinted = (setting : Setting) (outcome : Outcome) → Lawful setting outcome → IsSerial setting outcome
    → GivesWhatWasPrinted setting outcome
