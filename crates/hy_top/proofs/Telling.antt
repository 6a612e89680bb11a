-- The text of a run tells its outcome.
use Rattle.std.specs.Prelude.{◌≢◌}
use Rattle.std.specs.List.{AllPairs}
use Rattle.std.proofs.Common.{◌≡◌, ℕ, ◌*◌, ◌<◌, Bool, true, false, List, [], Ok, map, refl, sym, subst, ◌∙◌, arith}
use Rattle.std.proofs.lemmas.Bool.{false≢true}
use Rattle.std.proofs.lemmas.List.{length-map}
use Rattle.std.proofs.lemmas.List.Elements.{All-weaker}
use Rattle.hy_token.specs.Lengths.{continues_word}
use Rattle.hy_schema.specs.declared.TableDef.{TableDef}
use Rattle.hy_bound.specs.Fits.{Fits}
use Rattle.hy_bind.specs.Shapes.{defined_shape, catalog_shapes}
use Rattle.hy_script.specs.declared.NamedTxns.{NamedTxns}
use Rattle.hy_script.specs.declared.Options.{Options}
use Rattle.hy_script.specs.declared.Script.{Script}
use Rattle.hy_top.specs.Naming.{IsWord, IsNamed}
use Rattle.hy_script.specs.Reading.{Reads}
use Rattle.hy_bound.specs.declared.schedule.Item.{Item}
use Rattle.hy_render.specs.declared.Outcome.{Outcome}
use Rattle.hy_render.specs.Named.{Differ, IsTableName, IsSessionName, AreTelling}
use Rattle.hy_render.specs.Telling.{TextTells}
use Rattle.hy_machine.specs.declared.Setting.{Setting}
use Rattle.hy_machine.specs.States.{State}
use Rattle.hy_machine.specs.Outcomes.{outcome_of}
use Rattle.hy_machine.specs.Runs.{IsReached, all_ended_from, run_of}
use Rattle.hy_lawful.specs.Lawful.{Lawful}
use Rattle.hy_lawful.specs.Laws.{SerialEnds, SerialRuns}
use Rattle.hy_lawful.specs.Serial.{IsSerial}
use Rattle.hy_serial.specs.Naming.{AreNamesOf, OutcomesAreNamed}
use Rattle.hy_top.specs.Program.{MayCome, names_at}
use Rattle.hy_top.specs.Settings.{setting_at}
use Rattle.hy_top.specs.Telling.{TextsTellOutcomes}

-- the laws of the crates below on which this rests
pub record Laws : Type 0 where
  pub fits : (bytes : List ℕ) (options : Options) (script : Script) → Reads bytes options (Ok script)
      → Fits (catalog_shapes script.catalog) (options.chunks * options.rows) script.rows (map (λ (session : NamedTxns). session.txns) script.sessions)
  pub options : (bytes : List ℕ) (options : Options) (script : Script) → Reads bytes options (Ok script) → script.options ≡ options
  pub names : (bytes : List ℕ) (options : Options) (script : Script) → Reads bytes options (Ok script) → IsNamed script
  pub runs_lawful : (setting : Setting) (schedule : List Item) → Lawful setting (outcome_of setting (run_of setting schedule))
  pub runs_serial : SerialRuns
  pub ends_lawful : (setting : Setting) (state : State) → IsReached setting state → all_ended_from setting 0 state.sessions ≡ true
      → Lawful setting (outcome_of setting state)
  pub ends_serial : SerialEnds
  pub named : OutcomesAreNamed
  pub tells : TextTells

-- ---- names

-- what is no letter, no digit and no `_` is no byte of a word
is_other : (byte other : ℕ) → continues_word byte ≡ true → continues_word other ≡ false → byte ≢ other
is_other byte other h none e = false≢true (sym none ∙ subst (λ (b : ℕ). continues_word b ≡ true) e h)

table_word : (name : List ℕ) → IsWord name → IsTableName name
table_word name is =
    All-weaker (λ (byte : ℕ). continues_word byte ≡ true) (λ (byte : ℕ). (byte ≢ 32) × (byte ≢ 10))
    (λ byte h. (is_other byte 32 h refl, is_other byte 10 h refl)) name is.letters

session_word : (name : List ℕ) → IsWord name → IsSessionName name
session_word name is =
    All-weaker (λ (byte : ℕ). continues_word byte ≡ true) (λ (byte : ℕ). byte ≢ 46) (λ byte h. is_other byte 46 h refl) name is.letters

-- names that differ, place by place
all_differ : (names : List (List ℕ)) → AllPairs (λ one other. one ≢ other) names → Differ names
all_differ names differ i j i_there j_there same =
    let not_before : i < j → ⊥ = λ before. differ i j [] before j_there same in
    let not_behind : j < i → ⊥ = λ behind. differ j i [] behind i_there (sym same) in
    omega (arith, not_before, not_behind)

telling : (script : Script) → IsNamed script → AreTelling (names_at script)
telling script is = record {
  tables = All-weaker IsWord IsTableName table_word (names_at script).tables is.tables.words;
  tables_differ = all_differ (names_at script).tables is.tables.differ;
  sessions = All-weaker IsWord IsSessionName session_word (names_at script).sessions is.sessions.words;
  sessions_differ = all_differ (names_at script).sessions is.sessions.differ;
}

names_of : (script : Script) → AreNamesOf (setting_at script) (names_at script)
names_of script = record {
  tables = length-map script.catalog (λ (table : TableDef). table.name) ∙ sym (length-map script.catalog defined_shape);
  sessions =
      length-map script.sessions (λ (session : NamedTxns). session.name) ∙ sym (length-map script.sessions (λ (session : NamedTxns). session.txns));
}

-- ---- outcomes

-- what a run may come to is lawful and serializable
may_come_so : Laws → (script : Script) (threads : Bool) (outcome : Outcome) → 0 < script.options.chunks
    → Fits (setting_at script).shapes (script.options.chunks * script.options.rows) script.rows (setting_at script).programs
    → MayCome threads script outcome → Lawful (setting_at script) outcome × IsSerial (setting_at script) outcome
may_come_so laws script true outcome some fits may = (
  subst (Lawful (setting_at script)) (sym may.outcome_is) (laws.ends_lawful (setting_at script) may.state may.reached may.ended),
  subst (IsSerial (setting_at script)) (sym may.outcome_is) (laws.ends_serial (setting_at script) may.state may.reached may.ended some fits),
)
may_come_so laws script false outcome some fits may = (
  subst (Lawful (setting_at script)) (sym may) (laws.runs_lawful (setting_at script) script.schedule),
  subst (IsSerial (setting_at script)) (sym may) (laws.runs_serial (setting_at script) script.schedule some fits),
)

pub texts_tell : Laws → TextsTellOutcomes
texts_tell laws bytes options script reads some threads others one other may may_other printed printed_other same =
    let is : options ≡ script.options = sym (laws.options bytes options script reads) in
    let fits =
    subst (λ (o : Options). Fits (catalog_shapes script.catalog) (o.chunks * o.rows) script.rows (map (λ (session : NamedTxns). session.txns) script.sessions)) is
    (laws.fits bytes options script reads) in
    let chunks = subst (λ (o : Options). 0 < o.chunks) is some in
    let here = may_come_so laws script threads one chunks fits may in
    let there = may_come_so laws script others other chunks fits may_other in
    laws.tells (names_at script) one other (telling script (laws.names bytes options script reads))
    (laws.named (setting_at script) (names_at script) one fits (names_of script) here.0 here.1 printed)
    (laws.named (setting_at script) (names_at script) other fits (names_of script) there.0 there.1 printed_other) same
