-- How a report answers what was read.
use Rattle.std.proofs.Common.{◌≡◌, ℕ, ◌+◌, ◌*◌, ◌<◌, ◌≤◌, List, [], Bool, true, false, Option, None, Some, Result, Ok, Err, IsNone, IsSome, IfSome, length, map, refl, ap, sym, ◌∙◌, subst, replicate, le_refl, arith, ◌⊎◌, inl, inr}
use Rattle.std.proofs.Math.Logic.{⊎_elim}
use Rattle.std.proofs.Math.Nat.{mul-le-mul_right}
use Rattle.std.proofs.lemmas.List.{take_all, drop_all, length-take-le, length-replicate}
use Rattle.hy_outside.specs.Telling.{GivesAll, GivesPast}
use Rattle.hy_redo.specs.Crashes.{IsAsItWas}
use Rattle.hy_script.specs.declared.Script.{Script}
use Rattle.hy_script.specs.declared.Refused.{Refused}
use Rattle.hy_script.specs.declared.Options.{Options}
use Rattle.hy_script.specs.declared.codes.Code.TheVariants.{TooLong}
use Rattle.hy_script.specs.Reading.{Reads, too_long}
use Rattle.hy_render.specs.declared.Outcome.{Outcome}
use Rattle.hy_machine.specs.declared.Setting.{Setting}
use Rattle.hy_machine.specs.States.{State}
use Rattle.hy_machine.specs.Runs.{IsReached, RunsAreSteps, RunsEnd, all_ended_from, run_of}
use Rattle.hy_machine.specs.Outcomes.{outcome_of}
use Rattle.hy_bind.specs.Shapes.{catalog_shapes}
use Rattle.hy_bound.specs.Fits.{Fits}
use Rattle.hy_lawful.specs.Lawful.{Lawful}
use Rattle.hy_lawful.specs.Serial.{IsSerial}
use Rattle.hy_lawful.specs.Laws.{SerialEnds}
use Rattle.hy_words.specs.declared.Command.{Command}
use Rattle.hy_words.specs.Words.{IsWithin}
use Rattle.hy_words.specs.declared.Command.TheVariants.{Run, Check, Recover, Trace, Explain, Serve, Gen}
use Rattle.hy_value.specs.declared.Value.{Value}
use Rattle.hy_top.specs.Lines.{refusal_line_of}
use Rattle.hy_top.specs.Program.{MayCome, IsRead, bytes_read, bytes_left, comes_to, keeps_log, options_by, made_by, reads_script, runs_threads, scheduled}
use Rattle.hy_world.specs.SomeRuns.{IsSomeRun}
use Rattle.hy_gen.specs.Made.{made}
use Rattle.hy_bank.specs.Fitting.{MadeFits}
use Rattle.hy_bank.specs.Bank.{all_money}
use Rattle.hy_bank.specs.Outcomes.{IsToldTheMoney, MadeOutcomesKeepTheMoney, MadeAuditsTellTheMoney}
use Rattle.hy_bank.specs.Endings.{EndInFourWays, EndingsAddUp, MadeEndInFourWays, MadeEndingsAddUp}
use Rattle.hy_render.specs.Summary.{balances}
use Rattle.std.specs.List.{AllByRecursion}
use Rattle.std.specs.Prelude.{pos, IfOk}
use Rattle.hy_stepping.specs.Runnable.{IsRunnable}
use Rattle.hy_top.specs.Settings.{CanRun, setting_at}
use Rattle.hy_top.specs.Reports.{IsRefused, Spells, IsRun, Writes, Answers, IsAnswered, Leaves, LeavesLog, LeavesLogOf, IsLogged, HasRun, restored_status, Summarizes, GaveUp, Does, Makes}
use Rattle.hy_limits.specs.declared.TheConstants.{MOST_BYTES}

pub none_is : (o : Option Outcome) → IsNone o → o ≡ None
none_is None h = refl
none_is (Some x) h = cc

none_is_not_some : (o : Option Outcome) → IsNone o → IsSome o → ⊥
none_is_not_some None h some = cc
none_is_not_some (Some x) h some = cc

-- the status of what was written
done_or_four : (done status : ℕ) (before after : Option (List ℕ)) (bytes : List ℕ) → Writes done status before after bytes → (status ≡ done) ⊎ (status ≡ 4)
done_or_four done status before after bytes w = ⊎_elim (λ p. inl p.0) (λ p. inr p.0) w

-- reading comes to one answer
abbrev pub Once : Type 0
Once = (bytes : List ℕ) (options : Options) (one other : Result Script Refused) → Reads bytes options one → Reads bytes options other → one ≡ other

not_both : (script : Script) (why : Refused) → ◌≡◌ {A = Result Script Refused} (Ok script) (Err why) → ⊥
not_both script why h = absurd cc

same_script : (s t : Script) → ◌≡◌ {A = Result Script Refused} (Ok s) (Ok t) → s ≡ t
same_script s t h = cc

same_refusal : (s t : Refused) → ◌≡◌ {A = Result Script Refused} (Err s) (Err t) → s ≡ t
same_refusal s t h = cc

-- what holds of an outcome that is there
pub no_outcome : (P : Outcome → Type 0) (given : Option Outcome) → IsNone given → IfSome given P
no_outcome P None h = tt
no_outcome P (Some o) h = absurd (none_is_not_some (Some o) h (let some : IsSome (Some o) = search in some))

given_outcome : (P : Outcome → Type 0) (given : Option Outcome) (o : Outcome) → given ≡ Some o → P o → IfSome given P
given_outcome P given o is p = subst (λ (g : Option Outcome). IfSome g P) (sym is) p

pub given_is_there : (given : Option Outcome) (o : Outcome) → given ≡ Some o → IsNone given → ⊥
given_is_there given o is none =
    let some : IsSome (Some o) = search in
    none_is_not_some given none (subst (λ (g : Option Outcome). IsSome g) (sym is) some)

-- ---- what is left on the disk

-- nothing was done to it
pub as_it_was : {D : Type 0} (held : D → Option (List ℕ)) (clock : D → ℕ) (image : D → List ℕ → Type 0) (image_since : D → ℕ → List ℕ → Type 0)
    (disk : D) → IsAsItWas held clock image image_since disk disk
as_it_was held clock image image_since disk = record {
  reads = refl;
  stays = record { later = le_refl (clock disk); images = λ bytes left. left; moments = λ time bytes le left. left };
}

-- nor was anything run
pub leaves_stay : {D : Type 0} (held : D → Option (List ℕ)) (clock : D → ℕ) (image : D → List ℕ → Type 0) (image_since : D → ℕ → List ℕ → Type 0)
    (script : Script) (status : ℕ) (given : Option Outcome) (before after : D) → IsNone given → IsAsItWas held clock image image_since before after
    → LeavesLog held clock image image_since script status given before after
leaves_stay held clock image image_since script status given before after nothing stay = record {
  stays = λ none done. stay;
  short = λ five. inl stay;
  cut = λ six. inl (inl stay);
  safe = record { later = stay.stays.later; moments = λ time bytes le left. inl (stay.stays.moments time bytes le left) };
  logged = no_outcome (λ outcome. IsLogged held clock image image_since script outcome before after) given nothing;
}

-- where there is no outcome, it may be told by the script's own schedule
pub leaves_own : {D : Type 0} (held : D → Option (List ℕ)) (clock : D → ℕ) (image : D → List ℕ → Type 0) (image_since : D → ℕ → List ℕ → Type 0)
    (threads : Bool) (script : Script) (status : ℕ) (given : Option Outcome) (before after : D) → IsNone given
    → LeavesLog held clock image image_since (scheduled script script.schedule) status given before after
    → LeavesLogOf held clock image image_since threads script status given before after
leaves_own held clock image image_since threads script status given before after nothing leaves = record {
  schedule = script.schedule;
  own = λ is. refl;
  comes = no_outcome (λ outcome. outcome ≡ comes_to (scheduled script script.schedule)) given nothing;
  leaves = leaves;
}

pub leaves_still : {D : Type 0} (held : D → Option (List ℕ)) (clock : D → ℕ) (image : D → List ℕ → Type 0) (image_since : D → ℕ → List ℕ → Type 0)
    (threads : Bool) (script : Script) (status : ℕ) (given : Option Outcome) (before after : D) → IsNone given
    → IsAsItWas held clock image image_since before after → LeavesLogOf held clock image image_since threads script status given before after
leaves_still held clock image image_since threads script status given before after nothing stay =
    leaves_own held clock image image_since threads script status given before after nothing
    (leaves_stay held clock image image_since (scheduled script script.schedule) status given before after nothing stay)

pub leaves_nothing : {D : Type 0} (held : D → Option (List ℕ)) (clock : D → ℕ) (image : D → List ℕ → Type 0) (image_since : D → ℕ → List ℕ → Type 0)
    (command : Command) (bytes : List ℕ) (status : ℕ) (given : Option Outcome) (disk : D) → IsNone given
    → Leaves held clock image image_since command bytes status given disk disk
leaves_nothing held clock image image_since command bytes status given disk nothing = record {
  refused = λ why is. refl;
  runs = λ script s. leaves_still held clock image image_since (runs_threads command) script status given disk disk nothing
      (as_it_was held clock image image_since disk);
}

-- a script was spelled, so this is what its run leaves
pub leaves_spelled : {D : Type 0} (held : D → Option (List ℕ)) (clock : D → ℕ) (image : D → List ℕ → Type 0) (image_since : D → ℕ → List ℕ → Type 0)
    (command : Command) (bytes : List ℕ) (script : Script) (status : ℕ) (given : Option Outcome) (before after : D) → Once → Spells command bytes script
    → LeavesLogOf held clock image image_since (runs_threads command) script status given before after
    → Leaves held clock image image_since command bytes status given before after
leaves_spelled held clock image image_since command bytes script status given before after once s leaves = record {
  refused = λ why is. absurd (not_both script why (once bytes (options_by command) (Ok script) (Err why) s is));
  runs = λ other t. subst (λ (x : Script). LeavesLogOf held clock image image_since (runs_threads command) x status given before after)
      (same_script script other (once bytes (options_by command) (Ok script) (Ok other) s t)) leaves;
}

-- ---- answers

-- a refusal is an answer to what is refused
pub refused_answers : (command : Command) (bytes : List ℕ) (found : Option (List ℕ)) (why : Refused) (status : ℕ) (given : Option Outcome)
    (before after : Option (List ℕ)) → Once → IsRefused command bytes why
    → ((status ≡ 5) ⊎ Writes 2 status before after (refusal_line_of why)) → IsNone given → Answers command bytes found status given before after
refused_answers command bytes found why status given before after once is w nothing =
    record {
      refused = λ other h. subst (λ (x : Refused). (status ≡ 5) ⊎ Writes 2 status before after (refusal_line_of x)) (same_refusal why other (once bytes (options_by command) (Err why) (Err other) is h)) w;
      refuses = λ h. (why, is);
      does = λ script s. absurd (not_both script why (once bytes (options_by command) (Ok script) (Err why) s is));
      lawful = λ script s. absurd (not_both script why (once bytes (options_by command) (Ok script) (Err why) s is));
      serial = λ script s. absurd (not_both script why (once bytes (options_by command) (Ok script) (Err why) s is));
      outcome_there = λ h. absurd (none_is_not_some given nothing h);
    }

-- a run by a schedule is a list of steps to the end; what the machine comes to at the end is lawful, whatever the steps, and
-- serializable where the script fits
pub record Theorem : Type 0 where
  pub steps : RunsAreSteps
  pub ends : RunsEnd
  pub lawful : (setting : Setting) (state : State) → IsReached setting state → all_ended_from setting 0 state.sessions ≡ true
      → Lawful setting (outcome_of setting state)
  pub serial : SerialEnds

-- what a run may come to is what some steps come to
some_run : Theorem → (threads : Bool) (script : Script) (outcome : Outcome) → MayCome threads script outcome → IsSomeRun (setting_at script) outcome
some_run law true script outcome may = may
some_run law false script outcome may = record {
  state = run_of (setting_at script) script.schedule;
  reached = law.steps (setting_at script) script.schedule;
  ended = law.ends (setting_at script) script.schedule;
  outcome_is = may;
}

lawful_run : Theorem → (setting : Setting) (outcome : Outcome) → IsSomeRun setting outcome → Lawful setting outcome
lawful_run law setting outcome is = subst (Lawful setting) (sym is.outcome_is) (law.lawful setting is.state is.reached is.ended)

serial_run : Theorem → (setting : Setting) (outcome : Outcome) → IsRunnable setting → IsSomeRun setting outcome → IsSerial setting outcome
serial_run law setting outcome fit is =
    subst (IsSerial setting) (sym is.outcome_is) (law.serial setting is.state is.reached is.ended fit.some_chunk fit.fits)

-- what is read can be run
abbrev pub ReadFits : Command → List ℕ → Type 0
ReadFits command bytes = (script : Script) → Spells command bytes script → IsRunnable (setting_at script)

-- a table has from 1 to 64 chunks of 1 to 1024 positions
record AreFew (options : Options) : Type 0 where
  some_chunk : 0 < options.chunks
  few_chunks : options.chunks ≤ 64
  some_row : 0 < options.rows
  few_rows : options.rows ≤ 1024

few_of : (command : Command) → IsWithin command → AreFew (options_by command)
few_of (Run threads prune log chunks rows) within = record { some_chunk = within.0; few_chunks = within.1; some_row = within.2; few_rows = within.3 }
few_of (Check chunks rows) within = record { some_chunk = within.0; few_chunks = within.1; some_row = within.2; few_rows = within.3 }
few_of (Recover dumps chunks rows) within = record { some_chunk = within.0; few_chunks = within.1; some_row = within.2; few_rows = within.3 }
few_of (Trace prune chunks rows) within = record { some_chunk = within.0; few_chunks = within.1; some_row = within.2; few_rows = within.3 }
few_of (Explain prune chunks rows) within = record { some_chunk = within.0; few_chunks = within.1; some_row = within.2; few_rows = within.3 }
few_of (Serve log chunks rows) within = record { some_chunk = within.0; few_chunks = within.1; some_row = within.2; few_rows = within.3 }
few_of (Gen seed sessions txns threads) within = record { some_chunk = omega arith; few_chunks = omega arith; some_row = omega arith; few_rows = omega arith }

few_runnable : (script : Script) → AreFew script.options
    → Fits (catalog_shapes script.catalog) (script.options.chunks * script.options.rows) script.rows (map (λ session. session.txns) script.sessions)
    → IsRunnable (setting_at script)
few_runnable script few fits = record {
  fits = fits;
  some_chunk = few.some_chunk;
  few_chunks = few.few_chunks;
  some_row = few.some_row;
  numbered =
      let all : script.options.chunks * script.options.rows ≤ 64 * script.options.rows = mul-le-mul_right script.options.rows few.few_chunks in
      omega (arith, all, few.few_rows);
}

pub read_fits : (command : Command) (bytes : List ℕ) → IsWithin command
    → ((bytes : List ℕ) (options : Options) (script : Script) → Reads bytes options (Ok script)
    → Fits (catalog_shapes script.catalog) (options.chunks * options.rows) script.rows (map (λ session. session.txns) script.sessions))
    → ((bytes : List ℕ) (options : Options) (script : Script) → Reads bytes options (Ok script) → script.options ≡ options) → ReadFits command bytes
read_fits command bytes within fits same script s =
    let is : options_by command ≡ script.options = sym (same bytes (options_by command) script s) in
    few_runnable script (subst AreFew is (few_of command within))
    (subst (λ (o : Options). Fits (catalog_shapes script.catalog) (o.chunks * o.rows) script.rows (map (λ session. session.txns) script.sessions))
    is (fits bytes (options_by command) script s))

-- a status that is not that of a refusal
abbrev IsNoRefusal : ℕ → Type 0
IsNoRefusal status = status ≡ 2 → ⊥

gave_up_otherwise : (status : ℕ) → GaveUp status → IsNoRefusal status
gave_up_otherwise status gave two = ⊎_elim (λ e. let never : ⊥ = omega (arith, e, two) in never) (λ e. let never : ⊥ = omega (arith, e, two) in never) gave

done_otherwise : (done status : ℕ) (before after : Option (List ℕ)) (bytes : List ℕ) → IsNoRefusal done → Writes done status before after bytes
    → IsNoRefusal status
done_otherwise done status before after bytes other w two =
    ⊎_elim (λ e. other (sym e ∙ two)) (λ e. let never : ⊥ = omega (arith, e, two) in never) (done_or_four done status before after bytes w)

-- what was done with a script, or that nothing was, is an answer where nothing was run
quiet_answers : (command : Command) (bytes : List ℕ) (found : Option (List ℕ)) (script : Script) (status : ℕ) (given : Option Outcome)
    (before after : Option (List ℕ)) → Once → Spells command bytes script → IsNone given → IsNoRefusal status
    → GaveUp status ⊎ Does command script found status given before after → Answers command bytes found status given before after
quiet_answers command bytes found script status given before after once s nothing other done =
    let only : (another : Script) → Spells command bytes another → script ≡ another =
    λ another t. same_script script another (once bytes (options_by command) (Ok script) (Ok another) s t) in
    record {
      refused = λ why h. absurd (not_both script why (once bytes (options_by command) (Ok script) (Err why) s h));
      refuses = λ h. absurd (other h);
      does = λ another t. subst (λ (x : Script). GaveUp status ⊎ Does command x found status given before after) (only another t) done;
      lawful = λ another t. no_outcome (Lawful (setting_at another)) given nothing;
      serial = λ another t. no_outcome (IsSerial (setting_at another)) given nothing;
      outcome_there = λ h. absurd (none_is_not_some given nothing h);
    }

-- what a command did that runs its script is an answer
ran_answers : (command : Command) (bytes : List ℕ) (found : Option (List ℕ)) (script : Script) (status : ℕ) (given : Option Outcome)
    (before after : Option (List ℕ)) (threads : Bool) (told : Outcome → List ℕ) → Once → Theorem → ReadFits command bytes → IsRun command
    → Spells command bytes script → HasRun told threads script status given before after → Does command script found status given before after
    → Answers command bytes found status given before after
ran_answers command bytes found script status given before after threads told once law fit run s ran did =
    let only : (other : Script) → Spells command bytes other → script ≡ other =
    λ other t. same_script script other (once bytes (options_by command) (Ok script) (Ok other) s t) in
    let ends : (status ≡ 0) ⊎ (status ≡ 4) = done_or_four 0 status before after _ ran.writes in
    let some = some_run law threads script ran.given ran.may_come in
    record {
      refused = λ why h. absurd (not_both script why (once bytes (options_by command) (Ok script) (Err why) s h));
      refuses = λ h. absurd (done_otherwise 0 status before after _ (λ two. omega (arith, two)) ran.writes h);
      does = λ other t. inr (subst (λ (x : Script). Does command x found status given before after) (only other t) did);
      lawful = λ other t. subst (λ (x : Script). IfSome given (Lawful (setting_at x))) (only other t)
          (given_outcome (Lawful (setting_at script)) given ran.given ran.outcome_is (lawful_run law (setting_at script) ran.given some));
      serial = λ other t. subst (λ (x : Script). IfSome given (IsSerial (setting_at x))) (only other t)
          (given_outcome (IsSerial (setting_at script)) given ran.given ran.outcome_is
          (serial_run law (setting_at script) ran.given (fit script s) some));
      outcome_there = λ h. (run, (script, s), ends);
    }

-- the status of tables that were made again, or of damage
restored_otherwise : (restored : Result (List (List (List Value))) ℕ) → IsNoRefusal (restored_status restored)
restored_otherwise (Ok rows) two = omega (arith, two)
restored_otherwise (Err offset) two = omega (arith, two)

-- what was done with a script has no such status
did_otherwise : (command : Command) (script : Script) (found : Option (List ℕ)) (status : ℕ) (given : Option Outcome) (before after : Option (List ℕ))
    → Does command script found status given before after → IsNoRefusal status
did_otherwise (Run threads prune false chunks rows) script found status given before after ran =
    done_otherwise 0 status before after _ (λ two. omega (arith, two)) ran.writes
did_otherwise (Run threads prune true chunks rows) script found status given before after (inl ran) =
    done_otherwise 0 status before after _ (λ two. omega (arith, two)) ran.runs.writes
did_otherwise (Run threads prune true chunks rows) script found status given before after (inr there) =
    done_otherwise 7 status before after _ (λ two. omega (arith, two)) there.writes
did_otherwise (Gen seed sessions txns threads) script found status given before after ran =
    done_otherwise 0 status before after _ (λ two. omega (arith, two)) ran.writes
did_otherwise (Check chunks rows) script found status given before after done =
    done_otherwise 0 status before after _ (λ two. omega (arith, two)) done.writes
did_otherwise (Recover dumps chunks rows) script found status given before after done =
    done_otherwise (restored_status done.restored) status before after _ (restored_otherwise done.restored) done.writes
did_otherwise (Trace prune chunks rows) script found status given before after done =
    done_otherwise 0 status before after _ (λ two. omega (arith, two)) done.writes
did_otherwise (Explain prune chunks rows) script found status given before after ran =
    done_otherwise 0 status before after _ (λ two. omega (arith, two)) ran.writes
did_otherwise (Serve log chunks rows) script found status given before after never = absurd never

pub done_is_no_refusal : (command : Command) (script : Script) (found : Option (List ℕ)) (status : ℕ) (given : Option Outcome)
    (before after : Option (List ℕ)) → (GaveUp status × IsNone given) ⊎ Does command script found status given before after → IsNoRefusal status
done_is_no_refusal command script found status given before after (inl gave) = gave_up_otherwise status gave.0
done_is_no_refusal command script found status given before after (inr did) = did_otherwise command script found status given before after did

-- what was done with a script is an answer to the bytes that spell it
pub done_answers : (command : Command) (bytes : List ℕ) (found : Option (List ℕ)) (script : Script) (status : ℕ) (given : Option Outcome)
    (before after : Option (List ℕ)) → Once → Theorem → ReadFits command bytes → Spells command bytes script
    → (GaveUp status × IsNone given) ⊎ Does command script found status given before after → Answers command bytes found status given before after
done_answers command bytes found script status given before after once law fit s (inl none) =
    quiet_answers command bytes found script status given before after once s none.1 (gave_up_otherwise status none.0) (inl none.0)
done_answers (Run threads prune false chunks rows) bytes found script status given before after once law fit s (inr ran) =
    ran_answers (Run threads prune false chunks rows) bytes found script status given before after threads _ once law fit tt s ran ran
done_answers (Run threads prune true chunks rows) bytes found script status given before after once law fit s (inr (inl ran)) =
    ran_answers (Run threads prune true chunks rows) bytes found script status given before after threads _ once law fit tt s ran.runs (inl ran)
done_answers (Run threads prune true chunks rows) bytes found script status given before after once law fit s (inr (inr there)) =
    quiet_answers (Run threads prune true chunks rows) bytes found script status given before after once s there.nothing_is_run
    (did_otherwise (Run threads prune true chunks rows) script found status given before after (inr there)) (inr (inr there))
done_answers (Gen seed sessions txns threads) bytes found script status given before after once law fit s (inr ran) =
    ran_answers (Gen seed sessions txns threads) bytes found script status given before after threads _ once law fit tt s ran ran
done_answers (Check chunks rows) bytes found script status given before after once law fit s (inr done) =
    quiet_answers (Check chunks rows) bytes found script status given before after once s done.nothing_is_run
    (did_otherwise (Check chunks rows) script found status given before after done) (inr done)
done_answers (Recover dumps chunks rows) bytes found script status given before after once law fit s (inr done) =
    quiet_answers (Recover dumps chunks rows) bytes found script status given before after once s done.nothing_is_run
    (did_otherwise (Recover dumps chunks rows) script found status given before after done) (inr done)
done_answers (Trace prune chunks rows) bytes found script status given before after once law fit s (inr done) =
    quiet_answers (Trace prune chunks rows) bytes found script status given before after once s done.no_outcome
    (did_otherwise (Trace prune chunks rows) script found status given before after done) (inr done)
done_answers (Explain prune chunks rows) bytes found script status given before after once law fit s (inr ran) =
    ran_answers (Explain prune chunks rows) bytes found script status given before after false _ once law fit tt s ran ran
done_answers (Serve log chunks rows) bytes found script status given before after once law fit s (inr never) = absurd never

whole_is_read : (all : List ℕ) → length all ≤ MOST_BYTES → bytes_read all ≡ all
whole_is_read all h = take_all (MOST_BYTES + 1) all (omega arith)

nothing_is_left : (all : List ℕ) → length all ≤ MOST_BYTES → bytes_left all ≡ []
nothing_is_left all h = drop_all (MOST_BYTES + 1) all (omega arith)

-- what was read whole is what is read
pub read_whole : (status : ℕ) (before after : Option (List ℕ)) (bytes : List ℕ) → GivesAll before after bytes → length bytes ≤ MOST_BYTES
    → IfSome before (λ all. (status ≡ 3) ⊎ (status ≡ 5) ⊎ (after ≡ Some (bytes_left all)))
read_whole status None after bytes h short = tt
read_whole status (Some all) after bytes h short =
    inr (inr (h.1 ∙ ap Some (sym (nothing_is_left all (subst (λ (b : List ℕ). length b ≤ MOST_BYTES) h.0 short)))))

read_so : (before after : Option (List ℕ)) (bytes : List ℕ) → GivesAll before after bytes → length bytes ≤ MOST_BYTES → IsRead before bytes
read_so None after bytes h short = tt
read_so (Some all) after bytes h short = h.0 ∙ sym (whole_is_read all (subst (λ (b : List ℕ). length b ≤ MOST_BYTES) h.0 short))

pub answered_whole : {D : Type 0} (held : D → Option (List ℕ)) (clock : D → ℕ) (image : D → List ℕ → Type 0) (image_since : D → ℕ → List ℕ → Type 0)
    (command : Command) (rest left : Option (List ℕ)) (status : ℕ) (given : Option Outcome) (before after : Option (List ℕ)) (old new : D)
    (bytes : List ℕ) → GivesAll rest left bytes → length bytes ≤ MOST_BYTES → Answers command bytes (held old) status given before after
    → (keeps_log command ≡ true → Leaves held clock image image_since command bytes status given old new)
    → IsAnswered held clock image image_since command rest status given before after old new
answered_whole held clock image image_since command rest left status given before after old new bytes h short answers leaves =
    record { bytes = bytes; read = read_so rest left bytes h short; answers = answers; leaves = leaves }

-- what is too long is refused
abbrev pub too_long_refusal : Refused
too_long_refusal = record { line = 1; code = TooLong }

-- there are bytes that are read of a source
some_read : (rest : Option (List ℕ)) → (bytes : List ℕ) × IsRead rest bytes
some_read None = ([], tt)
some_read (Some all) = (bytes_read all, refl)

-- and more than a script may have, where there are more
some_past : (most : ℕ) → (bytes : List ℕ) × (most < length bytes)
some_past most = (replicate (most + 1) 0, omega (arith, length-replicate {A = ℕ} (most + 1) 0))

some_cut : (rest left : Option (List ℕ)) → GivesPast rest left MOST_BYTES → (bytes : List ℕ) × IsRead rest bytes × (MOST_BYTES < length bytes)
some_cut None left h = let long = some_past MOST_BYTES in (long.0, tt, long.1)
some_cut (Some all) left h =
    let so_long : length (bytes_read all) ≡ MOST_BYTES + 1 = length-take-le (MOST_BYTES + 1) all (omega (arith, h.0)) in
    (bytes_read all, refl, omega (arith, so_long))

pub answered_cut : {D : Type 0} (held : D → Option (List ℕ)) (clock : D → ℕ) (image : D → List ℕ → Type 0) (image_since : D → ℕ → List ℕ → Type 0)
    (command : Command) (rest left : Option (List ℕ)) (status : ℕ) (given : Option Outcome) (before after : Option (List ℕ)) (disk : D)
    → Once → GivesPast rest left MOST_BYTES → ((status ≡ 5) ⊎ Writes 2 status before after (refusal_line_of too_long_refusal)) → IsNone given
    → IsAnswered held clock image image_since command rest status given before after disk disk
answered_cut held clock image image_since command rest left status given before after disk once h w nothing =
    let cut = some_cut rest left h in
    record {
      bytes = cut.0;
      read = cut.1;
      answers = refused_answers command cut.0 (held disk) too_long_refusal status given before after once (too_long cut.2) w nothing;
      leaves = λ keeps. leaves_nothing held clock image image_since command cut.0 status given disk nothing;
    }

-- an outcome of made accounts has the money that they had; its audits were told it
abbrev HasTheMoney : Outcome → Type 0
HasTheMoney given = balances given.tables ≡ pos all_money

abbrev AuditsAreTold : Script → Outcome → Type 0
AuditsAreTold script given = AllByRecursion (IsToldTheMoney (setting_at script).programs) given.txns

-- its transactions end in four ways, whose counts add up
abbrev EndsInFourWays : Outcome → Type 0
EndsInFourWays given = EndInFourWays given.txns

abbrev CountsAddUp : Outcome → Type 0
CountsAddUp given = EndingsAddUp given.txns

-- the bank's laws
pub record BankLaws : Type 0 where
  pub money : MadeOutcomesKeepTheMoney
  pub audits : MadeAuditsTellTheMoney
  pub endings : MadeEndInFourWays
  pub counts : MadeEndingsAddUp

-- a made script was not run, for want of memory
no_memory_made : (command : Command) (script : Script) (status : ℕ) (given : Option Outcome) (before after : Option (List ℕ)) → status ≡ 5 → IsNone given
    → Makes command script status given before after
no_memory_made command script status given before after five nothing =
    record {
      does = inl five;
      lawful = no_outcome (Lawful (setting_at script)) given nothing;
      serial = no_outcome (IsSerial (setting_at script)) given nothing;
      money = no_outcome HasTheMoney given nothing;
      audits = no_outcome (AuditsAreTold script) given nothing;
      endings = no_outcome EndsInFourWays given nothing;
      counts = no_outcome CountsAddUp given nothing;
    }

-- what is made can be run
pub made_fits : (seed sessions txns : ℕ) → MadeFits seed sessions txns → IsRunnable (setting_at (made seed sessions txns))
unfolding made
made_fits seed sessions txns fits =
    few_runnable (made seed sessions txns) (record { some_chunk = omega arith; few_chunks = omega arith; some_row = omega arith; few_rows = omega arith }) fits

pub made_runs : {E : Type 0} (r : Result Script E) (seed sessions txns : ℕ) → IfOk r (λ script. script ≡ made seed sessions txns)
    → CanRun (made seed sessions txns) → IfOk r (λ script. CanRun script)
made_runs (Ok script) seed sessions txns is runs = subst CanRun (sym is) runs
made_runs (Err e) seed sessions txns is runs = tt

summarized_makes : (seed sessions txns : ℕ) (threads : Bool) → sessions ≤ 64 → txns ≤ 1000 → (status : ℕ) (given : Option Outcome)
    (before after : Option (List ℕ)) → Theorem → BankLaws → IsRunnable (setting_at (made seed sessions txns))
    → Summarizes threads (made seed sessions txns) status given before after
    → Makes (Gen seed sessions txns threads) (made seed sessions txns) status given before after
summarized_makes seed sessions txns threads few short status given before after law bank fit ran =
    let script : Script = made seed sessions txns in
    let o : Outcome = ran.given in
    let some : IsSomeRun (setting_at script) o = some_run law threads script o ran.may_come in
    let lawful : Lawful (setting_at script) o = lawful_run law (setting_at script) o some in
    let serial : IsSerial (setting_at script) o = serial_run law (setting_at script) o fit some in
    record {
      does = inr ran;
      lawful = given_outcome (Lawful (setting_at script)) given o ran.outcome_is lawful;
      serial = given_outcome (IsSerial (setting_at script)) given o ran.outcome_is serial;
      money = given_outcome HasTheMoney given o ran.outcome_is (bank.money seed sessions txns o lawful serial);
      audits = given_outcome (AuditsAreTold script) given o ran.outcome_is (bank.audits seed sessions txns o lawful serial);
      endings = given_outcome EndsInFourWays given o ran.outcome_is (bank.endings seed sessions txns few short o lawful serial);
      counts = given_outcome CountsAddUp given o ran.outcome_is (bank.counts seed sessions txns few short o lawful serial);
    }

-- what was done with a made script
pub made_answers : (seed sessions txns : ℕ) (threads : Bool) → sessions ≤ 64 → txns ≤ 1000 → (script : Script) (status : ℕ) (given : Option Outcome)
    (before after : Option (List ℕ)) → Theorem → BankLaws → IsRunnable (setting_at (made seed sessions txns)) → script ≡ made seed sessions txns
    → ((status ≡ 5) × IsNone given) ⊎ Summarizes threads script status given before after
    → Makes (Gen seed sessions txns threads) (made seed sessions txns) status given before after
made_answers seed sessions txns threads few short script status given before after law bank fit is done =
    ⊎_elim (λ p. no_memory_made (Gen seed sessions txns threads) (made seed sessions txns) status given before after p.0 p.1)
    (λ ran. summarized_makes seed sessions txns threads few short status given before after law bank fit
    (subst (λ (x : Script). Summarizes threads x status given before after) is ran)) done

-- memory ran out before anything was done
pub nothing_read : (asked : Option Command) (before after : Option (List ℕ))
    → IfSome asked (λ command. reads_script command ≡ true → IfSome before (λ all. (◌≡◌ {A = ℕ} 5 3) ⊎ (◌≡◌ {A = ℕ} 5 5) ⊎ (after ≡ Some (bytes_left all))))
nothing_read None before after = tt
nothing_read (Some command) None after = λ reads. tt
nothing_read (Some command) (Some all) after = λ reads. inr (inl refl)

nothing_answers : (command : Command) (bytes : List ℕ) (found : Option (List ℕ)) (status : ℕ) (given : Option Outcome) (before after : Option (List ℕ))
    → status ≡ 5 → IsNone given → Answers command bytes found status given before after
nothing_answers command bytes found status given before after five nothing = record {
  refused = λ why h. inl five;
  refuses = λ h. let never : ⊥ = omega (arith, h, five) in absurd never;
  does = λ script s. inl (inl five);
  lawful = λ script s. no_outcome (Lawful (setting_at script)) given nothing;
  serial = λ script s. no_outcome (IsSerial (setting_at script)) given nothing;
  outcome_there = λ h. absurd (none_is_not_some given nothing h);
}

pub answered_nothing : {D : Type 0} (held : D → Option (List ℕ)) (clock : D → ℕ) (image : D → List ℕ → Type 0) (image_since : D → ℕ → List ℕ → Type 0)
    (command : Command) (rest : Option (List ℕ)) (status : ℕ) (given : Option Outcome) (before after : Option (List ℕ)) (disk : D)
    → status ≡ 5 → IsNone given → IsAnswered held clock image image_since command rest status given before after disk disk
answered_nothing held clock image image_since command rest status given before after disk five nothing =
    let some = some_read rest in
    record {
      bytes = some.0;
      read = some.1;
      answers = nothing_answers command some.0 (held disk) status given before after five nothing;
      leaves = λ keeps. leaves_nothing held clock image image_since command some.0 status given disk nothing;
    }

pub nothing_answered : {D : Type 0} (held : D → Option (List ℕ)) (clock : D → ℕ) (image : D → List ℕ → Type 0) (image_since : D → ℕ → List ℕ → Type 0)
    (asked : Option Command) (rest sink : Option (List ℕ)) (disk : D)
    → IfSome asked (λ command. reads_script command ≡ true → (◌≡◌ {A = ℕ} 5 3) ⊎ IsAnswered held clock image image_since command rest 5 None sink sink disk disk)
nothing_answered held clock image image_since None rest sink disk = tt
nothing_answered held clock image image_since (Some command) rest sink disk =
    let none : IsNone {T = Outcome} None = search in
    λ reads. inr (answered_nothing held clock image image_since command rest 5 None sink sink disk refl none)

nothing_made_by : {S : Type 0} (command : Command) (made : Option Script) (held : Option (List ℕ)) (old : S) → IfSome made (λ script. (old ≡ old) × Makes command script 5 None held held)
nothing_made_by command None held old = tt
nothing_made_by command (Some script) held old = (refl, record { does = inl refl; lawful = tt; serial = tt; money = tt; audits = tt; endings = tt; counts = tt })

pub nothing_made : {S : Type 0} (asked : Option Command) (held : Option (List ℕ)) (old : S)
    → IfSome asked (λ command. IfSome (made_by command) (λ script. (old ≡ old) × Makes command script 5 None held held))
nothing_made None held old = tt
nothing_made (Some command) held old = nothing_made_by command (made_by command) held old
