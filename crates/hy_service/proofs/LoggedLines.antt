-- What the log has of lines that are served, one after another, and when no further one is heard.
use Rattle.std.proofs.Common.{◌≡◌, ◌⊎◌, ℕ, ◌≤◌, true, List, [], ◌∷◌, ◌++◌, length, take, drop, Option, Some, None, IsNone, IfSome, Result, refl, sym, ap, ◌∙◌, subst, inl, inr, is_some, append_assoc, arith, le_refl, le_trans}
use Rattle.std.specs.Prelude.{IfOk}
use Rattle.std.specs.Result.{result_ok}
use Rattle.std.proofs.Math.Logic.{⊎_elim}
use Rattle.std.proofs.Math.Seq.{take-append_seam, take-length}
use Rattle.std.proofs.lemmas.List.{take-append-drop}
use Rattle.hy_lines.specs.Lines.{lines_in, whole_lines_in}
use Rattle.hy_outside.specs.Telling.{Gives}
use Rattle.hy_redo.specs.Crashes.{AreLogsOf}
use Rattle.hy_render.specs.declared.Outcome.{Outcome}
use Rattle.hy_script.specs.declared.Options.{Options}
use Rattle.hy_service.specs.Knowing.{Knows, ServerData}
use Rattle.hy_service.specs.Laws.{LogsTellOutcomes}
use Rattle.hy_service.specs.Logging.{AreWholeLogsAt, IsLogAt, IsLogOfSome, KeepsUp, LogsAt, LogsLines, LogsServing, entries_in}
use Rattle.hy_service.specs.Loops.{HasStopped}
use Rattle.hy_service.specs.Serves.{Writes}
use Rattle.hy_service.specs.Service.{Service, after, closing, outcome_after}
use Rattle.hy_service.specs.declared.serving.Stop.{Stop}
use Rattle.hy_service.specs.declared.serving.Stop.TheVariants.{End, TooLong, ReadFault, WriteFault, DiskFault, OutOfMemory}
use Rattle.hy_service.proofs.Answering.{whole_lines_first}
use Rattle.hy_service.proofs.Stops.{given_is, if_ok, none_if}

-- ---- a line more

-- a log of some lines is one of some of these with others behind them
some_further : (options : Options) (lines others : List (List ℕ)) (bytes : List ℕ) → IsLogOfSome options lines bytes
    → IsLogOfSome options (lines ++ others) bytes
some_further options lines others bytes (count, log) =
    let first : List (List ℕ) = take count lines in
    let all : lines ++ others ≡ first ++ (drop count lines ++ others) =
    ap (λ (ls : List (List ℕ)). ls ++ others) (sym (take-append-drop count lines)) ∙ append_assoc first (drop count lines) others in
    let same : take (length first) (lines ++ others) ≡ first =
    ap (take (length first)) all ∙ take-append_seam first (drop count lines ++ others) in
    (length first, subst (λ (ls : List (List ℕ)). IsLogAt options (after options ls) bytes) (sym same) log)

-- of all of them
of_all_lines : (options : Options) (lines : List (List ℕ)) (bytes : List ℕ) → IsLogAt options (after options lines) bytes → IsLogOfSome options lines bytes
of_all_lines options lines bytes log =
    (length lines, subst (λ (ls : List (List ℕ)). IsLogAt options (after options ls) bytes) (sym (take-length lines)) log)

module _ {D : Type 0} (clock : D → ℕ) (image_since : D → ℕ → List ℕ → Type 0) (options : Options) where
  -- before the first line
  pub no_lines : (disk : D) (lines : List (List ℕ)) → LogsLines clock image_since options disk disk lines
  no_lines disk lines = record { later = le_refl (clock disk); moments = λ time bytes le left. inl left }

  lines_with : (first before now : D) (lines others : List (List ℕ)) → LogsLines clock image_since options first before lines
      → LogsAt clock image_since options (after options (lines ++ others)) before now → LogsLines clock image_since options first now (lines ++ others)
  lines_with first before now lines others was more = record {
    later = le_trans was.later more.later;
    moments = λ time bytes le left.
        ⊎_elim (λ earlier. ⊎_elim (λ old. inl old) (λ is. inr (some_further options lines others bytes is)) (was.moments time bytes le earlier))
        (λ is. inr (of_all_lines options (lines ++ others) bytes is)) (more.moments time bytes (le_trans le was.later) left);
  }

  -- a line more was heard
  pub line_more : (known : Options) (first before now : D) (lines : List (List ℕ)) (line : List ℕ) → known ≡ options
      → LogsLines clock image_since options first before lines → LogsAt clock image_since known (after known (lines ++ line ∷ [])) before now
      → LogsLines clock image_since options first now (lines ++ line ∷ [])
  line_more known first before now lines line same was more =
      lines_with first before now lines (line ∷ []) was
      (subst (λ (o : Options). LogsAt clock image_since o (after o (lines ++ line ∷ [])) before now) same more)

  -- they are the first of others
  first_lines : (first last : D) (heard all : List (List ℕ)) (count : ℕ) → heard ≡ take count all → LogsLines clock image_since options first last heard
      → LogsLines clock image_since options first last all
  first_lines first last heard all count is logs =
      let whole : heard ++ drop count all ≡ all =
      ap (λ (ls : List (List ℕ)). ls ++ drop count all) is ∙ take-append-drop count all in
      record {
        later = logs.later;
        moments = λ time bytes le left.
            ⊎_elim (λ earlier. inl earlier)
            (λ is. inr (subst (λ (ls : List (List ℕ)). IsLogOfSome options ls bytes) whole (some_further options heard (drop count all) bytes is)))
            (logs.moments time bytes le left);
      }

-- ---- the end

-- a log that keeps up is whole
kept_whole : {D : Type 0} (image : D → List ℕ → Type 0) → LogsTellOutcomes → (lines : List (List ℕ)) (server : ServerData) (log : Option ℕ) (disk : D)
    → server.log ≡ log → is_some log ≡ true → Knows lines server → KeepsUp image server disk
    → AreWholeLogsAt (image disk) server.options (after server.options lines) (outcome_after server.options lines)
kept_whole image law lines server None disk is some knows kept = absurd (cc some)
kept_whole image law lines server (Some gate) disk is some knows kept =
    let logged : AreLogsOf (image disk) (entries_in server.world) gate =
    subst (λ (one : Option ℕ). KeepsUp image (record server { log = one }) disk) is kept in
    record { is = refl; each = λ bytes left. law lines server gate bytes knows (logged bytes left) }

module _ {D : Type 0} (clock : D → ℕ) (image : D → List ℕ → Type 0) (image_since : D → ℕ → List ℕ → Type 0) (options : Options)
    (old new before mid : Option (List ℕ)) (first last : D) (server : ServerData) (stop : Stop)
    (stopped : HasStopped options old new before mid (LogsLines clock image_since options first last) server stop) where
  -- whatever the outcome is, of so many lines
  serving : (status : ℕ) (outcome : Option Outcome)
      → IfSome outcome (λ given. (count : ℕ) × AreWholeLogsAt (image last) options (after options (take count (lines_in stopped.bytes))) given)
      → (status ≡ 0 → IfSome outcome (λ given. AreWholeLogsAt (image last) options (after options (lines_in stopped.bytes)) given))
      → LogsServing clock image image_since options old new status outcome first last
  serving status outcome now of_all = record {
    bytes = stopped.bytes;
    gives = stopped.gives;
    logs = first_lines clock image_since options first last stopped.heard (lines_in stopped.bytes) stopped.first.0 stopped.first.1 stopped.logs;
    now = now;
    of_all = of_all;
  }

  -- there is none
  pub logs_none : (status : ℕ) (outcome : Option Outcome) → IsNone outcome → LogsServing clock image image_since options old new status outcome first last
  logs_none status outcome none = serving status outcome (none_if outcome _ none) (λ zero. none_if outcome _ none)

  module _ (law : LogsTellOutcomes) (some : is_some server.log ≡ true) (kept : KeepsUp image server last) (knows : Knows stopped.lines server) where
    whole : AreWholeLogsAt (image last) options (after options stopped.lines) (outcome_after options stopped.lines)
    whole = subst (λ (o : Options). AreWholeLogsAt (image last) o (after o stopped.lines) (outcome_after o stopped.lines)) stopped.options_are
        (kept_whole image law stopped.lines server server.log last refl some knows kept)

    -- it is that of the first of these lines
    first_whole : (outcome : Option Outcome) (count : ℕ) → stopped.lines ≡ take count (lines_in stopped.bytes)
        → IfSome outcome (λ given. given ≡ outcome_after options stopped.lines)
        → IfSome outcome (λ given. (count : ℕ) × AreWholeLogsAt (image last) options (after options (take count (lines_in stopped.bytes))) given)
    first_whole outcome count is given =
        given_is outcome (outcome_after options stopped.lines)
        (λ one. (count : ℕ) × AreWholeLogsAt (image last) options (after options (take count (lines_in stopped.bytes))) one)
        (count, subst (λ (ls : List (List ℕ)). AreWholeLogsAt (image last) options (after options ls) (outcome_after options stopped.lines)) is whole) given

    -- of all lines, up to END
    pub logs_all : (status : ℕ) (outcome : Option Outcome) → after options (lines_in stopped.bytes) ≡ after options stopped.lines
        → IfSome outcome (λ given. given ≡ outcome_after options stopped.lines)
        → LogsServing clock image image_since options old new status outcome first last
    logs_all status outcome same given =
        let all : AreWholeLogsAt (image last) options (after options (lines_in stopped.bytes)) (outcome_after options stopped.lines) =
        subst (λ (service : Service). AreWholeLogsAt (image last) options service (outcome_after options stopped.lines)) (sym same) whole in
        let lines : List (List ℕ) = lines_in stopped.bytes in
        serving status outcome
        (given_is outcome (outcome_after options stopped.lines)
        (λ one. (count : ℕ) × AreWholeLogsAt (image last) options (after options (take count lines)) one) (
          length lines,
          subst (λ (ls : List (List ℕ)). AreWholeLogsAt (image last) options (after options ls) (outcome_after options stopped.lines)) (sym (take-length lines)) all,
        )
        given)
        (λ zero. given_is outcome (outcome_after options stopped.lines) (λ one. AreWholeLogsAt (image last) options (after options lines) one) all given)

    -- of some first lines
    pub logs_some : (status count : ℕ) (outcome : Option Outcome) → (status ≡ 0 → ⊥) → stopped.lines ≡ take count (lines_in stopped.bytes)
        → IfSome outcome (λ given. given ≡ outcome_after options stopped.lines)
        → LogsServing clock image image_since options old new status outcome first last
    logs_some status count outcome other is given =
        serving status outcome (first_whole outcome count is given) (λ zero. absurd (other zero))

-- ---- by why no further line was heard

-- the status of too many bytes, or one of a write that failed or memory that ran out, is not that of an end
pub not_done : (status : ℕ) → (status ≡ 2) ⊎ ((status ≡ 4) ⊎ (status ≡ 5)) → status ≡ 0 → ⊥
not_done status (inl two) zero = omega (arith, two, zero)
not_done status (inr (inl four)) zero = omega (arith, four, zero)
not_done status (inr (inr five)) zero = omega (arith, five, zero)

-- the outcome, where it was told, is that of the lines
pub ended_given : {W : Type 0} (written : W → Option (List ℕ)) (options known : Options) (lines : List (List ℕ)) (first : List ℕ) (done : ℕ) (mid final : W)
    (status : ℕ) (outcome : Option Outcome) → known ≡ options → ((status ≡ 5) × (final ≡ mid) × IsNone outcome)
    ⊎ ((outcome ≡ Some (outcome_after known lines)) × Writes done status (written mid) (written final) (first ++ closing known lines))
    → IfSome outcome (λ given. given ≡ outcome_after options lines)
ended_given written options known lines first done mid final status outcome same (inl none) = none_if outcome _ none.2
ended_given written options known lines first done mid final status outcome same (inr told) =
    subst (λ (o : Option Outcome). IfSome o (λ given. given ≡ outcome_after options lines)) (sym told.0) (ap (λ (o : Options). outcome_after o lines) same)

module _ {D : Type 0} (clock : D → ℕ) (image : D → List ℕ → Type 0) (image_since : D → ℕ → List ℕ → Type 0) (law : LogsTellOutcomes) (options : Options)
    (old new before mid : Option (List ℕ)) (first last : D) (server : ServerData) (some : is_some server.log ≡ true)
    (kept : KeepsUp image server last) where
  pub log_end : (stopped : HasStopped options old new before mid (LogsLines clock image_since options first last) server End) (status : ℕ)
      (outcome : Option Outcome) → ((lines : List (List ℕ)) → Knows lines server → IfSome outcome (λ given. given ≡ outcome_after options lines))
      → LogsServing clock image image_since options old new status outcome first last
  log_end stopped status outcome given =
      logs_all clock image image_since options old new before mid first last server End stopped law some kept stopped.knows status outcome stopped.stops.2
      (given stopped.lines stopped.knows)

  pub log_limit : (stopped : HasStopped options old new before mid (LogsLines clock image_since options first last) server TooLong) (status : ℕ)
      (outcome : Option Outcome) → (status ≡ 0 → ⊥)
      → ((lines : List (List ℕ)) → Knows lines server → IfSome outcome (λ given. given ≡ outcome_after options lines))
      → LogsServing clock image image_since options old new status outcome first last
  log_limit stopped status outcome other given =
      logs_some clock image image_since options old new before mid first last server TooLong stopped law some kept stopped.knows status
      (length (whole_lines_in stopped.bytes)) outcome other (stopped.stops.1 ∙ whole_lines_first stopped.bytes) (given stopped.lines stopped.knows)

  pub log_cut : (stopped : HasStopped options old new before mid (LogsLines clock image_since options first last) server WriteFault) {E : Type 0}
      (result : Result Outcome E) (outcome : Option Outcome) → outcome ≡ result_ok result
      → ((lines : List (List ℕ)) → Knows lines server → IfOk result (λ given. given ≡ outcome_after server.options lines))
      → LogsServing clock image image_since options old new 4 outcome first last
  log_cut stopped result outcome is comes =
      logs_some clock image image_since options old new before mid first last server WriteFault stopped law some kept stopped.knows 4
      stopped.stops.0.first.0 outcome (λ zero. omega (arith, zero)) stopped.stops.0.first.1
      (subst (λ (o : Options). IfSome outcome (λ given. given ≡ outcome_after o stopped.lines)) stopped.options_are
      (subst (λ (o : Option Outcome). IfSome o (λ given. given ≡ outcome_after server.options stopped.lines)) (sym is)
      (if_ok result (λ given. given ≡ outcome_after server.options stopped.lines) (comes stopped.lines stopped.knows))))
