-- What is served when a source was asked for its next line: one line more, or no further one is heard.
use Rattle.std.proofs.Common.{◌≡◌, ◌⊎◌, ℕ, ◌+◌, ◌<◌, ◌≤◌, Bool, true, false, inl, inr, List, [], ◌∷◌, ◌++◌, length, take, Option, Some, None, Result, Ok, Err, refl, sym, ap, ◌∙◌, subst, arith, append_assoc, append-nil, length-append}
use Rattle.std.proofs.KnownBytes.{Appends-nil}
use Rattle.std.proofs.Math.Seq.{take-append_seam}
use Rattle.std.specs.Prelude.{Vec}
use Rattle.std.specs.declared.alloc.Global.{Global}
use Rattle.hy_limits.specs.declared.TheConstants.{MOST_BYTES}
use Rattle.hy_outside.specs.Telling.{GivesAll, Takes}
use Rattle.hy_lines.specs.Hearing.{HasGiven, Reading, line_of}
use Rattle.hy_lines.specs.Hearing as hearing
use Rattle.hy_lines.specs.Lines.{AreLines, has_feed, lines_in, whole_lines_in}
use Rattle.hy_lines.specs.declared.Heard.{Heard}
use Rattle.hy_lines.specs.declared.Heard.TheVariants as heard_
use Rattle.hy_lines.specs.declared.NextError.{NextError}
use Rattle.hy_lines.specs.declared.NextError.TheVariants as error_
use Rattle.hy_script.specs.declared.Options.{Options}
use Rattle.hy_serving.specs.Saying.{saying}
use Rattle.hy_service.specs.Knowing.{Knows, ServerData}
use Rattle.hy_service.specs.Laws.{LinesAreHeard}
use Rattle.hy_service.specs.Loops.{Answers, AreFirst, GoesOn, HasServed, HasStopped, IsStop, UnlessCut}
use Rattle.hy_service.specs.Serves.{IsWhole}
use Rattle.hy_service.specs.Service.{after, answer, ends, is_ended_by, opening, served}
use Rattle.hy_service.specs.declared.serving.Stop.{Stop}
use Rattle.hy_service.specs.declared.serving.Stop.TheVariants.{End, TooLong, ReadFault, WriteFault, DiskFault, OutOfMemory}
use Rattle.hy_service.proofs.Answering.{Takes-next, TakesSome-next, answers_next, heard_up_to, last_goes_on}

-- what is known of lines that are given one after another
pub record LinesAreGiven : Type 0 where
  pub goes_on : (first before after : Option (List ℕ)) (old new : Reading) (bytes : List ℕ) (lines : List (List ℕ)) (result : Result Heard NextError)
      → HasGiven first before old bytes lines → (heard : hearing.Hears before after old new result)
      → HasGiven first after new (bytes ++ heard.bytes) (lines ++ line_of result)
  pub end : (first now : Option (List ℕ)) (reading : Reading) (bytes : List ℕ) (lines : List (List ℕ)) → HasGiven first now reading bytes lines
      → reading.kept ≡ [] → lines ≡ lines_in bytes
  pub whole : (first now : Option (List ℕ)) (reading : Reading) (bytes : List ℕ) (lines : List (List ℕ)) → HasGiven first now reading bytes lines
      → reading.done ≡ false → has_feed reading.kept ≡ false → lines ≡ whole_lines_in bytes
  pub stand : (bytes : List ℕ) (lines : List (List ℕ)) (left : List ℕ) → AreLines bytes lines left → whole_lines_in bytes ≡ lines ++ whole_lines_in left

-- a line that was given took a byte at least
pub took_a_byte : (before now : Option (List ℕ)) (old new : Reading) (line : Vec ℕ Global) → hearing.Hears before now old new (Ok (heard_.Line line))
    → old.taken + length new.kept < new.taken + length old.kept
took_a_byte before now old new line heard =
    let count : new.taken ≡ old.taken + length heard.bytes = heard.took.count in
    let all : length (old.kept ++ heard.bytes) ≡ length old.kept + length heard.bytes = length-append old.kept heard.bytes in
    elim heard.told.1 [
      | inl whole ↦ omega (arith, count, all, ap length whole, length-append line.items (10 ∷ new.kept))
      | inr last ↦ omega (arith, count, all, ap length last.0, last.1, ap length last.2)
    ]

-- before the first line
pub nothing_served : (options : Options) (first before : Option (List ℕ)) (logged : List (List ℕ) → Type 0) (reading : Reading) (server : ServerData)
    → HasGiven first first reading [] [] → server.options ≡ options → Knows [] server → logged []
    → HasServed options first first before before logged reading server
nothing_served options first before logged reading server given same knows logs = record {
  bytes = [];
  lines = [];
  given = given;
  most = omega arith;
  told = Appends-nil before;
  options_are = same;
  knows = knows;
  logs = logs;
}

module _ (law : LinesAreHeard) (givens : LinesAreGiven) where
  whole_or_all : (first now : Option (List ℕ)) (reading : Reading) (bytes : List ℕ) (lines : List (List ℕ)) → HasGiven first now reading bytes lines
      → (done : Bool) → reading.done ≡ done → GivesAll first now bytes ⊎ ((count : ℕ) × (lines ≡ take count (whole_lines_in bytes)))
  whole_or_all first now reading bytes lines given true is = inl (given.ended is)
  whole_or_all first now reading bytes lines given false is =
      inr (
        length lines,
        sym (ap (take (length lines)) (givens.stand bytes lines reading.kept (given.whole is))
            ∙ take-append_seam lines (whole_lines_in reading.kept)),
      )

  -- lines that were given are the first ones
  are_first : (first now : Option (List ℕ)) (reading : Reading) (bytes : List ℕ) (lines : List (List ℕ)) → HasGiven first now reading bytes lines
      → AreFirst first now bytes lines
  are_first first now reading bytes lines given = record {
    first = (length lines, sym (ap (take (length lines)) given.all ∙ take-append_seam lines (lines_in reading.kept)));
    whole = whole_or_all first now reading bytes lines given reading.done refl;
  }

  -- where the last one that was given is END, it is a whole one, or the source gave all that it had
  ended_whole : (options : Options) (first now : Option (List ℕ)) (reading : Reading) (bytes : List ℕ) (lines : List (List ℕ)) (line : List ℕ)
      → HasGiven first now reading bytes (lines ++ line ∷ []) → is_ended_by options lines ≡ false
      → ends (saying options (after options lines).desk line) ≡ true → (done : Bool) → reading.done ≡ done → IsWhole options first now bytes
  ended_whole options first now reading bytes lines line given none over true is = inr (given.ended is)
  ended_whole options first now reading bytes lines line given none over false is =
      let up = heard_up_to law options (opening options) lines line (whole_lines_in reading.kept) none over in
      inl (ap (is_ended_by options) (givens.stand bytes (lines ++ line ∷ []) reading.kept (given.whole is)) ∙ up.end)

  -- a line was given and answered, or no further one is heard
  answered : (first now before told told_now : Option (List ℕ)) (logged : List (List ℕ) → Type 0) (reading : Reading) (bytes : List ℕ)
      (lines : List (List ℕ)) (line : List ℕ) (old new : ServerData) → logged (lines ++ line ∷ [])
      → HasGiven first now reading bytes (lines ++ line ∷ []) → length bytes ≤ MOST_BYTES + 1 → Takes before told (served old.options lines) → Knows lines old
      → new.options ≡ old.options → (result : Option Stop) → Answers lines line old new told told_now result
      → GoesOn old.options first now before told_now logged reading new result
  answered first now before told told_now logged reading bytes lines line old new logs given most took knows same None (heard, more) =
      let still : is_ended_by old.options (lines ++ line ∷ []) ≡ false =
      ap (λ (o : Options). is_ended_by o (lines ++ line ∷ [])) (sym same) ∙ heard.1.no_end in
      let going = last_goes_on law old.options (opening old.options) lines line knows.no_end still in
      record {
        bytes = bytes;
        lines = lines ++ line ∷ [];
        given = given;
        most = most;
        told = Takes-next before told told_now (served old.options lines) (answer old.options (after old.options lines) line)
            (served old.options (lines ++ line ∷ [])) took more (answers_next law old.options (opening old.options) lines line knows.no_end going);
        options_are = same;
        knows = heard.1;
        logs = logs;
      }
  answered first now before told told_now logged reading bytes lines line old new logs given most took knows same (Some End) (heard, more) =
      let up = heard_up_to law old.options (opening old.options) lines line (lines_in reading.kept) knows.no_end heard.0 in
      record {
        bytes = bytes;
        lines = lines;
        gives = given.given;
        most = most;
        stops = (
          ended_whole old.options first now reading bytes lines line given knows.no_end heard.0 reading.done refl,
          ap (served old.options) given.all ∙ up.told,
          ap (after old.options) given.all ∙ up.service_is,
          Takes-next before told told_now (served old.options lines) [] (served old.options lines) took more (sym (append-nil (served old.options lines))),
        );
        options_are = same;
        knows = heard.1;
        heard = lines ++ line ∷ [];
        first = (are_first first now reading bytes (lines ++ line ∷ []) given).first;
        logs = logs;
      }
  answered first now before told told_now logged reading bytes lines line old new logs given most took knows same (Some WriteFault) (heard, more) =
      let still : is_ended_by old.options (lines ++ line ∷ []) ≡ false =
      ap (λ (o : Options). is_ended_by o (lines ++ line ∷ [])) (sym same) ∙ heard.1.no_end in
      let going = last_goes_on law old.options (opening old.options) lines line knows.no_end still in
      record {
        bytes = bytes;
        lines = lines ++ line ∷ [];
        gives = given.given;
        most = most;
        stops = (
          are_first first now reading bytes (lines ++ line ∷ []) given,
          TakesSome-next before told told_now (served old.options lines) (answer old.options (after old.options lines) line)
              (served old.options (lines ++ line ∷ [])) took more (answers_next law old.options (opening old.options) lines line knows.no_end going),
        );
        options_are = same;
        knows = heard.1;
        heard = lines ++ line ∷ [];
        first = (are_first first now reading bytes (lines ++ line ∷ []) given).first;
        logs = logs;
      }
  answered first now before told told_now logged reading bytes lines line old new logs given most took knows same (Some DiskFault) more =
      record {
        bytes = bytes;
        lines = lines;
        gives = given.given;
        most = most;
        stops = (
          (
            length lines,
            sym (ap (take (length lines)) (given.all ∙ append_assoc lines (line ∷ []) (lines_in reading.kept))
                ∙ take-append_seam lines (line ∷ lines_in reading.kept)),
          ),
          Takes-next before told told_now (served old.options lines) [] (served old.options lines) took more (sym (append-nil (served old.options lines))),
        );
        options_are = same;
        knows = tt;
        heard = lines ++ line ∷ [];
        first = (are_first first now reading bytes (lines ++ line ∷ []) given).first;
        logs = logs;
      }
  answered first now before told told_now logged reading bytes lines line old new logs given most took knows same (Some OutOfMemory) more =
      record {
        bytes = bytes;
        lines = lines;
        gives = given.given;
        most = most;
        stops = (
          (
            length lines,
            sym (ap (take (length lines)) (given.all ∙ append_assoc lines (line ∷ []) (lines_in reading.kept))
                ∙ take-append_seam lines (line ∷ lines_in reading.kept)),
          ),
          Takes-next before told told_now (served old.options lines) [] (served old.options lines) took more (sym (append-nil (served old.options lines))),
        );
        options_are = same;
        knows = tt;
        heard = lines ++ line ∷ [];
        first = (are_first first now reading bytes (lines ++ line ∷ []) given).first;
        logs = logs;
      }
  answered first now before told told_now logged reading bytes lines line old new logs given most took knows same (Some TooLong) none = absurd none
  answered first now before told told_now logged reading bytes lines line old new logs given most took knows same (Some ReadFault) none = absurd none

  module _ (options : Options) (first rest before told : Option (List ℕ)) (was_logged logged : List (List ℕ) → Type 0) (was : Reading) (server : ServerData)
      (served_so : HasServed options first rest before told was_logged was server) (now : Option (List ℕ)) (reading : Reading)
      (within : reading.taken ≤ MOST_BYTES + 1) where
    -- what was given with an answer
    given_with : (result : Result Heard NextError) (heard : hearing.Hears rest now was reading result)
        → HasGiven first now reading (served_so.bytes ++ heard.bytes) (served_so.lines ++ line_of result)
    given_with result heard = givens.goes_on first rest now was reading served_so.bytes served_so.lines result served_so.given heard

    -- and with one that has no line
    given_none : (result : Result Heard NextError) (heard : hearing.Hears rest now was reading result) → line_of result ≡ []
        → HasGiven first now reading (served_so.bytes ++ heard.bytes) served_so.lines
    given_none result heard none =
        subst (λ (ls : List (List ℕ)). HasGiven first now reading (served_so.bytes ++ heard.bytes) ls)
        (ap (λ ls. served_so.lines ++ ls) none ∙ append-nil served_so.lines) (given_with result heard)

    -- a line
    pub line_goes_on : (line : Vec ℕ Global) → hearing.Hears rest now was reading (Ok (heard_.Line line))
        → (new : ServerData) (told_now : Option (List ℕ)) (result : Option Stop)
        → new.options ≡ server.options → ((lines : List (List ℕ)) → Knows lines server → Answers lines line.items server new told told_now result)
        → ((lines : List (List ℕ)) → Knows lines server → was_logged lines → logged (lines ++ line.items ∷ []))
        → GoesOn options first now before told_now logged reading new result
    line_goes_on line heard new told_now result same hears logs =
        let given = given_with (Ok (heard_.Line line)) heard in
        subst (λ (o : Options). GoesOn o first now before told_now logged reading new result) served_so.options_are
        (answered first now before told told_now logged reading (served_so.bytes ++ heard.bytes) served_so.lines line.items server new
        (logs served_so.lines served_so.knows served_so.logs) given
        (omega (arith, given.count, within))
        (subst (λ (o : Options). Takes before told (served o served_so.lines)) (sym served_so.options_are) served_so.told)
        served_so.knows same result (hears served_so.lines served_so.knows))

    -- no line
    stops_at : (stop : Stop) (bytes : List ℕ) → HasGiven first now reading bytes served_so.lines
        → IsStop options first now before told bytes served_so.lines stop → UnlessCut stop (Knows served_so.lines server)
        → logged served_so.lines → HasStopped options first now before told logged server stop
    stops_at stop bytes given is knows logs = record {
      bytes = bytes;
      lines = served_so.lines;
      gives = given.given;
      most = omega (arith, given.count, within);
      stops = is;
      options_are = served_so.options_are;
      knows = knows;
      heard = served_so.lines;
      first = (are_first first now reading bytes served_so.lines given).first;
      logs = logs;
    }

    pub at_end : hearing.Hears rest now was reading (Ok heard_.End) → logged served_so.lines
        → HasStopped options first now before told logged server End
    at_end heard logs =
        let bytes : List ℕ = served_so.bytes ++ heard.bytes in
        let given : HasGiven first now reading bytes served_so.lines = given_none (Ok heard_.End) heard refl in
        let same : served_so.lines ≡ lines_in bytes = givens.end first now reading bytes served_so.lines given heard.told.1 in
        stops_at End bytes given
        (inr (given.ended heard.told.2), ap (served options) (sym same), ap (after options) (sym same), served_so.told) served_so.knows logs

    pub at_limit : hearing.Hears rest now was reading (Ok heard_.TooLong) → logged served_so.lines
        → HasStopped options first now before told logged server TooLong
    at_limit heard logs =
        let bytes : List ℕ = served_so.bytes ++ heard.bytes in
        let given : HasGiven first now reading bytes served_so.lines = given_none (Ok heard_.TooLong) heard refl in
        let none : has_feed reading.kept ≡ false = ap has_feed heard.told.0 ∙ heard.told.1 in
        let same : served_so.lines ≡ whole_lines_in bytes = givens.whole first now reading bytes served_so.lines given heard.told.3 none in
        let still : is_ended_by options (whole_lines_in bytes) ≡ false =
        ap (is_ended_by options) (sym same) ∙ ap (λ (o : Options). is_ended_by o served_so.lines) (sym served_so.options_are) ∙ served_so.knows.no_end in
        stops_at TooLong bytes given ((sym given.count ∙ heard.told.2, still), same, served_so.told) served_so.knows logs

    pub at_fault : hearing.Hears rest now was reading (Err error_.ReadFault) → logged served_so.lines
        → HasStopped options first now before told logged server ReadFault
    at_fault heard logs =
        let bytes : List ℕ = served_so.bytes ++ heard.bytes in
        let given : HasGiven first now reading bytes served_so.lines = given_none (Err error_.ReadFault) heard refl in
        let none : has_feed reading.kept ≡ false = ap has_feed heard.told.0 ∙ heard.told.1 in
        let same : served_so.lines ≡ whole_lines_in bytes = givens.whole first now reading bytes served_so.lines given heard.told.2 none in
        stops_at ReadFault bytes given (same, served_so.told) served_so.knows logs

    pub at_want : hearing.Hears rest now was reading (Err error_.OutOfMemory) → logged served_so.lines
        → HasStopped options first now before told logged server OutOfMemory
    at_want heard logs =
        let bytes : List ℕ = served_so.bytes ++ heard.bytes in
        let given : HasGiven first now reading bytes served_so.lines = given_none (Err error_.OutOfMemory) heard refl in
        stops_at OutOfMemory bytes given ((are_first first now reading bytes served_so.lines given).first, served_so.told) tt logs
