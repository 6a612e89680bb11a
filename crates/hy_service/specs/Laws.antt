-- The laws of services: each that lines lead to is sound, and can take the line of a session that is not refused.
use Rattle.std.specs.Prelude.{◌≡◌, ℕ, List, [], ◌∷◌, ◌++◌, true, false, None, Some}
use Rattle.hy_event.specs.declared.lines.SessionLine.{SessionLine}
use Rattle.hy_lawful.specs.Lawful.{Lawful}
use Rattle.hy_lawful.specs.Serial.{IsSerial}
use Rattle.hy_script.specs.declared.Options.{Options}
use Rattle.hy_serving.specs.Saying.{saying}
use Rattle.hy_redo.specs.Logs.{IsLogOf}
use Rattle.hy_service.specs.Knowing.{Knows, ServerData}
use Rattle.hy_service.specs.Logging.{CanLog, IsWholeLogAt, entries_in}
use Rattle.hy_service.specs.Serves.{IsOutcomeOf}
use Rattle.hy_service.specs.Service.{IsSized, Service, after, answers, answer, ends, has_end, heard, heard_all, noted, opening, outcome_after, session_line}
use Rattle.hy_service.specs.Sound.{CanTake, IsSound}

-- ---- soundness

-- before the first line a service is sound
abbrev pub OpeningsAreSound : Type 0
OpeningsAreSound = (options : Options) → IsSized options → IsSound options (opening options)

-- it stays so with a line that is none of a session
abbrev pub DefinitionsStaySound : Type 0
DefinitionsStaySound = (options : Options) (service : Service) (line : List ℕ) → IsSound options service
    → session_line (saying options service.desk line) ≡ None → IsSound options (noted options service line)

-- what a line says to a session can be taken
abbrev pub LinesCanBeTaken : Type 0
LinesCanBeTaken = (options : Options) (service : Service) (line : List ℕ) (number : ℕ) (said : SessionLine) → IsSound options service
    → session_line (saying options service.desk line) ≡ Some (number, said) → CanTake options (noted options service line) number said

-- and when it is, the service is sound still
abbrev pub TakingStaysSound : Type 0
TakingStaysSound = (options : Options) (service : Service) (line : List ℕ) (number : ℕ) (said : SessionLine) → IsSound options service
    → session_line (saying options service.desk line) ≡ Some (number, said) → IsSound options (heard options service line)

-- so each service that lines lead to is sound
abbrev pub ServicesAreSound : Type 0
ServicesAreSound = (options : Options) (lines : List (List ℕ)) → IsSized options → IsSound options (after options lines)

-- and each can be kept in a log: its values are of the types of the tables' columns, and its texts are UTF-8
abbrev pub ServicesCanBeLogged : Type 0
ServicesCanBeLogged = (options : Options) (lines : List (List ℕ)) → IsSized options → CanLog options (after options lines)

-- ---- lines, one after another

-- where there is no END among some lines, the others are heard after them
pub record LinesAreHeard : Type 0 where
  pub service : (options : Options) (service : Service) (lines others : List (List ℕ)) → has_end options service lines ≡ false
      → heard_all options service (lines ++ others) ≡ heard_all options (heard_all options service lines) others
  pub told : (options : Options) (service : Service) (lines others : List (List ℕ)) → has_end options service lines ≡ false
      → answers options service (lines ++ others) ≡ answers options service lines ++ answers options (heard_all options service lines) others
  pub end : (options : Options) (service : Service) (lines others : List (List ℕ)) → has_end options service lines ≡ false
      → has_end options service (lines ++ others) ≡ has_end options (heard_all options service lines) others

-- ---- the end

-- what lines come to is lawful, and serializable in its order
abbrev pub OutcomesAreLawful : Type 0
OutcomesAreLawful = (options : Options) (lines : List (List ℕ)) → IsSized options → IsOutcomeOf options lines (outcome_after options lines)

-- where a server knows these lines, the log of its entries is that of the outcome's commit order, and recovers to its tables
abbrev pub LogsTellOutcomes : Type 0
LogsTellOutcomes = (lines : List (List ℕ)) (server : ServerData) (gate : ℕ) (bytes : List ℕ) → Knows lines server
    → IsLogOf (entries_in server.world) gate bytes
    → IsWholeLogAt server.options (after server.options lines) (outcome_after server.options lines) bytes
