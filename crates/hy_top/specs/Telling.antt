-- That what is written of a run tells what the run came to.
use Rattle.std.specs.Prelude.{◌≡◌, ℕ, ◌<◌, List, Bool, Ok}
use Rattle.hy_script.specs.declared.Options.{Options}
use Rattle.hy_script.specs.declared.Script.{Script}
use Rattle.hy_script.specs.Reading.{Reads}
use Rattle.hy_render.specs.declared.Outcome.{Outcome}
use Rattle.hy_render.specs.Report.{text}
use Rattle.hy_serial.specs.Naming.{IsPrintedOutcome}
use Rattle.hy_top.specs.Program.{MayCome, names_at}

-- Two runs of a script that is read, each on threads or by its schedule, have come to one outcome if they have one text. The
-- tables have a chunk, and the numbers of both outcomes have at most 64 digits, as all of the program's types do.
abbrev pub TextsTellOutcomes : Type 0
TextsTellOutcomes = (bytes : List ℕ) (options : Options) (script : Script) → Reads bytes options (Ok script) → 0 < options.chunks
    → (threads others : Bool) (one other : Outcome) → MayCome threads script one → MayCome others script other
    → IsPrintedOutcome one → IsPrintedOutcome other → text (names_at script) one ≡ text (names_at script) other → one ≡ other
