-- Which command the words are.
use Rattle.std.specs.Prelude.{ℕ, ◌<◌, ◌≤◌, ◌&&◌, nat_le, Bool, true, false, not, List, Option, Some, None, codes}
use Rattle.std.specs.Prelude.{if◌then◌else◌, option_and_then, option_map}
use Rattle.std.specs.Option.{option_zip}
use Rattle.std.specs.Str.{bytes_eq}
use Rattle.std.specs.Str.Parse.{digits_value, without_leading_plus}
use Rattle.clap.specs.Faults.{fault_of}
use Rattle.clap.specs.Simple.{subcommand_of}
use Rattle.clap.specs.ValueTests.{is_unsigned_in}
use Rattle.clap.specs.Walk.{Row, Text, is_empty, one_of}
use Rattle.clap.specs.declared.error.kind.ErrorKind.{ErrorKind}
use Rattle.clap.specs.declared.error.kind.ErrorKind.TheVariants as kind
use Rattle.hy_words.specs.Grammar.{hy}
use Rattle.hy_words.specs.declared.Command.{Command}
use Rattle.hy_words.specs.declared.Command.TheVariants.{Run, Check, Recover, Trace, Explain, Serve, Gen}
use Rattle.hy_words.specs.declared.WordsError.{WordsError}
use Rattle.hy_words.specs.declared.WordsError.TheVariants.{Refused, OutOfMemory}

-- the number that a text writes in decimal digits, where a `u32` holds it
abbrev pub number_of : Text → Option ℕ
number_of text = if is_unsigned_in 0 4294967295 text
    then Some (digits_value 10 (without_leading_plus text)) else None

-- the truth value that a text names
abbrev pub truth_of : Text → Option Bool
truth_of text = if bytes_eq text (codes "true") then Some true
    else if bytes_eq text (codes "false") then Some false else None

-- a number that lies within bounds
abbrev pub bounded : ℕ → ℕ → ℕ → Option ℕ
bounded least most number = if nat_le least number && nat_le number most then Some number else None

-- the number or the truth value that the matches have for an argument
abbrev pub number_in : Text → List Row → Option ℕ
number_in name matches = option_and_then number_of (one_of name matches)

-- the number, where it lies within bounds
abbrev pub number_within : ℕ → ℕ → Text → List Row → Option ℕ
number_within least most name matches = option_and_then (bounded least most) (number_in name matches)

-- how many chunks a table has and how many positions a chunk has, where the matches have both
abbrev pub sizes_in : List Row → Option (ℕ × ℕ)
sizes_in matches = option_zip (number_within 1 64 (codes "chunks") matches) (number_within 1 1024 (codes "rows") matches)

abbrev pub truth_in : Text → List Row → Option Bool
truth_in name matches = option_and_then truth_of (one_of name matches)

-- `run` with these, where the matches have each
abbrev pub run_with : Option Bool → Option Bool → Option Bool → Option (ℕ × ℕ) → Option Command
run_with (Some threads) (Some keeps) (Some log) (Some (chunks, rows)) = Some (Run threads (not keeps) log chunks rows)
run_with _ _ _ _ = None

-- `recover` with these, where the matches have each
abbrev pub recover_with : Option Bool → Option (ℕ × ℕ) → Option Command
recover_with (Some dumps) (Some (chunks, rows)) = Some (Recover dumps chunks rows)
recover_with _ _ = None

-- `trace` with these, where the matches have each
abbrev pub trace_with : Option Bool → Option (ℕ × ℕ) → Option Command
trace_with (Some keeps) (Some (chunks, rows)) = Some (Trace (not keeps) chunks rows)
trace_with _ _ = None

-- `explain` with these, where the matches have each
abbrev pub explain_with : Option Bool → Option (ℕ × ℕ) → Option Command
explain_with (Some keeps) (Some (chunks, rows)) = Some (Explain (not keeps) chunks rows)
explain_with _ _ = None

-- `serve` with these, where the matches have each
abbrev pub serve_with : Option Bool → Option (ℕ × ℕ) → Option Command
serve_with (Some log) (Some (chunks, rows)) = Some (Serve log chunks rows)
serve_with _ _ = None

-- `gen` with these, where the matches have each
abbrev pub gen_with : Option ℕ → Option ℕ → Option ℕ → Option Bool → Option Command
gen_with (Some seed) (Some sessions) (Some txns) (Some threads) = Some (Gen seed sessions txns threads)
gen_with _ _ _ _ = None

-- what the matches of each command ask for
abbrev pub run_by : List Row → Option Command
run_by matches =
    run_with (truth_in (codes "threads") matches) (truth_in (codes "no-prune") matches)
    (truth_in (codes "log") matches) (sizes_in matches)

abbrev pub check_by : List Row → Option Command
check_by matches = option_map (λ sizes. Check sizes.0 sizes.1) (sizes_in matches)

abbrev pub recover_by : List Row → Option Command
recover_by matches = recover_with (truth_in (codes "script") matches) (sizes_in matches)

abbrev pub trace_by : List Row → Option Command
trace_by matches = trace_with (truth_in (codes "no-prune") matches) (sizes_in matches)

abbrev pub explain_by : List Row → Option Command
explain_by matches = explain_with (truth_in (codes "no-prune") matches) (sizes_in matches)

abbrev pub serve_by : List Row → Option Command
serve_by matches = serve_with (truth_in (codes "log") matches) (sizes_in matches)

abbrev pub gen_by : List Row → Option Command
gen_by matches =
    gen_with (number_in (codes "seed") matches) (number_within 1 64 (codes "sessions") matches)
    (number_within 1 1000 (codes "transactions") matches) (truth_in (codes "threads") matches)

-- what a subcommand with its matches asks for
abbrev pub asked_by : Option (Text × List Row) → Option Command
asked_by = option_and_then (λ s. if bytes_eq s.0 (codes "run") then run_by s.1
    else if bytes_eq s.0 (codes "check") then check_by s.1
    else if bytes_eq s.0 (codes "recover") then recover_by s.1
    else if bytes_eq s.0 (codes "trace") then trace_by s.1
    else if bytes_eq s.0 (codes "explain") then explain_by s.1
    else if bytes_eq s.0 (codes "serve") then serve_by s.1
    else if bytes_eq s.0 (codes "gen") then gen_by s.1 else None)

-- The command that the words are: where clap finds no fault with them, what it makes of them asks for
-- that command.
abbrev pub command_of : List Text → Option Command
command_of words = if is_empty (fault_of hy words) then asked_by (subcommand_of hy words) else None

-- a table has from 1 to 64 chunks of 1 to 1024 positions
abbrev pub AreSizes : ℕ → ℕ → Type 0
AreSizes chunks rows = (0 < chunks) × (chunks ≤ 64) × (0 < rows) × (rows ≤ 1024)

-- the numbers that a command asks for lie within their bounds
abbrev pub IsWithin : Command → Type 0
IsWithin (Run threads prune log chunks rows) = AreSizes chunks rows
IsWithin (Check chunks rows) = AreSizes chunks rows
IsWithin (Recover dumps chunks rows) = AreSizes chunks rows
IsWithin (Trace prune chunks rows) = AreSizes chunks rows
IsWithin (Explain prune chunks rows) = AreSizes chunks rows
IsWithin (Serve log chunks rows) = AreSizes chunks rows
IsWithin (Gen seed sessions txns threads) = (0 < sessions) × (sessions ≤ 64) × (0 < txns) × (txns ≤ 1000)

-- what a failed parse comes to
abbrev pub refusal_of : ErrorKind → WordsError
refusal_of kind.OutOfMemory = OutOfMemory
refusal_of _ = Refused
