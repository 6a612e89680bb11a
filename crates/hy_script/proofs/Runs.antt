-- Reading comes to one answer.
use Rattle.std.proofs.Common.{◌≡◌, ℕ, zero, suc, ◌<◌, ◌≤◌, List, Some, Result, Ok, Err, length, refl, sym, subst, ap, ◌∙◌, arith}
use Rattle.std.proofs.lemmas.Option.{same_Some}
use Rattle.hy_script.specs.declared.Options.{Options}
use Rattle.hy_script.specs.declared.Script.{Script}
use Rattle.std.specs.Str.{IsUtf8}
use Rattle.hy_script.specs.declared.Refused.{Refused}
use Rattle.hy_script.specs.declared.ReadError.{ReadError}
use Rattle.hy_script.specs.declared.ReadError.TheVariants as errors
use Rattle.hy_script.specs.declared.sofar.SoFar.{SoFar}
use Rattle.hy_script.specs.Reading.{Stop, Next, Read, Refuse, GoOn, next_at, answer_within, answered, IsRead, Reads, too_long, not_utf8, statements, stop, Comes, Goes, Says, Answers, error_of_halt}
use Rattle.hy_script.specs.declared.reading.Step.{Step}
use Rattle.hy_script.specs.Growing.{nothing, script_of}
use Rattle.hy_script.specs.declared.reading.Halt.{Halt}
use Rattle.hy_script.specs.declared.reading.Halt.TheVariants as halts
use Rattle.hy_script.specs.declared.reading.Step.TheVariants as steps
use Rattle.hy_limits.specs.declared.TheConstants.{MOST_BYTES}

-- reading on after a statement
pub read_on : (most : ℕ) (script : List ℕ) (options : Options) (sofar : SoFar) (at : ℕ) (next : Next) (found : Result Script Stop)
    → next_at script options sofar at ≡ next → answer_within most script options next ≡ Some found → answer_within (suc most) script options (GoOn sofar at) ≡ Some found
unfolding answer_within
read_on most script options sofar at next found is h = ap (answer_within most script options) is ∙ h

-- the last statement
pub read_last : (script : List ℕ) (options : Options) (sofar : SoFar) (at : ℕ) (read : Script)
    → next_at script options sofar at ≡ Read read → answer_within 1 script options (GoOn sofar at) ≡ Some (Ok read)
unfolding answer_within
read_last script options sofar at read is = ap (answer_within 0 script options) is

-- a refused statement
pub read_refused : (script : List ℕ) (options : Options) (sofar : SoFar) (at : ℕ) (why : Stop)
    → next_at script options sofar at ≡ Refuse why → answer_within 1 script options (GoOn sofar at) ≡ Some (Err why)
unfolding answer_within
read_refused script options sofar at why is = ap (answer_within 0 script options) is

agree : (n m : ℕ) (script : List ℕ) (options : Options) (next : Next) (a b : Result Script Stop) → answer_within n script options next ≡ Some a → answer_within m script options next ≡ Some b → a ≡ b
unfolding answer_within
agree n m script options (Read read) a b h g = same_Some a b (sym h ∙ g)
agree n m script options (Refuse at) a b h g = same_Some a b (sym h ∙ g)
agree zero m script options (GoOn sofar at) a b h g = absurd cc
agree (suc n) zero script options (GoOn sofar at) a b h g = absurd cc
agree (suc n) (suc m) script options (GoOn sofar at) a b h g = agree n m script options (next_at script options sofar at) a b h g

read_alike : (script : List ℕ) (options : Options) (one other : Result Script Refused) → IsRead script options one → IsRead script options other → one ≡ other
read_alike script options one other h g = h.is ∙ ap (answered script) (agree h.statements g.statements script options _ h.found g.found h.reads g.reads) ∙ sym g.is

pub once : (bytes : List ℕ) (options : Options) (one other : Result Script Refused) → Reads bytes options one → Reads bytes options other → one ≡ other
once bytes options _ _ (too_long h) (too_long g) = refl
once bytes options _ _ (too_long h) (not_utf8 g bad) = absurd (omega (arith, h, g))
once bytes options _ other (too_long h) (statements _ g good read) = absurd (omega (arith, h, g))
once bytes options _ _ (not_utf8 g bad) (too_long h) = absurd (omega (arith, h, g))
once bytes options _ _ (not_utf8 g bad) (not_utf8 h other) = refl
once bytes options _ other (not_utf8 g bad) (statements _ h good read) = absurd (bad good)
once bytes options one _ (statements _ g good read) (too_long h) = absurd (omega (arith, h, g))
once bytes options one _ (statements _ h good read) (not_utf8 g bad) = absurd (bad good)
once bytes options one other (statements _ g good read) (statements _ h too again) = read_alike bytes options one other read again

-- what comes of reading on from an offset is what comes of reading all
abbrev pub ReadsOn : List ℕ → Options → SoFar → ℕ → Type 0
ReadsOn script options sofar at = (most : ℕ) (found : Result Script Stop) → answer_within most script options (GoOn sofar at) ≡ Some found → (all : ℕ) × (answer_within all script options (GoOn nothing 0) ≡ Some found)

-- a statement was taken
pub went_on : (script : List ℕ) (options : Options) (sofar new : SoFar) (at end : ℕ) (step : Step) → step ≡ steps.GoOn end → ReadsOn script options sofar at → Comes (Ok step) (next_at script options sofar at) options new
    → ReadsOn script options new end
went_on script options sofar new at end step is on comes most found h =
    let next : next_at script options sofar at ≡ GoOn new end = subst (λ s. Comes (Ok s) (next_at script options sofar at) options new) is comes in
    on (suc most) found (read_on most script options sofar at (GoOn new end) found next h)

pub within : (at length end : ℕ) (step : Step) → step ≡ steps.GoOn end → Goes at length step → (at < end) × (end ≤ length)
within at length end step is goes = subst (Goes at length) is goes

-- END was read
pub ended : (script : List ℕ) (options : Options) (sofar new : SoFar) (at : ℕ) (read : Script) (step : Step) → step ≡ steps.End → ReadsOn script options sofar at → Comes (Ok step) (next_at script options sofar at) options new → read ≡ script_of options new
    → Says (Ok read) script options
ended script options sofar new at read step end on comes is =
    let next : next_at script options sofar at ≡ Read (script_of options new) = subst (λ s. Comes (Ok s) (next_at script options sofar at) options new) end comes in
    let found = on 1 (Ok (script_of options new)) (read_last script options sofar at (script_of options new) next) in
    record { statements = found.0; found = Ok (script_of options new); reads = found.1; is = ap (λ (s : Script). Ok s) is }

-- reading stopped
pub halted : (script : List ℕ) (options : Options) (sofar new : SoFar) (at : ℕ) (halt : Halt) → ReadsOn script options sofar at → Comes (Err halt) (next_at script options sofar at) options new
    → Says (Err (error_of_halt script halt)) script options
halted script options sofar new at (halts.Refused code offset) on comes =
    let found = on 1 (Err (stop code offset)) (read_refused script options sofar at (stop code offset) comes) in
    record { statements = found.0; found = Err (stop code offset); reads = found.1; is = refl }
halted script options sofar new at halts.OutOfMemory on comes = tt

-- what reading the statements comes to is what reading the bytes comes to
pub as_bytes : (bytes : List ℕ) (options : Options) (result : Result Script ReadError) → length bytes ≤ MOST_BYTES → IsUtf8 bytes → Says result bytes options → Answers result bytes options
as_bytes bytes options (Ok script) short good said = statements (Ok script) short good said
as_bytes bytes options (Err (errors.Refused refusal)) short good said = statements (Err refusal) short good said
as_bytes bytes options (Err errors.OutOfMemory) short good said = tt
