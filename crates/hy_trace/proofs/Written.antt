-- The line of a step that is taken, and the lines of steps one after another.
use Rattle.std.proofs.Common.{◌≡◌, ℕ, suc, ◌+◌, List, [], ◌∷◌, ◌++◌, length, refl, ap, sym, ◌∙◌, arith, append_assoc}
use Rattle.std.proofs.lemmas.List.{append-nil}
use Rattle.std.specs.Fmt.{decimal}
use Rattle.hy_protocol.specs.declared.Progress.{Progress}
use Rattle.hy_render.specs.declared.Names.{Names}
use Rattle.hy_render.specs.Report.{word}
use Rattle.hy_machine.specs.declared.Setting.{Setting}
use Rattle.hy_machine.specs.States.{State}
use Rattle.hy_machine.specs.Steps.{step_of}
use Rattle.hy_machine.specs.Runs.{after_steps}
use Rattle.hy_lawful.specs.Kept.{ReachedAreKept}
use Rattle.hy_stepping.specs.Standing.{SessionsStand}
use Rattle.hy_stepping.specs.Told.{SessionsTell}
use Rattle.hy_world.specs.Follows.{Steps}
use Rattle.hy_world.specs.Worlds.{WorldData}
use Rattle.hy_trace.specs.declared.standing.At.{At}
use Rattle.hy_trace.specs.Standing.{Told, at_of, told_of}
use Rattle.hy_trace.specs.Trace.{at_words, line_by, lines_from, step_line, told_line}
use Rattle.hy_trace.specs.Traced.{WritesStep, stands_in, told_in}
use Rattle.hy_trace.proofs.Shown.{stands_shown, told_shown}

-- ---- lines one after another

pub lines_joined : (names : Names) (setting : Setting) (done : ℕ) (state : State) (xs ys : List ℕ)
    → lines_from names setting done state (xs ++ ys)
    ≡ lines_from names setting done state xs ++ lines_from names setting (done + length xs) (after_steps setting state xs) ys
lines_joined names setting done state [] ys =
    let same : done ≡ done + 0 = omega arith in
    ap (λ (n : ℕ). lines_from names setting n state ys) same
lines_joined names setting done state (x ∷ xs) ys =
    let next : State = (step_of setting state x).0 in
    let first : List ℕ = step_line names setting (suc done) state x in
    let same : suc done + length xs ≡ done + suc (length xs) = omega arith in
    ap (λ (rest : List ℕ). first ++ rest) (lines_joined names setting (suc done) next xs ys)
    ∙ (sym (append_assoc first (lines_from names setting (suc done) next xs)
    (lines_from names setting (suc done + length xs) (after_steps setting next xs) ys))
    ∙ ap (λ (n : ℕ). (first ++ lines_from names setting (suc done) next xs) ++ lines_from names setting n (after_steps setting next xs) ys) same)

-- ---- a step

-- a line is the same where the same is told
line_same : (names : Names) (count many : ℕ) (at there : At) (told other : Told) (stepped came : Progress) → count ≡ many → at ≡ there → told ≡ other
    → stepped ≡ came → line_by names count at told stepped ≡ line_by names many there other came
line_same names count many at there told other stepped came c a t s =
    ap (λ (n : ℕ). line_by names n at told stepped) c ∙ (ap (λ (one : At). line_by names many one told stepped) a
    ∙ (ap (λ (one : Told). line_by names many there one stepped) t ∙ ap (λ (one : Progress). line_by names many there other one) s))

-- the bytes are those of the line
bytes_same : (out mid last head tail : List ℕ) → mid ≡ out ++ head → last ≡ mid ++ tail → last ≡ out ++ (head ++ tail)
bytes_same out mid last head tail m l = l ∙ (ap (λ (bytes : List ℕ). bytes ++ tail) m ∙ append_assoc out head tail)

pub step_written : SessionsStand → SessionsTell → ReachedAreKept → (names : Names) (number : ℕ) (stepped : Progress) (old new : WorldData)
    (count next : ℕ) (out mid last : List ℕ) → Steps number stepped old new → next ≡ count + 1
    → mid ≡ out ++ (word (decimal next) ++ word (at_words names (stands_in old number)))
    → last ≡ mid ++ told_line names (told_in new number) stepped
    → WritesStep names number stepped old new (count, out) (next, last)
step_written stand tell kept names number stepped old new count next out mid last steps more m l = λ setting state shows.
    let n : next ≡ suc count = omega (arith, more) in
    let there = steps setting state shows in
    let same : line_by names next (stands_in old number) (told_in new number) stepped ≡ step_line names setting (suc count) state number =
    line_same names next (suc count) (stands_in old number) (at_of setting state number) (told_in new number)
    (told_of (step_of setting state number).0 number) stepped (step_of setting state number).1 n
    (stands_shown stand kept setting state old number shows)
    (told_shown stand tell kept setting (step_of setting state number).0 new number there.shows) (sym there.answer) in
    record {
      shows = there.shows;
      answer = there.answer;
      text = bytes_same out mid last (word (decimal next) ++ word (at_words names (stands_in old number))) (told_line names (told_in new number) stepped) m l
          ∙ (ap (λ (line : List ℕ). out ++ line) (same ∙ sym (append-nil (step_line names setting (suc count) state number))));
      count = n;
    }
