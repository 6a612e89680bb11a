-- Where each session is between two lines, so it is after the answer to a line.
use Rattle.std.proofs.Common.{◌≡◌, ℕ, ◌<◌, List, [], ◌∷◌, ◌++◌, length, map, get_or, refl, ap, ◌∙◌, sym, arith, zero, suc, false, inl, inr, subst}
use Rattle.std.specs.Prelude.{slice_get}
use Rattle.std.proofs.lemmas.Bool.{cases_eq}
use Rattle.std.proofs.lemmas.List.{length-set}
use Rattle.std.proofs.lemmas.Option.{same_Some, none-some}
use Rattle.hy_bound.specs.declared.Txn.{Txn}
use Rattle.hy_machine.specs.declared.Setting.{Setting}
use Rattle.hy_machine.specs.States.{State, Session}
use Rattle.hy_machine.specs.Sessions.{fresh, session_at, program_of, txn_at}
use Rattle.hy_machine.specs.Runs.{opening_of, StepsFall}
use Rattle.hy_event.specs.declared.lines.SessionLine.{SessionLine}
use Rattle.hy_event.specs.declared.lines.SessionLine.TheVariants.{Begin, Statement, Commit, Rollback}
use Rattle.hy_event.specs.Lines.{grown}
use Rattle.hy_growing.specs.Growing.{pushed, IsAtEnd, IsWaiting, IsReady, IsUncommitted, IsResting, IsAnswered, BetweenLines, SessionsStayBetween, EmptyScriptsAreBetween}
use Rattle.hy_growing.proofs.Answering.{answered_whole}
use Rattle.hy_growing.proofs.Reply.{turns_then}
use Rattle.hy_growing.proofs.Lines.{IsTaken, IsLeftAt, ready_next, opened_rolls, said_commits, answers_left, closings_end, others_stay, line_taken}

-- ---- a session that is as it was

pub end_stays : (setting longer : Setting) (state next : State) (number : ℕ) → session_at next number ≡ session_at state number
    → program_of longer number ≡ program_of setting number → IsAtEnd setting state number → IsAtEnd longer next number
end_stays setting longer state next number s p r = record {
  closed = ap (λ (one : Session). one.now) s ∙ r.closed;
  all = ap (λ (one : Session). length one.done) s ∙ (r.all ∙ ap length (sym p));
}

pub wait_stays : (setting longer : Setting) (state next : State) (number : ℕ) → session_at next number ≡ session_at state number
    → program_of longer number ≡ program_of setting number → IsUncommitted setting state number → IsUncommitted longer next number
wait_stays setting longer state next number s p u = (
  record {
    begun = u.0.begun;
    visited = u.0.visited;
    count = u.0.count;
    txn = u.0.txn;
    open_now = ap (λ (one : Session). one.now) s ∙ u.0.open_now;
    last = ap (λ (one : Session). suc (length one.done)) s ∙ (u.0.last ∙ ap length (sym p));
    here = ap (λ (program : List Txn). slice_get program (length (session_at next number).done)) p
        ∙ (ap (λ (one : Session). txn_at setting number one) s ∙ u.0.here);
    answered = u.0.answered;
  },
  u.1,
)

pub rest_stays : (setting longer : Setting) (state next : State) (number : ℕ) → session_at next number ≡ session_at state number
    → program_of longer number ≡ program_of setting number → IsResting setting state number → IsResting longer next number
rest_stays setting longer state next number s p (inl ends) = inl (end_stays setting longer state next number s p ends)
rest_stays setting longer state next number s p (inr waits) = inr (wait_stays setting longer state next number s p waits)

-- ---- the line's session

-- the transaction that it waits in is rolled back by its script
uncommitted : (setting : Setting) (state : State) (number : ℕ) → IsResting setting state number → (waiting : IsWaiting setting state number) → waiting.txn.commits ≡ false
uncommitted setting state number (inl ends) waiting = absurd (none-some (record { begun = waiting.begun; phase = _ }) (sym ends.closed ∙ waiting.open_now))
uncommitted setting state number (inr waits) waiting =
    ap (λ (txn : Txn). txn.commits) (same_Some waiting.txn waits.0.txn (sym waiting.here ∙ waits.0.here)) ∙ waits.1

left_resting : (setting : Setting) (state : State) (number : ℕ) (txn : Txn) → txn.commits ≡ false → IsLeftAt setting state number txn → IsResting setting state number
left_resting setting state number txn rolls (inl waits) = inr (waits.0, ap (λ (one : Txn). one.commits) waits.1 ∙ rolls)
left_resting setting state number txn rolls (inr ends) = inl ends

own_rests : (setting : Setting) (state next : State) (number : ℕ) (line : SessionLine) → IsResting setting state number → IsReady setting state number line
    → number < length setting.programs → number < length state.sessions → IsAnswered (pushed setting number line) number state next
    → IsResting (pushed setting number line) next number
own_rests setting state next number (Begin read_only) rests ready l within answered =
    left_resting (pushed setting number (Begin read_only)) next number (ready_next setting state number (Begin read_only) ready).txn
    (opened_rolls setting state number read_only ready)
    (answers_left setting state next number (Begin read_only) ready l within answered)
own_rests setting state next number (Statement statement) rests ready l within answered =
    left_resting (pushed setting number (Statement statement)) next number (ready_next setting state number (Statement statement) ready).txn
    (said_commits setting state number statement ready ∙ uncommitted setting state number rests ready)
    (answers_left setting state next number (Statement statement) ready l within answered)
own_rests setting state next number Commit rests ready l within answered = inl (closings_end setting state next number Commit tt ready l within answered)
own_rests setting state next number Rollback rests ready l within answered = inl (closings_end setting state next number Rollback tt ready l within answered)

-- ---- all sessions

pub lines_between : StepsFall → SessionsStayBetween
lines_between falls setting state turns number line between ready l =
    subst (BetweenLines longer (turns ++ number ∷ [])) (sym (answered_whole falls longer number state taken.0 taken.1.answered))
    (record {
      answered = turns_then longer turns number (opening_of longer) state taken.0 taken.1.before taken.1.answered;
      resting = rests;
    })
  where
    longer : Setting
    longer = pushed setting number line

    taken : (next : State) × IsTaken longer state turns number next
    taken = line_taken falls setting state turns number line between.answered ready l

    rests : (other : ℕ) → other < length longer.programs → IsResting longer taken.0 other
    rests other h = elim (cases_eq other number) [
      | inl e ↦ subst (IsResting longer taken.0) (sym e)
          (own_rests setting state taken.0 number line (between.resting number l) ready l taken.1.within taken.1.answered)
      | inr n ↦
          let same = others_stay setting state taken.0 number other line n taken.1.answered in
          let few : other < length setting.programs = omega (arith, h, length-set setting.programs number (grown line (program_of setting number))) in
          rest_stays setting longer state taken.0 other same.0 same.1 (between.resting other few)
    ]

all_fresh : (programs : List (List Txn)) (number : ℕ) → get_or (map (λ (txns : List Txn). fresh) programs) number fresh ≡ fresh
all_fresh [] number = refl
all_fresh (program ∷ programs) zero = refl
all_fresh (program ∷ programs) (suc number) = all_fresh programs number

pub empty_between : EmptyScriptsAreBetween
empty_between setting none = record {
  answered = refl;
  resting = λ number l. inl (record {
    closed = ap (λ (one : Session). one.now) (all_fresh setting.programs number);
    all = ap (λ (one : Session). length one.done) (all_fresh setting.programs number) ∙ ap length (sym (none number));
  });
}
