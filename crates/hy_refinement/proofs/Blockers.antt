-- Who is blocked at the core is blocked in the machine, by the same transaction.
use Rattle.std.proofs.Common.{◌≡◌, ℕ, suc, Option, None, Some, Bool, refl, sym, ap, ◌∙◌, inl, inr, length, cond}
use Rattle.std.specs.Prelude.{◌==◌, ◌&&◌}
use Rattle.std.specs.Option.{option_map}
use Rattle.std.proofs.lemmas.Bool.{cases_eq, eq-eqb, ne_eqb, and_from}
use Rattle.hy_stamp.specs.declared.Label.{Label}
use Rattle.hy_journal.specs.Core.{other_than}
use Rattle.hy_machine.specs.States.{State, Session}
use Rattle.hy_machine.specs.Sessions.{session_at, label_of, blocker_of}
use Rattle.hy_refinement.specs.Waiting.{BlockersAreTheMachines}
use Rattle.hy_refinement.proofs.Holders.{same_label}

-- a label is another one exactly where it is of another session
other_label : (state : State) (number marked : ℕ)
    → other_than (label_of number (session_at state number)) (Some (label_of marked (session_at state marked))) ≡ blocker_of state number (Some marked)
other_label state number marked = elim (cases_eq marked number) [
  | inl same ↦
      let session : Session = session_at state marked in
      let txns : suc (length session.done) ≡ suc (length (session_at state number).done) = ap (λ (n : ℕ). suc (length (session_at state n).done)) same in
      ap (λ (b : Bool). cond b None (Some (label_of marked session)))
      (and_from (marked == number) (suc (length session.done) == suc (length (session_at state number).done)) (eq-eqb marked number same)
      (eq-eqb (suc (length session.done)) (suc (length (session_at state number).done)) txns))
      ∙ sym (ap (λ (b : Bool). cond b None (Some (label_of marked session))) (eq-eqb marked number same))
  | inr apart ↦
      let session : Session = session_at state marked in
      ap (λ (b : Bool). cond (b && (suc (length session.done) == suc (length (session_at state number).done))) None (Some (label_of marked session)))
      (ne_eqb marked number apart)
      ∙ sym (ap (λ (b : Bool). cond b None (Some (label_of marked session))) (ne_eqb marked number apart))
]

other_marked : (state : State) (number : ℕ) (mark : Option ℕ)
    → other_than (label_of number (session_at state number)) (option_map
    (λ marked. label_of marked (session_at state marked)) mark) ≡ blocker_of state number mark
other_marked state number None = refl
other_marked state number (Some marked) = other_label state number marked

pub blockers_are : BlockersAreTheMachines
blockers_are setting state core sessions number session core_shows sessions_show found =
    let label = same_label setting state core number session (sessions_show.each number session found) in
    ap (λ (mine : Label). other_than mine core.mark) label
    ∙ (ap (other_than (label_of number (session_at state number))) core_shows.mark_shows.mark
    ∙ other_marked state number state.mark)
