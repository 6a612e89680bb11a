use Rattle.std.proofs.Common.{◌≡◌, ℕ, ◌+◌, ◌-◌, false, inl, inr, length, sym, ap, ◌∙◌, arith, length-append, length-drop}
use Rattle.std.proofs.lemmas.List.{take_rest}
use Rattle.hy_lines.specs.Lines.{has_feed}
use Rattle.hy_lines.proofs.Feeds.{true_is_not_false, found_in, none_in, none_in_old}
use Rattle.hy_lines.proofs.Pieces.{Adds-more, none_kept_before}
use Rattle.hy_lines.proofs.Lines.take_line.Goals.{then-self-via-then-self, then-self-via-else-self+then-self-gt-MOST_BYTES}
use Rattle.hy_lines.proofs.Lines.take_line.Goals as goal

pub returns-in-Some-clause-found : goal.returns-in-Some-clause-found
returns-in-Some-clause-found g c =
    found_in c.self.inside.bytes.items c.turns.self.kept c.self.inside.start c.turns.searched c.in-Some.ahead (ap (λ r. r.kept) c.self.view_is) c.turns.invariant.none
    (rw (c.deref.ensures.value, take_rest c.self.inside.bytes.items (c.self.inside.start + c.turns.searched)) at c.in-Some.ensures)

pub returns-then-self-clause-none : goal.returns-then-self-clause-none
returns-then-self-clause-none g c = record {
  none = none_in c.self.inside.bytes.items c.turns.self.kept c.self.inside.start c.turns.searched (ap (λ r. r.kept) c.self.view_is) c.turns.invariant.none
      (rw (c.deref.ensures.value, take_rest c.self.inside.bytes.items (c.self.inside.start + c.turns.searched)) at c.in_default.ensures);
  why = elim c.then-self.branch [
    | then-self-via-then-self w ↦ inl (sym (ap (λ r. r.done) c.self.view_is) ∙ w.if-self.true)
    | then-self-via-else-self+then-self-gt-MOST_BYTES w ↦ inr (omega (arith, ap (λ r. r.taken) c.self.view_is, c.self.invariant.1, w.if-self-gt-MOST_BYTES.true))
  ];
}

pub take_piece-requires-clause-none : goal.take_piece-requires-clause-none
take_piece-requires-clause-none g c =
    none_in c.self.inside.bytes.items c.turns.self.kept c.self.inside.start c.turns.searched (ap (λ r. r.kept) c.self.view_is) c.turns.invariant.none
    (rw (c.deref.ensures.value, take_rest c.self.inside.bytes.items (c.self.inside.start + c.turns.searched)) at c.in_default.ensures)

pub returns-in_err-take_piece-clause-waits : goal.returns-in_err-take_piece-clause-waits
returns-in_err-take_piece-clause-waits g c = λ h.
    let none = none_in c.self.inside.bytes.items c.turns.self.kept c.self.inside.start c.turns.searched (ap (λ r. r.kept) c.self.view_is) c.turns.invariant.none
    (rw (c.deref.ensures.value, take_rest c.self.inside.bytes.items (c.self.inside.start + c.turns.searched)) at c.in_default.ensures) in
    true_is_not_false (has_feed c.args.self.now.kept) h (none_kept_before _ _ _ _ c.turns.invariant.adds none)

pub returns-in_err-take_piece-clause-fault : goal.returns-in_err-take_piece-clause-fault
returns-in_err-take_piece-clause-fault g c = λ h.
    let none = none_in c.self.inside.bytes.items c.turns.self.kept c.self.inside.start c.turns.searched (ap (λ r. r.kept) c.self.view_is) c.turns.invariant.none
    (rw (c.deref.ensures.value, take_rest c.self.inside.bytes.items (c.self.inside.start + c.turns.searched)) at c.in_default.ensures) in
    let same = c.in_err-take_piece.ensures.err in
    (ap (λ r. has_feed r.kept) same ∙ none, ap (λ r. r.done) same ∙ sym (ap (λ r. r.done) c.self.view_is) ∙ c.if-self.false)

pub turns-preserved : goal.turns-preserved
turns-preserved g c =
    let kept = ap (λ r. r.kept) c.self.view_is in
    let taken = ap (λ r. r.taken) c.self.view_is in
    let going : c.turns.self.done ≡ false = sym (ap (λ r. r.done) c.self.view_is) ∙ c.if-self.false in
    let none = none_in c.self.inside.bytes.items c.turns.self.kept c.self.inside.start c.turns.searched kept c.turns.invariant.none
    (rw (c.deref.ensures.value, take_rest c.self.inside.bytes.items (c.self.inside.start + c.turns.searched)) at c.in_default.ensures) in
    let adds = c.in_ok-take_piece.ensures.adds in
    let long : c.len.result - c.self.inside.start ≡ length c.turns.self.kept = omega (arith, ap length kept, length-drop {A = ℕ}, c.len.ensures) in
    record {
      adds = Adds-more _ _ _ _ _ _ none going c.turns.invariant.adds adds;
      searched = omega (arith, long, ap length adds.2, length-append {A = ℕ});
      none = none_in_old c.turns.self.kept _ adds.0 _ adds.2 long none;
      advanced = λ still. omega (arith, c.turns.invariant.advanced going, c.in_ok-take_piece.ensures.some still);
      turns = omega (arith, c.turns.invariant.advanced going, taken, c.if-self-gt-MOST_BYTES.false);
      waits = λ h. true_is_not_false (has_feed c.args.self.now.kept) h (none_kept_before _ _ _ _ c.turns.invariant.adds none);
      over = λ h. true_is_not_false c.turns.self.done (c.turns.invariant.adds.1.over h).2 going;
      steady = c.in_ok-take_piece.ensures.ok_steady ∙ c.turns.invariant.steady;
    }
