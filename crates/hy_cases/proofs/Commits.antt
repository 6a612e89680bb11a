-- That it is refused that a transaction has committed, or has not, against its script or what others did.
use Rattle.std.proofs.Common.{refl, arith}
use Rattle.hy_cases.specs.Wrong.{WrongCommits}
use Rattle.hy_cases.proofs.Computed.{computed}
use Rattle.hy_cases.proofs.Serial.{commit_undone_is_serial}
use Rattle.hy_cases.proofs.Differ.{differ, not_true, not_false, same_option, same_number, same_replies, same_row}

pub wrong_commits : WrongCommits
unfolding computed
wrong_commits = record {
  lost_update_committed = record { lawful = search arith parts 12; refused = λ claim. differ (same_option same_row) claim.changes.1.0.0.before refl refl };
  update_over_one_that_was_not_seen = record {
    lawful = search arith parts 12;
    refused = λ claim. not_false (claim.replays.1.0.passed 0 (omega arith) (omega arith)).apart.0;
  };
  write_skew_committed = record { lawful = search arith parts 12; refused = λ claim. differ same_replies claim.replays.1.0.gives refl refl };
  phantom_missed = record { lawful = search arith parts 12; refused = λ claim. differ same_replies claim.replays.1.0.gives refl refl };
  hit_passed_over = record {
    lawful = search arith parts 12;
    refused = λ claim. differ (same_option same_number) (claim.replays.1.0.passed 0 (omega arith) (omega arith)).missed.0 refl refl;
  };
  hit_of_a_join_passed_over = record { lawful = search arith parts 12; refused = λ claim. differ same_replies claim.replays.1.0.gives refl refl };
  reader_committed = λ claim. absurd (omega (arith, claim.endings.0.wrote));
  rollback_committed = λ claim. not_true claim.endings.0.closes;
  committed_before_all_was_answered = λ claim. differ same_number claim.endings.0.answers refl refl;
  writer_only_read = λ claim. differ same_number claim.endings.0.wrote refl refl;
  rollback_only_read = λ claim. not_true claim.endings.0.closes;
  commit_rolled_back = record { serial = commit_undone_is_serial; refused = λ claim. not_true claim.endings.0.closes };
  rolled_back_before_all_was_answered = λ claim. differ same_number claim.endings.0.answers refl refl;
}
