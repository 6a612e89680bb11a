-- That wrong outcomes of transactions, and wrong starts, are refused.
use Rattle.std.proofs.Common.{refl, arith}
use Rattle.hy_lawful.specs.Outcomes.{is_label}
use Rattle.hy_cases.specs.Wrong.{WrongStarts}
use Rattle.hy_cases.proofs.Serial.{own_commit_not_seen_is_serial}
use Rattle.hy_cases.proofs.Differ.{differ, same_list}

pub wrong_starts : WrongStarts
wrong_starts = record {
  transaction_missing = λ claim. differ (same_list is_label) claim.transactions refl refl;
  transaction_twice = λ claim. differ (same_list is_label) claim.transactions refl refl;
  transactions_exchanged = λ claim. differ (same_list is_label) claim.transactions refl refl;
  start_behind_the_end = λ claim. absurd (omega (arith, claim.starts.1.0));
  start_falls_in_a_session = λ claim. absurd (omega (arith, claim.sessions.1.0.0.start));
  start_before_the_commit_of_the_session = record {
    serial = own_commit_not_seen_is_serial;
    refused = λ claim. absurd (omega (arith, claim.sessions.0.0.behind));
  };
  start_behind_the_own_commit = λ claim. absurd (omega (arith, claim.committed.0.later));
}
