-- A session that works at a statement has no entry.
use Rattle.std.proofs.Common.{◌≡◌, Option, None, Some, true, false, refl}
use Rattle.hy_bound.specs.declared.Bound.{Bound}
use Rattle.hy_event.specs.declared.SessionData.{SessionData}
use Rattle.hy_event.specs.declared.Open.{Open}
use Rattle.hy_protocol.specs.declared.Phase.{Phase}
use Rattle.hy_protocol.specs.declared.Phase.TheVariants.{Working, Stamping, Undoing}
use Rattle.hy_protocol.specs.Turns.{is_stamping}
use Rattle.hy_session.specs.Entered.{entry_in, has_entry}
use Rattle.hy_session.specs.Preparing.{statement_by, statement_in, statement_of}
use Rattle.hy_session.specs.Visitors.{is_reading, reads_at, reads_in}

works_by : (session : SessionData) (now : Open) (at : Phase) (statement : Bound) → statement_by session now at ≡ Some statement → is_stamping at ≡ false
works_by session now (Working visited count) statement e = refl
works_by session now (Stamping visited) statement e = absurd (cc e)
works_by session now (Undoing visited cause) statement e = refl

works_in : (session : SessionData) (open_one : Option Open) (statement : Bound) → statement_of session open_one ≡ Some statement → entry_in open_one ≡ false
works_in session None statement e = refl
works_in session (Some now) statement e = works_by session now now.phase statement e

pub works_without : (session : SessionData) (statement : Bound) → statement_in session ≡ Some statement → has_entry session ≡ false
works_without session statement e = works_in session session.now statement e

reads_by : (session : SessionData) (now : Open) (at : Phase) → reads_at session now at ≡ true → is_stamping at ≡ false
reads_by session now (Working visited count) e = refl
reads_by session now (Stamping visited) e = absurd (cc e)
reads_by session now (Undoing visited cause) e = refl

reads_without_in : (session : SessionData) (open_one : Option Open) → reads_in session open_one ≡ true → entry_in open_one ≡ false
reads_without_in session None e = refl
reads_without_in session (Some now) e = reads_by session now now.phase e

pub reads_without : (session : SessionData) → is_reading session ≡ true → has_entry session ≡ false
reads_without session e = reads_without_in session session.now e
