use Rattle.hy_service.proofs.Taken.{taking_sound}
use Rattle.hy_service.proofs.laws.taking_stays_sound.Goals as goal

pub returns : goal.returns
returns c =
    taking_sound (record {
      heard = c.what_lines_come_to_fits.ensures.heard;
      ended = c.what_lines_come_to_fits.ensures.ended;
      go_on = c.lines_go_on.ensures.go_on;
      whole = c.lines_go_on.ensures.whole;
      closed = c.lines_are_answered.ensures.closed;
      others = c.lines_are_answered.ensures.others;
      between = c.sessions_stay_between_lines.ensures.goes_on;
      runnable = c.lines_are_shown.ensures.runnable;
      typed = c.lines_are_shown.ensures.typed;
    }) c.lines_can_be_taken.ensures
