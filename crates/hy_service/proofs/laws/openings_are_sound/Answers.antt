use Rattle.hy_service.proofs.Openings.{Laws, opening_sound}
use Rattle.hy_service.proofs.laws.openings_are_sound.Goals as goal

pub returns : goal.returns
returns c =
    let desks = c.what_lines_come_to_fits.ensures in
    let laws : Laws = record {
      heard = desks.heard;
      begins = desks.begins;
      typed = c.what_is_bound_is_typed.ensures;
      between = c.sessions_stay_between_lines.ensures.begins;
    } in
    opening_sound laws desks.first
