use Rattle.hy_service.proofs.CanBeTaken.{Laws, lines_taken}
use Rattle.hy_service.proofs.laws.lines_can_be_taken.Goals as goal

pub returns : goal.returns
returns c =
    let laws : Laws = record {
      suit = c.what_lines_say_suits.ensures;
      keys = c.what_lines_come_to_fits.ensures.keys;
      typed = c.what_is_bound_is_typed.ensures;
    } in
    lines_taken laws
