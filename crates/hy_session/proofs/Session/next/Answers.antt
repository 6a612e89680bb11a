use Rattle.hy_session.proofs.OrderedNotes.{open_rises, open_saved}
use Rattle.hy_session.proofs.Session.next.Goals as goal

pub needed_by-requires : goal.needed_by-requires
needed_by-requires c = record {
  order = open_rises c.self.inside.now c.in-Some-now.now c.self.invariant.2 c.in-Some-now.is;
  saved = open_saved c.self.inside.now c.in-Some-now.now c.self.invariant.2 c.in-Some-now.is;
}
