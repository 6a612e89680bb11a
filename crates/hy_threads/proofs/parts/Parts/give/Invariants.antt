use Rattle.std.proofs.Common.{Some}
use Rattle.hy_threads.proofs.parts.Parts.give.Given as goal

abbrev pub ghosts-give_as : goal.ghosts-give_as
ghosts-give_as g a = record { session = Some a.session.now }
