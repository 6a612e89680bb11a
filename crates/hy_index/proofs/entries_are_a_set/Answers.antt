use Rattle.hy_index.proofs.Membership.{adds_one, takes_one, finds_keys}
use Rattle.hy_index.proofs.entries_are_a_set.Goals as goal

pub returns : goal.returns
returns c = record { adds = adds_one; takes = takes_one; finds = finds_keys }
