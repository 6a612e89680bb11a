use Rattle.hy_laws.proofs.Keys.{read_where_wanted}
use Rattle.hy_laws.proofs.look_ups.wanted_rows_are_read_by_key.Goals as goal

pub returns : goal.returns
returns c = read_where_wanted
