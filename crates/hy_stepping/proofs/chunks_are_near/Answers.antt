use Rattle.hy_stepping.proofs.NearChunks.{near_chunks}
use Rattle.hy_stepping.proofs.chunks_are_near.Goals as goal

pub returns : goal.returns
returns c = near_chunks (record {
  kept = c.reached_states_are_kept.ensures;
  differ = c.identifiers_are_apart.ensures.one;
  there = c.needed_chunks_are_there.ensures;
  rows = c.reached_rows_meet_demands.ensures;
  keys = c.reached_keys_stay.ensures;
  behind = c.own_records_tell.ensures.behind;
  seen = c.own_records_tell.ensures.seen;
})
