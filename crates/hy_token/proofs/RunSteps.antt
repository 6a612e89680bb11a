-- Steps of a run of bytes that pass a test, in a set that the loops over bytes name.
use Rattle.std.proofs.lemmas.List.Sums.{prefix_len-drop_yes, prefix_len-drop_no, prefix_len-drop_all}

pub ruleset run_steps = (prefix_len-drop_yes, prefix_len-drop_no, prefix_len-drop_all)
