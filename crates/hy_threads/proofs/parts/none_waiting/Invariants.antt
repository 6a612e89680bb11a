use Rattle.std.proofs.Common.{◌≡◌, vec_len}
use Rattle.hy_threads.proofs.parts.none_waiting.Given as goal

abbrev pub invariant-loop : goal.invariant-loop
invariant-loop l = vec_len l.waiting ≡ l.counter
