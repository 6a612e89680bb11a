-- Each state that the machine comes to is kept, sentence by sentence.
use Rattle.hy_lawful.specs.Kept.{ReachedAreKept}
use Rattle.hy_lawful.proofs.KeptFits.{fits_kept}
use Rattle.hy_lawful.proofs.KeptStarts.{starts_kept, lows_kept, none_began}
use Rattle.hy_lawful.proofs.KeptRanks.{ranks_kept}
use Rattle.hy_lawful.proofs.KeptCounts.{few_kept}
use Rattle.hy_lawful.proofs.KeptEntries.{entries_kept, positions_kept, holders_kept, born_kept}

pub reached_are_kept : ReachedAreKept
reached_are_kept setting state same r = record {
  fits = fits_kept setting state same r;
  starts = starts_kept setting state r;
  lows_lie_low = lows_kept setting state r;
  ranks = ranks_kept setting state r;
  none_began_since = none_began setting state r;
  entries_are = entries_kept setting state r;
  positions_are_own = positions_kept setting state r;
  holders_apart = holders_kept setting state r;
  born_empty = born_kept setting state r;
  few = few_kept setting state r;
}
