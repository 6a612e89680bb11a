-- What is seen at a position.
use Rattle.std.proofs.Common.{Bool, true, false, List, [], ◌∷◌, cond}
use Rattle.hy_value.specs.declared.Kind.{Kind}
use Rattle.hy_stamp.specs.declared.Viewer.{Viewer}
use Rattle.hy_chain.specs.Chains.{Undo, newest, seen, stamped, marked, own_image, without_own}
use Rattle.hy_undo.specs.declared.version.Version.{Version}
use Rattle.hy_undo.specs.Images.{Image, before}
use Rattle.hy_chunk.specs.Sound.{FitsRow, FitsChain}
use Rattle.hy_chunk.proofs.Fitting.{fits_put_back}

-- what is seen through a chain fits
pub seen_fits : (kinds : List Kind) (viewer : Viewer) (version : Version) (chain : List (Undo Image)) → FitsRow kinds version.row → FitsChain kinds chain
    → FitsRow kinds (seen before viewer version chain).row
seen_fits kinds viewer version [] r f = r
seen_fits kinds viewer version (undo ∷ older) r f =
    elim (Rattle.hy_chain.specs.Chains.stops viewer undo.stamp.mark) as (λ (b : Bool). FitsRow kinds
    (cond b version (seen before viewer (before undo.image version) older)).row) [
      | true ↦ r
      | false ↦ seen_fits kinds viewer (before undo.image version) older (fits_put_back kinds version.row undo.image.values r f.0) f.2
    ]
