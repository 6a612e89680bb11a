-- A position whose chain is pruned.
use Rattle.std.proofs.Common.{◌≡◌, ℕ, ◌<◌, false, List, [], length, get_or, refl, sym, ap, subst}
use Rattle.std.proofs.Math.ListN.{set}
use Rattle.hy_value.specs.declared.Kind.{Kind}
use Rattle.hy_prune.specs.declared.Cover.{Cover}
use Rattle.hy_chain.specs.Chains.{Undo}
use Rattle.hy_chain.specs.Pruning.{pruned}
use Rattle.hy_undo.specs.Stock.{Stock}
use Rattle.hy_undo.specs.Images.{Image, both}
use Rattle.hy_undo.specs.Places.{Place}
use Rattle.hy_undo.specs.Steps.{pruned_place}
use Rattle.hy_chunk.specs.Fields.{places_of, nth}
use Rattle.hy_chunk.specs.Sound.{FitsPlace, Sound}
use Rattle.hy_chunk.proofs.Places.{Fields, at, all, Changed, kept, put, put_there, in_chains, fits_there, changed_to, sound_changed}
use Rattle.hy_chunk.proofs.Fitting.{fits_pruned}

module _ (f : Fields) (kinds : List Kind) (spare : Stock) (seen_places : List Place) (view : all f ≡ seen_places)
    (s : Sound kinds f.rows f.live f.used f.deaths f.chains spare) (place : ℕ) (l : place < length seen_places)
    (cover : Cover) (chains : List (List (Undo Image))) (is : chains ≡ set f.chains place (pruned both cover (get_or f.chains place []))) where
  abbrev new : Fields
  new = record f { chains = chains }

  changed : Changed place f new
  changed = record {
    rows = kept [] place f.rows;
    live = kept false place f.live;
    used = kept false place f.used;
    deaths = kept 0 place f.deaths;
    chains = put [] place f.chains chains (pruned both cover (get_or f.chains place [])) is;
  }

  here : at new place ≡ pruned_place cover (at f place)
  here = ap (λ (c : List (Undo Image)). record (at f place) { chain = c })
      (put_there [] place f.chains chains (pruned both cover (get_or f.chains place [])) (in_chains f kinds spare seen_places view s place l) is)

  pub pruned_sound : Sound kinds f.rows f.live f.used f.deaths chains spare
  pruned_sound = sound_changed place f new kinds kinds spare spare refl s changed
      (subst (FitsPlace kinds) (sym here) (fits_pruned kinds cover (at f place) (fits_there f kinds spare seen_places view s place l))) s.ready

  pub pruned_places : places_of f.rows f.live f.used f.deaths chains ≡ set seen_places place (pruned_place cover (nth seen_places place))
  pruned_places = changed_to place f new seen_places (pruned_place cover) view changed l here
