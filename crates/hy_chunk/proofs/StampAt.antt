-- A position whose own record is stamped.
use Rattle.std.proofs.Common.{◌≡◌, ℕ, ◌<◌, Bool, false, List, [], length, get_or, Option, refl, sym, ◌∙◌, subst}
use Rattle.std.specs.Prelude.{if◌then◌else◌}
use Rattle.std.proofs.Math.ListN.{set}
use Rattle.hy_value.specs.declared.Kind.{Kind}
use Rattle.hy_stamp.specs.declared.Stamp.{Stamp}
use Rattle.hy_chain.specs.Chains.{Undo, newest, stamped}
use Rattle.hy_undo.specs.Stock.{Stock}
use Rattle.hy_undo.specs.Images.{Image}
use Rattle.hy_undo.specs.Places.{Place}
use Rattle.hy_undo.specs.Chunks.{is_own}
use Rattle.hy_undo.specs.Steps.{stamped_place}
use Rattle.hy_chunk.specs.Fields.{places_of, nth}
use Rattle.hy_chunk.specs.Sound.{FitsPlace, Sound}
use Rattle.hy_chunk.proofs.Places.{Fields, at, all, Changed, kept, put, put_there, in_deaths, in_chains, fits_there, changed_to, sound_changed}
use Rattle.hy_chunk.proofs.Fitting.{fits_stamped}

module _ (f : Fields) (kinds : List Kind) (spare : Stock) (seen_places : List Place) (view : all f ≡ seen_places)
    (s : Sound kinds f.rows f.live f.used f.deaths f.chains spare) (place : ℕ) (l : place < length seen_places)
    (id time : ℕ) (deaths : List ℕ) (chains : List (List (Undo Image))) (top : Option Stamp) (live : Bool) (old death : ℕ)
    (top_is : top ≡ newest (get_or f.chains place [])) (live_is : live ≡ get_or f.live place false) (old_is : old ≡ get_or f.deaths place 0)
    (death_is : death ≡ (if is_own id top then (if live then old else time) else old))
    (deaths_are : deaths ≡ set f.deaths place death) (is : chains ≡ set f.chains place (stamped id time (get_or f.chains place []))) where
  abbrev new : Fields
  new = record f { deaths = deaths; chains = chains }

  changed : Changed place f new
  changed = record {
    rows = kept [] place f.rows;
    live = kept false place f.live;
    used = kept false place f.used;
    deaths = put 0 place f.deaths deaths death deaths_are;
    chains = put [] place f.chains chains (stamped id time (get_or f.chains place [])) is;
  }

  death_there : get_or deaths place 0 ≡ (stamped_place id time (at f place)).death
  death_there =
      put_there 0 place f.deaths deaths death (in_deaths f kinds spare seen_places view s place l) deaths_are
      ∙ (death_is ∙ λ i. if is_own id (top_is i) then (if live_is i then old_is i else time) else old_is i)

  chain_there : get_or chains place [] ≡ stamped id time (get_or f.chains place [])
  chain_there = put_there [] place f.chains chains (stamped id time (get_or f.chains place [])) (in_chains f kinds spare seen_places view s place l) is

  here : at new place ≡ stamped_place id time (at f place)
  here = λ i. record (at f place) { death = death_there i; chain = chain_there i }

  pub stamped_sound : Sound kinds f.rows f.live f.used deaths chains spare
  stamped_sound = sound_changed place f new kinds kinds spare spare refl s changed
      (subst (FitsPlace kinds) (sym here)
      (fits_stamped kinds id time (stamped_place id time (at f place)).death (at f place) (fits_there f kinds spare seen_places view s place l))) s.ready

  pub stamped_places : places_of f.rows f.live f.used deaths chains ≡ set seen_places place (stamped_place id time (nth seen_places place))
  stamped_places = changed_to place f new seen_places (stamped_place id time) view changed l here
