-- A position with a first row.
use Rattle.std.proofs.Common.{◌≡◌, ℕ, ◌<◌, Bool, true, false, List, [], length, get_or, sym, subst}
use Rattle.std.proofs.Math.ListN.{set}
use Rattle.hy_value.specs.declared.Value.{Value}
use Rattle.hy_value.specs.declared.Kind.{Kind}
use Rattle.hy_undo.specs.Stock.{Stock}
use Rattle.hy_undo.specs.Images.{Image}
use Rattle.hy_undo.specs.Places.{Place}
use Rattle.hy_chunk.specs.Fields.{places_of, nth}
use Rattle.hy_chunk.specs.Sound.{FitsRow, FitsPlace, Sound}
use Rattle.hy_chunk.specs.Steps.{loaded_place}
use Rattle.hy_chunk.proofs.Places.{Fields, at, all, Changed, kept, put, put_there, in_rows, in_live, in_used, fits_there, changed_to, sound_changed}

module _ (f : Fields) (kinds : List Kind) (spare : Stock) (seen_places : List Place) (view : all f ≡ seen_places)
    (s : Sound kinds f.rows f.live f.used f.deaths f.chains spare) (place : ℕ) (l : place < length seen_places)
    (row : List Value) (fits : FitsRow kinds row) (now : List Kind) (same : now ≡ kinds) (rows : List (List Value)) (live used : List Bool)
    (rows_are : rows ≡ set f.rows place row) (live_is : live ≡ set f.live place true) (used_is : used ≡ set f.used place true) where
  abbrev new : Fields
  new = record f { rows = rows; live = live; used = used }

  changed : Changed place f new
  changed = record {
    rows = put [] place f.rows rows row rows_are;
    live = put false place f.live live true live_is;
    used = put false place f.used used true used_is;
    deaths = kept 0 place f.deaths;
    chains = kept [] place f.chains;
  }

  used_there : get_or used place false ≡ true
  used_there = put_there false place f.used used true (in_used f kinds spare seen_places view s place l) used_is

  here : at new place ≡ loaded_place row (at f place)
  here = λ i. record (at f place) {
    version = record {
      row = put_there [] place f.rows rows row (in_rows f kinds spare seen_places view s place l) rows_are i;
      live = put_there false place f.live live true (in_live f kinds spare seen_places view s place l) live_is i;
    };
    used = used_there i;
  }

  fits_loaded : FitsPlace kinds (loaded_place row (at f place))
  fits_loaded = record {
    row = fits;
    images = (fits_there f kinds spare seen_places view s place l).images;
    unused = record { row = λ free. absurd (cc); chain = λ free. absurd (cc) };
  }

  pub loaded_sound : Sound now rows live used f.deaths f.chains spare
  loaded_sound = sound_changed place f new kinds now spare spare same s changed (subst (FitsPlace kinds) (sym here) fits_loaded) s.ready

  pub loaded_places : places_of rows live used f.deaths f.chains ≡ set seen_places place (loaded_place row (nth seen_places place))
  loaded_places = changed_to place f new seen_places (loaded_place row) view changed l here
