-- A position with a new row.
use Rattle.std.proofs.Common.{◌≡◌, ℕ, ◌<◌, Bool, true, false, List, [], ◌∷◌, length, get_or, refl, sym, ap, ◌∙◌, subst}
use Rattle.std.proofs.Math.ListN.{set}
use Rattle.hy_value.specs.declared.Value.{Value}
use Rattle.hy_value.specs.declared.Kind.{Kind}
use Rattle.hy_stamp.specs.declared.Viewer.{Viewer}
use Rattle.hy_chain.specs.Chains.{Undo}
use Rattle.hy_undo.specs.declared.version.Version.{Version}
use Rattle.hy_undo.specs.Stock.{Stock}
use Rattle.hy_undo.specs.Images.{Image}
use Rattle.hy_undo.specs.Places.{Place}
use Rattle.hy_chunk.specs.Fields.{places_of, nth}
use Rattle.hy_chunk.specs.Sound.{FitsRow, FitsImage, FitsChain, FitsPlace, Sound}
use Rattle.hy_chunk.proofs.Places.{Fields, at, all, Changed, kept, put, put_there, in_rows, in_live, in_used, in_chains, fits_there, sound_changed}
use Rattle.hy_stamp.specs.declared.Label.{Label}
use Rattle.hy_undo.specs.Places.{is_free}
use Rattle.hy_undo.specs.Chunks.{Placed}
use Rattle.hy_undo.specs.Steps.{PlacesStep, placed_place, IsBlankUnused}
use Rattle.hy_chunk.specs.Sound.{AreReady, FitsNoted, blank_image}
use Rattle.hy_chunk.proofs.Fitting.{fits_blank}
use Rattle.hy_chunk.proofs.Places.{changed_there, nth_is}

module _ (f : Fields) (kinds : List Kind) (spare : Stock) (seen_places : List Place) (view : all f ≡ seen_places)
    (s : Sound kinds f.rows f.live f.used f.deaths f.chains spare) (place : ℕ) (l : place < length seen_places)
    (laws : PlacesStep) (viewer : Viewer) (label : Label) (row : List Value) (fits : FitsRow kinds row) (now : List Kind) (same : now ≡ kinds)
    (rows : List (List Value)) (live used : List Bool) (image : Image) (cleared chains : List (List (Undo Image)))
    (left : Stock) (blank : AreReady kinds left) (image_is : image ≡ blank_image (length kinds))
    (rows_are : rows ≡ set f.rows place row) (live_is : live ≡ set f.live place true) (used_is : used ≡ set f.used place true)
    (cleared_are : cleared ≡ set f.chains place [])
    (chains_are : chains ≡ set cleared place (record { stamp = record { owner = label; mark = viewer.id }; image = image } ∷ get_or cleared place [])) where
  abbrev new : Fields
  new = record f { rows = rows; live = live; used = used; chains = chains }

  abbrev version : Version
  version = record { row = row; live = true }

  abbrev top : Image → Undo Image
  top x = record { stamp = record { owner = label; mark = viewer.id }; image = x }

  cleared_there : get_or cleared place [] ≡ []
  cleared_there = put_there [] place f.chains cleared [] (in_chains f kinds spare seen_places view s place l) cleared_are

  twice : chains ≡ set f.chains place (top image ∷ [])
  twice = chains_are ∙ ((λ i. set (cleared_are i) place (top image ∷ cleared_there i))
      ∙ Rattle.std.proofs.lemmas.List.set-set f.chains place [] (top image ∷ []))

  changed : Changed place f new
  changed = record {
    rows = put [] place f.rows rows row rows_are;
    live = put false place f.live live true live_is;
    used = put false place f.used used true used_is;
    deaths = kept 0 place f.deaths;
    chains = put [] place f.chains chains (top image ∷ []) twice;
  }

  row_now : get_or rows place [] ≡ row
  row_now = put_there [] place f.rows rows row (in_rows f kinds spare seen_places view s place l) rows_are

  live_now : get_or live place false ≡ true
  live_now = put_there false place f.live live true (in_live f kinds spare seen_places view s place l) live_is

  used_now : get_or used place false ≡ true
  used_now = put_there false place f.used used true (in_used f kinds spare seen_places view s place l) used_is

  chain_now : get_or chains place [] ≡ top (blank_image (length kinds)) ∷ []
  chain_now = put_there [] place f.chains chains (top image ∷ []) (in_chains f kinds spare seen_places view s place l) twice
      ∙ ap (λ (x : Image). top x ∷ []) image_is

  here : at new place ≡ placed_place label viewer.id (blank_image (length kinds)) version (at f place)
  here = λ i. record { version = record { row = row_now i; live = live_now i }; used = used_now i; death = (at f place).death; chain = chain_now i }

  fits_now : FitsPlace kinds (placed_place label viewer.id (blank_image (length kinds)) version (at f place))
  fits_now = record {
    row = fits;
    images = (fits_blank kinds, (λ dead. refl), tt);
    unused = record { row = λ free. absurd (cc); chain = λ free. absurd (cc) };
  }

  pub placed_sound : Sound now rows live used f.deaths chains left
  placed_sound = sound_changed place f new kinds now spare left same s changed (subst (FitsPlace kinds) (sym here) fits_now) blank

  pub placed_places : places_of rows live used f.deaths chains ≡ set seen_places place (nth (places_of rows live used f.deaths chains) place)
  placed_places = (changed_there place f new seen_places view changed l).0

  pub placed : (watermark : ℕ) → is_free watermark (nth seen_places place) ≡ true
      → Placed viewer label watermark row (nth seen_places place) (nth (places_of rows live used f.deaths chains) place)
  placed watermark free =
      let there : nth seen_places place ≡ at f place = nth_is f seen_places place view l in
      let blank_unused : IsBlankUnused (at f place) = (fits_there f kinds spare seen_places view s place l).unused in
      subst (λ (p : Place). Placed viewer label watermark row p (nth (all new) place)) (sym there)
      (subst (λ (p : Place). Placed viewer label watermark row (at f place) p) (sym ((changed_there place f new seen_places view changed l).1 ∙ here))
      (laws.places viewer label watermark (blank_image (length kinds)) version (at f place) (ap (is_free watermark) (sym there) ∙ free) blank_unused refl refl))
