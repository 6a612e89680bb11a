-- A position that is written.
use Rattle.std.proofs.Common.{◌≡◌, ℕ, ◌<◌, Bool, true, false, List, [], ◌∷◌, length, get_or, refl, sym, ap, ◌∙◌, subst}
use Rattle.std.proofs.Math.ListN.{set}
use Rattle.hy_value.specs.declared.Value.{Value}
use Rattle.hy_value.specs.declared.Kind.{Kind}
use Rattle.hy_stamp.specs.declared.Stamp.{Stamp}
use Rattle.hy_stamp.specs.declared.Viewer.{Viewer}
use Rattle.hy_chain.specs.Chains.{Undo, newest, without_own}
use Rattle.hy_undo.specs.declared.version.Version.{Version}
use Rattle.hy_undo.specs.Stock.{Stock}
use Rattle.hy_undo.specs.Images.{Image}
use Rattle.hy_undo.specs.Places.{Place}
use Rattle.hy_chunk.specs.Fields.{places_of, nth}
use Rattle.hy_chunk.specs.Sound.{FitsRow, FitsImage, FitsChain, FitsPlace, Sound}
use Rattle.hy_chunk.proofs.Places.{Fields, at, all, Changed, kept, put, put_there, in_rows, in_live, in_chains, fits_there, sound_changed}
use Rattle.hy_stamp.specs.declared.Label.{Label}
use Rattle.hy_undo.specs.Places.{cell_of}
use Rattle.hy_undo.specs.Chunks.{Written, is_own}
use Rattle.hy_undo.specs.Steps.{PlacesStep}
use Rattle.hy_chunk.specs.Sound.{AreReady, FitsNoted, blank_image}
use Rattle.hy_chunk.specs.Noting.{changes_noted, own_stamp, own_or_blank}
use Rattle.hy_chunk.proofs.Over.{fits_length}
use Rattle.hy_chunk.proofs.Places.{changed_there, nth_is}
use Rattle.hy_chunk.proofs.Overwriting.{over_place, image_over, overwritten, over_fits, own_fits}

module _ (f : Fields) (kinds : List Kind) (spare : Stock) (seen_places : List Place) (view : all f ≡ seen_places)
    (s : Sound kinds f.rows f.live f.used f.deaths f.chains spare) (place : ℕ) (l : place < length seen_places)
    (viewer : Viewer) (label : Label) (version : Version) (fits : FitsRow kinds version.row)
    (was_live : is_own viewer.id (newest (nth seen_places place).chain) ≡ false → (nth seen_places place).version.live ≡ true) where
  there : nth seen_places place ≡ at f place
  there = nth_is f seen_places place view l

  live_there : is_own viewer.id (newest (at f place).chain) ≡ false → (at f place).version.live ≡ true
  live_there = subst (λ (p : Place). is_own viewer.id (newest p.chain) ≡ false → p.version.live ≡ true) there was_live

  -- the image that is taken
  module _ (taken : Image) (taken_is : taken ≡ own_or_blank (length kinds) viewer.id (get_or f.chains place [])) where
    pub taken_fits : FitsImage kinds taken.values
    taken_fits = subst (λ (x : Image). FitsImage kinds x.values) (sym taken_is)
        (own_fits kinds viewer.id (get_or f.chains place []) (fits_there f kinds spare seen_places view s place l).images)

    module _ (laws : PlacesStep) (now : List Kind) (same : now ≡ kinds) (rows : List (List Value)) (live : List Bool) (image : Image) (stamp : Stamp)
        (popped chains : List (List (Undo Image)))
        (left : Stock) (blank : AreReady kinds left)
        (rows_are : rows ≡ set f.rows place version.row) (live_is : live ≡ set f.live place version.live)
        (values_are : image.values ≡ changes_noted (get_or f.rows place []) version.row taken.values) (alive_is : image.live ≡ taken.live)
        (stamp_is : stamp ≡ own_stamp label viewer.id (newest (get_or f.chains place [])))
        (popped_are : popped ≡ set f.chains place (without_own viewer.id (get_or f.chains place [])))
        (chains_are : chains ≡ set popped place (record { stamp = stamp; image = image } ∷ get_or popped place [])) where
      abbrev new : Fields
      new = record f { rows = rows; live = live; chains = chains }

      abbrev behind : List (Undo Image)
      behind = without_own viewer.id (get_or f.chains place [])

      popped_there : get_or popped place [] ≡ behind
      popped_there = put_there [] place f.chains popped behind (in_chains f kinds spare seen_places view s place l) popped_are

      twice : chains ≡ set f.chains place (record { stamp = stamp; image = image } ∷ behind)
      twice = chains_are ∙ ((λ i. set (popped_are i) place (record { stamp = stamp; image = image } ∷ popped_there i))
          ∙ Rattle.std.proofs.lemmas.List.set-set f.chains place behind (record { stamp = stamp; image = image } ∷ behind))

      changed : Changed place f new
      changed = record {
        rows = put [] place f.rows rows version.row rows_are;
        live = put false place f.live live version.live live_is;
        used = kept false place f.used;
        deaths = kept 0 place f.deaths;
        chains = put [] place f.chains chains (record { stamp = stamp; image = image } ∷ behind) twice;
      }

      image_is : image ≡ image_over (at f place).version version (own_or_blank (length kinds) viewer.id (get_or f.chains place []))
      image_is = λ i. record {
        values = (values_are ∙ ap (λ (x : Image). changes_noted (get_or f.rows place []) version.row x.values) taken_is) i;
        live = (alive_is ∙ ap (λ (x : Image). x.live) taken_is) i;
      }

      row_now : get_or rows place [] ≡ version.row
      row_now = put_there [] place f.rows rows version.row (in_rows f kinds spare seen_places view s place l) rows_are

      live_now : get_or live place false ≡ version.live
      live_now = put_there false place f.live live version.live (in_live f kinds spare seen_places view s place l) live_is

      chain_now : get_or chains place [] ≡ record { stamp = stamp; image = image } ∷ behind
      chain_now = put_there [] place f.chains chains (record { stamp = stamp; image = image } ∷ behind)
          (in_chains f kinds spare seen_places view s place l) twice

      here : at new place ≡ over_place (length kinds) viewer label version (at f place)
      here = (λ i. record (at f place) { version = record { row = row_now i; live = live_now i }; chain = chain_now i })
          ∙ (λ i. record (at f place) { version = version; chain = record { stamp = stamp_is i; image = image_is i } ∷ behind })

      fits_now : FitsPlace kinds (at new place)
      fits_now = subst (FitsPlace kinds) (sym here)
          (over_fits kinds viewer label version (at f place) fits live_there (fits_there f kinds spare seen_places view s place l))

      pub written_sound : Sound now rows live f.used f.deaths chains left
      written_sound = sound_changed place f new kinds now spare left same s changed fits_now blank

      pub written_places : places_of rows live f.used f.deaths chains ≡ set seen_places place (nth (places_of rows live f.used f.deaths chains) place)
      written_places = (changed_there place f new seen_places view changed l).0

      pub written : Written viewer label (cell_of version) (nth seen_places place) (nth (places_of rows live f.used f.deaths chains) place)
      written =
          let old_size = fits_length kinds (at f place).version.row (fits_there f kinds spare seen_places view s place l).row in
          let new_size = fits_length kinds version.row fits in
          let does = overwritten laws viewer label version (at f place).version (at f place).used (at f place).death (length kinds)
          (new_size ∙ sym old_size) old_size
          kinds (at f place).chain refl live_there (fits_there f kinds spare seen_places view s place l).images in
          subst (λ (p : Place). Written viewer label (cell_of version) p (nth (all new) place)) (sym there)
          (subst (λ (p : Place). Written viewer label (cell_of version) (at f place) p)
          (sym ((changed_there place f new seen_places view changed l).1 ∙ here)) does)
