-- A position whose own record is undone.
use Rattle.std.proofs.Common.{◌≡◌, ℕ, ◌<◌, Bool, true, false, List, [], ◌∷◌, length, get_or, None, Some, refl, sym, ap, ◌∙◌, cond, subst}
use Rattle.std.specs.Prelude.{◌==◌, ◌&&◌, ◌||◌, not}
use Rattle.std.proofs.Math.ListN.{set}
use Rattle.hy_value.specs.declared.Value.{Value}
use Rattle.hy_value.specs.declared.Kind.{Kind}
use Rattle.hy_chain.specs.Chains.{Undo, own_image, without_own}
use Rattle.hy_undo.specs.declared.version.Version.{Version}
use Rattle.hy_undo.specs.Stock.{Stock}
use Rattle.hy_undo.specs.Images.{Image, before, put_back}
use Rattle.hy_undo.specs.Places.{Place}
use Rattle.hy_undo.specs.Steps.{undone_place, undone_by}
use Rattle.hy_chunk.specs.Fields.{places_of, nth}
use Rattle.hy_chunk.specs.Sound.{FitsRow, FitsImage, FitsChain, FitsPlace, Sound}
use Rattle.hy_chunk.proofs.Places.{Fields, at, all, Changed, kept, put, put_there, in_rows, in_live, in_used, in_chains, fits_there, changed_to, sound_changed}
use Rattle.hy_chunk.proofs.Fitting.{fits_undone, fits_put_back}

-- the newest record is not of this identifier
not_own : (id : ℕ) (version : Version) (used : Bool) (death : ℕ) (chain : List (Undo Image)) → own_image id chain ≡ None
    → record { version = version; used = used; death = death; chain = without_own id chain } ≡ undone_by id
    (record { version = version; used = used; death = death; chain = chain }) chain
not_own id version used death [] none = refl
not_own id version used death (undo ∷ older) none =
    elim (undo.stamp.mark == id) as (λ (b : Bool). cond b (Some undo.image) None ≡ None
    → ◌≡◌ {A = Place} (record { version = version; used = used; death = death; chain = cond b older (undo ∷ older) })
    (cond b (record { version = before undo.image version; used = used && (undo.image.live || not (death == 0)); death = death; chain = older })
    (record { version = version; used = used; death = death; chain = undo ∷ older }))) [
      | true ↦ λ e. absurd (cc)
      | false ↦ λ e. refl
    ] none

-- the newest record is of this identifier
own_undone : (id : ℕ) (version : Version) (used : Bool) (death : ℕ) (chain : List (Undo Image)) (image : Image) → Some image ≡ own_image id chain
    → record { version = before image version; used = used && (image.live || not (death == 0)); death = death; chain = without_own id chain }
    ≡ undone_by id (record { version = version; used = used; death = death; chain = chain }) chain
own_undone id version used death [] image some = absurd (cc)
own_undone id version used death (undo ∷ older) image some =
    elim (undo.stamp.mark == id) as (λ (b : Bool). Some image ≡ cond b (Some undo.image) None
    → ◌≡◌ {A = Place} (record {
      version = before image version;
      used = used && (image.live || not (death == 0));
      death = death;
      chain = cond b older
          (undo ∷ older);
    })
    (cond b (record { version = before undo.image version; used = used && (undo.image.live || not (death == 0)); death = death; chain = older })
    (record { version = version; used = used; death = death; chain = undo ∷ older }))) [
      | true ↦ λ e. let same : image ≡ undo.image = cc in
          let place : Image → Place = λ x. record
          { version = before x version; used = used && (x.live || not (death == 0)); death = death; chain = older } in ap place same
      | false ↦ λ e. absurd (cc)
    ] some

own_fits : (kinds : List Kind) (id : ℕ) (chain : List (Undo Image)) (image : Image) → FitsChain kinds chain → Some image ≡ own_image id chain
    → FitsImage kinds image.values
own_fits kinds id [] image f some = absurd (cc)
own_fits kinds id (undo ∷ older) image f some =
    elim (undo.stamp.mark == id) as (λ (b : Bool). Some image ≡ cond b (Some undo.image) None → FitsImage kinds image.values) [
      | true ↦ λ e. let same : image ≡ undo.image = cc in subst (λ (x : Image). FitsImage kinds x.values) (sym same) f.0
      | false ↦ λ e. absurd (cc)
    ] some

module _ (f : Fields) (kinds : List Kind) (spare : Stock) (seen_places : List Place) (view : all f ≡ seen_places)
    (s : Sound kinds f.rows f.live f.used f.deaths f.chains spare) (place : ℕ) (l : place < length seen_places)
    (id : ℕ) (chains : List (List (Undo Image))) (is : chains ≡ set f.chains place (without_own id (get_or f.chains place []))) where
  chain_there : get_or chains place [] ≡ without_own id (get_or f.chains place [])
  chain_there = put_there [] place f.chains chains (without_own id (get_or f.chains place [])) (in_chains f kinds spare seen_places view s place l) is

  fits_now : FitsPlace kinds (undone_place id (at f place))
  fits_now = fits_undone kinds id (at f place).version (at f place).used (at f place).death (at f place).chain
      (fits_there f kinds spare seen_places view s place l)

  -- nothing to undo
  module _ (none : own_image id (get_or f.chains place []) ≡ None) where
    abbrev left : Fields
    left = record f { chains = chains }

    left_changed : Changed place f left
    left_changed = record {
      rows = kept [] place f.rows;
      live = kept false place f.live;
      used = kept false place f.used;
      deaths = kept 0 place f.deaths;
      chains = put [] place f.chains chains (without_own id (get_or f.chains place [])) is;
    }

    left_here : at left place ≡ undone_place id (at f place)
    left_here = ap (λ (c : List (Undo Image)). record (at f place) { chain = c }) chain_there
        ∙ not_own id (at f place).version (at f place).used (at f place).death (at f place).chain none

    pub left_sound : Sound kinds f.rows f.live f.used f.deaths chains spare
    left_sound = sound_changed place f left kinds kinds spare spare refl s left_changed (subst (FitsPlace kinds) (sym left_here) fits_now) s.ready

    pub left_places : places_of f.rows f.live f.used f.deaths chains ≡ set seen_places place (undone_place id (nth seen_places place))
    left_places = changed_to place f left seen_places (undone_place id) view left_changed l left_here

  -- a before-image is put back
  module _ (image : Image) (some : Some image ≡ own_image id (get_or f.chains place [])) (read : List Value) (was : Bool) (version : Version)
      (read_is : read ≡ get_or f.rows place []) (version_is : version ≡ before image (record { row = read; live = was })) where
    version_there : version ≡ before image (at f place).version
    version_there = version_is ∙ ap (λ (r : List Value). record { row = put_back r image.values; live = image.live }) read_is

    pub version_fits : FitsRow kinds version.row
    version_fits = subst (λ (v : Version). FitsRow kinds v.row) (sym version_there)
        (fits_put_back kinds (at f place).version.row image.values (fits_there f kinds spare seen_places view s place l).row
        (own_fits kinds id (get_or f.chains place []) image (fits_there f kinds spare seen_places view s place l).images some))

    module _ (now : List Kind) (same : now ≡ kinds) (rows : List (List Value)) (live used : List Bool) (was_used is_used : Bool) (death : ℕ)
        (rows_are : rows ≡ set f.rows place version.row) (live_is : live ≡ set f.live place version.live)
        (was_used_is : was_used ≡ get_or f.used place false) (death_is : death ≡ get_or f.deaths place 0)
        (is_used_is : is_used ≡ (was_used && (version.live || not (death == 0)))) (used_is : used ≡ set f.used place is_used) where
      abbrev new : Fields
      new = record f { rows = rows; live = live; used = used; chains = chains }

      changed : Changed place f new
      changed = record {
        rows = put [] place f.rows rows version.row rows_are;
        live = put false place f.live live version.live live_is;
        used = put false place f.used used is_used used_is;
        deaths = kept 0 place f.deaths;
        chains = put [] place f.chains chains (without_own id (get_or f.chains place [])) is;
      }

      row_there : get_or rows place [] ≡ (before image (at f place).version).row
      row_there = put_there [] place f.rows rows version.row (in_rows f kinds spare seen_places view s place l) rows_are
          ∙ ap (λ (v : Version). v.row) version_there

      live_there : get_or live place false ≡ image.live
      live_there = put_there false place f.live live version.live (in_live f kinds spare seen_places view s place l) live_is
          ∙ ap (λ (v : Version). v.live) version_there

      used_there : get_or used place false ≡ ((at f place).used && (image.live || not ((at f place).death == 0)))
      used_there = put_there false place f.used used is_used (in_used f kinds spare seen_places view s place l) used_is
          ∙ (is_used_is ∙ λ i. was_used_is i && ((version_there i).live || not (death_is i == 0)))

      here : at new place ≡ undone_place id (at f place)
      here = (λ i. record {
        version = record { row = row_there i; live = live_there i };
        used = used_there i;
        death = (at f place).death;
        chain = chain_there i;
      }) ∙ own_undone id (at f place).version (at f place).used (at f place).death (at f place).chain image some

      pub undone_sound : Sound now rows live used f.deaths chains spare
      undone_sound = sound_changed place f new kinds now spare spare same s changed (subst (FitsPlace kinds) (sym here) fits_now) s.ready

      pub undone_places : places_of rows live used f.deaths chains ≡ set seen_places place (undone_place id (nth seen_places place))
      undone_places = changed_to place f new seen_places (undone_place id) view changed l here
