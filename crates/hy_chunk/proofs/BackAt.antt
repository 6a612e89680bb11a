-- A position at which a row, or none, is put back over the viewer's own record.
use Rattle.std.proofs.Common.{◌≡◌, ◌≢◌, ℕ, ◌<◌, ◌≤◌, Bool, true, false, List, [], ◌∷◌, length, get_or, map, Option, None, Some, refl, sym, ap, ◌∙◌, cond, subst, inl, inr, arith}
use Rattle.std.specs.Prelude.{◌==◌, ◌&&◌, ◌||◌, nat_lt, not}
use Rattle.std.proofs.Math.ListN.{set}
use Rattle.std.proofs.lemmas.Bool.{cases_Bool, eqb-true, eq-eqb, le-ltb, ne_eqb}
use Rattle.std.proofs.lemmas.List.{get_or-set_same}
use Rattle.hy_value.specs.declared.Value.{Value}
use Rattle.hy_value.specs.declared.Kind.{Kind}
use Rattle.hy_stamp.specs.declared.Label.{Label}
use Rattle.hy_stamp.specs.declared.Stamp.{Stamp}
use Rattle.hy_stamp.specs.declared.Viewer.{Viewer}
use Rattle.hy_chain.specs.Chains.{Undo, before_newest, newest, seen, stops}
use Rattle.hy_undo.specs.declared.version.Version.{Version}
use Rattle.hy_undo.specs.Images.{Image, before, put_back}
use Rattle.hy_undo.specs.Places.{Place, Cell, IsOther, cell_of, sees}
use Rattle.hy_undo.specs.Chunks.{Written, is_own, own_first}
use Rattle.hy_undo.specs.Steps.{PlacesStep}
use Rattle.hy_chunk.specs.Backing.{MayGoBack, behind, emptied_place}
use Rattle.hy_notes.specs.Spares.{cell_width, cell_texts}
use Rattle.hy_undo.specs.Stock.{Stock}
use Rattle.hy_chunk.specs.Fields.{nth, blank_with, places_of}
use Rattle.hy_chunk.specs.Keyed.{SameKey, SparesKey}
use Rattle.hy_chunk.specs.Sound.{FitsRow, FitsChain, FitsPlace, Sound, most_texts}
use Rattle.hy_chunk.specs.Steps.{IsPut, loaded_place}
use Rattle.hy_chunk.proofs.Fitting.{fits_put_back}
use Rattle.hy_chunk.proofs.Over.{fits_length}
use Rattle.hy_chunk.proofs.Overwriting.{used_there}
use Rattle.hy_chunk.proofs.Places.{Fields, all, at, Changed, kept, put, put_there, in_live, fits_there, changed_to, sound_changed}
use Rattle.hy_chunk.proofs.Setting.{then_same}
use Rattle.hy_chunk.proofs.Spared.{put_back_spares}
use Rattle.hy_chunk.proofs.TextRoom.{texts_fit}

-- a chain whose newest record is of an identifier
pub record BeginsOwn (id : ℕ) (chain : List (Undo Image)) : Type 0 where
  pub undo : Undo Image
  pub older : List (Undo Image)
  pub is : chain ≡ undo ∷ older
  pub own : undo.stamp.mark ≡ id

pub begins_own : (id : ℕ) (chain : List (Undo Image)) → is_own id (newest chain) ≡ true → BeginsOwn id chain
begins_own id [] e = absurd (cc)
begins_own id (undo ∷ older) e = record { undo = undo; older = older; is = refl; own = eqb-true undo.stamp.mark id e }

-- what stood before the newest record fits
pub behind_fits : (kinds : List Kind) (version : Version) (chain : List (Undo Image)) → FitsRow kinds version.row → FitsChain kinds chain
    → FitsRow kinds (before_newest before version chain).row
behind_fits kinds version [] r f = r
behind_fits kinds version (undo ∷ older) r f = fits_put_back kinds version.row undo.image.values r f.0

-- and has the key that is in place
pub behind_spares : (key : ℕ) (version : Version) (chain : List (Undo Image)) → SparesKey key chain
    → SameKey (Some key) (before_newest before version chain).row version.row
behind_spares key version [] s = refl
behind_spares key version (undo ∷ older) s = put_back_spares version.row undo.image.values key s.0

-- the stamps of a chain that begins with an own record are as after a write
own_stays : (label : Label) (id : ℕ) (chain : List (Undo Image)) → BeginsOwn id chain
    → map (λ (undo : Undo Image). undo.stamp) chain ≡ own_first label id (map (λ (undo : Undo Image). undo.stamp) chain)
own_stays label id chain b =
    let stamps : List Stamp = map (λ (undo : Undo Image). undo.stamp) b.older in
    let kept : ◌≡◌ {A = List Stamp} (b.undo.stamp ∷ stamps) (own_first label id (b.undo.stamp ∷ stamps)) =
    ap (λ (own : Bool). cond own (b.undo.stamp ∷ stamps) (record { owner = label; mark = id } ∷ b.undo.stamp ∷ stamps)) (sym (eq-eqb b.undo.stamp.mark id b.own)) in
    subst (λ (c : List (Undo Image)). map (λ (undo : Undo Image). undo.stamp) c ≡ own_first label id (map (λ (undo : Undo Image). undo.stamp) c)) (sym b.is) kept

-- its viewer stops at it, and others go past it
own_stops : (viewer : Viewer) (mark : ℕ) → mark ≡ viewer.id → stops viewer mark ≡ true
own_stops viewer mark e = ap (λ (b : Bool). b || nat_lt mark viewer.start) (eq-eqb mark viewer.id e)

other_goes : (id mark : ℕ) (other : Viewer) → mark ≡ id → IsOther id other → stops other mark ≡ false
other_goes id mark other e o =
    ap (λ (m : ℕ). stops other m) e ∙ (λ i. ne_eqb id other.id o.other i || le-ltb id other.start o.start i)

module _ (laws : PlacesStep) (viewer : Viewer) (label : Label) (place : Place) (begins : BeginsOwn viewer.id place.chain) where
  -- no row is in place any more
  pub emptied : Written viewer label None place (emptied_place place)
  emptied =
      subst (Written viewer label None place)
      (λ i. record (emptied_place place) { chain = sym begins.is i })
      (laws.rewrites viewer label begins.undo begins.older begins.undo.image (record place.version { live = false }) place begins.is begins.own refl)

  -- where no row was before, a row in place is seen by its viewer alone
  module _ (row : List Value) (alone : begins.older ≡ []) (none : begins.undo.image.live ≡ false) (used : place.used ≡ true) where
    abbrev chain_is : place.chain ≡ begins.undo ∷ []
    chain_is = begins.is ∙ ap (λ (older : List (Undo Image)). begins.undo ∷ older) alone

    -- what others see of any version in place
    nothing : (other : Viewer) (version : Version) → IsOther viewer.id other → cell_of (seen before other version place.chain) ≡ None
    nothing other version o =
        ap (λ (chain : List (Undo Image)). cell_of (seen before other version chain)) chain_is
        ∙ (ap (λ (b : Bool). cell_of (cond b version (before begins.undo.image version))) (other_goes viewer.id begins.undo.stamp.mark other begins.own o)
        ∙ ap (λ (live : Bool). cond live (Some (put_back version.row begins.undo.image.values)) None) none)

    pub loaded : Written viewer label (Some row) place (loaded_place row place)
    loaded = record {
      own =
          ap (λ (chain : List (Undo Image)). cell_of (seen before viewer (record { row = row; live = true }) chain)) chain_is
          ∙ ap (λ (b : Bool). cell_of (cond b (record { row = row; live = true }) (before begins.undo.image (record { row = row; live = true }))))
          (own_stops viewer begins.undo.stamp.mark begins.own);
      others = λ other o. nothing other (record { row = row; live = true }) o ∙ sym (nothing other place.version o);
      stamps = own_stays label viewer.id place.chain begins;
      used = sym used;
      death = refl;
    }

-- the cell of a version
cell_there : (version : Version) → version.live ≡ true → cell_of version ≡ Some version.row
cell_there version live = ap (λ (b : Bool). cond b (Some version.row) None) live

cell_gone : (version : Version) → version.live ≡ false → cell_of version ≡ None
cell_gone version gone = ap (λ (b : Bool). cond b (Some version.row) None) gone

cell_row : (row other : List Value) (live : Bool) → cond live (Some row) None ≡ Some other → row ≡ other
cell_row row other true e = cc
cell_row row other false e = absurd (cc)

-- a row that is there fits where the version's does
pub cell_fits : (kinds : List Kind) (version : Version) → FitsRow kinds version.row → (row : List Value) → cell_of version ≡ Some row → FitsRow kinds row
cell_fits kinds version fits row e = subst (FitsRow kinds) (cell_row version.row row version.live e) fits

pub within_width : (kinds : List Kind) (width : ℕ) (cell : Cell) → ((row : List Value) → cell ≡ Some row → FitsRow kinds row) → length kinds ≤ width
    → cell_width cell ≤ width
within_width kinds width None fits l = omega arith
within_width kinds width (Some row) fits l = let size = fits_length kinds row (fits row refl) in omega (arith, size, l)

pub within_texts : (kinds : List Kind) (texts : ℕ) (cell : Cell) → ((row : List Value) → cell ≡ Some row → FitsRow kinds row) → most_texts kinds ≤ texts
    → cell_texts cell ≤ texts
within_texts kinds texts None fits l = omega arith
within_texts kinds texts (Some row) fits l = let size = texts_fit kinds row (fits row refl) in omega (arith, size, l)

-- the row before the newest record has the key in place
behind_same : (key : Option ℕ) (place : Place) → ((k : ℕ) → key ≡ Some k → SparesKey k place.chain) → SameKey key (behind place).row place.version.row
behind_same None place spares = tt
behind_same (Some k) place spares = behind_spares k place.version place.chain (spares k refl)

-- one position is put so
pub put_so : (does : Place → Place → Type 0) (olds news : List Place) (k : ℕ) (place : Place) → k < length olds → news ≡ set olds k place
    → does (nth olds k) place → IsPut k does olds news
put_so does olds news k place l is here =
    let there : nth news k ≡ place = ap (λ (places : List Place). nth places k) is ∙ get_or-set_same olds k place (blank_with []) l in
    record { others = is ∙ ap (set olds k) (sym there); here = subst (does (nth olds k)) (sym there) here }

-- what is put back where the viewer may
module _ (kinds : List Kind) (key : Option ℕ) (viewer : Viewer) (version : Version) (place : Place)
    (may : MayGoBack kinds key viewer.id (cell_of version) place) where
  pub back_fits : version.live ≡ true → FitsRow kinds version.row
  back_fits live = may.fits version.row (cell_there version live)

  pub back_same_key : (was : Version) → was ≡ behind place → ((k : ℕ) → key ≡ Some k → SparesKey k place.chain) → version.live ≡ true → was.live ≡ true
      → SameKey key version.row place.version.row
  back_same_key was is spares live there =
      then_same key version.row (behind place).row place.version.row
      (may.same_key version.row (behind place).row (cell_there version live) (cell_there (behind place) (sym (ap (λ (v : Version). v.live) is) ∙ there)))
      (behind_same key place spares)

  module _ (laws : PlacesStep) (label : Label) where
    pub back_emptied : version.live ≡ false → Written viewer label (cell_of version) place (emptied_place place)
    back_emptied gone =
        subst (λ (cell : Cell). Written viewer label cell place (emptied_place place)) (sym (cell_gone version gone))
        (emptied laws viewer label place (begins_own viewer.id place.chain may.own))

    pub back_loaded : (was : Version) → was ≡ behind place → FitsPlace kinds place → version.live ≡ true → was.live ≡ false
        → Written viewer label (cell_of version) place (loaded_place version.row place)
    back_loaded was is fits live gone =
        let begins = begins_own viewer.id place.chain may.own in
        let behind_is : behind place ≡ before begins.undo.image place.version =
        ap (λ (chain : List (Undo Image)). before_newest before place.version chain) begins.is in
        let none : begins.undo.image.live ≡ false = sym (ap (λ (v : Version). v.live) behind_is) ∙ (sym (ap (λ (v : Version). v.live) is) ∙ gone) in
        let chain : FitsChain kinds (begins.undo ∷ begins.older) = subst (FitsChain kinds) begins.is fits.images in
        let used : place.used ≡ true = used_there viewer.id place (λ other. absurd (let own = may.own in cc)) fits.unused in
        subst (λ (cell : Cell). Written viewer label cell place (loaded_place version.row place)) (sym (cell_there version live))
        (loaded laws viewer label place begins version.row (chain.1 none) none used)

-- no row is in place any more
pub no_both : (b : Bool) → true ≡ not (b && false)
no_both true = refl
no_both false = refl

module _ (f : Fields) (kinds : List Kind) (spare : Stock) (seen_places : List Place) (view : all f ≡ seen_places)
    (s : Sound kinds f.rows f.live f.used f.deaths f.chains spare) (place : ℕ) (l : place < length seen_places)
    (live : List Bool) (live_is : live ≡ set f.live place false) where
  abbrev left : Fields
  left = record f { live = live }

  changed : Changed place f left
  changed = record {
    rows = kept [] place f.rows;
    live = put false place f.live live false live_is;
    used = kept false place f.used;
    deaths = kept 0 place f.deaths;
    chains = kept [] place f.chains;
  }

  live_there : get_or live place false ≡ false
  live_there = put_there false place f.live live false (in_live f kinds spare seen_places view s place l) live_is

  here : at left place ≡ emptied_place (at f place)
  here = λ i. record (at f place) { version = record { row = (at f place).version.row; live = live_there i } }

  fits_now : FitsPlace kinds (emptied_place (at f place))
  fits_now =
      let was = fits_there f kinds spare seen_places view s place l in
      record { row = was.row; images = was.images; unused = record { row = λ free. refl; chain = was.unused.chain } }

  pub emptied_sound : Sound kinds f.rows live f.used f.deaths f.chains spare
  emptied_sound = sound_changed place f left kinds kinds spare spare refl s changed (subst (FitsPlace kinds) (sym here) fits_now) s.ready

  pub emptied_places : places_of f.rows live f.used f.deaths f.chains ≡ set seen_places place (emptied_place (nth seen_places place))
  emptied_places = changed_to place f left seen_places emptied_place view changed l here
