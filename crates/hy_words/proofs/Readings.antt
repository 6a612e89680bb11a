-- What std reads from the text of a match.
use Rattle.std.proofs.Common.{◌≡◌, ℕ, Bool, true, false, List, Option, Some, None, Result, Ok, Err, refl, arith, option_and_then}
use Rattle.std.specs.Prelude.{codes}
use Rattle.std.specs.Str.{bytes_eq}
use Rattle.std.specs.Str.Parse.{ParsesBool, ParsesUnsigned}
use Rattle.std.proofs.lemmas.Slice.Eq.{bytes_eq-Decides}
use Rattle.clap.specs.Words.{IsUnsignedIn}
use Rattle.clap.specs.Matches.{ReadsOne}
use Rattle.clap.specs.ValueTests.{is_unsigned_in}
use Rattle.clap.specs.declared.builder.value_parser.ValueParser.TheVariants as vp
use Rattle.clap.proofs.ValueTestLemmas.{Accepts-accepts, accepts-Accepts}
use Rattle.hy_words.specs.Words.{number_of, truth_of}

pub number_read : (E : Type 0) (G : List ℕ → Result ℕ E → Type 0) (t : List ℕ) (o : Option ℕ)
    → ((x : Result ℕ E) → G t x → ParsesUnsigned 32 10 t x) → ReadsOne G t o → o ≡ number_of t
number_read E G t (Some v) only h =
    let parsed = only (Ok v) h in
    let fits : IsUnsignedIn 0 4294967295 t = (parsed.0.0, omega arith, omega arith, omega arith) in
    let is : is_unsigned_in 0 4294967295 t ≡ true = Accepts-accepts false (vp.Unsigned 0 4294967295) t fits in
    rw (is, parsed.1) refl
number_read E G t None only h = go (is_unsigned_in 0 4294967295 t) refl
  where
    go : (b : Bool) → is_unsigned_in 0 4294967295 t ≡ b → None ≡ number_of t
    go true is =
        let fits : IsUnsignedIn 0 4294967295 t = accepts-Accepts false (vp.Unsigned 0 4294967295) t is in
        absurd (only (Err h.0) h.1 (fits.0, omega arith))
    go false is = rw is refl

pub truth_read : (E : Type 0) (t : List ℕ) (o : Option Bool) → ReadsOne {E = E} ParsesBool t o → o ≡ truth_of t
truth_read E t (Some true) h = rw h refl
truth_read E t (Some false) h = rw h refl
truth_read E t None h = go (bytes_eq t (codes "true")) (bytes_eq t (codes "false")) refl refl
  where
    go : (a b : Bool) → bytes_eq t (codes "true") ≡ a → bytes_eq t (codes "false") ≡ b → None ≡ truth_of t
    go true b e f = absurd (h.1.0 ((bytes_eq-Decides t (codes "true")).0 e))
    go false true e f = absurd (h.1.1 ((bytes_eq-Decides t (codes "false")).0 f))
    go false false e f = rw (e, f) refl

-- a getter answers what its reading gives of the text, where the matches have one
pub read_at : {T : Type 0} (of : List ℕ → Option T) (text : Option (List ℕ)) (o : Option T) → (text ≡ None → o ≡ None)
    → ((t : List ℕ) → text ≡ Some t → o ≡ of t) → o ≡ option_and_then of text
read_at of None o none some = none refl
read_at of (Some t) o none some = some t refl
