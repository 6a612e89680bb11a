-- The turns of a schedule.
use Rattle.std.specs.List.{All, list_any}
use Rattle.std.specs.Option.{option_map_or}
use Rattle.std.proofs.Common.{◌≡◌, ℕ, ◌<◌, ◌≤◌, Bool, ◌||◌, ap, false, not, is_some, List, [], ◌∷◌, Option, Some, None, length, map, refl, arith}
use Rattle.std.proofs.lemmas.Bool.{or_parts}
use Rattle.std.proofs.lemmas.List.{length-map}
use Rattle.std.proofs.lemmas.List.Elements.{All-nil, All-cons, All-weaker}
use Rattle.std.proofs.lemmas.List.Quantifiers.{position-Some}
use Rattle.std.specs.Str.{bytes_eq}
use Rattle.hy_schema.specs.Names.{number_of}
use Rattle.hy_ast.specs.declared.Turn.{Turn}
use Rattle.hy_bind.specs.Literals.{text_of_span}
use Rattle.hy_bound.specs.declared.schedule.Item.{Item}
use Rattle.hy_bound.specs.Schedules.{FitsSchedule}
use Rattle.hy_script.specs.Growing.{item_at}
use Rattle.hy_script.specs.Refusals.{is_unknown_in, any_unknown_in}
use Rattle.hy_limits.specs.declared.TheConstants.{MOST_ITEMS}

known : (names : List (List ℕ)) (name : List ℕ) (number : Option ℕ) → number_of names name ≡ number → not (is_some number) ≡ false → option_map_or (λ n. n) number 0 < length names
known names name None is h = absurd cc
known names name (Some n) is h = (position-Some (bytes_eq name) names n [] is).0

turn_known : (script : List ℕ) (names : List (List ℕ)) (turn : Turn) → is_unknown_in script names turn ≡ false → (item_at script names turn).session < length names
unfolding is_unknown_in item_at
turn_known script names turn h = known names (text_of_span script turn.session) _ refl h

turns_known : (script : List ℕ) (names : List (List ℕ)) (turns : List Turn) → any_unknown_in script names turns ≡ false → All (λ (item : Item). item.session < length names) (map (item_at script names) turns)
turns_known script names [] h = All-nil (λ (item : Item). item.session < length names)
turns_known script names (turn ∷ turns) h =
    let parts = or_parts (is_unknown_in script names turn) (any_unknown_in script names turns) h in
    All-cons (λ (item : Item). item.session < length names) (item_at script names turn) (map (item_at script names) turns) (turn_known script names turn parts.0) (turns_known script names turns parts.1)

-- whether one of the turns names no session, as a list is searched
pub unknown_listed : (script : List ℕ) (names : List (List ℕ)) (turns : List Turn) → any_unknown_in script names turns ≡ list_any (is_unknown_in script names) turns
unknown_listed script names [] = refl
unknown_listed script names (turn ∷ turns) = ap (λ (rest : Bool). is_unknown_in script names turn || rest) (unknown_listed script names turns)

-- a schedule that is taken
pub schedule_fits : (script : List ℕ) (names : List (List ℕ)) (turns : List Turn) → any_unknown_in script names turns ≡ false → length turns ≤ MOST_ITEMS → FitsSchedule (length names) (map (item_at script names) turns)
schedule_fits script names turns h few =
    let many = length-map turns (item_at script names) in
    record { few = omega (arith, many, few); known = turns_known script names turns h }

-- with more sessions
pub schedule_kept : (sessions more : ℕ) (schedule : List Item) → sessions ≤ more → FitsSchedule sessions schedule → FitsSchedule more schedule
schedule_kept sessions more schedule h fits = record {
  few = fits.few;
  known = All-weaker (λ (item : Item). item.session < sessions) (λ (item : Item). item.session < more) (λ item below. omega (arith, below, h)) schedule fits.known;
}
