-- A chunk whose positions changed.
use Rattle.std.proofs.Common.{◌≡◌, ℕ, List, Option, length, sym, ◌∙◌, arith}
use Rattle.hy_value.specs.declared.Kind.{Kind}
use Rattle.hy_undo.specs.Places.{Place}
use Rattle.hy_chunk.specs.declared.settled.Settled.{Settled}
use Rattle.hy_chunk.specs.Views.{Whole}
use Rattle.hy_chunk.specs.Settled.{Settles}
use Rattle.hy_chunk.specs.Whole.{IsWhole}

-- what contracts see, by its parts
abbrev pub whole_of : ℕ → ℕ → Option ℕ → List Kind → List Place → ℕ → Whole
whole_of table first key kinds places room = record {
  shown = record { table = table; first = first; width = length kinds; key = key; places = places };
  kinds = kinds;
  room = room;
}

pub still_whole : (first many width seen next now_first now_many now_width now_seen now_next : ℕ)
    {settled now_settled : Settled} {places now_places : List Place}
    → IsWhole first many width seen next settled places → now_first ≡ first → now_many ≡ many → now_width ≡ width
    → now_seen ≡ width → now_next ≡ width → Settles now_settled now_places
    → IsWhole now_first now_many now_width now_seen now_next now_settled now_places
still_whole first many width seen next now_first now_many now_width now_seen now_next was f m w s n settles = record {
  numbered = omega (arith, was.numbered, f, m);
  wide = s ∙ sym w;
  next_wide = n ∙ sym w;
  settles = settles;
}
