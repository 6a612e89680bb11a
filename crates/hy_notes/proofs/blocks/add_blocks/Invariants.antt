use Rattle.std.proofs.Common.{◌≡◌, ◌+◌, ◌≤◌, vec_len, vec_capacity}
use Rattle.std.specs.List.{AllByRecursion}
use Rattle.hy_notes.specs.Blocks.{IsBlank}
use Rattle.hy_notes.proofs.blocks.add_blocks.Given as goal

-- there are so many blocks, and room for them among either
abbrev pub invariant-loop-block : goal.invariant-loop-block
invariant-loop-block l = record {
  later : l.later.items ≡ l.initial.later.items;
  later_len : vec_len l.later ≡ vec_len l.initial.later;
  blank : AllByRecursion IsBlank l.blank.items;
  count : vec_len l.later + vec_len l.blank ≡ l._block;
  kept : vec_len l.initial.blank ≤ vec_len l.blank;
  room : vec_len l.later + vec_len l.blank ≤ vec_capacity l.later;
  blank_room : vec_len l.later + vec_len l.blank ≤ vec_capacity l.blank;
}
