use Rattle.std.proofs.Common.{◌≡◌, ℕ, ◌<◌, ◌≤◌, get_or}
use Rattle.hy_undo.specs.declared.noted.Noted.TheVariants.{Nothing}
use Rattle.hy_undo.specs.Images.{older_or}
use Rattle.hy_undo.specs.Noted.{noted_value}
use Rattle.hy_undo.proofs.merging.take_newer.Given as goal

-- the columns so far have the newer values where they had none, the others what they had
abbrev pub invariant-loop-column : goal.invariant-loop-column
invariant-loop-column l = record {
  done : (k : ℕ) → k < l.column → noted_value (get_or l.values k Nothing) ≡ older_or (noted_value (get_or l.initial.newer k Nothing)) (noted_value (get_or l.initial.values k Nothing));
  rest : (k : ℕ) → l.column ≤ k → get_or l.values k Nothing ≡ get_or l.initial.values k Nothing;
  left : (k : ℕ) → l.column ≤ k → get_or l.newer k Nothing ≡ get_or l.initial.newer k Nothing;
}
