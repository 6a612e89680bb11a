-- What a visit leaves may be given back.
use Rattle.std.proofs.Common.{◌≡◌, ◌⊎◌, inl, inr, Result, Ok, Err, IfOk, OnErr}
use Rattle.std.specs.declared.alloc.AllocError.{AllocError}
use Rattle.hy_threads.specs.declared.worked.Visited.{Visited}
use Rattle.hy_threads.specs.declared.worked.Visited.TheVariants.{Moved, Answered, Blocked}
use Rattle.hy_threads.specs.Visits.{Visits}

module _ {S D : Type 0} (event : S → D → S → D → Type 0) (is_blocked : S → D → Type 0) where
  visited : (v : Visited) (s : S) (p : D) (t : S) (q : D) → Visits event is_blocked v s p t q → event s p t q ⊎ ((t ≡ s) × (q ≡ p))
  visited Moved s p t q h = inl h.0
  visited Answered s p t q h = inl h.0
  visited Blocked s p t q h = inr (h.1, h.2)

  -- an event, or no change, whether the visit was made or found no memory
  pub may_be_given : (r : Result Visited AllocError) (s : S) (p : D) (t : S) (q : D) → IfOk r (λ v. Visits event is_blocked v s p t q)
      → OnErr r ((t ≡ s) × (q ≡ p)) → event s p t q ⊎ ((t ≡ s) × (q ≡ p))
  may_be_given (Ok v) s p t q ok err = visited v s p t q ok
  may_be_given (Err e) s p t q ok err = inr err
