-- How chains lie in a slab.
use Rattle.std.specs.Prelude.{◌≡◌, ◌≢◌, ◌⊎◌, ℕ, zero, suc, ◌<◌, ◌≤◌, List, [], ◌∷◌, Option, None, Some, length, map, sum_by, slice_index_or}
use Rattle.slab.specs.Slab.{Slab, get, slab_len}
use Rattle.hy_chain.specs.declared.lists.Head.{Head}
use Rattle.hy_chain.specs.declared.lists.Node.{Node}
use Rattle.hy_chain.specs.Chains.{Undo}

module _ {D : Type 0} where
  -- the record of a node
  abbrev pub undo_of : Node D → Undo D
  undo_of node = record { stamp = node.stamp; image = node.image }

  -- a record in front of those behind it, where there is one
  abbrev pub in_front : (ℕ → List (Undo D)) → Option (Node D) → List (Undo D)
  in_front rest None = []
  in_front rest (Some node) = undo_of node ∷ rest node.older

  -- so many records, from a key on
  abbrev pub walk : Slab (Node D) → ℕ → ℕ → List (Undo D)
  walk nodes zero key = []
  walk nodes (suc len) key = in_front (walk nodes len) (get nodes key)

  -- the chain of a head
  abbrev pub chain_at : Slab (Node D) → Head → List (Undo D)
  chain_at nodes head = walk nodes head.len head.key

  abbrev pub chains_of : Slab (Node D) → List Head → List (List (Undo D))
  chains_of nodes heads = map (chain_at nodes) heads

  -- so many records lie there, from a key on, under these keys
  abbrev pub Lies : Slab (Node D) → ℕ → ℕ → List ℕ → Type 0
  Lies nodes zero key [] = Unit {0}
  Lies nodes zero key (k ∷ keys) = ⊥
  Lies nodes (suc len) key [] = ⊥
  Lies nodes (suc len) key (k ∷ keys) = (key ≡ k) × ((node : Node D) × (get nodes k ≡ Some node) × Lies nodes len node.older keys)

-- a key is one of these
abbrev pub Has : ℕ → List ℕ → Type 0
Has key [] = ⊥
Has key (k ∷ keys) = (k ≡ key) ⊎ Has key keys

-- no key is there twice
abbrev pub Once : List ℕ → Type 0
Once [] = Unit {0}
Once (k ∷ keys) = (Has k keys → ⊥) × Once keys

abbrev pub no_head : Head
no_head = record { len = 0; key = 0 }

-- each chain lies whole in the slab, and no node is in two chains or twice in one
pub record Sound {D : Type 0} (nodes : Slab (Node D)) (heads : List Head) : Type 0 where
  -- the keys of each chain
  pub keys : ℕ → List ℕ
  pub lies : (pos : ℕ) → pos < length heads → Lies nodes (slice_index_or heads pos no_head).len (slice_index_or heads pos no_head).key (keys pos)
  pub once : (pos : ℕ) → pos < length heads → Once (keys pos)
  pub apart : (pos other : ℕ) → pos ≢ other → pos < length heads → other < length heads → (key : ℕ) → Has key (keys pos) → Has key (keys other) → ⊥
  -- there are no more records than values
  pub few : sum_by (λ head. head.len) heads ≤ slab_len nodes
