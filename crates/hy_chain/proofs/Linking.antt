-- Chains in a slab, one of them changed.
use Rattle.std.proofs.Common.{◌≡◌, ◌≢◌, ℕ, zero, suc, ◌+◌, ◌-◌, ◌<◌, ◌≤◌, Bool, true, false, List, [], ◌∷◌, length, map, replicate, get_or, Option, None, Some, refl, sym, ap, ◌∙◌, cond, inl, inr, arith, subst}
use Rattle.std.specs.Prelude.{◌==◌, sum_by}
use Rattle.std.proofs.Math.ListN.{set}
use Rattle.std.proofs.lemmas.Bool.{cases_eq, eq-eqb, ne_eqb}
use Rattle.std.proofs.lemmas.List.{get_or-set_same, get_or-set_other, length-set, length-map}
use Rattle.std.proofs.lemmas.List.Sums.{sum_by-set, sum_by-cons, get_or-le-sum_by}
use Rattle.hy_stamp.specs.declared.Stamp.{Stamp}
use Rattle.slab.specs.Slab.{Slab, get, slab_len, Updates}
use Rattle.hy_chain.specs.declared.lists.Head.{Head}
use Rattle.hy_chain.specs.declared.lists.Node.{Node}
use Rattle.hy_stamp.specs.declared.Viewer.{Viewer}
use Rattle.hy_chain.specs.Chains.{Undo, newest, stops, seen}
use Rattle.hy_chain.specs.Links.{undo_of, in_front, walk, chain_at, chains_of, Lies, Has, Once, no_head, Sound}

map_same : {A B : Type 0} (f g : A → B) (xs : List A) (d : A) → ((j : ℕ) → j < length xs → g (get_or xs j d) ≡ f (get_or xs j d)) → map g xs ≡ map f xs
map_same f g [] d h = refl
map_same {A} {B} f g (x ∷ xs) d h =
    let first : g x ≡ f x = h 0 (omega arith) in
    let rest = map_same f g xs d (λ j l. h (suc j) (omega arith)) in
    ap (λ (y : B). y ∷ map g xs) first ∙ ap (λ (ys : List B). f x ∷ ys) rest

-- one item is another one, and of the others the map is the same
map_changed : {A B : Type 0} (f g : A → B) (xs : List A) (i : ℕ) (x : A) (y : B) (d : A) → i < length xs
    → ((j : ℕ) → j ≢ i → j < length xs → g (get_or xs j d) ≡ f (get_or xs j d)) → g x ≡ y → map g (set xs i x) ≡ set (map f xs) i y
map_changed f g [] i x y d l h e = absurd (omega arith)
map_changed {A} {B} f g (z ∷ zs) zero x y d l h e =
    let rest = map_same f g zs d (λ j m. h (suc j) (λ q. absurd (omega (arith, q))) (omega arith)) in
    ap (λ (w : B). w ∷ map g zs) e ∙ ap (λ (ws : List B). y ∷ ws) rest
map_changed {A} {B} f g (z ∷ zs) (suc i) x y d l h e =
    let first : g z ≡ f z = h 0 (λ q. absurd (omega (arith, q))) (omega arith) in
    let rest = map_changed f g zs i x y d (omega arith) (λ j ne m. h (suc j) (λ q. ne (omega (arith, q))) (omega arith)) e in
    ap (λ (w : B). w ∷ map g (set zs i x)) first ∙ ap (λ (ws : List B). f z ∷ ws) rest

get_or_map : {A B : Type 0} (f : A → B) (xs : List A) (i : ℕ) (d : A) (e : B) → i < length xs → get_or (map f xs) i e ≡ f (get_or xs i d)
get_or_map f [] i d e l = absurd (omega arith)
get_or_map f (x ∷ xs) zero d e l = refl
get_or_map f (x ∷ xs) (suc i) d e l = get_or_map f xs i d e (omega arith)

-- within a list the default doesn't count
get_or_any : {A : Type 0} (xs : List A) (i : ℕ) (d e : A) → i < length xs → get_or xs i d ≡ get_or xs i e
get_or_any [] i d e l = absurd (omega arith)
get_or_any (x ∷ xs) zero d e l = refl
get_or_any (x ∷ xs) (suc i) d e l = get_or_any xs i d e (omega arith)

with_keys : ℕ → List ℕ → (ℕ → List ℕ) → ℕ → List ℕ
with_keys pos ks keys j = cond (j == pos) ks (keys j)

with_same : (pos : ℕ) (ks : List ℕ) (keys : ℕ → List ℕ) (j : ℕ) → j ≡ pos → with_keys pos ks keys j ≡ ks
unfolding with_keys
with_same pos ks keys j e = ap (λ (b : Bool). cond b ks (keys j)) (eq-eqb j pos e)

with_other : (pos : ℕ) (ks : List ℕ) (keys : ℕ → List ℕ) (j : ℕ) → j ≢ pos → with_keys pos ks keys j ≡ keys j
unfolding with_keys
with_other pos ks keys j e = ap (λ (b : Bool). cond b ks (keys j)) (ne_eqb j pos e)

-- the head that was read is the one in the list
pub head_at : (heads : List Head) (pos : ℕ) (head : Head) → pos < length heads → head ≡ get_or heads pos head → head ≡ get_or heads pos no_head
head_at heads pos head l e = e ∙ get_or_any heads pos head no_head l

blank_at : (n pos : ℕ) → get_or (replicate n no_head) pos no_head ≡ no_head
blank_at zero pos = refl
blank_at (suc n) zero = refl
blank_at (suc n) (suc pos) = blank_at n pos

blank_sum : (n : ℕ) → sum_by (λ (h : Head). h.len) (replicate n no_head) ≡ 0
blank_sum zero = refl
blank_sum (suc n) = let e = sum_by-cons (λ (h : Head). h.len) no_head (replicate n no_head) in let r = blank_sum n in omega (arith, e, r)

module _ {D : Type 0} where
  -- a chain whose nodes stay lies as it lay
  pub lies_still : (old new : Slab (Node D)) (len key : ℕ) (keys : List ℕ) → ((k : ℕ) → Has k keys → get new k ≡ get old k) → Lies old len key keys → Lies new len key keys
  lies_still old new zero key [] same lies = tt
  lies_still old new zero key (k ∷ keys) same lies = absurd lies
  lies_still old new (suc len) key [] same lies = absurd lies
  lies_still old new (suc len) key (k ∷ keys) same lies =
      let node = lies.1.0 in
      (lies.0, (node, same k (inl refl) ∙ lies.1.1, lies_still old new len node.older keys (λ j h. same j (inr h)) lies.1.2))

  pub walk_node : (nodes : Slab (Node D)) (len key k : ℕ) (node : Node D) → key ≡ k → get nodes k ≡ Some node → walk nodes (suc len) key ≡ undo_of node ∷ walk nodes len node.older
  walk_node nodes len key k node e h = ap (λ (j : ℕ). in_front (walk nodes len) (get nodes j)) e ∙ ap (in_front (walk nodes len)) h

  pub walk_still : (old new : Slab (Node D)) (len key : ℕ) (keys : List ℕ) → ((k : ℕ) → Has k keys → get new k ≡ get old k) → Lies old len key keys → walk new len key ≡ walk old len key
  walk_still old new zero key keys same lies = refl
  walk_still old new (suc len) key [] same lies = absurd lies
  walk_still old new (suc len) key (k ∷ keys) same lies =
      let node = lies.1.0 in
      walk_node new len key k node lies.0 (same k (inl refl) ∙ lies.1.1)
      ∙ (ap (λ (rest : List (Undo D)). undo_of node ∷ rest) (walk_still old new len node.older keys (λ j h. same j (inr h)) lies.1.2)
      ∙ sym (walk_node old len key k node lies.0 lies.1.1))

  -- under the keys of a chain there are nodes
  pub there : (nodes : Slab (Node D)) (len key : ℕ) (keys : List ℕ) (k : ℕ) → Lies nodes len key keys → Has k keys → (node : Node D) × (get nodes k ≡ Some node)
  there nodes zero key [] k lies has = absurd has
  there nodes zero key (j ∷ keys) k lies has = absurd lies
  there nodes (suc len) key [] k lies has = absurd lies
  there nodes (suc len) key (j ∷ keys) k lies has =
      elim has [
        | inl is ↦ (lies.1.0, subst (λ (i : ℕ). get nodes i ≡ Some lies.1.0) is lies.1.1)
        | inr later ↦ there nodes len lies.1.0.older keys k lies.1.2 later
      ]

  -- one chain is changed: it lies under keys of its own, and the nodes of the others stay
  pub record Changed (old new : Slab (Node D)) (heads : List Head) (sound : Sound old heads) (pos : ℕ) (head : Head) (ks : List ℕ) : Type 0 where
    pub within : pos < length heads
    pub same : (j : ℕ) → j ≢ pos → j < length heads → (k : ℕ) → Has k (sound.keys j) → get new k ≡ get old k
    pub lies : Lies new head.len head.key ks
    pub once : Once ks
    pub apart : (j : ℕ) → j ≢ pos → j < length heads → (k : ℕ) → Has k ks → Has k (sound.keys j) → ⊥
    pub few : sum_by (λ (h : Head). h.len) (set heads pos head) ≤ slab_len new

  pub changed_sound : (old new : Slab (Node D)) (heads : List Head) (sound : Sound old heads) (pos : ℕ) (head : Head) (ks : List ℕ)
      → Changed old new heads sound pos head ks → Sound new (set heads pos head)
  changed_sound old new heads sound pos head ks c = record {
    keys = with_keys pos ks sound.keys;
    lies = λ j l. elim (cases_eq j pos) [
      | inl e ↦
          let at : get_or (set heads pos head) j no_head ≡ head = ap (λ (i : ℕ). get_or (set heads pos head) i no_head) e ∙ get_or-set_same heads pos head no_head c.within in
          subst (λ (h : Head). Lies new h.len h.key (with_keys pos ks sound.keys j)) (sym at)
          (subst (λ (xs : List ℕ). Lies new head.len head.key xs) (sym (with_same pos ks sound.keys j e)) c.lies)
      | inr ne ↦
          let at : get_or (set heads pos head) j no_head ≡ get_or heads j no_head = get_or-set_other heads pos j head no_head ne in
          let m : j < length heads = omega (arith, l, length-set heads pos head) in
          subst (λ (h : Head). Lies new h.len h.key (with_keys pos ks sound.keys j)) (sym at)
          (subst (λ (xs : List ℕ). Lies new (get_or heads j no_head).len (get_or heads j no_head).key xs) (sym (with_other pos ks sound.keys j ne))
          (lies_still old new (get_or heads j no_head).len (get_or heads j no_head).key (sound.keys j) (c.same j ne m) (sound.lies j m)))
    ];
    once = λ j l. elim (cases_eq j pos) [
      | inl e ↦ subst Once (sym (with_same pos ks sound.keys j e)) c.once
      | inr ne ↦ subst Once (sym (with_other pos ks sound.keys j ne)) (sound.once j (omega (arith, l, length-set heads pos head)))
    ];
    apart = λ i j ne li lj k hi hj.
        let mi : i < length heads = omega (arith, li, length-set heads pos head) in
        let mj : j < length heads = omega (arith, lj, length-set heads pos head) in
        elim (cases_eq i pos) [
          | inl e ↦
              let nj : j ≢ pos = λ q. ne (e ∙ sym q) in
              c.apart j nj mj k (subst (Has k) (with_same pos ks sound.keys i e) hi) (subst (Has k) (with_other pos ks sound.keys j nj) hj)
          | inr ni ↦ elim (cases_eq j pos) [
            | inl e ↦ c.apart i ni mi k (subst (Has k) (with_same pos ks sound.keys j e) hj) (subst (Has k) (with_other pos ks sound.keys i ni) hi)
            | inr nj ↦ sound.apart i j ne mi mj k (subst (Has k) (with_other pos ks sound.keys i ni) hi) (subst (Has k) (with_other pos ks sound.keys j nj) hj)
          ]
        ];
    few = c.few;
  }

  pub changed_chains : (old new : Slab (Node D)) (heads : List Head) (sound : Sound old heads) (pos : ℕ) (head : Head) (ks : List ℕ) (chain : List (Undo D))
      → Changed old new heads sound pos head ks → walk new head.len head.key ≡ chain → chains_of new (set heads pos head) ≡ set (chains_of old heads) pos chain
  changed_chains old new heads sound pos head ks chain c is =
      map_changed (chain_at old) (chain_at new) heads pos head chain no_head c.within
      (λ j ne m. walk_still old new (get_or heads j no_head).len (get_or heads j no_head).key (sound.keys j) (c.same j ne m) (sound.lies j m)) is

  pub chain_read : (nodes : Slab (Node D)) (heads : List Head) (pos : ℕ) (head : Head) → pos < length heads → head ≡ get_or heads pos head
      → get_or (chains_of nodes heads) pos [] ≡ walk nodes head.len head.key
  chain_read nodes heads pos head l e = get_or_map (chain_at nodes) heads pos head [] l ∙ ap (chain_at nodes) (sym e)

  pub own_lies : (nodes : Slab (Node D)) (heads : List Head) (sound : Sound nodes heads) (pos : ℕ) (head : Head) → pos < length heads → head ≡ get_or heads pos head
      → Lies nodes head.len head.key (sound.keys pos)
  own_lies nodes heads sound pos head l e = subst (λ (h : Head). Lies nodes h.len h.key (sound.keys pos)) (sym (head_at heads pos head l e)) (sound.lies pos l)

  -- a chain has as many records as its head says
  pub walk_length : (nodes : Slab (Node D)) (len key : ℕ) (keys : List ℕ) → Lies nodes len key keys → length (walk nodes len key) ≡ len
  walk_length nodes zero key keys lies = refl
  walk_length nodes (suc len) key [] lies = absurd lies
  walk_length nodes (suc len) key (k ∷ keys) lies =
      let node = lies.1.0 in
      let here : get nodes key ≡ Some node = ap (get nodes) lies.0 ∙ lies.1.1 in
      ap (λ (found : Option (Node D)). length (in_front (walk nodes len) found)) here ∙ ap suc (walk_length nodes len node.older keys lies.1.2)

  -- a vacant key is in no chain
  pub fresh : (nodes : Slab (Node D)) (len at : ℕ) (keys : List ℕ) (key : ℕ) → get nodes key ≡ None → Lies nodes len at keys → Has key keys → ⊥
  fresh nodes len at keys key vacant lies has = let node = there nodes len at keys key lies has in absurd (let e = node.1 in cc)

  pub pushed : (old new : Slab (Node D)) (heads : List Head) (sound : Sound old heads) (pos : ℕ) (head : Head) (key : ℕ) (stamp : Stamp) (image : D)
      → pos < length heads → head ≡ get_or heads pos head → get old key ≡ None → Updates old new key (Some (record { stamp = stamp; image = image; older = head.key }))
      → slab_len new ≡ slab_len old + 1
      → Changed old new heads sound pos (record { len = head.len + 1; key = key }) (key ∷ sound.keys pos)
  pushed old new heads sound pos head key stamp image l e vacant updates more =
      let node : Node D = record { stamp = stamp; image = image; older = head.key } in
      let at = head_at heads pos head l e in
      let own = own_lies old heads sound pos head l e in
      let stay : (len from : ℕ) (keys : List ℕ) → Lies old len from keys → (k : ℕ) → Has k keys → get new k ≡ get old k =
      λ len from keys lies k has. updates.others k (λ q. fresh old len from keys key vacant lies (subst (λ (i : ℕ). Has i keys) q has)) in
      let one : head.len + 1 ≡ suc head.len = omega arith in
      record {
        within = l;
        same = λ j ne m. stay (get_or heads j no_head).len (get_or heads j no_head).key (sound.keys j) (sound.lies j m);
        lies = subst (λ (n : ℕ). Lies new n key (key ∷ sound.keys pos)) (sym one)
            (refl, (node, updates.changed, lies_still old new head.len head.key (sound.keys pos) (stay head.len head.key (sound.keys pos) own) own));
        once = (λ has. fresh old head.len head.key (sound.keys pos) key vacant own has, sound.once pos l);
        apart = λ j ne m k mine others. elim mine [
          | inl is ↦ fresh old (get_or heads j no_head).len (get_or heads j no_head).key (sound.keys j) key vacant (sound.lies j m) (subst (λ (i : ℕ). Has i (sound.keys j)) (sym is) others)
          | inr old_one ↦ sound.apart pos j (λ q. ne (sym q)) l m k old_one others
        ];
        few = let sums = sum_by-set (λ (h : Head). h.len) heads pos (record { len = head.len + 1; key = key }) no_head l in
            let few = sound.few in
            let here : (get_or heads pos no_head).len ≡ head.len = ap (λ (h : Head). h.len) (sym at) in
            omega (arith, sums, few, here, more);
      }

  pub pushed_walk : (old new : Slab (Node D)) (heads : List Head) (sound : Sound old heads) (pos : ℕ) (head : Head) (key : ℕ) (stamp : Stamp) (image : D)
      → pos < length heads → head ≡ get_or heads pos head → get old key ≡ None → Updates old new key (Some (record { stamp = stamp; image = image; older = head.key }))
      → walk new (head.len + 1) key ≡ record { stamp = stamp; image = image } ∷ get_or (chains_of old heads) pos []
  pushed_walk old new heads sound pos head key stamp image l e vacant updates =
      let node : Node D = record { stamp = stamp; image = image; older = head.key } in
      let own = own_lies old heads sound pos head l e in
      let one : head.len + 1 ≡ suc head.len = omega arith in
      let front = λ (rest : List (Undo D)). undo_of node ∷ rest in
      ap (λ (n : ℕ). walk new n key) one
      ∙ (walk_node new head.len key key node refl updates.changed
      ∙ (ap front (walk_still old new head.len head.key (sound.keys pos) (λ k has. updates.others k (λ q. fresh old head.len head.key (sound.keys pos) key vacant own (subst (λ (i : ℕ). Has i (sound.keys pos)) q has))) own)
      ∙ ap front (sym (chain_read old heads pos head l e))))

  pub len_fits : (nodes : Slab (Node D)) (heads : List Head) (sound : Sound nodes heads) (pos : ℕ) (head : Head) → pos < length heads → head ≡ get_or heads pos head → head.len ≤ slab_len nodes
  len_fits nodes heads sound pos head l e =
      let one = get_or-le-sum_by (λ (h : Head). h.len) heads pos head l in
      let here : (get_or heads pos head).len ≡ head.len = ap (λ (h : Head). h.len) (sym e) in
      let few = sound.few in
      omega (arith, one, here, few)

  pub length_chains : (nodes : Slab (Node D)) (heads : List Head) → length (chains_of nodes heads) ≡ length heads
  length_chains nodes heads = length-map heads (chain_at nodes)

  -- what lies there, by the first node
  pub opened : (nodes : Slab (Node D)) (len key : ℕ) (node : Node D) → 0 < len → get nodes key ≡ Some node
      → walk nodes len key ≡ undo_of node ∷ walk nodes (len - 1) node.older
  opened nodes zero key node some at = absurd (omega arith)
  opened nodes (suc len) key node some at =
      let less : len ≡ suc len - 1 = omega arith in
      walk_node nodes len key key node refl at ∙ ap (λ (n : ℕ). undo_of node ∷ walk nodes n node.older) less

  pub opened_twice : (nodes : Slab (Node D)) (len key : ℕ) (newest second : Node D) → 1 < len → get nodes key ≡ Some newest
      → get nodes newest.older ≡ Some second → walk nodes len key ≡ undo_of newest ∷ undo_of second ∷ walk nodes (len - 2) second.older
  opened_twice nodes len key newest second two at next =
      let less : len - 1 - 1 ≡ len - 2 = omega arith in
      opened nodes len key newest (omega (arith, two)) at
      ∙ ap (λ (rest : List (Undo D)). undo_of newest ∷ rest)
      (opened nodes (len - 1) newest.older second (omega (arith, two)) next ∙ ap (λ (n : ℕ). undo_of second ∷ walk nodes n second.older) less)

  pub ended : (nodes : Slab (Node D)) (len key : ℕ) → get nodes key ≡ None → walk nodes len key ≡ []
  ended nodes zero key none = refl
  ended nodes (suc len) key none = ap (in_front (walk nodes len)) none

  -- the newest record of a chain that has one, and the keys of the others
  pub record Parted (nodes : Slab (Node D)) (len key : ℕ) (keys : List ℕ) (node : Node D) : Type 0 where
    pub rest : List ℕ
    pub keys_are : keys ≡ key ∷ rest
    pub lies : Lies nodes (len - 1) node.older rest
    pub walks : walk nodes len key ≡ undo_of node ∷ walk nodes (len - 1) node.older

  pub first_node : (nodes : Slab (Node D)) (len key : ℕ) (keys : List ℕ) → Lies nodes len key keys → 0 < len → (node : Node D) × (get nodes key ≡ Some node)
  first_node nodes zero key keys lies some = absurd (omega arith)
  first_node nodes (suc len) key [] lies some = absurd lies
  first_node nodes (suc len) key (k ∷ keys) lies some = (lies.1.0, ap (get nodes) lies.0 ∙ lies.1.1)

  pub parted : (nodes : Slab (Node D)) (len key : ℕ) (keys : List ℕ) (node : Node D) → Lies nodes len key keys → 0 < len → get nodes key ≡ Some node → Parted nodes len key keys node
  parted nodes zero key keys node lies some at = absurd (omega arith)
  parted nodes (suc len) key [] node lies some at = absurd lies
  parted nodes (suc len) key (k ∷ keys) node lies some at =
      let same : lies.1.0 ≡ node = let e = lies.0 in let f = lies.1.1 in cc in
      let less : len ≡ suc len - 1 = omega arith in
      record {
        rest = keys;
        keys_are = ap (λ (j : ℕ). j ∷ keys) (sym lies.0);
        lies = subst (λ (n : ℕ). Lies nodes n node.older keys) less (subst (λ (m : Node D). Lies nodes len m.older keys) same lies.1.2);
        walks = opened nodes (suc len) key node some at;
      }

  -- a chain has as many records as its head says
  pub length_walk : (nodes : Slab (Node D)) (len key : ℕ) (keys : List ℕ) → Lies nodes len key keys → length (walk nodes len key) ≡ len
  length_walk nodes zero key [] lies = refl
  length_walk nodes zero key (k ∷ keys) lies = absurd lies
  length_walk nodes (suc len) key [] lies = absurd lies
  length_walk nodes (suc len) key (k ∷ keys) lies =
      let e = ap length (walk_node nodes len key k lies.1.0 lies.0 lies.1.1) in
      let r = length_walk nodes len lies.1.0.older keys lies.1.2 in
      omega (arith, e, r)

  -- the newest record is taken out
  pub taken : (old new : Slab (Node D)) (heads : List Head) (sound : Sound old heads) (pos : ℕ) (head : Head) → pos < length heads → head ≡ get_or heads pos head → 0 < head.len
      → (node : Node D) (p : Parted old head.len head.key (sound.keys pos) node) → Updates old new head.key None → slab_len new + 1 ≡ slab_len old
      → Changed old new heads sound pos (record { len = head.len - 1; key = node.older }) p.rest
  taken old new heads sound pos head l e some node p updates less =
      let at = head_at heads pos head l e in
      let once : Once (head.key ∷ p.rest) = subst Once p.keys_are (sound.once pos l) in
      let mine : (k : ℕ) → Has k (head.key ∷ p.rest) → Has k (sound.keys pos) = λ k has. subst (Has k) (sym p.keys_are) has in
      record {
        within = l;
        same = λ j ne m k has. updates.others k (λ q. sound.apart j pos ne m l k has (mine k (inl (sym q))));
        lies = lies_still old new (head.len - 1) node.older p.rest (λ k has. updates.others k (λ q. once.0 (subst (λ (i : ℕ). Has i p.rest) q has))) p.lies;
        once = once.1;
        apart = λ j ne m k has others. sound.apart pos j (λ q. ne (sym q)) l m k (mine k (inr has)) others;
        few = let sums = sum_by-set (λ (h : Head). h.len) heads pos (record { len = head.len - 1; key = node.older }) no_head l in
            let few = sound.few in
            let here : (get_or heads pos no_head).len ≡ head.len = ap (λ (h : Head). h.len) (sym at) in
            omega (arith, sums, few, here, less);
      }

  pub taken_walk : (old new : Slab (Node D)) (heads : List Head) (sound : Sound old heads) (pos : ℕ) (head : Head) → pos < length heads → head ≡ get_or heads pos head
      → (node : Node D) (p : Parted old head.len head.key (sound.keys pos) node) → Updates old new head.key None
      → walk new (head.len - 1) node.older ≡ walk old (head.len - 1) node.older
  taken_walk old new heads sound pos head l e node p updates =
      let once : Once (head.key ∷ p.rest) = subst Once p.keys_are (sound.once pos l) in
      walk_still old new (head.len - 1) node.older p.rest (λ k has. updates.others k (λ q. once.0 (subst (λ (i : ℕ). Has i p.rest) q has))) p.lies

  -- a chain with a record has a head that says so
  pub some_len : (nodes : Slab (Node D)) (heads : List Head) (sound : Sound nodes heads) (pos : ℕ) (head : Head) → pos < length heads → head ≡ get_or heads pos head
      → length (get_or (chains_of nodes heads) pos []) ≡ head.len
  some_len nodes heads sound pos head l e =
      ap length (chain_read nodes heads pos head l e) ∙ length_walk nodes head.len head.key (sound.keys pos) (own_lies nodes heads sound pos head l e)

  pub blank_sound : (nodes : Slab (Node D)) (n : ℕ) → Sound nodes (replicate n no_head)
  blank_sound nodes n = record {
    keys = λ pos. [];
    lies = λ pos l. subst (λ (h : Head). Lies nodes h.len h.key []) (sym (blank_at n pos)) tt;
    once = λ pos l. tt;
    apart = λ pos other ne l m key has others. has;
    few = let e = blank_sum n in omega (arith, e);
  }

  pub blank_chains : (nodes : Slab (Node D)) (n : ℕ) → chains_of nodes (replicate n no_head) ≡ replicate n []
  blank_chains nodes zero = refl
  blank_chains nodes (suc n) = ap (λ (xs : List (List (Undo D))). [] ∷ xs) (blank_chains nodes n)

  -- more room changes nothing
  pub still_sound : (old new : Slab (Node D)) (heads : List Head) → ((k : ℕ) → get new k ≡ get old k) → slab_len new ≡ slab_len old → Sound old heads → Sound new heads
  still_sound old new heads same lens sound = record {
    keys = sound.keys;
    lies = λ pos l. lies_still old new (get_or heads pos no_head).len (get_or heads pos no_head).key (sound.keys pos) (λ k has. same k) (sound.lies pos l);
    once = sound.once;
    apart = sound.apart;
    few = let few = sound.few in omega (arith, lens, few);
  }

  pub still_chains : (old new : Slab (Node D)) (heads : List Head) → ((k : ℕ) → get new k ≡ get old k) → Sound old heads → chains_of new heads ≡ chains_of old heads
  still_chains old new heads same sound =
      map_same (chain_at old) (chain_at new) heads no_head
      (λ j m. walk_still old new (get_or heads j no_head).len (get_or heads j no_head).key (sound.keys j) (λ k has. same k) (sound.lies j m))

  -- what the newest record says
  pub newest_some : (chain : List (Undo D)) (stamp : Stamp) → newest chain ≡ Some stamp → (undo : Undo D) × (rest : List (Undo D)) × (chain ≡ undo ∷ rest) × (undo.stamp ≡ stamp)
  newest_some [] stamp e = absurd (cc)
  newest_some (undo ∷ rest) stamp e = (undo, rest, refl, (cc))

  pub newest_none : (chain : List (Undo D)) → newest chain ≡ None → chain ≡ []
  newest_none [] e = refl
  newest_none (undo ∷ rest) e = absurd (cc)

  pub seen_end : {B : Type 0} (applied : D → B → B) (viewer : Viewer) (base : B) (nodes : Slab (Node D)) (len key : ℕ) (keys : List ℕ) (node : Node D) → Lies nodes len key keys → 0 < len
      → get nodes key ≡ Some node → stops viewer node.stamp.mark ≡ true → seen applied viewer base (walk nodes len key) ≡ base
  seen_end {B} applied viewer base nodes len key keys node lies some at ends =
      let p = parted nodes len key keys node lies some at in
      ap (λ (chain : List (Undo D)). seen applied viewer base chain) p.walks
      ∙ ap (λ (b : Bool). cond b base (seen applied viewer (applied node.image base) (walk nodes (len - 1) node.older))) ends

  pub seen_past : {B : Type 0} (applied : D → B → B) (viewer : Viewer) (base : B) (nodes : Slab (Node D)) (len key : ℕ) (keys : List ℕ) (node : Node D) → Lies nodes len key keys → 0 < len
      → get nodes key ≡ Some node → stops viewer node.stamp.mark ≡ false
      → seen applied viewer base (walk nodes len key) ≡ seen applied viewer (applied node.image base) (walk nodes (len - 1) node.older)
  seen_past {B} applied viewer base nodes len key keys node lies some at goes =
      let p = parted nodes len key keys node lies some at in
      ap (λ (chain : List (Undo D)). seen applied viewer base chain) p.walks
      ∙ ap (λ (b : Bool). cond b base (seen applied viewer (applied node.image base) (walk nodes (len - 1) node.older))) goes
