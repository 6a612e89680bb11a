-- Who holds a position: one's own are held, and where there is no holder no other session holds one.
use Rattle.std.proofs.Common.{◌≡◌, ℕ, zero, suc, ◌+◌, ◌*◌, ◌/◌, ◌%◌, ◌<◌, ◌≤◌, List, [], ◌∷◌, ◌++◌, Option, None, Some, Bool, true, false, not, is_some}
use Rattle.std.proofs.Common.{length, map, drop, get_or, cond, refl, ap, sym, ◌∙◌, subst, arith, inl, inr, ◌⊎◌, zero-add, add-zero}
use Rattle.std.proofs.Math.ListN.{set}
use Rattle.std.specs.Prelude.{◌&&◌, ◌||◌, ◌==◌, filter}
use Rattle.std.specs.List.{AllByRecursion, list_any, range_with_len}
use Rattle.std.proofs.lemmas.Bool.{cases_Bool, and_parts, cases_eq, cases_lt, eq-eqb, eqb-true, ne_eqb, or_parts, or_left, or_right, and_from}
use Rattle.std.proofs.lemmas.List.{get_or-set_same, get_or-set_other, set_past}
use Rattle.std.proofs.lemmas.List.Folds.{list_any-append}
use Rattle.std.proofs.lemmas.Nat.{div-add-mod', div_below}
use Rattle.std.proofs.Math.Nat.{mod-lt}
use Rattle.hy_machine.specs.declared.Setting.{Setting}
use Rattle.hy_machine.specs.States.{Session}
use Rattle.hy_machine.specs.Writes.{Write, with_write, with_writes, has_written_in, chunks_in_table, chunks_from, written_chunks, is_among}
use Rattle.hy_machine.specs.Positions.{item_at}
use Rattle.hy_machine.specs.Tables.{Cell, Own, capacity, chunk_of}
use Rattle.hy_machine.specs.Sessions.{fresh, label_of}
use Rattle.hy_machine.specs.Holding.{holds, holder_from}
use Rattle.hy_lawful.proofs.Fits.{FitsTables}

-- ---- one's own positions are in chunks that were written

any_in_range : (f : ℕ → Bool) (first n i : ℕ) → i < n → f (first + i) ≡ true → list_any f (range_with_len first n) ≡ true
any_in_range f first zero i h e = absurd (omega (arith, h))
any_in_range f first (suc n) zero h e =
    or_left (f first) (list_any f (range_with_len (first + 1) n)) (ap f (sym (add-zero first)) ∙ e)
any_in_range f first (suc n) (suc i) h e =
    or_right (f first) (list_any f (range_with_len (first + 1) n))
    (any_in_range f (first + 1) n i (omega (arith, h)) (ap f (let s : first + 1 + i ≡ first + suc i = omega arith in s) ∙ e))

among_kept : (keep : ℕ → Bool) (table chunk : ℕ) (chunks : List ℕ) → keep chunk ≡ true → list_any (λ (one : ℕ). one == chunk) chunks ≡ true
    → is_among (map (λ (chunk : ℕ). (table, chunk)) (filter keep chunks)) table chunk ≡ true
among_kept keep table chunk [] k e = absurd cc
among_kept keep table chunk (one ∷ chunks) k e = elim (cases_Bool (one == chunk)) [
  | inl t ↦ rw (ap keep (eqb-true one chunk t) ∙ k)
      (or_left (table == table && one == chunk) (is_among (map (λ (chunk : ℕ). (table, chunk)) (filter keep chunks)) table chunk)
      (and_from (table == table) (one == chunk) (eq-eqb table table refl) t))
  | inr f ↦ if_kept (keep one)
      (among_kept keep table chunk chunks k (sym (ap (λ b. b || list_any (λ (one : ℕ). one == chunk) chunks) f) ∙ e))
]
  where
    if_kept : (b : Bool) → is_among (map (λ (chunk : ℕ). (table, chunk)) (filter keep chunks)) table chunk ≡ true
        → is_among (map (λ (chunk : ℕ). (table, chunk)) (cond b (one ∷ filter keep chunks) (filter keep chunks))) table chunk ≡ true
    if_kept true h =
        or_right (table == table && one == chunk) (is_among (map (λ (chunk : ℕ). (table, chunk)) (filter keep chunks)) table chunk) h
    if_kept false h = h

got_there : {X : Type 0} (items : List (Option X)) (pos : ℕ) → is_some (get_or items pos None) ≡ true → pos < length items
got_there [] pos e = absurd cc
got_there (item ∷ items) zero e = omega arith
got_there (item ∷ items) (suc pos) e = omega (arith, got_there items pos e)

some_rows : (chunks rows pos : ℕ) → pos < chunks * rows → 0 < rows
some_rows chunks zero pos h = absurd (omega (arith, h))
some_rows chunks (suc rows) pos h = omega arith

among_table : (setting : Setting) (table : ℕ) (cells : List (Option Cell)) (pos : ℕ) → length cells ≤ capacity setting
    → is_some (get_or cells pos None) ≡ true → is_among (chunks_in_table setting table cells) table (chunk_of setting pos) ≡ true
among_table setting table cells pos long e =
    let within : pos < setting.chunks * setting.rows = omega (arith, long, got_there cells pos e) in
    let rows : 0 < setting.rows = some_rows setting.chunks setting.rows pos within in
    let chunk : ℕ = pos / setting.rows in
    let below : chunk < setting.chunks = div_below pos setting.rows setting.chunks rows within in
    among_kept (has_written_in setting cells) table chunk (range_with_len 0 setting.chunks)
    (any_in_range (λ (pos : ℕ). is_some (get_or cells pos None)) (chunk * setting.rows) setting.rows (pos % setting.rows)
    (mod-lt pos rows) (ap (λ (n : ℕ). is_some (get_or cells n None)) (div-add-mod' pos setting.rows) ∙ e))
    (any_in_range (λ (one : ℕ). one == chunk) 0 setting.chunks chunk below (eq-eqb (0 + chunk) chunk (zero-add chunk)))

among_joined : (chunks others : List (ℕ × ℕ)) (table chunk : ℕ)
    → is_among (chunks ++ others) table chunk ≡ (is_among chunks table chunk || is_among others table chunk)
among_joined chunks others table chunk = list_any-append (λ (one : ℕ × ℕ). one.0 == table && one.1 == chunk) chunks others

among_from : (setting : Setting) (first : ℕ) (own : Own) (table pos : ℕ)
    → AllByRecursion (λ (items : List (Option Cell)). length items ≤ capacity setting) own
    → is_some (item_at own table pos) ≡ true → is_among (chunks_from setting first own) (first + table) (chunk_of setting pos) ≡ true
among_from setting first [] table pos long e = absurd cc
among_from setting first (cells ∷ own) zero pos long e =
    among_joined (chunks_in_table setting first cells) (chunks_from setting (suc first) own) (first + 0) (chunk_of setting pos)
    ∙ or_left (is_among (chunks_in_table setting first cells) (first + 0) (chunk_of setting pos))
    (is_among (chunks_from setting (suc first) own) (first + 0) (chunk_of setting pos))
    (subst (λ (n : ℕ). is_among (chunks_in_table setting first cells) n (chunk_of setting pos) ≡ true) (sym (add-zero first))
    (among_table setting first cells pos long.0 e))
among_from setting first (cells ∷ own) (suc table) pos long e =
    among_joined (chunks_in_table setting first cells) (chunks_from setting (suc first) own) (first + suc table) (chunk_of setting pos)
    ∙ or_right (is_among (chunks_in_table setting first cells) (first + suc table) (chunk_of setting pos))
    (is_among (chunks_from setting (suc first) own) (first + suc table) (chunk_of setting pos))
    (subst (λ (n : ℕ). is_among (chunks_from setting (suc first) own) n (chunk_of setting pos) ≡ true)
    (let s : suc first + table ≡ first + suc table = omega arith in s)
    (among_from setting (suc first) own table pos long.1 e))

pub own_among : (setting : Setting) (own : Own) (table pos : ℕ) → FitsTables setting own → is_some (item_at own table pos) ≡ true
    → is_among (written_chunks setting own) table (chunk_of setting pos) ≡ true
own_among setting own table pos fits e =
    subst (λ (n : ℕ). is_among (written_chunks setting own) n (chunk_of setting pos) ≡ true) (zero-add table)
    (among_from setting 0 own table pos fits.positions e)

-- of fewer chunks fewer are among
pub fewer_among : (n : ℕ) (chunks : List (ℕ × ℕ)) (table chunk : ℕ) → is_among (drop (suc n) chunks) table chunk ≡ true
    → is_among (drop n chunks) table chunk ≡ true
fewer_among zero [] table chunk e = e
fewer_among zero (one ∷ chunks) table chunk e = or_right (one.0 == table && one.1 == chunk) (is_among chunks table chunk) e
fewer_among (suc n) [] table chunk e = e
fewer_among (suc n) (one ∷ chunks) table chunk e = fewer_among n chunks table chunk e

-- ---- one's own positions after more writes

pub write_cases : (own : Own) (write : Write) (table pos : ℕ)
    → (item_at (with_write own write) table pos ≡ item_at own table pos) ⊎ ((table ≡ write.table) × (pos ≡ write.pos))
write_cases own write table pos = elim (cases_eq table write.table) [
  | inr apart ↦ inl (ap (λ (items : List (Option Cell)). get_or items pos None)
      (get_or-set_other own write.table table (set (get_or own write.table []) write.pos (Some write.cell)) [] apart))
  | inl same ↦ elim (cases_eq pos write.pos) [
    | inl also ↦ inr (same, also)
    | inr away ↦ inl (subst (λ (n : ℕ). item_at (with_write own write) n pos ≡ item_at own n pos) (sym same) (elsewhere away))
  ]
]
  where
    elsewhere : (pos ≡ write.pos → ⊥) → item_at (with_write own write) write.table pos ≡ item_at own write.table pos
    elsewhere away = elim (cases_lt write.table (length own)) [
      | inl there ↦ ap (λ (items : List (Option Cell)). get_or items pos None)
          (get_or-set_same own write.table (set (get_or own write.table []) write.pos (Some write.cell)) [] there)
          ∙ get_or-set_other (get_or own write.table []) write.pos pos (Some write.cell) None away
      | inr past ↦ ap (λ (own : Own). item_at own write.table pos)
          (set_past own write.table (set (get_or own write.table []) write.pos (Some write.cell)) past)
    ]

-- what holds of one's own positions and of those that are written holds of one's own after it
pub written_is : (P : ℕ → ℕ → Type 0) (writes : List Write) (own : Own) → AllByRecursion (λ (write : Write). P write.table write.pos) writes
    → ((table pos : ℕ) → is_some (item_at own table pos) ≡ true → P table pos)
    → (table pos : ℕ) → is_some (item_at (with_writes own writes) table pos) ≡ true → P table pos
written_is P [] own all old table pos e = old table pos e
written_is P (write ∷ writes) own all old table pos e =
    written_is P writes (with_write own write) all.1
    (λ at other some. elim (write_cases own write at other) [
      | inl same ↦ old at other (ap is_some (sym same) ∙ some)
      | inr here ↦ subst (λ (n : ℕ). P n other) (sym here.0) (subst (λ (n : ℕ). P write.table n) (sym here.1) all.0)
    ])
    table pos e

-- ---- nobody else holds

none_first : {X : Type 0} (b : Bool) (x : X) (rest : Option X) → cond b (Some x) rest ≡ None → (b ≡ false) × (rest ≡ None)
none_first true x rest e = absurd cc
none_first false x rest e = (refl, e)

pub unheld : (setting : Setting) (number table pos first : ℕ) (sessions : List Session) → holder_from setting number table pos first sessions ≡ None
    → (i : ℕ) → (first + i ≡ number → ⊥) → holds setting table pos (get_or sessions i fresh).now ≡ true → ⊥
unheld setting number table pos first [] e i apart h = absurd cc
unheld setting number table pos first (session ∷ sessions) e zero apart h =
    let passed = none_first (not (first == number) && holds setting table pos session.now) (label_of first session)
    (holder_from setting number table pos (suc first) sessions) e in
    absurd (cc (passed.0, h, ne_eqb first number (λ same. apart (add-zero first ∙ same))))
unheld setting number table pos first (session ∷ sessions) e (suc i) apart h =
    let passed = none_first (not (first == number) && holds setting table pos session.now) (label_of first session)
    (holder_from setting number table pos (suc first) sessions) e in
    unheld setting number table pos (suc first) sessions passed.1 i (λ same. apart (let s : first + suc i ≡ number = omega (arith, same) in s)) h

pub no_holder : (setting : Setting) (number table pos first : ℕ) (sessions : List Session)
    → ((i : ℕ) → (first + i ≡ number → ⊥) → holds setting table pos (get_or sessions i fresh).now ≡ true → ⊥)
    → holder_from setting number table pos first sessions ≡ None
no_holder setting number table pos first [] h = refl
no_holder setting number table pos first (session ∷ sessions) h =
    ap (λ (b : Bool). cond b (Some (label_of first session)) (holder_from setting number table pos (suc first) sessions)) not_this
    ∙ no_holder setting number table pos (suc first) sessions
    (λ i apart held. h (suc i) (λ same. apart (let e : suc first + i ≡ number = omega (arith, same) in e)) held)
  where
    not_this : (not (first == number) && holds setting table pos session.now) ≡ false
    not_this = elim (cases_Bool (not (first == number) && holds setting table pos session.now)) [
      | inr f ↦ f
      | inl t ↦
          let parts = and_parts (not (first == number)) (holds setting table pos session.now) t in
          absurd (h 0 (λ same. absurd (let is : (first == number) ≡ true = eq-eqb first number (omega (arith, same)) in
          let never : not (first == number) ≡ false = ap not is in cc)) parts.1)
    ]

pub held_by_none : (setting : Setting) (table pos : ℕ) (sessions : List Session)
    → list_any (λ (session : Session). holds setting table pos session.now) sessions ≡ false
    → (i : ℕ) → holds setting table pos (get_or sessions i fresh).now ≡ true → ⊥
held_by_none setting table pos [] e i h = absurd cc
held_by_none setting table pos (session ∷ sessions) e zero h =
    absurd (cc (h, (or_parts (holds setting table pos session.now) (list_any (λ (session : Session). holds setting table pos session.now) sessions) e).0))
held_by_none setting table pos (session ∷ sessions) e (suc i) h =
    held_by_none setting table pos sessions
    (or_parts (holds setting table pos session.now) (list_any (λ (session : Session). holds setting table pos session.now) sessions) e).1 i h
