-- Texts that are put together piece by piece, and what stands at a position change by change.
use Rattle.std.proofs.Common.{◌≡◌, ℕ, suc, ◌+◌, ◌<◌, List, [], ◌∷◌, ◌++◌, length, drop, take, get_or, add-one, refl, ap, sym, ◌∙◌, subst, append_assoc}
use Rattle.std.specs.Prelude.{Bool, true, false, cond, not, ◌&&◌, ◌||◌, ◌==◌, nat_le, filter, flat_map, if◌then◌else◌}
use Rattle.std.specs.List.{list_all}
use Rattle.std.proofs.lemmas.List.{drop_more, flat_map_more, take_more}
use Rattle.hy_value.specs.declared.change.Change.{Change}
use Rattle.hy_schema.specs.declared.Column.{Column}
use Rattle.hy_render.specs.declared.TxnOutcome.{TxnOutcome}
use Rattle.hy_render.specs.declared.Committed.{Committed as Entry}
use Rattle.hy_render.specs.declared.Outcome.{Outcome}
use Rattle.hy_machine.specs.Tables.{Cell}
use Rattle.hy_lawful.specs.Outcomes.{is_later, later_than}
use Rattle.hy_lawful.specs.Overlaps.{reaches}
use Rattle.hy_lawful.specs.Cells.{after_changes}
use Rattle.hy_explain.specs.Words.{names_from, told_name}

-- two pieces behind a text, one after the other
pub two_put : (out first second one two : List ℕ) → one ≡ out ++ first → two ≡ one ++ second → two ≡ out ++ (first ++ second)
two_put out first second one two e f = f ∙ (ap (λ (l : List ℕ). l ++ second) e ∙ append_assoc out first second)

-- a piece of what is left
pub piece_put : (out before after item whole rest : List ℕ) → whole ≡ item ++ rest → before ++ whole ≡ out → after ≡ before ++ item → after ++ rest ≡ out
piece_put out before after item whole rest is so put =
    ap (λ (l : List ℕ). l ++ rest) put ∙ (append_assoc before item rest ∙ (ap (λ (l : List ℕ). before ++ l) (sym is) ∙ so))

-- the next column
pub name_put : (test : ℕ → Bool) (out before after name : List ℕ) (came told now : Bool) (columns : List Column) (number : ℕ) (column : Column)
    → number < length columns → column ≡ get_or columns number column → told ≡ test number → now ≡ (came || told) → name ≡ column.name
    → before ++ names_from test came number (drop number columns) ≡ out → after ≡ before ++ told_name told came name
    → after ++ names_from test now (number + 1) (drop (number + 1) columns) ≡ out
name_put test out before after name came told now columns number column below is is_told is_now named so put =
    let rest : List ℕ = names_from test (came || test number) (suc number) (drop (number + 1) columns) in
    let next : drop number columns ≡ column ∷ drop (number + 1) columns
    = drop_more columns number column below ∙ ap (λ (v : Column). v ∷ drop (number + 1) columns) (sym is) in
    let item : after ≡ before ++ told_name (test number) came column.name
    = put ∙ (λ j. before ++ told_name (is_told j) came (named j)) in
    (λ j. after ++ names_from test ((is_now ∙ ap (λ (b : Bool). came || b) is_told) j) (add-one number j) (drop (number + 1) columns))
    ∙ piece_put out before after (told_name (test number) came column.name) (names_from test came number (drop number columns)) rest
    (ap (names_from test came number) next) so item

-- what the next item of a list puts
pub item_put : {X : Type 0} (f : X → List ℕ) (out before after : List ℕ) (all : List X) (number : ℕ) (x : X) → number < length all
    → x ≡ get_or all number x → before ≡ out ++ flat_map f (take number all) → after ≡ before ++ f x
    → after ≡ out ++ flat_map f (take (number + 1) all)
item_put {X = X} f out before after all number x below is so put =
    let more : take (number + 1) all ≡ take number all ++ x ∷ []
    = take_more all number x below ∙ ap (λ (r : X). take number all ++ r ∷ []) (sym is) in
    put ∙ (ap (λ (l : List ℕ). l ++ f x) so ∙ (flat_map_more f out (take number all) x
    ∙ ap (λ (those : List X). out ++ flat_map f those) (sym more)))

-- changes one after another
pub changes_in_turn : (table pos : ℕ) (cell : Cell) (changes others : List Change)
    → after_changes table pos cell (changes ++ others) ≡ after_changes table pos (after_changes table pos cell changes) others
changes_in_turn table pos cell [] others = refl
changes_in_turn table pos cell (change ∷ changes) others =
    changes_in_turn table pos (if change.table == table && change.pos == pos then change.after else cell) changes others

-- the changes of the next entry
pub entry_passed : (table pos : ℕ) (whole before after : Cell) (entries : List Entry) (number : ℕ) (entry : Entry) → number < length entries
    → entry ≡ get_or entries number entry → after ≡ after_changes table pos before entry.changes
    → after_changes table pos before (flat_map (λ (e : Entry). e.changes) (drop number entries)) ≡ whole
    → after_changes table pos after (flat_map (λ (e : Entry). e.changes) (drop (number + 1) entries)) ≡ whole
entry_passed table pos whole before after entries number entry below is is_after so =
    let next : drop number entries ≡ entry ∷ drop (number + 1) entries
    = drop_more entries number entry below ∙ ap (λ (v : Entry). v ∷ drop (number + 1) entries) (sym is) in
    (λ j. after_changes table pos (is_after j) (flat_map (λ (e : Entry). e.changes) (drop (number + 1) entries)))
    ∙ (sym (changes_in_turn table pos before entry.changes (flat_map (λ (e : Entry). e.changes) (drop (number + 1) entries)))
    ∙ (ap (λ (es : List Entry). after_changes table pos before (flat_map (λ (e : Entry). e.changes) es)) (sym next) ∙ so))

-- a test of those that another test keeps
pub passes_kept : {X : Type 0} (t p : X → Bool) (xs : List X) → list_all (λ x. not (p x) || t x) xs ≡ list_all t (filter p xs)
passes_kept t p [] = refl
passes_kept {X} t p (x ∷ xs) = by_test (p x) (passes_kept t p xs)
  where
    by_test : (b : Bool) → list_all (λ y. not (p y) || t y) xs ≡ list_all t (filter p xs)
        → ((not b || t x) && list_all (λ y. not (p y) || t y) xs) ≡ list_all t (cond b (x ∷ filter p xs) (filter p xs))
    by_test true later = ap (λ b. t x && b) later
    by_test false later = later

-- all later ones reach a rank
pub all_reach : (outcome : Outcome) (txn : TxnOutcome) (rank : ℕ)
    → list_all (λ (later : TxnOutcome). not (is_later txn.label later) || nat_le rank later.start) outcome.txns ≡ reaches outcome txn rank
all_reach outcome txn rank = passes_kept (λ (later : TxnOutcome). nat_le rank later.start) (is_later txn.label) outcome.txns
