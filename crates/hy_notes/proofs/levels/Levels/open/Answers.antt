use Rattle.std.proofs.Common.{◌≡◌, ℕ, ◌≤◌, ◌++◌, ◌∷◌, [], List, length, drop, map, sym, ap, ◌∙◌, arith, subst}
use Rattle.hy_value.specs.declared.change.Change.{Change}
use Rattle.hy_notes.specs.declared.blocks.Blocks.{Blocks}
use Rattle.hy_notes.specs.Blocks.{notes_in}
use Rattle.hy_notes.specs.Levels.{was_at, noted_since, stretches_in}
use Rattle.hy_notes.proofs.Opened.{since_alike, none_since, levels_opened, drop_none}
use Rattle.hy_notes.proofs.levels.Levels.open.Goals as goal

pub returns-clause-ok : goal.returns-clause-ok
returns-clause-ok c = λ notes.
    let self = c.args.self.now in
    let older = c.begin_stretch.new.older.items in
    let newest = c.begin_stretch.new.newest in
    let stretches = map notes_in older ++ notes_in newest ∷ [] in
    let items : c.reserve-2.new.self.items ≡ self.older.items = c.reserve-2.ensures.items in
    let same : (k : ℕ) → k ≤ length self.older.items → noted_since (drop k stretches) notes ≡ noted_since (drop k (stretches_in self)) notes =
    (λ k le. since_alike (drop k (stretches_in self)) (drop k stretches) notes (λ table pos.
    c.begin_stretch.ensures.told k table pos (subst (λ (os : List Blocks). k ≤ length os) (sym items) le)
    ∙ ap (λ (os : List Blocks). was_at (drop k (map notes_in os ++ notes_in self.newest ∷ [])) table pos) items)) in
    let count : c.len.result ≡ length older = c.len.ensures ∙ c.begin_stretch.new.older.ok.0 in
    let none : noted_since (drop c.len.result stretches) notes ≡ [] =
    ap (λ (n : ℕ). noted_since (drop n stretches) notes) count ∙ none_since c.begin_stretch.new.older.items newest notes c.begin_stretch.ensures.none in
    let begins : c.push_reserved.new.self.items ≡ self.begins.items ++ c.len.result ∷ [] =
    c.push_reserved.ensures.items ∙ ap (λ (ks : List ℕ). ks ++ c.len.result ∷ []) c.reserve.ensures.items in
    ap (map (λ begin. noted_since (drop begin stretches) notes)) begins
    ∙ levels_opened (stretches_in self) stretches self.begins.items (length self.older.items) c.len.result notes c.requires.begins same none

pub returns-clause-told : goal.returns-clause-told
returns-clause-told c = λ table pos.
    let self = c.args.self.now in
    let items : c.reserve-2.new.self.items ≡ self.older.items = c.reserve-2.ensures.items in
    ap (λ (ss : List (List Change)). was_at ss table pos) (sym (drop_none (map notes_in c.begin_stretch.new.older.items ++ notes_in c.begin_stretch.new.newest ∷ [])))
    ∙ (c.begin_stretch.ensures.told 0 table pos (omega arith)
    ∙ (ap (λ (os : List Blocks). was_at (drop 0 (map notes_in os ++ notes_in self.newest ∷ [])) table pos) items
    ∙ ap (λ (ss : List (List Change)). was_at ss table pos) (drop_none (stretches_in self))))
