-- What is read is a sentence, a sentence is read, and reading stops at the first piece that does not fit.
use Rattle.std.proofs.Common.{◌≡◌, ◌≤◌, List, [], ◌∷◌, ◌++◌, None, sym, ap, subst, ◌∙◌, append_assoc}
use Rattle.std.proofs.lemmas.List.{append-nil}
use Rattle.hy_ast.specs.Trees.{Statement}
use Rattle.hy_parse.specs.declared.Piece.{Piece}
use Rattle.hy_parse.specs.Grammar.{levels, IsWritten, Begins, IsUnfit}
use Rattle.hy_parse.specs.Reading.{Done, Stuck, read_statement}
use Rattle.hy_parse.proofs.Readers.{IsLocal}
use Rattle.hy_parse.proofs.Choices.{stops_nothing}
use Rattle.hy_parse.proofs.StatementRules.{statement_reads}
use Rattle.hy_limits.specs.declared.TheConstants.{MOST_LEVELS}

abbrev pub IsFront : List Piece → List Piece → Statement → Type 0
IsFront ps rest s = (front : List Piece) × (ps ≡ front ++ rest) × IsWritten front s × (levels s ≤ MOST_LEVELS)

pub sound : (ps rest : List Piece) (s : Statement) → read_statement ps ≡ Done s rest → IsFront ps rest s
sound ps rest s e =
    let t = statement_reads.done ps rest s e in
    subst (λ (tree : Statement). IsFront ps rest tree) (sym t.2) (t.3.front, t.3.parts, record { matches = t.3.matches; grouped = t.1.grouped }, t.1.within)

pub complete : (front rest : List Piece) (s : Statement) → IsWritten front s → levels s ≤ MOST_LEVELS → read_statement (front ++ rest) ≡ Done s rest
complete front rest s written within = statement_reads.complete front rest s (record { grouped = written.grouped; within = within }) written.matches (stops_nothing rest)

pub one : (ps : List Piece) (s t : Statement) → IsWritten ps s → levels s ≤ MOST_LEVELS → IsWritten ps t → levels t ≤ MOST_LEVELS → s ≡ t
one ps s t written within written' within' = let same = sym (complete ps [] s written within) ∙ complete ps [] t written' within' in cc

unfit : (front rest : List Piece) → IsLocal read_statement None front rest → IsUnfit front rest
unfit front [] local = tt
unfit front (p ∷ rest) local = λ begins.
    (let whole = complete ((front ++ p ∷ []) ++ begins.more) [] begins.statement begins.written begins.within in
    let regrouped : ((front ++ p ∷ []) ++ begins.more) ++ [] ≡ front ++ p ∷ begins.more = append-nil ((front ++ p ∷ []) ++ begins.more) ∙ append_assoc front (p ∷ []) begins.more in
    let both = sym whole ∙ ap read_statement regrouped ∙ local begins.more in
    absurd (cc both))

pub stops_first : (ps rest : List Piece) → read_statement ps ≡ Stuck rest → (front : List Piece) × (ps ≡ front ++ rest) × Begins front × IsUnfit front rest
stops_first ps rest e =
    let t = statement_reads.stuck ps rest e in
    (t.2.front, t.2.parts, record { more = t.2.more; statement = t.0; written = record { matches = t.2.begins; grouped = t.1.grouped }; within = t.1.within }, unfit t.2.front rest t.2.local)
