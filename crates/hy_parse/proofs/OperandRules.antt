-- The rules of columns, literals and operands: what is read by each is what is written by it.
use Rattle.std.proofs.Common.{◌≡◌, Bool, true, false, cond, List, [], ◌∷◌, Option, Some, None, inl, inr, refl, sym, ap}
use Rattle.std.proofs.lemmas.List.{append-nil}
use Rattle.std.proofs.lemmas.Option.{same_Some, cond_some}
use Rattle.hy_token.specs.declared.Keyword.TheVariants as keyword
use Rattle.hy_token.specs.declared.Sign.TheVariants.{Dot, Minus}
use Rattle.hy_token.specs.declared.Span.{Span}
use Rattle.hy_token.specs.declared.Token.{Token}
use Rattle.hy_token.specs.declared.Token.TheVariants as token
use Rattle.hy_ast.specs.declared.ColumnRef.{ColumnRef}
use Rattle.hy_ast.specs.declared.Literal.{Literal}
use Rattle.hy_ast.specs.declared.Literal.TheVariants as literals
use Rattle.hy_ast.specs.declared.Operand.TheVariants as operands
use Rattle.hy_parse.specs.declared.Piece.{Piece}
use Rattle.hy_parse.specs.Grammar.{Mark, At, Marks, name, column, literal, operand, optional}
use Rattle.hy_parse.specs.Reading.{Read, Done, Stuck, ◌>>=◌, same, sign, word, begins, after, span_at, flag_at, name_at, column_at, negative_at, literal_of, literal_at, operand_at}
use Rattle.hy_parse.proofs.Readers.{Reads, Always, nothing, Covers, HeadStops, head_of, then_last, instead, widen, recast, finish, piece_reads}
use Rattle.hy_parse.proofs.Choices.{same_is, span_reads, then_one, then_fixed, choice_reads, fixed}

pub name_reads : Reads name_at (λ s. name s ∷ []) (λ s. s) Always nothing
name_reads = span_reads token.Name

-- whatever stops anything stops what goes on with nothing
pub anything : (wider : Token → Bool) → Covers wider nothing
anything wider t stops = refl

-- a pair, by its parts
pub by_parts : {A B : Type 0} (P : A × B → Type 0) → ((a : A) (b : B) → P (a, b)) → (x : A × B) → P x
by_parts P f x = f x.0 x.1

-- ---- a flag

then_again : {A B C : Type 0} (r : Read A) (k : A × List Piece → Read B) (l : B × List Piece → Read C) → ((r >>= k) >>= l) ≡ (r >>= λ x. k x >>= l)
then_again (Done a rest) k l = refl
then_again (Stuck rest) k l = refl

flag_again : (first : Token) (others : List Token) (ps : List Piece) (b : Bool)
    → cond b (after (first ∷ others) ps >>= λ rest. Done true rest.1) (Done false ps) ≡ cond b (span_at first ps >>= λ found. after others found.1 >>= λ rest. Done true rest.1) (Done false ps)
unfolding after
flag_again first others ps true = then_again (span_at first ps) (λ found. after others found.1) (λ rest. Done true rest.1)
flag_again first others ps false = refl

pub flag_reads : (first : Token) (others : List Token) → Reads (flag_at first others) (λ b. optional b (fixed (first ∷ others))) (λ b. b) Always (same first)
unfolding flag_at
flag_reads first others =
    instead (λ ps. cond (begins first ps) (after (first ∷ others) ps >>= λ rest. Done true rest.1) (Done false ps)) (flag_at first others) (λ ps. flag_again first others ps (begins first ps))
    (recast (λ b. optional b (fixed (first ∷ others))) (λ b. b) Always
    (choice_reads first (widen (same first) (anything (same first)) (then_fixed (first ∷ others) (λ rest. Done true rest.1) (finish true))) (widen (same first) (anything (same first)) (finish false)) (λ f fits. refl) (λ g fits t stops. stops))
    (elim [ inl u ↦ λ fits. (true, tt, refl, append-nil (fixed (first ∷ others))) | inr u ↦ λ fits. (false, tt, refl, refl) ])
    (elim [ true ↦ λ fits. (inl tt, tt, refl, append-nil (fixed (first ∷ others))) | false ↦ λ fits. (inr tt, tt, refl, refl) ]))

-- ---- columns

-- what a column goes on with
abbrev pub dot : Token → Bool
dot t = same (sign Dot) t

by_table : (P : ColumnRef → Type 0) → ((table : Option Span) (s : Span) → P (record { table = table; column = s })) → (c : ColumnRef) → P c
by_table P f c = f c.table c.column

pub column_reads : Reads column_at column (λ c. c) Always dot
unfolding column_at
column_reads =
    recast column (λ c. c) Always
    (then_one _ name_reads (λ s fits. choice_reads (sign Dot)
    (widen dot (anything dot) (then_fixed (sign Dot ∷ []) _ (then_one _ name_reads (λ t fits'. finish (record { table = Some s; column = t })))))
    (widen dot (anything dot) (finish (record { table = None; column = s }))) (λ f fits. refl) (λ g fits t stops. stops)))
    (by_parts _ (λ s. elim [ inl f ↦ λ fits. (record { table = Some s; column = f.0 }, tt, refl, refl) | inr u ↦ λ fits. (record { table = None; column = s }, tt, refl, refl) ]))
    (by_table _ (elim [ None ↦ λ s fits. ((s, inr tt), (tt, tt), refl, refl) | Some t ↦ λ s fits. ((t, inl (s, tt)), (tt, (tt, tt)), refl, refl) ]))

-- a column begins with a name
pub column_head : (c : ColumnRef) → head_of (column c) ≡ Some token.Name
column_head c = head c.table c.column
  where
    head : (table : Option Span) (s : Span) → head_of (column (record { table = table; column = s })) ≡ Some token.Name
    head None s = refl
    head (Some t) s = refl

-- ---- literals

negative_reads : Reads negative_at (λ (f : Span × (Span × Unit {0})). literal (literals.Integer (Some f.0) f.1.0)) (λ f. literals.Integer (Some f.0) f.1.0) (λ f. Unit {0} × (Unit {0} × Unit {0})) nothing
unfolding negative_at
negative_reads = then_one _ (span_reads (sign Minus)) (λ m fits. then_one _ (span_reads token.Integer) (λ d fits'. finish (literals.Integer (Some m) d)))

-- the literals of one piece
abbrev IsShort : Literal → Type 0
IsShort (literals.Integer (Some m) digits) = ⊥
IsShort _ = Unit {0}

abbrev short : Literal → Mark
short (literals.Null s) = At (word keyword.Null) s
short (literals.Integer minus digits) = At token.Integer digits
short (literals.Text s) = At token.Text s

literal_sound : (p : Piece) (a : Literal) → literal_of p ≡ Some a → (l : Literal) × IsShort l × (a ≡ l) × Marks p (short l)
literal_sound p a e = by_token p.token p.span a e
  where
    by_token : (t : Token) (s : Span) (a : Literal) → literal_of (record { token = t; span = s }) ≡ Some a → (l : Literal) × IsShort l × (a ≡ l) × Marks (record { token = t; span = s }) (short l)
    by_token token.Integer s a e = (literals.Integer None s, tt, sym (same_Some _ _ e), refl)
    by_token token.Text s a e = (literals.Text s, tt, sym (same_Some _ _ e), refl)
    by_token (token.Reserved k) s a e =
        let c = cond_some (same (word keyword.Null) (token.Reserved k)) (literals.Null s) a e in
        let named : Token → Piece = λ t. record { token = t; span = s } in
        (literals.Null s, tt, sym c.1, ap named (sym (same_is (word keyword.Null) (token.Reserved k) c.0)))
    by_token token.Name s a e = absurd cc
    by_token token.End s a e = absurd cc
    by_token (token.Sign x) s a e = absurd cc

literal_complete : (p : Piece) (l : Literal) → IsShort l → Marks p (short l) → literal_of p ≡ Some l
literal_complete p (literals.Null s) fits is = ap literal_of is
literal_complete p (literals.Integer None s) fits is = ap literal_of is
literal_complete p (literals.Integer (Some m) s) fits is = absurd fits
literal_complete p (literals.Text s) fits is = ap literal_of is

pub literal_reads : Reads literal_at literal (λ l. l) Always nothing
unfolding literal_at
literal_reads =
    recast literal (λ l. l) Always
    (choice_reads (sign Minus) negative_reads (piece_reads literal_of short (λ l. l) IsShort literal_sound literal_complete (literals.Null (record { start = 0; end = 0 }), tt)) (λ f fits. refl)
    (elim [ literals.Null s ↦ λ fits. refl | literals.Integer m d ↦ λ fits. refl | literals.Text s ↦ λ fits. refl ]))
    (elim [
      | inl f ↦ λ fits. (literals.Integer (Some f.0) f.1.0, tt, refl, refl)
      | inr (literals.Null s) ↦ λ fits. (literals.Null s, tt, refl, refl)
      | inr (literals.Integer None d) ↦ λ fits. (literals.Integer None d, tt, refl, refl)
      | inr (literals.Integer (Some m) d) ↦ λ fits. absurd fits
      | inr (literals.Text s) ↦ λ fits. (literals.Text s, tt, refl, refl)
    ])
    (elim [
      | literals.Null s ↦ λ fits. (inr (literals.Null s), tt, refl, refl)
      | literals.Integer None d ↦ λ fits. (inr (literals.Integer None d), tt, refl, refl)
      | literals.Integer (Some m) d ↦ λ fits. (inl (m, (d, tt)), (tt, (tt, tt)), refl, refl)
      | literals.Text s ↦ λ fits. (inr (literals.Text s), tt, refl, refl)
    ])

-- a literal does not begin with a name
no_name : (l : Literal) → Always l → HeadStops (same token.Name) dot (literal l)
no_name (literals.Null s) fits = refl
no_name (literals.Integer None d) fits = refl
no_name (literals.Integer (Some m) d) fits = refl
no_name (literals.Text s) fits = refl

-- ---- operands

pub operand_reads : Reads operand_at operand (λ o. o) Always dot
unfolding operand_at
operand_reads =
    recast operand (λ o. o) Always
    (choice_reads token.Name (then_last column_reads (λ c. operands.Column c)) (widen dot (anything dot) (then_last literal_reads (λ l. operands.Literal l))) (λ c fits. column_head c) no_name)
    (elim [ inl c ↦ λ fits. (operands.Column c, tt, refl, refl) | inr l ↦ λ fits. (operands.Literal l, tt, refl, refl) ])
    (elim [ operands.Column c ↦ λ fits. (inl c, tt, refl, refl) | operands.Literal l ↦ λ fits. (inr l, tt, refl, refl) ])
