-- The rules of statements: what is read by each is what is written by it.
use Rattle.std.proofs.Common.{◌≡◌, ◌≤◌, Bool, true, false, cond, List, [], ◌∷◌, ◌++◌, Option, Some, None, ◌⊎◌, inl, inr, refl, sym, ap, ◌∙◌, arith}
use Rattle.std.specs.Prelude.{◌||◌}
use Rattle.std.specs.List.{flat_map, AllByRecursion}
use Rattle.hy_token.specs.declared.Keyword.{Keyword}
use Rattle.hy_token.specs.declared.Keyword.TheVariants as keyword
use Rattle.hy_token.specs.declared.Sign.TheVariants.{LeftParen, RightParen, Comma, Semicolon, Bang}
use Rattle.hy_token.specs.declared.Span.{Span}
use Rattle.hy_token.specs.declared.Token.{Token}
use Rattle.hy_token.specs.declared.Token.TheVariants as token
use Rattle.hy_value.specs.declared.Kind.{Kind}
use Rattle.hy_value.specs.declared.Kind.TheVariants as kinds
use Rattle.hy_ast.specs.declared.ColumnDef.{ColumnDef}
use Rattle.hy_ast.specs.declared.Literal.{Literal}
use Rattle.hy_ast.specs.declared.Turn.{Turn}
use Rattle.hy_ast.specs.Trees.{Test, SetClause, Selection, Statement}
use Rattle.hy_ast.specs.Trees as tree
use Rattle.hy_parse.specs.declared.Piece.{Piece}
use Rattle.hy_parse.specs.Grammar.{Mark, Any, At, Marks, condition, HasItem, name, optional, kind, column_def, turn, body, marks, IsGroupedSetClause, set_clauses_levels, IsGrouped, levels}
use Rattle.hy_parse.specs.Reading.{Read, same, sign, word, begins, span_of, flag_at, kind_of, column_def_at, create_at, insert_at, session_at, begin_at, alone_at, savepoint_at, release_at, back_at, rollback_at, select_at, update_at, delete_at, turns_at, schedule_at, body_at, read_statement}
use Rattle.hy_parse.proofs.Readers.{Reads, Always, nothing, HeadStops, head_of, then_read, then_last, widen, recast, finish, piece_reads}
use Rattle.hy_parse.proofs.Choices.{same_is, same_self, of_sum, fits_sum, then_one, then_fixed, choice_reads}
use Rattle.hy_parse.proofs.Chains.{at_joins, list_reads, items_reads}
use Rattle.hy_parse.proofs.OperandRules.{anything, flag_reads, name_reads, literal_reads}
use Rattle.hy_parse.proofs.ConditionRules.{either_stops, head_is, ConditionFits}
use Rattle.hy_parse.proofs.ExpressionRules.{goes_formula, SetClauseFits, set_clause_reads}
use Rattle.hy_parse.proofs.QueryRules.{but_end, before_end, always, from_reads, whole_condition, SelectionFits, selection_reads}
use Rattle.hy_limits.specs.declared.TheConstants.{MOST_LEVELS}

-- ---- CREATE

kind_mark : Kind → Mark
kind_mark k = Any (word (kind k))

kind_found : (p : Piece) (a : Kind) (int text : Bool) → same (word keyword.Int) p.token ≡ int → same (word keyword.Text) p.token ≡ text → cond int (Some kinds.Int) (cond text (Some kinds.Str) None) ≡ Some a → p.token ≡ word (kind a)
kind_found p kinds.Int true text is is' e = sym (same_is (word keyword.Int) p.token is)
kind_found p kinds.Str true text is is' e = absurd cc
kind_found p kinds.Str false true is is' e = sym (same_is (word keyword.Text) p.token is')
kind_found p kinds.Int false true is is' e = absurd cc
kind_found p a false false is is' e = absurd cc

kind_sound : (p : Piece) (a : Kind) → kind_of p ≡ Some a → (k : Kind) × Always k × (a ≡ k) × Marks p (kind_mark k)
unfolding kind_mark
kind_sound p a e = (a, tt, refl, kind_found p a (same (word keyword.Int) p.token) (same (word keyword.Text) p.token) refl refl e)

kind_complete : (p : Piece) (k : Kind) → Always k → Marks p (kind_mark k) → kind_of p ≡ Some k
unfolding kind_mark
kind_complete p k fits is = ap (λ (t : Token). kind_of (record { token = t; span = p.span })) is ∙ again k
  where
    again : (k : Kind) → kind_of (record { token = word (kind k); span = p.span }) ≡ Some k
    again kinds.Int = refl
    again kinds.Str = refl

abbrev goes_key : Token → Bool
goes_key t = same (word keyword.Primary) t

column_def_reads : Reads column_def_at column_def (λ def. def) Always goes_key
unfolding column_def_at kind_mark
column_def_reads =
    recast column_def (λ def. def) Always
    (then_one _ name_reads (λ name fits. then_one _ (piece_reads kind_of kind_mark (λ k. k) Always kind_sound kind_complete (kinds.Int, tt)) (λ kind fits'. then_last (flag_reads (word keyword.Primary) (word keyword.Key ∷ [])) (λ key. record { name = name; kind = kind; key = key }))))
    (λ f fits. (record { name = f.0; kind = f.1.0; key = f.1.1 }, tt, refl, refl)) (λ def fits. ((def.name, (def.kind, def.key)), (tt, (tt, tt)), refl, refl))

abbrev goes_columns : Token → Bool
goes_columns t = same (sign Comma) t || goes_key t

create_reads : Reads create_at (λ (f : Span × List ColumnDef). body (tree.Create f.0 f.1)) (λ f. tree.Create f.0 f.1) (λ f. HasItem f.1) but_end
unfolding create_at
create_reads =
    recast (λ f. body (tree.Create f.0 f.1)) (λ f. tree.Create f.0 f.1) (λ f. HasItem f.1)
    (widen but_end (anything but_end) (then_fixed (word keyword.Create ∷ word keyword.Table ∷ []) _ (then_one _ name_reads (λ table fits. then_fixed (sign LeftParen ∷ []) _
    (then_read _ (items_reads goes_columns [] column_def_reads (λ t e. (either_stops _ _ e).1) (λ t e. (either_stops _ _ e).0) refl) (λ columns fits'. then_fixed (sign RightParen ∷ []) _ (finish (tree.Create table columns))) (λ columns u f g. refl))))))
    (λ f fits. ((f.0, f.1.0), fits.1.0.0, refl, refl)) (λ f fits. ((f.0, (f.1, tt)), (tt, ((fits, always f.1), tt)), refl, refl))

-- ---- INSERT

abbrev goes_values : Token → Bool
goes_values t = same (sign Comma) t || nothing t

insert_reads : Reads insert_at (λ (f : Span × List Literal). body (tree.Insert f.0 f.1)) (λ f. tree.Insert f.0 f.1) (λ f. HasItem f.1) but_end
unfolding insert_at
insert_reads =
    recast (λ f. body (tree.Insert f.0 f.1)) (λ f. tree.Insert f.0 f.1) (λ f. HasItem f.1)
    (widen but_end (anything but_end) (then_fixed (word keyword.Insert ∷ word keyword.Into ∷ []) _ (then_one _ name_reads (λ table fits. then_fixed (word keyword.Values ∷ sign LeftParen ∷ []) _
    (then_read _ (items_reads goes_values [] literal_reads (λ t e. refl) (λ t e. (either_stops _ _ e).0) refl) (λ values fits'. then_fixed (sign RightParen ∷ []) _ (finish (tree.Insert table values))) (λ values u f g. refl))))))
    (λ f fits. ((f.0, f.1.0), fits.1.0.0, refl, refl)) (λ f fits. ((f.0, (f.1, tt)), (tt, ((fits, always f.1), tt)), refl, refl))

-- ---- sessions and transactions

session_reads : Reads session_at (λ (s : Span). body (tree.Session s)) (λ s. tree.Session s) Always but_end
unfolding session_at
session_reads = widen but_end (anything but_end) (then_fixed (word keyword.Session ∷ []) _ (then_last name_reads (λ s. tree.Session s)))

begin_reads : Reads begin_at (λ (only : Bool). body (tree.Begin only)) (λ only. tree.Begin only) Always but_end
unfolding begin_at
begin_reads = widen but_end (before_end (same (word keyword.Read)) refl) (then_fixed (word keyword.Begin ∷ []) _ (then_last (flag_reads (word keyword.Read) (word keyword.Only ∷ [])) (λ only. tree.Begin only)))

alone_reads : (k : Keyword) (s : Statement) → Reads {F = Unit {0}} (alone_at k s) (λ u. Any (word k) ∷ []) (λ u. s) Always but_end
unfolding alone_at
alone_reads k s = widen but_end (anything but_end) (then_fixed (word k ∷ []) _ (finish s))

-- ---- savepoints

savepoint_reads : Reads savepoint_at (λ (s : Span). body (tree.Savepoint s)) (λ s. tree.Savepoint s) Always but_end
unfolding savepoint_at
savepoint_reads = widen but_end (anything but_end) (then_fixed (word keyword.Savepoint ∷ []) _ (then_last name_reads (λ s. tree.Savepoint s)))

release_reads : Reads release_at (λ (s : Span). body (tree.Release s)) (λ s. tree.Release s) Always but_end
unfolding release_at
release_reads = widen but_end (anything but_end) (then_fixed (word keyword.Release ∷ []) _ (then_last name_reads (λ s. tree.Release s)))

-- what ROLLBACK goes on with
abbrev goes_back : Token → Bool
goes_back t = same (word keyword.To) t

-- the savepoint that it goes back to, if one is named
abbrev back : Option Span → Statement
back None = tree.Rollback
back (Some s) = tree.RollbackTo s

abbrev to_mark : Option Span → List Mark
to_mark None = []
to_mark (Some s) = Any (word keyword.To) ∷ name s ∷ []

back_reads : Reads back_at to_mark back Always goes_back
unfolding back_at
back_reads =
    recast to_mark back Always
    (choice_reads (word keyword.To) (widen goes_back (anything goes_back) (then_fixed (word keyword.To ∷ []) _ (then_last name_reads (λ s. tree.RollbackTo s))))
    (widen goes_back (anything goes_back) (finish tree.Rollback)) (λ f fits. refl) (λ g fits t stops. stops))
    (elim [ inl s ↦ λ fits. (Some s, tt, refl, refl) | inr u ↦ λ fits. (None, tt, refl, refl) ])
    (elim [ None ↦ λ fits. (inr tt, tt, refl, refl) | Some s ↦ λ fits. (inl s, tt, refl, refl) ])

rollback_reads : Reads rollback_at (λ (to : Option Span). body (back to)) back Always but_end
unfolding rollback_at
rollback_reads =
    recast (λ to. body (back to)) back Always
    (widen but_end (before_end goes_back refl) (then_fixed (word keyword.Rollback ∷ []) _ back_reads))
    (elim [ None ↦ λ fits. (None, tt, refl, refl) | Some s ↦ λ fits. (Some s, tt, refl, refl) ])
    (elim [ None ↦ λ fits. (None, tt, refl, refl) | Some s ↦ λ fits. (Some s, tt, refl, refl) ])

-- ---- rows

select_reads : Reads select_at (λ (s : Selection). body (tree.Select s)) (λ s. tree.Select s) SelectionFits but_end
unfolding select_at
select_reads = then_fixed (word keyword.Select ∷ []) _ (then_last selection_reads (λ s. tree.Select s))

abbrev goes_sets : Token → Bool
goes_sets t = same (sign Comma) t || goes_formula t

no_set : (t : Option Test) → HeadStops goes_sets but_end (condition t)
no_set None = before_end goes_sets refl
no_set (Some t) = refl

record UpdateFits (sets : List SetClause) (t : Option Test) : Type 0 where
  some : HasItem sets
  all : AllByRecursion SetClauseFits sets
  condition : ConditionFits t

update_reads : Reads update_at (λ (f : Span × (List SetClause × Option Test)). body (tree.Update f.0 f.1.0 f.1.1)) (λ f. tree.Update f.0 f.1.0 f.1.1) (λ f. UpdateFits f.1.0 f.1.1) but_end
unfolding update_at
update_reads =
    recast (λ f. body (tree.Update f.0 f.1.0 f.1.1)) (λ f. tree.Update f.0 f.1.0 f.1.1) (λ f. UpdateFits f.1.0 f.1.1)
    (then_fixed (word keyword.Update ∷ []) _ (then_one _ name_reads (λ table fits. then_fixed (word keyword.Set ∷ []) _
    (then_read _ (items_reads goes_sets [] set_clause_reads (λ t e. (either_stops _ _ e).1) (λ t e. (either_stops _ _ e).0) refl) (λ sets fits'. then_last whole_condition (λ t. tree.Update table sets t)) (λ sets t f g. no_set t)))))
    (λ f fits. (f, record { some = fits.1.0.0; all = fits.1.0.1; condition = fits.1.1 }, refl, refl)) (λ f fits. (f, (tt, ((fits.some, fits.all), fits.condition)), refl, refl))

delete_reads : Reads delete_at (λ (f : Span × Option Test). body (tree.Delete f.0 f.1)) (λ f. tree.Delete f.0 f.1) (λ f. ConditionFits f.1) but_end
unfolding delete_at
delete_reads =
    recast (λ f. body (tree.Delete f.0 f.1)) (λ f. tree.Delete f.0 f.1) (λ f. ConditionFits f.1)
    (then_fixed (word keyword.Delete ∷ []) _ (then_one _ from_reads (λ table fits. then_last whole_condition (λ t. tree.Delete table t))))
    (λ f fits. (f, fits.1, refl, refl)) (λ f fits. (f, (tt, fits), refl, refl))

-- ---- SCHEDULE

abbrev goes_turns : Token → Bool
goes_turns t = same token.Name t || same (sign Bang) t

turns_reads : Reads turns_at (flat_map turn) (λ turns. turns) (AllByRecursion Always) goes_turns
turns_reads =
    let more : List Turn → Span → Bool → List Turn = λ turns session whole. turns ++ record { session = session; whole = whole } ∷ [] in
    list_reads (span_of token.Name) more (λ s. At token.Name s) more (same token.Name) (at_joins token.Name more)
    (flag_at (sign Bang) []) (λ b. optional b (Any (sign Bang) ∷ [])) (λ b. b) Always (same (sign Bang)) goes_turns (flag_reads (sign Bang) []) (λ t e. (either_stops _ _ e).1) (λ t e. (either_stops _ _ e).0) (λ s. refl)
    (λ sw. record { session = sw.0; whole = sw.1 }) (λ t. (t.session, t.whole)) (λ turns sw. refl) (λ t. refl) turn Always (λ sw. refl) (λ sw fits. tt) (λ t fits. tt) []

schedule_reads : Reads schedule_at (λ (turns : List Turn). body (tree.Schedule turns)) (λ turns. tree.Schedule turns) (AllByRecursion Always) but_end
unfolding schedule_at
schedule_reads = widen but_end (before_end goes_turns refl) (then_fixed (word keyword.Schedule ∷ []) _ (then_last turns_reads (λ turns. tree.Schedule turns)))

-- ---- statements

-- what is written so begins with one of some tokens
pub record Heads {F : Type 0} (write : F → List Mark) (Fits : F → Type 0) (among : Token → Bool) : Type 0 where
  pub head : (f : F) → Fits f → (t : Token) × (head_of (write f) ≡ Some t) × (among t ≡ true)

unlike : (among : Token → Bool) (t u : Token) (b : Bool) → same t u ≡ b → among t ≡ false → among u ≡ true → same t u ≡ false
unlike among t u false is lacks has = is
unlike among t u true is lacks has = let both = sym (ap among (same_is t u is)) ∙ lacks in absurd (cc (both, has))

-- a rule that begins with a token of its own, or one of the others
or_else : {A F G : Type 0} {read read' : List Piece → Read A} {write : F → List Mark} {view : F → A} {Fits : F → Type 0} {write' : G → List Mark} {view' : G → A} {Fits' : G → Type 0} {among : Token → Bool} (t : Token)
    → Reads read write view Fits but_end → ((f : F) → head_of (write f) ≡ Some t) → Reads read' write' view' Fits' but_end × Heads write' Fits' among → among t ≡ false
    → Reads {F = F ⊎ G} (λ ps. cond (begins t ps) (read ps) (read' ps)) (of_sum write write') (of_sum view view') (fits_sum Fits Fits') but_end × Heads (of_sum write write') (fits_sum Fits Fits') (λ u. same t u || among u)
or_else {F = F} {G = G} {write = write} {Fits = Fits} {write' = write'} {Fits' = Fits'} {among = among} t one opens others lacks =
    (choice_reads t one others.0 (λ f fits. opens f) (λ g fits. (let h = others.1.head g fits in head_is (same t) but_end (write' g) h.0 h.1 (unlike among t h.0 (same t h.0) refl lacks h.2))), record { head = heads })
  where
    or_right : (a b : Bool) → b ≡ true → (a || b) ≡ true
    or_right true b e = refl
    or_right false b e = e

    or_left : (a b : Bool) → a ≡ true → (a || b) ≡ true
    or_left true b e = refl
    or_left false b e = absurd cc

    heads : (f : F ⊎ G) → fits_sum Fits Fits' f → (u : Token) × (head_of (of_sum write write' f) ≡ Some u) × ((same t u || among u) ≡ true)
    heads (inl f) fits = (t, opens f, or_left (same t t) (among t) (same_self t))
    heads (inr g) fits = let h = others.1.head g fits in (h.0, h.1, or_right (same t h.0) (among h.0) h.2)

-- the last of them
or_last : {A F : Type 0} {read : List Piece → Read A} {write : F → List Mark} {view : F → A} {Fits : F → Type 0} (t : Token) → Reads read write view Fits but_end → ((f : F) → head_of (write f) ≡ Some t) → Reads read write view Fits but_end × Heads write Fits (same t)
or_last t one opens = (one, record { head = λ f fits. (t, opens f, same_self t) })

pub record StatementFits (s : Statement) : Type 0 where
  pub grouped : IsGrouped s
  pub within : levels s ≤ MOST_LEVELS

sets_fit : (sets : List SetClause) → AllByRecursion SetClauseFits sets → AllByRecursion IsGroupedSetClause sets × (set_clauses_levels sets ≤ MOST_LEVELS)
sets_fit [] fit = (tt, omega arith)
sets_fit (set ∷ sets) fit = let others = sets_fit sets fit.1 in ((fit.0.grouped, others.0), omega (arith, fit.0.within, others.1))

fit_sets : (sets : List SetClause) → AllByRecursion IsGroupedSetClause sets → set_clauses_levels sets ≤ MOST_LEVELS → AllByRecursion SetClauseFits sets
fit_sets [] grouped within = tt
fit_sets (set ∷ sets) grouped within = (record { grouped = grouped.0; within = omega (arith, within) }, fit_sets sets grouped.1 (omega (arith, within)))

update_fits : (table : Span) (sets : List SetClause) (t : Option Test) → UpdateFits sets t → StatementFits (tree.Update table sets t)
update_fits table sets t fits =
    let known = sets_fit sets fits.all in
    record { grouped = (fits.some, known.0, fits.condition.grouped); within = omega (arith, known.1, fits.condition.within) }

fits_update : (table : Span) (sets : List SetClause) (t : Option Test) → StatementFits (tree.Update table sets t) → UpdateFits sets t
fits_update table sets t fits = record {
  some = fits.grouped.0;
  all = fit_sets sets fits.grouped.1 (omega (arith, fits.within));
  condition = record { grouped = fits.grouped.2; within = omega (arith, fits.within) };
}

body_reads : Reads body_at body (λ s. s) StatementFits but_end
unfolding body_at alone_at
body_reads =
    let rules =
    or_else (word keyword.Create) create_reads (λ f. refl)
    (or_else (word keyword.Insert) insert_reads (λ f. refl)
    (or_else (word keyword.Session) session_reads (λ f. refl)
    (or_else (word keyword.Begin) begin_reads (λ f. refl)
    (or_else (word keyword.Commit) (alone_reads keyword.Commit tree.Commit) (λ f. refl)
    (or_else (word keyword.Rollback) rollback_reads (elim [ None ↦ refl | Some s ↦ refl ])
    (or_else (word keyword.Select) select_reads (λ f. refl)
    (or_else (word keyword.Update) update_reads (λ f. refl)
    (or_else (word keyword.Delete) delete_reads (λ f. refl)
    (or_else (word keyword.Schedule) schedule_reads (λ f. refl)
    (or_else (word keyword.Savepoint) savepoint_reads (λ f. refl)
    (or_else (word keyword.Release) release_reads (λ f. refl)
    (or_last (word keyword.End) (alone_reads keyword.End tree.End) (λ f. refl)) refl) refl) refl) refl) refl) refl) refl) refl) refl) refl) refl) refl in
    recast body (λ s. s) StatementFits rules.0
    (elim [
      | inl f ↦ λ fits. (tree.Create f.0 f.1, record { grouped = fits; within = omega arith }, refl, refl)
      | inr (inl f) ↦ λ fits. (tree.Insert f.0 f.1, record { grouped = fits; within = omega arith }, refl, refl)
      | inr (inr (inl s)) ↦ λ fits. (tree.Session s, record { grouped = tt; within = omega arith }, refl, refl)
      | inr (inr (inr (inl only))) ↦ λ fits. (tree.Begin only, record { grouped = tt; within = omega arith }, refl, refl)
      | inr (inr (inr (inr (inl u)))) ↦ λ fits. (tree.Commit, record { grouped = tt; within = omega arith }, refl, refl)
      | inr (inr (inr (inr (inr (inl None))))) ↦ λ fits. (tree.Rollback, record { grouped = tt; within = omega arith }, refl, refl)
      | inr (inr (inr (inr (inr (inl (Some s)))))) ↦ λ fits. (tree.RollbackTo s, record { grouped = tt; within = omega arith }, refl, refl)
      | inr (inr (inr (inr (inr (inr (inl s)))))) ↦ λ fits. (tree.Select s, record { grouped = fits.grouped; within = fits.within }, refl, refl)
      | inr (inr (inr (inr (inr (inr (inr (inl f))))))) ↦ λ fits. (tree.Update f.0 f.1.0 f.1.1, update_fits f.0 f.1.0 f.1.1 fits, refl, refl)
      | inr (inr (inr (inr (inr (inr (inr (inr (inl f)))))))) ↦ λ fits. (tree.Delete f.0 f.1, record { grouped = fits.grouped; within = fits.within }, refl, refl)
      | inr (inr (inr (inr (inr (inr (inr (inr (inr (inl turns))))))))) ↦ λ fits. (tree.Schedule turns, record { grouped = tt; within = omega arith }, refl, refl)
      | inr (inr (inr (inr (inr (inr (inr (inr (inr (inr (inl s)))))))))) ↦ λ fits. (tree.Savepoint s, record { grouped = tt; within = omega arith }, refl, refl)
      | inr (inr (inr (inr (inr (inr (inr (inr (inr (inr (inr (inl s))))))))))) ↦ λ fits. (tree.Release s, record { grouped = tt; within = omega arith }, refl, refl)
      | inr (inr (inr (inr (inr (inr (inr (inr (inr (inr (inr (inr u))))))))))) ↦ λ fits. (tree.End, record { grouped = tt; within = omega arith }, refl, refl)
    ])
    (elim [
      | tree.Create table columns ↦ λ fits. (inl (table, columns), fits.grouped, refl, refl)
      | tree.Insert table values ↦ λ fits. (inr (inl (table, values)), fits.grouped, refl, refl)
      | tree.Session s ↦ λ fits. (inr (inr (inl s)), tt, refl, refl)
      | tree.Begin only ↦ λ fits. (inr (inr (inr (inl only))), tt, refl, refl)
      | tree.Commit ↦ λ fits. (inr (inr (inr (inr (inl tt)))), tt, refl, refl)
      | tree.Rollback ↦ λ fits. (inr (inr (inr (inr (inr (inl None))))), tt, refl, refl)
      | tree.RollbackTo s ↦ λ fits. (inr (inr (inr (inr (inr (inl (Some s)))))), tt, refl, refl)
      | tree.Select s ↦ λ fits. (inr (inr (inr (inr (inr (inr (inl s)))))), record { grouped = fits.grouped; within = fits.within }, refl, refl)
      | tree.Update table sets t ↦ λ fits. (inr (inr (inr (inr (inr (inr (inr (inl (table, (sets, t))))))))), fits_update table sets t fits, refl, refl)
      | tree.Delete table t ↦ λ fits. (inr (inr (inr (inr (inr (inr (inr (inr (inl (table, t))))))))), record { grouped = fits.grouped; within = fits.within }, refl, refl)
      | tree.Schedule turns ↦ λ fits. (inr (inr (inr (inr (inr (inr (inr (inr (inr (inl turns))))))))), always turns, refl, refl)
      | tree.Savepoint s ↦ λ fits. (inr (inr (inr (inr (inr (inr (inr (inr (inr (inr (inl s)))))))))), tt, refl, refl)
      | tree.Release s ↦ λ fits. (inr (inr (inr (inr (inr (inr (inr (inr (inr (inr (inr (inl s))))))))))), tt, refl, refl)
      | tree.End ↦ λ fits. (inr (inr (inr (inr (inr (inr (inr (inr (inr (inr (inr (inr tt))))))))))), tt, refl, refl)
    ])

pub statement_reads : Reads read_statement marks (λ s. s) StatementFits nothing
unfolding read_statement
statement_reads =
    recast marks (λ s. s) StatementFits
    (then_read _ body_reads (λ s fits. then_fixed (sign Semicolon ∷ []) _ (finish s)) (λ s u f g. refl))
    (λ f fits. (f.0, fits.0, refl, refl)) (λ s fits. ((s, tt), (fits, tt), refl, refl))
