-- A script read statement by statement: where it stands, what may follow there, and that the statements that
-- follow one another to the end are those of a sentence of the grammar.
use Rattle.std.proofs.Common.{◌≡◌, List, [], ◌∷◌, ◌++◌, Bool, refl, sym, ap, subst, ◌∙◌}
use Rattle.std.proofs.lemmas.List.{append_assoc}
use Rattle.std.specs.List.{AllByRecursion}
use Rattle.hy_ast.specs.Trees.{Statement}
use Rattle.hy_ast.specs.Trees as tree
use Rattle.hy_script.specs.Sentences.{IsDefinition, IsTransactional, IsClosing, Many, none, more, IsTransaction, transaction, IsSession, session, IsSchedule, no_schedule, schedule, IsScript, script}

-- where a script stands between two of its statements
pub data Phase : Type 0 where
  Defining : Phase
  Between : Phase
  Within : Phase
  Scheduled : Phase

-- these statements may follow one another there, up to END
abbrev pub Follows : Phase → List Statement → Type 0
Follows phase [] = ⊥
Follows Defining (tree.Create table columns ∷ rest) = Follows Defining rest
Follows Defining (tree.Insert table values ∷ rest) = Follows Defining rest
Follows Defining (tree.Session name ∷ rest) = Follows Between rest
Follows Defining (tree.Schedule turns ∷ rest) = Follows Scheduled rest
Follows Defining (tree.End ∷ rest) = rest ≡ []
Follows Defining (other ∷ rest) = ⊥
Follows Between (tree.Begin read_only ∷ rest) = Follows Within rest
Follows Between (tree.Session name ∷ rest) = Follows Between rest
Follows Between (tree.Schedule turns ∷ rest) = Follows Scheduled rest
Follows Between (tree.End ∷ rest) = rest ≡ []
Follows Between (other ∷ rest) = ⊥
Follows Within (tree.Select selection ∷ rest) = Follows Within rest
Follows Within (tree.Insert table values ∷ rest) = Follows Within rest
Follows Within (tree.Update table sets test ∷ rest) = Follows Within rest
Follows Within (tree.Delete table test ∷ rest) = Follows Within rest
Follows Within (tree.Savepoint name ∷ rest) = Follows Within rest
Follows Within (tree.RollbackTo name ∷ rest) = Follows Within rest
Follows Within (tree.Release name ∷ rest) = Follows Within rest
Follows Within (tree.Commit ∷ rest) = Follows Between rest
Follows Within (tree.Rollback ∷ rest) = Follows Between rest
Follows Within (other ∷ rest) = ⊥
Follows Scheduled (tree.End ∷ rest) = rest ≡ []
Follows Scheduled (other ∷ rest) = ⊥

-- ---- the statements that follow are the rest of a sentence

-- sessions, then a schedule or none, and END
record AreSessions (statements : List Statement) : Type 0 where
  sessions : List Statement
  last : List Statement
  are : Many IsSession sessions
  ends : IsSchedule last
  parts : statements ≡ sessions ++ (last ++ tree.End ∷ [])

-- transactions, and sessions behind them
record AreTransactions (statements : List Statement) : Type 0 where
  transactions : List Statement
  rest : List Statement
  are : Many IsTransaction transactions
  go_on : AreSessions rest
  parts : statements ≡ transactions ++ rest

-- the rest of a transaction, and transactions behind it
record AreInner (statements : List Statement) : Type 0 where
  body : List Statement
  closing : Statement
  rest : List Statement
  are : AllByRecursion IsTransactional body
  closes : IsClosing closing
  go_on : AreTransactions rest
  parts : statements ≡ body ++ closing ∷ rest

-- definitions, and sessions behind them
record AreDefinitions (statements : List Statement) : Type 0 where
  definitions : List Statement
  rest : List Statement
  are : AllByRecursion IsDefinition definitions
  go_on : AreSessions rest
  parts : statements ≡ definitions ++ rest

-- by where the script stands
abbrev AreRest : Phase → List Statement → Type 0
AreRest Defining statements = AreDefinitions statements
AreRest Between statements = AreTransactions statements
AreRest Within statements = AreInner statements
AreRest Scheduled statements = statements ≡ tree.End ∷ []

-- END alone
ended : (rest : List Statement) → rest ≡ [] → AreSessions (tree.End ∷ rest)
ended rest is = record { sessions = []; last = []; are = none; ends = no_schedule; parts = ap (λ (l : List Statement). tree.End ∷ l) is }

-- a schedule, and END
scheduled : (turns : _) (rest : List Statement) → rest ≡ tree.End ∷ [] → AreSessions (tree.Schedule turns ∷ rest)
scheduled turns rest is = record { sessions = []; last = tree.Schedule turns ∷ []; are = none; ends = schedule turns; parts = ap (λ (l : List Statement). tree.Schedule turns ∷ l) is }

-- a session before others
a_session : (name : _) (rest : List Statement) → AreTransactions rest → AreSessions (tree.Session name ∷ rest)
a_session name rest t = record {
  sessions = tree.Session name ∷ t.transactions ++ t.go_on.sessions;
  last = t.go_on.last;
  are = more (tree.Session name ∷ t.transactions) t.go_on.sessions (session name t.transactions t.are) t.go_on.are;
  ends = t.go_on.ends;
  parts = ap (λ (l : List Statement). tree.Session name ∷ l) (t.parts ∙ ap (λ (l : List Statement). t.transactions ++ l) t.go_on.parts ∙ sym (append_assoc t.transactions t.go_on.sessions (t.go_on.last ++ tree.End ∷ [])));
}

-- where no transaction stands first
no_transaction : (statements : List Statement) → AreSessions statements → AreTransactions statements
no_transaction statements s = record { transactions = []; rest = statements; are = none; go_on = s; parts = refl }

-- a transaction before others
a_transaction : (read_only : Bool) (rest : List Statement) → AreInner rest → AreTransactions (tree.Begin read_only ∷ rest)
a_transaction read_only rest i = record {
  transactions = tree.Begin read_only ∷ (i.body ++ i.closing ∷ []) ++ i.go_on.transactions;
  rest = i.go_on.rest;
  are = more (tree.Begin read_only ∷ (i.body ++ i.closing ∷ [])) i.go_on.transactions (transaction read_only i.body i.closing i.are i.closes) i.go_on.are;
  go_on = i.go_on.go_on;
  parts = ap (λ (l : List Statement). tree.Begin read_only ∷ l) (i.parts ∙ ap (λ (l : List Statement). i.body ++ i.closing ∷ l) i.go_on.parts ∙ regrouped);
}
  where
    regrouped : i.body ++ i.closing ∷ (i.go_on.transactions ++ i.go_on.rest) ≡ ((i.body ++ i.closing ∷ []) ++ i.go_on.transactions) ++ i.go_on.rest
    regrouped = sym (append_assoc i.body (i.closing ∷ []) (i.go_on.transactions ++ i.go_on.rest)) ∙ sym (append_assoc (i.body ++ i.closing ∷ []) i.go_on.transactions i.go_on.rest)

-- a transaction that closes
a_closing : (closing : Statement) (rest : List Statement) → IsClosing closing → AreTransactions rest → AreInner (closing ∷ rest)
a_closing closing rest closes t = record { body = []; closing = closing; rest = rest; are = tt; closes = closes; go_on = t; parts = refl }

-- a statement of a transaction before others
an_inner : (inner : Statement) (rest : List Statement) → IsTransactional inner → AreInner rest → AreInner (inner ∷ rest)
an_inner inner rest is i = record { body = inner ∷ i.body; closing = i.closing; rest = i.rest; are = (is, i.are); closes = i.closes; go_on = i.go_on; parts = ap (λ (l : List Statement). inner ∷ l) i.parts }

-- where no definition stands first
no_definition : (statements : List Statement) → AreSessions statements → AreDefinitions statements
no_definition statements s = record { definitions = []; rest = statements; are = tt; go_on = s; parts = refl }

-- a definition before others
a_definition : (definition : Statement) (rest : List Statement) → IsDefinition definition → AreDefinitions rest → AreDefinitions (definition ∷ rest)
a_definition definition rest is d = record { definitions = definition ∷ d.definitions; rest = d.rest; are = (is, d.are); go_on = d.go_on; parts = ap (λ (l : List Statement). definition ∷ l) d.parts }

-- statements that may follow one another are the rest of a sentence
are_rest : (phase : Phase) (statements : List Statement) → Follows phase statements → AreRest phase statements
are_rest phase [] f = absurd f
are_rest Defining (tree.Create table columns ∷ rest) f = a_definition (tree.Create table columns) rest tt (are_rest Defining rest f)
are_rest Defining (tree.Insert table values ∷ rest) f = a_definition (tree.Insert table values) rest tt (are_rest Defining rest f)
are_rest Defining (tree.Session name ∷ rest) f = no_definition _ (a_session name rest (are_rest Between rest f))
are_rest Defining (tree.Schedule turns ∷ rest) f = no_definition _ (scheduled turns rest (are_rest Scheduled rest f))
are_rest Defining (tree.End ∷ rest) f = no_definition _ (ended rest f)
are_rest Defining (other ∷ rest) f = absurd f
are_rest Between (tree.Begin read_only ∷ rest) f = a_transaction read_only rest (are_rest Within rest f)
are_rest Between (tree.Session name ∷ rest) f = no_transaction _ (a_session name rest (are_rest Between rest f))
are_rest Between (tree.Schedule turns ∷ rest) f = no_transaction _ (scheduled turns rest (are_rest Scheduled rest f))
are_rest Between (tree.End ∷ rest) f = no_transaction _ (ended rest f)
are_rest Between (other ∷ rest) f = absurd f
are_rest Within (tree.Select selection ∷ rest) f = an_inner (tree.Select selection) rest tt (are_rest Within rest f)
are_rest Within (tree.Insert table values ∷ rest) f = an_inner (tree.Insert table values) rest tt (are_rest Within rest f)
are_rest Within (tree.Update table sets test ∷ rest) f = an_inner (tree.Update table sets test) rest tt (are_rest Within rest f)
are_rest Within (tree.Delete table test ∷ rest) f = an_inner (tree.Delete table test) rest tt (are_rest Within rest f)
are_rest Within (tree.Savepoint name ∷ rest) f = an_inner (tree.Savepoint name) rest tt (are_rest Within rest f)
are_rest Within (tree.RollbackTo name ∷ rest) f = an_inner (tree.RollbackTo name) rest tt (are_rest Within rest f)
are_rest Within (tree.Release name ∷ rest) f = an_inner (tree.Release name) rest tt (are_rest Within rest f)
are_rest Within (tree.Commit ∷ rest) f = a_closing tree.Commit rest tt (are_rest Between rest f)
are_rest Within (tree.Rollback ∷ rest) f = a_closing tree.Rollback rest tt (are_rest Between rest f)
are_rest Within (other ∷ rest) f = absurd f
are_rest Scheduled (tree.End ∷ rest) f = ap (λ (l : List Statement). tree.End ∷ l) f
are_rest Scheduled (other ∷ rest) f = absurd f

-- statements that follow one another from the beginning to END are a sentence
pub is_sentence : (statements : List Statement) → Follows Defining statements → IsScript statements
is_sentence statements f =
    let d = are_rest Defining statements f in
    let parts : statements ≡ d.definitions ++ (d.go_on.sessions ++ (d.go_on.last ++ tree.End ∷ [])) = d.parts ∙ ap (λ (l : List Statement). d.definitions ++ l) d.go_on.parts in
    subst IsScript (sym parts) (script d.definitions d.go_on.sessions d.go_on.last d.are d.go_on.are d.go_on.ends)

-- ---- the statements of a sentence follow one another

-- the part leads from one phase to the other: it may stand before what may follow there
abbrev Leads : Phase → Phase → List Statement → Type 0
Leads from to part = (rest : List Statement) → Follows to rest → Follows from (part ++ rest)

-- a transaction's statements
inner_follows : (body : List Statement) → AllByRecursion IsTransactional body → Leads Within Within body
inner_follows [] all rest f = f
inner_follows (tree.Select selection ∷ body) all rest f = inner_follows body all.1 rest f
inner_follows (tree.Insert table values ∷ body) all rest f = inner_follows body all.1 rest f
inner_follows (tree.Update table sets test ∷ body) all rest f = inner_follows body all.1 rest f
inner_follows (tree.Delete table test ∷ body) all rest f = inner_follows body all.1 rest f
inner_follows (tree.Savepoint name ∷ body) all rest f = inner_follows body all.1 rest f
inner_follows (tree.RollbackTo name ∷ body) all rest f = inner_follows body all.1 rest f
inner_follows (tree.Release name ∷ body) all rest f = inner_follows body all.1 rest f
inner_follows (other ∷ body) all rest f = absurd all.0

-- what closes a transaction
closing_follows : (closing : Statement) → IsClosing closing → Leads Within Between (closing ∷ [])
closing_follows tree.Commit closes rest f = f
closing_follows tree.Rollback closes rest f = f
closing_follows other closes rest f = absurd closes

-- a transaction
transaction_follows : (part : List Statement) → IsTransaction part → Leads Between Between part
transaction_follows _ (transaction read_only body closing are closes) rest f =
    subst (Follows Within) (sym (append_assoc body (closing ∷ []) rest)) (inner_follows body are (closing ∷ rest) (closing_follows closing closes rest f))

-- parts, each of which leads from a phase to that phase
many_follow : (phase : Phase) (IsPart : List Statement → Type 0) → ((part : List Statement) → IsPart part → Leads phase phase part) → (parts : List Statement) → Many IsPart parts → Leads phase phase parts
many_follow phase IsPart leads _ none rest f = f
many_follow phase IsPart leads _ (more part parts is many) rest f =
    subst (Follows phase) (sym (append_assoc part parts rest)) (leads part is (parts ++ rest) (many_follow phase IsPart leads parts many rest f))

-- a session behind others
session_follows : (part : List Statement) → IsSession part → Leads Between Between part
session_follows _ (session name transactions many) rest f = many_follow Between IsTransaction transaction_follows transactions many rest f

-- sessions behind definitions
sessions_follow : (sessions : List Statement) → Many IsSession sessions → (rest : List Statement) → Follows Between rest → Follows Defining rest → Follows Defining (sessions ++ rest)
sessions_follow _ none rest between defining = defining
sessions_follow _ (more part parts is many) rest between defining = first part is
  where
    first : (part : List Statement) → IsSession part → Follows Defining ((part ++ parts) ++ rest)
    first _ (session name transactions inner) = subst (Follows Between) (sym (append_assoc transactions parts rest))
        (many_follow Between IsTransaction transaction_follows transactions inner (parts ++ rest) (many_follow Between IsSession session_follows parts many rest between))

-- a schedule or none, and END, behind definitions and behind sessions
schedule_follows : (last : List Statement) → IsSchedule last → Follows Defining (last ++ tree.End ∷ []) × Follows Between (last ++ tree.End ∷ [])
schedule_follows _ no_schedule = (refl, refl)
schedule_follows _ (schedule turns) = (refl, refl)

-- definitions
definitions_follow : (definitions : List Statement) → AllByRecursion IsDefinition definitions → Leads Defining Defining definitions
definitions_follow [] all rest f = f
definitions_follow (tree.Create table columns ∷ body) all rest f = definitions_follow body all.1 rest f
definitions_follow (tree.Insert table values ∷ body) all rest f = definitions_follow body all.1 rest f
definitions_follow (other ∷ body) all rest f = absurd all.0

-- the statements of a sentence follow one another from the beginning to END
pub sentence_follows : (statements : List Statement) → IsScript statements → Follows Defining statements
sentence_follows _ (script definitions sessions last defined many ends) =
    let end = schedule_follows last ends in
    definitions_follow definitions defined (sessions ++ (last ++ tree.End ∷ [])) (sessions_follow sessions many (last ++ tree.End ∷ []) end.1 end.0)
