-- The names of the tables and sessions of a script that is read.
use Rattle.std.specs.Prelude.{◌≡◌, ◌≢◌, ℕ, ◌≤◌, true, List, length, map}
use Rattle.std.specs.List.{All, AllPairs}
use Rattle.hy_token.specs.Lengths.{continues_word}
use Rattle.hy_schema.specs.Names.{table_names}
use Rattle.hy_script.specs.declared.NamedTxns.{NamedTxns}
use Rattle.hy_script.specs.declared.Script.{Script}

-- a word: letters, digits and `_`, at most 32
pub record IsWord (name : List ℕ) : Type 0 where
  pub short : length name ≤ 32
  pub letters : All (λ byte. continues_word byte ≡ true) name

-- names are words, and no two of them are the same
pub record AreNames (names : List (List ℕ)) : Type 0 where
  pub words : All IsWord names
  pub differ : AllPairs (λ one other. one ≢ other) names

-- the names of sessions
abbrev pub session_names : List NamedTxns → List (List ℕ)
session_names sessions = map (λ session. session.name) sessions

-- so are those of a script's tables, and those of its sessions
pub record IsNamed (script : Script) : Type 0 where
  pub tables : AreNames (table_names script.catalog)
  pub sessions : AreNames (session_names script.sessions)
