-- The reserved words.
use Rattle.std.specs.Prelude.{ℕ, Bool, Option, List, [], ◌∷◌, codes, find}
use Rattle.std.specs.Str.{bytes_eq, str_to_ascii_lowercase}
use Rattle.hy_token.specs.declared.Keyword.{Keyword}
use Rattle.hy_token.specs.declared.Keyword.TheVariants.{And, Begin, By, Commit, Count, Create, Delete, End, From, Group, Insert, Int, Into, Is, Join, Key, Not, Null, On, Only, Or, Primary, Read, Release, Rollback, Savepoint, Schedule, Select, Session, Set, Sum, Table, Text, To, Update, Values, Where}

-- a reserved word in capital letters
abbrev pub word_spelling : Keyword → List ℕ
word_spelling And = codes "AND"
word_spelling Begin = codes "BEGIN"
word_spelling By = codes "BY"
word_spelling Commit = codes "COMMIT"
word_spelling Count = codes "COUNT"
word_spelling Create = codes "CREATE"
word_spelling Delete = codes "DELETE"
word_spelling End = codes "END"
word_spelling From = codes "FROM"
word_spelling Group = codes "GROUP"
word_spelling Insert = codes "INSERT"
word_spelling Int = codes "INT"
word_spelling Into = codes "INTO"
word_spelling Is = codes "IS"
word_spelling Join = codes "JOIN"
word_spelling Key = codes "KEY"
word_spelling Not = codes "NOT"
word_spelling Null = codes "NULL"
word_spelling On = codes "ON"
word_spelling Only = codes "ONLY"
word_spelling Or = codes "OR"
word_spelling Primary = codes "PRIMARY"
word_spelling Read = codes "READ"
word_spelling Release = codes "RELEASE"
word_spelling Rollback = codes "ROLLBACK"
word_spelling Savepoint = codes "SAVEPOINT"
word_spelling Schedule = codes "SCHEDULE"
word_spelling Select = codes "SELECT"
word_spelling Session = codes "SESSION"
word_spelling Set = codes "SET"
word_spelling Sum = codes "SUM"
word_spelling Table = codes "TABLE"
word_spelling Text = codes "TEXT"
word_spelling To = codes "TO"
word_spelling Update = codes "UPDATE"
word_spelling Values = codes "VALUES"
word_spelling Where = codes "WHERE"

-- every reserved word, in the order of the alphabet
abbrev pub keywords : List Keyword
keywords = And ∷ Begin ∷ By ∷ Commit ∷ Count ∷ Create ∷ Delete ∷ End ∷ From ∷ Group ∷ Insert ∷ Int ∷ Into ∷ Is ∷ Join ∷ Key ∷ Not ∷ Null ∷ On ∷ Only ∷ Or ∷ Primary ∷ Read ∷ Release ∷ Rollback ∷ Savepoint ∷ Schedule ∷ Select ∷ Session ∷ Set ∷ Sum ∷ Table ∷ Text ∷ To ∷ Update ∷ Values ∷ Where ∷ []

-- whether two words are the same but for the case of ASCII letters
abbrev pub same_but_case : List ℕ → List ℕ → Bool
same_but_case xs ys = bytes_eq (str_to_ascii_lowercase xs) (str_to_ascii_lowercase ys)

-- the reserved word that a word is, in any case, or none
unfoldable pub keyword_of : List ℕ → Option Keyword
keyword_of word = find (λ k. same_but_case (word_spelling k) word) keywords
