-- Transactions alone: those of one list more, and the first statements of a transaction.
use Rattle.std.proofs.Common.{◌≡◌, ℕ, zero, suc, List, [], ◌∷◌, ◌++◌, Option, None, Some, take, refl, ap}
use Rattle.hy_bound.specs.declared.Bound.{Bound}
use Rattle.hy_bound.specs.declared.Reply.{Reply}
use Rattle.hy_bound.specs.declared.Shape.{Shape}
use Rattle.hy_bound.specs.Savepoints.{Saved, saved_after, value_after}
use Rattle.hy_meaning.specs.Statement.{Database, mean}
use Rattle.hy_meaning.specs.Serial.{Alone, database_back, goes_on, alone_from, alone_of, serial}
use Rattle.hy_lawful.specs.Serial.{AreFirstOf}

-- one transaction more runs from the database that those before it leave
pub serial_more : (shapes : List Shape) (transactions : List (List Bound)) (statements : List Bound) (db : Database)
    → serial shapes (transactions ++ statements ∷ []) db ≡ (alone_of shapes statements (serial shapes transactions db)).database
serial_more shapes [] statements db = refl
serial_more shapes (first ∷ transactions) statements db = serial_more shapes transactions statements (alone_of shapes first db).database

first_given : (number : ℕ) (db : Database) (given : Option (Reply × Database)) (less more : Database → Alone)
    → ((after : Database) → (less after).stop ≡ None → AreFirstOf (less after).replies (more after).replies) → (goes_on number db given less).stop ≡ None
    → AreFirstOf (goes_on number db given less).replies (goes_on number db given more).replies
first_given number db None less more h e = absurd cc
first_given number db (Some given) less more h e = ap (λ (replies : List Reply). given.0 ∷ replies) (h given.1 e)

-- where the first statements don't stop, their replies are the first of those of all
pub first_replies : (shapes : List Shape) (saved : List (Saved Database)) (number many : ℕ) (statements : List Bound) (db : Database)
    → (alone_from shapes saved number (take many statements) db).stop ≡ None
    → AreFirstOf (alone_from shapes saved number (take many statements) db).replies (alone_from shapes saved number statements db).replies
first_replies shapes saved number zero [] db e = refl
first_replies shapes saved number zero (statement ∷ statements) db e = refl
first_replies shapes saved number (suc many) [] db e = refl
first_replies shapes saved number (suc many) (statement ∷ statements) db e =
    first_given number db (mean shapes statement db)
    (λ left. alone_from shapes (saved_after statement saved left) (suc number) (take many statements) (value_after database_back statement saved left))
    (λ left. alone_from shapes (saved_after statement saved left) (suc number) statements (value_after database_back statement saved left))
    (λ left stop.
    first_replies shapes (saved_after statement saved left) (suc number) many statements (value_after database_back statement saved left) stop) e
