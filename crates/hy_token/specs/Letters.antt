-- The one reserved word that a word can be: by its length and its first two letters, or by all its letters as one number.
use Rattle.std.specs.Prelude.{ℕ, ◌+◌, ◌*◌, ◌^◌, ◌%◌, Option, Some, None, List, [], ◌∷◌, ◌==◌, ◌&&◌, if◌then◌else◌}
use Rattle.hy_token.specs.Lengths.{small}
use Rattle.hy_token.specs.declared.Keyword.{Keyword}
use Rattle.hy_token.specs.declared.Keyword.TheVariants.{And, Begin, By, Commit, Count, Create, Delete, End, From, Group, Insert, Int, Into, Is, Join, Key, Not, Null, On, Only, Or, Primary, Read, Release, Rollback, Savepoint, Schedule, Select, Session, Set, Sum, Table, Text, To, Update, Values, Where}

-- The letters are given in lower case. 97 is `a`.
abbrev pub candidate : ℕ → ℕ → ℕ → Option Keyword
candidate len first second =
    if len == 2 && first == 98 then Some By
    else (if len == 2 && first == 105 then Some Is
    else (if len == 2 && first == 111 && second == 110 then Some On
    else (if len == 2 && first == 111 && second == 114 then Some Or
    else (if len == 2 && first == 116 then Some To
    else (if len == 3 && first == 97 then Some And
    else (if len == 3 && first == 101 then Some End
    else (if len == 3 && first == 105 then Some Int
    else (if len == 3 && first == 107 then Some Key
    else (if len == 3 && first == 110 then Some Not
    else (if len == 3 && first == 115 && second == 101 then Some Set
    else (if len == 3 && first == 115 && second == 117 then Some Sum
    else (if len == 4 && first == 102 then Some From
    else (if len == 4 && first == 105 then Some Into
    else (if len == 4 && first == 106 then Some Join
    else (if len == 4 && first == 110 then Some Null
    else (if len == 4 && first == 111 then Some Only
    else (if len == 4 && first == 114 then Some Read
    else (if len == 4 && first == 116 then Some Text
    else (if len == 5 && first == 98 then Some Begin
    else (if len == 5 && first == 99 then Some Count
    else (if len == 5 && first == 103 then Some Group
    else (if len == 5 && first == 116 then Some Table
    else (if len == 5 && first == 119 then Some Where
    else (if len == 6 && first == 99 && second == 111 then Some Commit
    else (if len == 6 && first == 99 && second == 114 then Some Create
    else (if len == 6 && first == 100 then Some Delete
    else (if len == 6 && first == 105 then Some Insert
    else (if len == 6 && first == 115 then Some Select
    else (if len == 6 && first == 117 then Some Update
    else (if len == 6 && first == 118 then Some Values
    else (if len == 7 && first == 112 then Some Primary
    else (if len == 7 && first == 114 then Some Release
    else (if len == 7 && first == 115 then Some Session
    else (if len == 8 && first == 114 then Some Rollback
    else (if len == 8 && first == 115 then Some Schedule
    else (if len == 9 && first == 115 then Some Savepoint
    else None))))))))))))))))))))))))))))))))))))

-- the number that letters are with one more behind them, as 64 bits hold it
abbrev pub with_letter : ℕ → ℕ → ℕ
with_letter letters b = ((letters * 256) % 2 ^ 64 + b) % 2 ^ 64

-- A word of which `len` bytes are seen, which are the number `letters` in lower case, with what goes on with it.
abbrev pub word_on : ℕ → ℕ → List ℕ → ℕ × ℕ
word_on len letters [] = (len, letters)
word_on len letters (b ∷ bs) =
    if small b == 0 then (len, letters)
    else word_on (len + 1) (with_letter letters (small b)) bs

-- The reserved word of this many letters that are this number in lower case. 0x61 is `a`.
abbrev pub reserved : ℕ → ℕ → Option Keyword
reserved len letters =
    if len == 2 && letters == 0x62_79 then Some By
    else (if len == 2 && letters == 0x69_73 then Some Is
    else (if len == 2 && letters == 0x6f_6e then Some On
    else (if len == 2 && letters == 0x6f_72 then Some Or
    else (if len == 2 && letters == 0x74_6f then Some To
    else (if len == 3 && letters == 0x61_6e_64 then Some And
    else (if len == 3 && letters == 0x65_6e_64 then Some End
    else (if len == 3 && letters == 0x69_6e_74 then Some Int
    else (if len == 3 && letters == 0x6b_65_79 then Some Key
    else (if len == 3 && letters == 0x6e_6f_74 then Some Not
    else (if len == 3 && letters == 0x73_65_74 then Some Set
    else (if len == 3 && letters == 0x73_75_6d then Some Sum
    else (if len == 4 && letters == 0x66_72_6f_6d then Some From
    else (if len == 4 && letters == 0x69_6e_74_6f then Some Into
    else (if len == 4 && letters == 0x6a_6f_69_6e then Some Join
    else (if len == 4 && letters == 0x6e_75_6c_6c then Some Null
    else (if len == 4 && letters == 0x6f_6e_6c_79 then Some Only
    else (if len == 4 && letters == 0x72_65_61_64 then Some Read
    else (if len == 4 && letters == 0x74_65_78_74 then Some Text
    else (if len == 5 && letters == 0x62_65_67_69_6e then Some Begin
    else (if len == 5 && letters == 0x63_6f_75_6e_74 then Some Count
    else (if len == 5 && letters == 0x67_72_6f_75_70 then Some Group
    else (if len == 5 && letters == 0x74_61_62_6c_65 then Some Table
    else (if len == 5 && letters == 0x77_68_65_72_65 then Some Where
    else (if len == 6 && letters == 0x63_6f_6d_6d_69_74 then Some Commit
    else (if len == 6 && letters == 0x63_72_65_61_74_65 then Some Create
    else (if len == 6 && letters == 0x64_65_6c_65_74_65 then Some Delete
    else (if len == 6 && letters == 0x69_6e_73_65_72_74 then Some Insert
    else (if len == 6 && letters == 0x73_65_6c_65_63_74 then Some Select
    else (if len == 6 && letters == 0x75_70_64_61_74_65 then Some Update
    else (if len == 6 && letters == 0x76_61_6c_75_65_73 then Some Values
    else (if len == 7 && letters == 0x70_72_69_6d_61_72_79 then Some Primary
    else (if len == 7 && letters == 0x72_65_6c_65_61_73_65 then Some Release
    else (if len == 7 && letters == 0x73_65_73_73_69_6f_6e then Some Session
    else (if len == 8 && letters == 0x72_6f_6c_6c_62_61_63_6b then Some Rollback
    else (if len == 8 && letters == 0x73_63_68_65_64_75_6c_65 then Some Schedule
    else None)))))))))))))))))))))))))))))))))))
