-- That the text of tables, with END behind it, is read back as a script with these tables and rows and nothing else, and that the
-- tables of any script that was read have such a text.
use Rattle.std.specs.Prelude.{◌≤◌, ◌*◌, ℕ, List, [], ◌++◌, Ok, codes, length}
use Rattle.hy_limits.specs.declared.TheConstants.{MOST_BYTES}
use Rattle.hy_value.specs.declared.Value.{Value}
use Rattle.hy_schema.specs.declared.TableDef.{TableDef}
use Rattle.hy_script.specs.declared.Options.{Options}
use Rattle.hy_script.specs.declared.Script.{Script}
use Rattle.hy_script.specs.Reading.{Reads}
use Rattle.hy_dump.specs.Dump.{dump}
use Rattle.hy_dump.specs.Writable.{CanBeWritten}

-- the text of tables as a whole script
abbrev pub whole_text : List TableDef → List (List (List Value)) → List ℕ
whole_text catalog tables = dump catalog tables ++ codes "END;\n"

-- a script with these tables and rows, without sessions and with an empty schedule
abbrev pub only_tables : Options → List TableDef → List (List (List Value)) → Script
only_tables options catalog tables = record { catalog = catalog; rows = tables; sessions = []; schedule = []; options = options }

-- what is written is read back, where the text is no longer than a script may be
abbrev pub WhatIsWrittenIsReadBack : Type 0
WhatIsWrittenIsReadBack =
    (options : Options) (catalog : List TableDef) (tables : List (List (List Value))) → CanBeWritten (options.chunks * options.rows) catalog tables
    → length (whole_text catalog tables) ≤ MOST_BYTES → Reads (whole_text catalog tables) options (Ok (only_tables options catalog tables))

-- the tables and the first rows of a script that was read can be written
abbrev pub WhatIsReadCanBeWritten : Type 0
WhatIsReadCanBeWritten =
    (bytes : List ℕ) (options : Options) (script : Script) → Reads bytes options (Ok script)
    → CanBeWritten (options.chunks * options.rows) script.catalog script.rows
