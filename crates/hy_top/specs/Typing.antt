-- That the values of a script are of the types of its tables' columns.
use Rattle.std.specs.Prelude.{ℕ, ◌≤◌, List, Ok, map}
use Rattle.hy_bind.specs.Shapes.{catalog_shapes}
use Rattle.hy_script.specs.declared.Options.{Options}
use Rattle.hy_script.specs.declared.Script.{Script}
use Rattle.hy_script.specs.Reading.{Reads}
use Rattle.hy_gen.specs.Made.{made}
use Rattle.hy_setting.specs.Kinds.{catalog_kinds}
use Rattle.hy_stepping.specs.Typed.{AreTyped}

-- the first rows and the statements of a script are of the types of its tables
abbrev pub IsTypedScript : Script → Type 0
IsTypedScript script =
    AreTyped (catalog_kinds script.catalog) (catalog_shapes script.catalog) script.rows (map (λ session. session.txns) script.sessions)

-- so is each script that is read
abbrev pub WhatIsReadIsTyped : Type 0
WhatIsReadIsTyped = (bytes : List ℕ) (options : Options) (script : Script) → Reads bytes options (Ok script) → IsTypedScript script

-- and each that is made
abbrev pub WhatIsMadeIsTyped : Type 0
WhatIsMadeIsTyped = (seed sessions txns : ℕ) → sessions ≤ 64 → txns ≤ 1000 → IsTypedScript (made seed sessions txns)
