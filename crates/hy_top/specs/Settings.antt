-- A script as the machine and the engine run it.
use Rattle.std.specs.Prelude.{map}
use Rattle.hy_bind.specs.Shapes.{catalog_shapes}
use Rattle.hy_script.specs.declared.Script.{Script}
use Rattle.hy_machine.specs.declared.Setting.{Setting}
use Rattle.hy_stepping.specs.Runnable.{IsRunnable}
use Rattle.hy_stepping.specs.Texts.{AreUtf8}
use Rattle.hy_top.specs.Typing.{IsTypedScript}

-- what of a script does not change while it runs
abbrev pub setting_at : Script → Setting
setting_at script = record {
  chunks = script.options.chunks;
  rows = script.options.rows;
  shapes = catalog_shapes script.catalog;
  first = script.rows;
  programs = map (λ session. session.txns) script.sessions;
}

-- the engine can run a script
pub record CanRun (script : Script) : Type 0 where
  pub runnable : IsRunnable (setting_at script)
  pub typed : IsTypedScript script

-- the texts that a script writes are UTF-8
abbrev pub IsUtf8Script : Script → Type 0
IsUtf8Script script = AreUtf8 script.rows (map (λ session. session.txns) script.sessions)
