-- Laws on what the engine shows.
use Rattle.std.specs.Prelude.{List}
use Rattle.hy_event.specs.declared.SessionData.{SessionData}
use Rattle.hy_event.specs.Events.{Part}
use Rattle.hy_machine.specs.declared.Setting.{Setting}
use Rattle.hy_machine.specs.Runs.{opening_of}
use Rattle.hy_refinement.specs.Shows.{Shows, IsOpening}

-- before anything has happened the parts and sessions show the machine's opening
abbrev pub OpeningIsShown : Type 0
OpeningIsShown = (setting : Setting) (parts : List Part) (sessions : List SessionData) → IsOpening setting parts sessions
    → Shows setting (opening_of setting) parts sessions
