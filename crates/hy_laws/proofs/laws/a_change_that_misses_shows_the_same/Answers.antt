use Rattle.hy_laws.proofs.CellColumns.{logged_have_their_columns}
use Rattle.hy_laws.proofs.CellShows.{shows_the_same, tables_show_the_same, shows_what_is_read}
use Rattle.hy_laws.proofs.laws.a_change_that_misses_shows_the_same.Goals as goal

pub returns-clause-cell : goal.returns-clause-cell
returns-clause-cell c = shows_the_same

pub returns-clause-tables : goal.returns-clause-tables
returns-clause-tables c = tables_show_the_same

pub returns-clause-shown : goal.returns-clause-shown
returns-clause-shown c = shows_what_is_read

pub returns-clause-records : goal.returns-clause-records
returns-clause-records c = logged_have_their_columns
