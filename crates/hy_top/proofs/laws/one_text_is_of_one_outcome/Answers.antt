use Rattle.hy_top.proofs.Telling.{texts_tell}
use Rattle.hy_top.proofs.laws.one_text_is_of_one_outcome.Goals as goal

pub returns : goal.returns
returns c = texts_tell (record {
  fits = c.what_is_read_fits.ensures.script;
  options = c.what_is_read_fits.ensures.options;
  names = c.what_is_read_is_named.ensures;
  runs_lawful = c.runs_are_lawful.ensures.lawful;
  runs_serial = c.runs_are_lawful.ensures.serial;
  ends_lawful = c.ends_are_lawful.ensures.lawful;
  ends_serial = c.ends_are_lawful.ensures.serial;
  named = c.what_an_outcome_mentions_has_a_name.ensures;
  tells = c.text_tells_the_outcome.ensures;
})
