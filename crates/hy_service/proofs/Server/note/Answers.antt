use Rattle.std.proofs.Common.{◌++◌, refl}
use Rattle.hy_event.specs.declared.lines.SessionLine.{SessionLine}
use Rattle.hy_event.specs.declared.lines.SessionLine.TheVariants.{Begin, Statement}
use Rattle.hy_render.specs.declared.Names.{Names}
use Rattle.hy_serving.specs.declared.Saying.{Saying}
use Rattle.hy_serving.specs.declared.Saying.TheVariants.{Nothing, Ends, Defines, Begins, Says, Closes, Refused}
use Rattle.hy_service.specs.Knowing.{listed}
use Rattle.hy_service.proofs.HeardLines.{TakingLaws, closing_is, heard_so, named_server, no_names, server_answers, server_due, server_ends}
use Rattle.hy_service.proofs.Server.note.Goals as goal

pub returns-in_ok-add_name-in-Begins-clause-noted : goal.returns-in_ok-add_name-in-Begins-clause-noted
returns-in_ok-add_name-in-Begins-clause-noted c = λ lines known.
    let old = c.args.self.now in
    let noting = c.listen.new.self in
    let said : Saying = Begins c.in-Begins.number c.in-Begins.read_only c.in-Begins.name in
    let is = heard_so old.options old.desk noting.desk c.args.line.now c.in_ok-listen.field-0 said c.in_ok-listen.ensures.said c.in-Begins.is in
    let laws : TakingLaws = record {
      rows = c.first_rows_are_not_asked_for.ensures;
      sound = c.services_are_sound.ensures;
      can = c.lines_can_be_taken.ensures;
      heard = c.lines_are_heard.ensures;
    } in
    let names : Names = record old.names { sessions = old.names.sessions ++ listed c.in-Begins.name } in
    let server_is = named_server old noting c.add_name.new.self c.in-Begins.name c.listen.ensures.rest c.in_ok-add_name-in-Begins.ensures.added in
    server_due laws lines c.args.line.now old c.add_name.new.self noting.desk names said c.in-Begins.number (Begin c.in-Begins.read_only) known is
    (record { tables = refl; sessions = refl }) refl server_is

pub returns-in-Says-clause-noted : goal.returns-in-Says-clause-noted
returns-in-Says-clause-noted c = λ lines known.
    let old = c.args.self.now in
    let noting = c.listen.new.self in
    let said : Saying = Says c.in-Says.number c.in-Says.bound in
    let is = heard_so old.options old.desk noting.desk c.args.line.now c.in_ok-listen.field-0 said c.in_ok-listen.ensures.said c.in-Says.is in
    let laws : TakingLaws = record {
      rows = c.first_rows_are_not_asked_for.ensures;
      sound = c.services_are_sound.ensures;
      can = c.lines_can_be_taken.ensures;
      heard = c.lines_are_heard.ensures;
    } in
    server_due laws lines c.args.line.now old noting noting.desk old.names said c.in-Says.number (Statement c.in-Says.bound) known is
    (no_names said old.names refl) refl c.listen.ensures.rest

pub returns-in-Closes-clause-noted : goal.returns-in-Closes-clause-noted
returns-in-Closes-clause-noted c = λ lines known.
    let old = c.args.self.now in
    let noting = c.listen.new.self in
    let said : Saying = Closes c.in-Closes.number c.in-Closes.commits in
    let is = heard_so old.options old.desk noting.desk c.args.line.now c.in_ok-listen.field-0 said c.in_ok-listen.ensures.said c.in-Closes.is in
    let laws : TakingLaws = record {
      rows = c.first_rows_are_not_asked_for.ensures;
      sound = c.services_are_sound.ensures;
      can = c.lines_can_be_taken.ensures;
      heard = c.lines_are_heard.ensures;
    } in
    server_due laws lines c.args.line.now old noting noting.desk old.names said c.in-Closes.number c.closing_line-line.result known is
    (no_names said old.names refl) (closing_is c.in-Closes.number c.in-Closes.commits c.closing_line-line.result c.closing_line-line.ensures) c.listen.ensures.rest

pub returns-in-Ends-clause-noted : goal.returns-in-Ends-clause-noted
returns-in-Ends-clause-noted c = λ lines known.
    let old = c.args.self.now in
    let noting = c.listen.new.self in
    let said : Saying = Ends in
    let is = heard_so old.options old.desk noting.desk c.args.line.now c.in_ok-listen.field-0 said c.in_ok-listen.ensures.said c.in-Ends.is in
    server_ends c.first_rows_are_not_asked_for.ensures lines c.args.line.now old noting known is c.listen.ensures.rest

pub returns-in-Nothing-clause-noted : goal.returns-in-Nothing-clause-noted
returns-in-Nothing-clause-noted c = λ lines known.
    let old = c.args.self.now in
    let noting = c.listen.new.self in
    let said : Saying = Nothing in
    let is = heard_so old.options old.desk noting.desk c.args.line.now c.in_ok-listen.field-0 said c.in_ok-listen.ensures.said c.in-Nothing.is in
    server_answers c.answered_alone.result c.first_rows_are_not_asked_for.ensures c.lines_are_heard.ensures lines c.args.line.now old noting said known is
    c.listen.ensures.rest refl refl refl c.answered_alone.ensures

pub returns-in-Defines-clause-noted : goal.returns-in-Defines-clause-noted
returns-in-Defines-clause-noted c = λ lines known.
    let old = c.args.self.now in
    let noting = c.listen.new.self in
    let said : Saying = Defines in
    let is = heard_so old.options old.desk noting.desk c.args.line.now c.in_ok-listen.field-0 said c.in_ok-listen.ensures.said c.in-Defines.is in
    server_answers c.answered_alone-in-Defines.result c.first_rows_are_not_asked_for.ensures c.lines_are_heard.ensures lines c.args.line.now old noting said known is
    c.listen.ensures.rest refl refl refl c.answered_alone-in-Defines.ensures

pub returns-in-Refused-clause-noted : goal.returns-in-Refused-clause-noted
returns-in-Refused-clause-noted c = λ lines known.
    let old = c.args.self.now in
    let noting = c.listen.new.self in
    let said : Saying = Refused c.in-Refused.name c.in-Refused.cause in
    let is = heard_so old.options old.desk noting.desk c.args.line.now c.in_ok-listen.field-0 said c.in_ok-listen.ensures.said c.in-Refused.is in
    server_answers c.answered_alone-in-Refused.result c.first_rows_are_not_asked_for.ensures c.lines_are_heard.ensures lines c.args.line.now old noting said known is
    c.listen.ensures.rest refl refl refl c.answered_alone-in-Refused.ensures
