use Rattle.std.proofs.Common.{option_map, subst}
use Rattle.std.specs.Option.{option_copied}
use Rattle.room_script.specs.Grammar.{call_named, brief_named}
use Rattle.room_script.specs.Told.{called, told_of}
use Rattle.room_script.specs.Giving.{Fails}
use Rattle.room_script.proofs.Either.{called_first, asked_then}
use Rattle.room_script.proofs.schedules.line_of_client.Goals as goal

pub returns-in-Ok : goal.returns-in-Ok
returns-in-Ok c =
    called_first c.args.client (call_named c.args.name.now (option_copied c.args.rest)) (brief_named c.args.name.now (option_copied c.args.rest)) (told_of c.in-Ok.line) c.in-Ok.ensures

pub returns-in-Err-Outside : goal.returns-in-Err-Outside
returns-in-Err-Outside c =
    asked_then c.args.client (call_named c.args.name.now (option_copied c.args.rest)) (brief_named c.args.name.now (option_copied c.args.rest)) c.read_brief_or_question.result (subst (λ e. Fails e (option_map (called c.args.client) (call_named c.args.name.now (option_copied c.args.rest)))) c.in-Err-Outside.field-0-is c.in-Err-Outside.ensures) c.read_brief_or_question.ensures
