use Rattle.std.proofs.Common.{option_map, subst}
use Rattle.std.specs.Option.{option_copied}
use Rattle.room_script.specs.Grammar.{call_named, question_named}
use Rattle.room_script.specs.Told.{called, told_of}
use Rattle.room_script.specs.Giving.{Fails}
use Rattle.room_script.proofs.Either.{called_alone, asked_alone}
use Rattle.room_script.proofs.scripts.line_of_the_client.Goals as goal

pub returns-in-Ok : goal.returns-in-Ok
returns-in-Ok c =
    called_alone (call_named c.args.name.now (option_copied c.args.rest)) (question_named c.args.name.now (option_copied c.args.rest)) (told_of c.in-Ok.line) c.in-Ok.ensures

pub returns-in-Err-Outside : goal.returns-in-Err-Outside
returns-in-Err-Outside c =
    asked_alone (call_named c.args.name.now (option_copied c.args.rest)) (question_named c.args.name.now (option_copied c.args.rest)) c.read_question.result (subst (λ e. Fails e (option_map (called 0) (call_named c.args.name.now (option_copied c.args.rest)))) c.in-Err-Outside.field-0-is c.in-Err-Outside.ensures) c.read_question.ensures
