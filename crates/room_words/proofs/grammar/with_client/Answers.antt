-- What clap is told of `client`.
use Rattle.std.proofs.Common.{◌∙◌, ◌||◌, ap, ap₂}
use Rattle.std.proofs.lemmas.Result.{IfOk-weaker}
use Rattle.clap.specs.Words.{App, app_of, with_rule, with_subcommand}
use Rattle.room_words.proofs.grammar.with_client.Goals as goal

pub returns : goal.returns
returns c =
    let local1 = c.in_ok-arg.ensures.globals ∙ ap₂ ◌||◌ c.new.ensures.local c.needed.ensures.local in
    let local2 = c.in_ok-command.ensures.globals ∙ ap₂ ◌||◌ local1 c.needed-2.ensures.local in
    let rule = c.needed.ensures in
    let one = c.in_ok-arg.ensures.shape rule.local ∙ ap₂ with_rule c.new.ensures.app rule.rule in
    let two = c.in_ok-command.ensures.shape c.needed-2.ensures.local ∙ ap₂ with_rule one c.needed-2.ensures.rule in
    IfOk-weaker c.subcommand.result _ _
    (λ r h. h.shape local2 ∙ ap (λ (a : App). with_subcommand (app_of c.args.program) a.top) two) c.subcommand.ensures
