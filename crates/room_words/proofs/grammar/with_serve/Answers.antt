-- What clap is told of `serve`.
use Rattle.std.proofs.Common.{◌∙◌, ◌||◌, ap, ap₂}
use Rattle.std.proofs.lemmas.Result.{IfOk-weaker}
use Rattle.clap.specs.Words.{App, app_of, with_rule, with_subcommand}
use Rattle.room_words.proofs.grammar.with_serve.Goals as goal

pub returns : goal.returns
returns c =
    let local1 = c.in_ok-arg.ensures.globals ∙ ap₂ ◌||◌ c.new.ensures.local c.needed.ensures.local in
    let local2 = c.in_ok-arg-2.ensures.globals ∙ ap₂ ◌||◌ local1 c.needed-2.ensures.local in
    let local3 = c.in_ok-arg-3.ensures.globals ∙ ap₂ ◌||◌ local2 c.needed-3.ensures.local in
    let local4 = c.in_ok-arg-4.ensures.globals ∙ ap₂ ◌||◌ local3 c.needed-4.ensures.local in
    let local5 = c.in_ok-command.ensures.globals ∙ ap₂ ◌||◌ local4 c.new-2.ensures.optional.1 in
    let rule = c.needed.ensures in
    let one = c.in_ok-arg.ensures.shape rule.local ∙ ap₂ with_rule c.new.ensures.app rule.rule in
    let two = c.in_ok-arg-2.ensures.shape c.needed-2.ensures.local ∙ ap₂ with_rule one c.needed-2.ensures.rule in
    let three = c.in_ok-arg-3.ensures.shape c.needed-3.ensures.local ∙ ap₂ with_rule two c.needed-3.ensures.rule in
    let four = c.in_ok-arg-4.ensures.shape c.needed-4.ensures.local ∙ ap₂ with_rule three c.needed-4.ensures.rule in
    let five = c.in_ok-command.ensures.shape c.new-2.ensures.optional.1 ∙ ap₂ with_rule four c.new-2.ensures.rule in
    IfOk-weaker c.subcommand.result _ _
    (λ r h. h.shape local5 ∙ ap (λ (a : App). with_subcommand (app_of c.args.program) a.top) five) c.subcommand.ensures
