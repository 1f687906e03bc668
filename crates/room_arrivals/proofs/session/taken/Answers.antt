use Rattle.std.proofs.Common.{◌∙◌, sym, rules}
use Rattle.room_log.specs.Taking.{take}
use Rattle.room_model.specs.Server.{shut, taken}
use Rattle.room_arrivals.specs.Serving.{server_of}
use Rattle.room_arrivals.specs.declared.news.News.TheVariants.{Gap, RunOn}
use Rattle.room_arrivals.proofs.Clocks.{news_is}
use Rattle.room_arrivals.proofs.Same.{answers_so, gap_closes, full_closes}
use Rattle.room_arrivals.proofs.session.taken.Goals as goal

pub returns-then-count-limits-clause-serves : goal.returns-then-count-limits-clause-serves
returns-then-count-limits-clause-serves g c =
    let s = c.args.store.now in
    let v = server_of s c.args.setting.now c.args.draft.now.links in
    let takes = news_is s.state c.args.actor c.args.ops.now RunOn (sym c.in-RunOn.is ∙ c.news_for.ensures) in
    answers_so c.shut-then-count-limits.result c.args.setting.now s c.args.draft.now c.shut-then-count-limits.new.draft
    (λ x. shut x c.args.conn c.args.link.now 4406 c.in_ok-text-in-RunOn.text)
    (λ x. taken x c.args.conn c.args.link.now c.args.actor c.args.msgs.now (take x.state c.args.actor c.args.ops.now))
    (full_closes v c.args.conn c.args.link.now c.args.actor c.args.msgs.now (take s.state c.args.actor c.args.ops.now)
    takes.0 c.in_ok-text-in-RunOn.text takes.1 (search rules) (search rules))
    (c.shut-then-count-limits.ensures.answers s c.args.setting.now)

pub returns-in_ok-text-in-Gap-clause-serves : goal.returns-in_ok-text-in-Gap-clause-serves
returns-in_ok-text-in-Gap-clause-serves g c =
    let s = c.args.store.now in
    let v = server_of s c.args.setting.now c.args.draft.now.links in
    answers_so c.shut.result c.args.setting.now s c.args.draft.now c.shut.new.draft
    (λ x. shut x c.args.conn c.args.link.now 4402 c.in_ok-text-in-Gap.text)
    (λ x. taken x c.args.conn c.args.link.now c.args.actor c.args.msgs.now (take x.state c.args.actor c.args.ops.now))
    (gap_closes v c.args.conn c.args.link.now c.args.actor c.args.msgs.now (take s.state c.args.actor c.args.ops.now)
    c.in-Gap.expected c.in-Gap.got c.in_ok-text-in-Gap.text
    (news_is s.state c.args.actor c.args.ops.now (Gap c.in-Gap.expected c.in-Gap.got)
    (sym c.in-Gap.is ∙ c.news_for.ensures)) c.in_ok-text-in-Gap.ensures)
    (c.shut.ensures.answers s c.args.setting.now)
