use Rattle.std.proofs.Common.{◌≡◌, ◌∷◌, ◌+◌, ◌∙◌, drop, sym, ap, arith}
use Rattle.std.proofs.lemmas.List.{drop_more}
use Rattle.room_log.specs.Taking.{take}
use Rattle.room_model.specs.Server.{act_all}
use Rattle.room_arrivals.specs.Serving.{server_of}
use Rattle.room_arrivals.proofs.Ending.{ending, goes_on, kept_then}
use Rattle.room_arrivals.proofs.acting.act_all.Goals as goal

pub loop-msg-preserved : goal.loop-msg-preserved
loop-msg-preserved g c =
    let l = c.loop-msg in
    let done = c.in_ok-waits.ensures in
    let msgs = c.args.msgs.now in
    let setting = c.args.setting.now in
    let actor = c.args.actor in
    let ops = c.args.ops.now in
    let first : drop l.msg-index msgs ≡ c.msg-item.result ∷ drop (l.msg-index + 1) msgs =
    drop_more msgs l.msg-index c.msg-item.result (omega arith)
    ∙ ap (λ y. y ∷ drop (l.msg-index + 1) msgs) (sym c.msg-item.is) in (
      c.act.ensures.group,
      done.session,
      done.seated,
      kept_then c.args.store.now l.store c.act.new.store l.invariant.3 c.act.ensures.keeps,
      λ u h.
          goes_on (server_of l.store setting l.draft.links) (server_of c.act.new.store setting c.act.new.draft.links)
          c.args.conn actor c.msg-item.result (drop (l.msg-index + 1) msgs) (drop l.msg-index msgs) l.waits
          c.in_ok-waits.waits (take l.store.state actor ops) (take c.act.new.store.state actor ops) l.draft.outs
          c.act.new.draft.outs l.draft.group.entries c.act.new.draft.group.entries
          (ending (act_all (server_of c.args.store.now setting c.args.draft.now.links) c.args.conn actor u msgs)
          c.args.draft.now.outs c.args.draft.now.group.entries) first (λ w i. done.serves w i) (λ w i. done.waits w i)
          (l.invariant.4 u h),
    )
