use Rattle.std.proofs.Common.{refl}
use Rattle.std.proofs.lemmas.Result.{on_ok_weaker}
use Rattle.room_arrivals.specs.Serving.{server_of}
use Rattle.room_server.proofs.Taking.{takes_opened, takes_frame, takes_gone, ok_both}
use Rattle.room_server.proofs.turning.take.Goals as goal

pub returns-in-Opened-clause-serves : goal.returns-in-Opened-clause-serves
returns-in-Opened-clause-serves g c =
    let a = c.args in
    let v = server_of a.store.now a.setting.now a.draft.now.links in
    on_ok_weaker c.opened.result
    (takes_opened a.setting.now a.store.now a.draft.now a.came.now _ _ c.opened.new.links c.in-Opened.is)
    (c.opened.ensures.links v refl)

pub returns-in-Frame-clause-serves : goal.returns-in-Frame-clause-serves
returns-in-Frame-clause-serves g c =
    let a = c.args in
    on_ok_weaker c.arrive.result
    (takes_frame a.setting.now a.store.now a.draft.now a.came.now c.arrive.new.store c.arrive.new.draft _ _ c.in-Frame.is)
    c.arrive.ensures.serves

pub returns-in-Gone-clause-serves : goal.returns-in-Gone-clause-serves
returns-in-Gone-clause-serves g c =
    let a = c.args in
    let v = server_of a.store.now a.setting.now a.draft.now.links in
    on_ok_weaker c.gone.result
    (takes_gone a.setting.now a.store.now a.draft.now a.came.now _ c.gone.new.links c.gone.new.outs c.in-Gone.is)
    (ok_both _ _ c.gone.result (c.gone.ensures.links v refl) (c.gone.ensures.outs v refl))
