use Rattle.std.proofs.Common.{subst, sym}
use Rattle.room_replay.specs.Files.{New}
use Rattle.room_model.specs.Lines as lines
use Rattle.room_model.specs.World.{step}
use Rattle.room_moves.specs.Reading.{GoneReads}
use Rattle.room_host.specs.Outcomes.{outs_in}
use Rattle.room_host.specs.Seen.{host_in}
use Rattle.room_world.specs.Did.{Did}
use Rattle.room_world.specs.Seen.{Peopled, world_in}
use Rattle.room_world.specs.Sending.{AreSent}
use Rattle.room_world.proofs.Connecting.{are_read, gone_by}
use Rattle.room_world.proofs.Sends.{delivered}
use Rattle.room_world.proofs.world.World.gone.Goals as goal

pub send_down-requires : goal.send_down-requires
send_down-requires g c told stops =
    let k = c.args.k in
    let h = host_in c.self.inside.host.server New in
    let read : GoneReads k h =
    subst (λ (x : Peopled). GoneReads k (host_in x.hosting.server New)) (sym c.self.view_is)
    (c.requires.read told stops New) in
    subst AreSent (sym (c.in_ok-outs.ensures.outs New)) (delivered (outs_in h k) (are_read h k read))

pub returns-clause-does : goal.returns-clause-does
returns-clause-does g c told stops fs fuse =
    let i = c.self.inside in
    let q : Peopled = record { hosting = i.host; clients = i.slots; conns = i.queues; opened = i.opened } in
    let new : Peopled =
    record { hosting = c.gone.new.self; clients = i.slots; conns = c.send_down.new.queues; opened = i.opened } in
    subst
    (λ ls. Did (step (world_in c.args.self.now fs fuse) c.args.number (lines.OfConnection c.args.k lines.Gone)) ls
    (world_in new fs fuse)) (sym c.new-2.ensures)
    (gone_by c.args.self.now q c.gone.new.self c.args.number c.args.k c.is_attached.result c.in_ok-outs.outs
    c.gone-2.new.self c.send_down.new.queues fs fuse (sym c.self.view_is) c.is_attached.ensures
    c.if-not-is_attached.false (c.in_ok-outs.ensures.host fs) (c.in_ok-outs.ensures.outs fs)
    c.in_ok-outs.ensures.limits c.gone-2.ensures c.in_ok-send_down.ensures (c.requires.read told stops fs))
