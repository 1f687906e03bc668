use Rattle.std.proofs.Common.{refl}
use Rattle.room_host.specs.Seen.{room_files}
use Rattle.room_world.proofs.Begun.{opens}
use Rattle.room_world.proofs.world.World.new.Goals as goal

pub returns-in-Ok-clause-world : goal.returns-in-Ok-clause-world
returns-in-Ok-clause-world g c told s stands =
    let fs = room_files (g.D.Disk.seen c.new.new.disk) in
    opens (record { hosting = c.in-Ok.host; clients = c.new-in-Ok.result; conns = c.new-in-Ok-2.result; opened = 0 }) s
    fs (g.D.Stopping.armed c.new.new.disk) (g.D.Stopping.way c.new.new.disk)
    (c.in-Ok.ensures.host told s stands fs) c.in-Ok.ensures.limits c.new.ensures.unarmed c.new-in-Ok.ensures
    c.new-in-Ok-2.ensures refl
