use Rattle.room_world.proofs.Drains.{stays_next}
use Rattle.room_world.proofs.world.World.once.Goals as goal

pub returns-in_err-down-in-Some-least_outbound-clause-images : goal.returns-in_err-down-in-Some-least_outbound-clause-images
returns-in_err-down-in-Some-least_outbound-clause-images g c told can =
    let d = g.D.Disk in
    let s = g.D.Stopping in
    stays_next d.seen s.armed s.way d.moment d.images c.args.self.now c.args.disk.now
    (λ f. g.met.D.Disk.seen_is_image c.args.disk.now f told) (c.requires.kept told)

pub returns-in_ok-down-in-Some-least_outbound-clause-images : goal.returns-in_ok-down-in-Some-least_outbound-clause-images
returns-in_ok-down-in-Some-least_outbound-clause-images g c told can =
    let d = g.D.Disk in
    let s = g.D.Stopping in
    stays_next d.seen s.armed s.way d.moment d.images c.args.self.now c.args.disk.now
    (λ f. g.met.D.Disk.seen_is_image c.args.disk.now f told) (c.requires.kept told)

pub returns-in-None-clause-images : goal.returns-in-None-clause-images
returns-in-None-clause-images g c told can =
    let d = g.D.Disk in
    let s = g.D.Stopping in
    stays_next d.seen s.armed s.way d.moment d.images c.args.self.now c.args.disk.now
    (λ f. g.met.D.Disk.seen_is_image c.args.disk.now f told) (c.requires.kept told)
