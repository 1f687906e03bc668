use Rattle.room_store.proofs.Anew.{compacts}
use Rattle.room_store.proofs.kept.renew.Goals as goal

pub returns-clause-compacts : goal.returns-clause-compacts
returns-clause-compacts g c told s kept ready =
    let e = c.renew.ensures in
    compacts g.D.Disk.seen g.D.Disk.moment g.D.Disk.images _ _ s _ _ _ _ c.valid_after.ensures
    (record {
      bound = e.bound;
      made = e.made told;
      kept = e.kept told;
      place = e.place;
      durable = e.durable told;
      counted = e.counted told;
      others = e.others told;
      any_moment = e.any_moment told;
      most = e.most told;
    }) kept ready
