use Rattle.std.proofs.Common.{IsSome, refl, subst, sym}
use Rattle.std.proofs.lemmas.Result.{on_ok_weaker}
use Rattle.room_slots.specs.Slots.{dialled_on}
use Rattle.room_slots.proofs.Called.{put_there}
use Rattle.room_slots.proofs.slots.Slots.dial.Goals as goal

pub returns-clause-ok : goal.returns-clause-ok
returns-clause-ok g c =
    let q = c.dial.new.self in
    on_ok_weaker c.dial.result (put_there (dialled_on c.args.k)
    c.self.inside.slots.entries _ _ c.args.c c.in-Some.slot.now q
    c.self.view_is (sym c.in-Some.ensures.value)
    ((c.get_mut.follows.holds q).3 (subst IsSome c.in-Some.ensures.value refl)).0) c.dial.ensures.ok
