use Rattle.std.proofs.Common.{IsSome, refl, subst, sym}
use Rattle.std.proofs.lemmas.Result.{on_ok_weaker}
use Rattle.room_model.specs.Calls.{resent}
use Rattle.room_model.specs.World.{with_account}
use Rattle.room_slots.proofs.Called.{put_there}
use Rattle.room_slots.proofs.slots.Slots.resend.Goals as goal

pub returns-clause-ok : goal.returns-clause-ok
returns-clause-ok g c =
    let q = c.resend.new.self in
    on_ok_weaker c.resend.result (put_there (λ p. with_account p (resent p.account))
    c.self.inside.slots.entries _ _ c.args.c c.in-Some.slot.now q
    c.self.view_is (sym c.in-Some.ensures.value)
    ((c.get_mut.follows.holds q).3 (subst IsSome c.in-Some.ensures.value refl)).0) c.resend.ensures.ok
