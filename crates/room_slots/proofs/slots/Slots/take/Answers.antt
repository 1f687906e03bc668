use Rattle.std.proofs.Common.{◌≡◌, IsSome, OnOk, refl, rules, subst, sym}
use Rattle.std.proofs.lemmas.Result.{IfOk-weaker}
use Rattle.std.specs.FinMap.{insert}
use Rattle.room_slots.specs.Slots.{as_map}
use Rattle.room_queues.proofs.Maps.{views}
use Rattle.room_slots.proofs.Received.{heard_in, heard_fresh}
use Rattle.room_slots.proofs.slots.Slots.take.Goals as goal

pub returns-in_default : goal.returns-in_default
returns-in_default g c mail =
    let same : as_map c.get_mut.follows.lender-at-none.entries ≡ c.args.self.now = search (rules, views) in
    heard_fresh c.self.inside.slots.entries _ _ c.args.line c.args.c c.args.k _ c.in_ok-slot.slot c.take-taken.new.self
    c.take-taken.result c.put.result c.self.view_is (sym c.in_default.ensures.value) c.in_ok-slot.ensures
    (c.take-taken.ensures mail) c.put.ensures.answer
    (subst (λ m. OnOk c.put.result (c.put.new.self ≡ insert m c.args.c c.take-taken.new.self)) same c.put.ensures.ok)

pub returns : goal.returns
returns g c mail =
    let q = c.take.new.self in
    IfOk-weaker c.take.result _ _ (λ t hears. heard_in c.self.inside.slots.entries _ _ c.args.line c.args.c c.args.k _
    c.in-Some.slot.now q t c.self.view_is (sym c.in-Some.ensures.value)
    ((c.get_mut.follows.holds q).3 (subst IsSome c.in-Some.ensures.value refl)).0 hears) (c.take.ensures mail)
