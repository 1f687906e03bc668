use Rattle.std.proofs.Common.{◌≡◌, IfOk, IsSome, refl, rules, subst, sym}
use Rattle.std.proofs.lemmas.Result.{IfOk-weaker}
use Rattle.room_model.specs.Lines as model
use Rattle.room_slots.specs.Slots.{as_map, kept}
use Rattle.room_slots.proofs.Called.{acted_in, acted_fresh}
use Rattle.room_queues.proofs.Maps.{views}
use Rattle.room_slots.proofs.slots.Slots.presence.Goals as goal

pub returns-in_default : goal.returns-in_default
returns-in_default g c =
    let same : as_map c.get_mut.follows.lender-at-none.entries ≡ c.args.self.now = search (rules, views) in
    acted_fresh c.self.inside.slots.entries c.args.self.now c.keep.new.self c.args.line c.args.c
    (model.Presence c.args.patch.now c.args.in_history) c.in_ok-slot.slot c.presence-said.new.self
    c.presence-said.result c.keep.result c.self.view_is (sym c.in_default.ensures.value) c.in_ok-slot.ensures
    c.presence-said.ensures c.keep.ensures.answer
    (subst (λ m. IfOk c.keep.result (λ t. c.keep.new.self ≡ kept m c.args.c c.presence-said.new.self t)) same
    c.keep.ensures.ok)

pub returns : goal.returns
returns g c =
    let q = c.presence.new.self in
    IfOk-weaker c.presence.result _ _ (λ t acts. acted_in c.self.inside.slots.entries _ _ c.args.line c.args.c
    (model.Presence c.args.patch.now c.args.in_history)
    c.in-Some.slot.now q t c.self.view_is (sym c.in-Some.ensures.value)
    ((c.get_mut.follows.holds q).3 (subst IsSome c.in-Some.ensures.value refl)).0 acts) c.presence.ensures
