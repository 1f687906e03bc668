use Rattle.std.proofs.Common.{◌≡◌, IsSome, ap, refl, sym, subst, ◌∙◌}
use Rattle.room_model.specs.Presence.{Others}
use Rattle.room_presence.specs.Shown.{Shown}
use Rattle.std.proofs.lemmas.Result.{on_err_weaker}
use Rattle.room_presence.proofs.Maps.{kept_view}
use Rattle.room_presence.proofs.presence.Presence.patch.Goals as goal

pub returns-clause-err : goal.returns-clause-err
returns-clause-err c =
    on_err_weaker c.merge.result (λ same.
    ap (λ (os : Others). record { me = c.self.inside.me; others = os })
    (kept_view c.args.actor c.in-Some.shown.now c.merge.new.into c.self.inside.others.entries
    (c.get_mut.follows.lender c.merge.new.into).entries (sym c.in-Some.ensures.value) same
    ((c.get_mut.follows.holds c.merge.new.into).3 (subst IsSome c.in-Some.ensures.value refl)).0)
    ∙ c.self.view_is) c.merge.ensures.err
