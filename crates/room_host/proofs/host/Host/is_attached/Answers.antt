use Rattle.std.proofs.Common.{◌∙◌, ap, sym}
use Rattle.room_host.specs.Seen.{Hosting}
use Rattle.room_host.proofs.Keeping.{none_attached}
use Rattle.room_host.proofs.host.Host.is_attached.Goals as goal

pub returns-in-None : goal.returns-in-None
returns-in-None g c fs =
    none_attached c.args.self.now.server fs c.args.k
    (ap (λ (h : Hosting). h.server) (sym c.self.view_is) ∙ c.in-None.is)
