-- A world that begins is the model's opening world.
use Rattle.std.proofs.Common.{◌≡◌, ℕ, Option, ap, ◌∙◌}
use Rattle.std.specs.Ordering.{nat_cmp}
use Rattle.std.specs.FinMap.{FinMap, empty}
use Rattle.room_arrivals.specs.Serving.{limits_of}
use Rattle.room_disk.specs.declared.disk.Stop.{Stop}
use Rattle.room_log.specs.Log.{State}
use Rattle.room_model.specs.Server.{Limits}
use Rattle.room_model.specs.World.{World, Conn, Fuse, Host, Running, first_limits, opening}
use Rattle.room_moves.specs.Fuses.{fuse_on}
use Rattle.room_replay.specs.Files.{Files}
use Rattle.room_host.specs.Outcomes.{begun}
use Rattle.room_host.specs.Seen.{Hosting, host_in}
use Rattle.room_slots.specs.Slots.{Clients}
use Rattle.room_world.specs.Seen.{Peopled, world_in}

abbrev made : Host → Limits → Option Fuse → Clients → FinMap nat_cmp Conn → World
made h l f cs qs = record { host = h; limits = l; fuse = f; clients = cs; conns = qs; opened = 0 }

pub opens : (p : Peopled) (s : State) (fs : Files) (armed : ℕ) (way : Stop)
    → host_in p.hosting.server fs ≡ Running (begun s first_limits) → limits_of p.hosting.limits ≡ first_limits
    → armed ≡ 0 → p.clients ≡ empty → p.conns ≡ empty → p.opened ≡ 0 → world_in p fs (fuse_on armed way) ≡ opening s
opens p s fs armed way host limits none clients conns opened =
    let h = host_in p.hosting.server fs in
    let l = limits_of p.hosting.limits in
    let f = fuse_on armed way in
    ap (λ (n : ℕ). record { host = h; limits = l; fuse = f; clients = p.clients; conns = p.conns; opened = n }) opened
    ∙ ap (λ x. made x l f p.clients p.conns) host
    ∙ ap (λ x. made (Running (begun s first_limits)) x f p.clients p.conns) limits
    ∙ ap (λ (n : ℕ). made (Running (begun s first_limits)) first_limits (fuse_on n way) p.clients p.conns) none
    ∙ ap (λ x. made (Running (begun s first_limits)) first_limits (fuse_on 0 way) x p.conns) clients
    ∙ ap (λ x. made (Running (begun s first_limits)) first_limits (fuse_on 0 way) empty x) conns
