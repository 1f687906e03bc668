-- Where nobody is attached, nobody's session is missing.
use Rattle.std.proofs.Common.{◌≡◌, ℕ, sym, ◌∙◌, subst}
use Rattle.std.specs.Ordering.{nat_cmp}
use Rattle.std.specs.FinMap.{FinMap, get-empty}
use Rattle.room_model.specs.Server.{Link}
use Rattle.room_arrivals.specs.Seats.{AreSeated}
use Rattle.room_server.specs.Hosted.{no_links}
use Rattle.room_server.proofs.Groups.{none_some}

nobody : (n : ℕ) → AreSeated n no_links
unfolding AreSeated
nobody n k l e = absurd (none_some l (sym (get-empty nat_cmp k) ∙ e))

pub seated_none : (n : ℕ) (ls : FinMap nat_cmp Link) → ls ≡ no_links → AreSeated n ls
seated_none n ls is = subst (λ (m : FinMap nat_cmp Link). AreSeated n m) (sym is) (nobody n)
