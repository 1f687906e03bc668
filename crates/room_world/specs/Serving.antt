-- What the server's own lines write, and what then waits.
use Rattle.std.specs.Prelude.{ℕ, Bool, if◌then◌else◌, List, [], ◌∷◌}
use Rattle.std.specs.Ordering.{nat_cmp}
use Rattle.std.specs.FinMap.{FinMap}
use Rattle.room_host.specs.Outcomes.{start_shown}
use Rattle.room_host.specs.declared.outcomes.Started.{Started}
use Rattle.room_host.specs.declared.outcomes.Started.TheVariants.{Ran, Began, Failed}
use Rattle.room_model.specs.World.{Host, Conn}
use Rattle.room_queues.specs.Calls.{all_emptied}

-- a start, by the host after it

abbrev pub lines_started : Started → Host → List (List ℕ)
lines_started Ran h = []
lines_started Began h = start_shown h ∷ []
lines_started Failed h = start_shown h ∷ []

abbrev pub queues_started : Started → FinMap nat_cmp Conn → FinMap nat_cmp Conn
queues_started Ran qs = qs
queues_started Began qs = qs
queues_started Failed qs = all_emptied qs

-- a call by which the server was stopped, or wasn't
abbrev pub queues_if : Bool → FinMap nat_cmp Conn → FinMap nat_cmp Conn
queues_if stopped qs = if stopped then all_emptied qs else qs
