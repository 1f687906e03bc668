-- Numbers of connections.
use Rattle.std.specs.Prelude.{◌≡◌, ℕ, ◌+◌, ◌^◌, ◌<◌}
use Rattle.room_hub.specs.declared.hub.Event.{Event}
use Rattle.room_hub.specs.declared.hub.Event.TheVariants.{Opened, Frame, Gone, Quiet, End}

-- the next number is given, a u64
pub record IsNumbered (conn before now : ℕ) : Type 0 where
  pub next : conn ≡ before + 1
  pub last : now ≡ conn
  pub bound : conn < 2 ^ 64

-- by an event; none but `Opened` gives one
abbrev pub Numbers : ℕ → ℕ → Event → Type 0
Numbers before now (Opened conn key) = IsNumbered conn before now
Numbers before now (Frame conn text) = now ≡ before
Numbers before now (Gone conn) = now ≡ before
Numbers before now Quiet = now ≡ before
Numbers before now End = ⊥
