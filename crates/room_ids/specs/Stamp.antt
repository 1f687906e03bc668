-- Who made something, and as which of its own: an actor and a clock.
use Rattle.std.specs.Prelude.{ℕ}

pub record Stamp : Type 0 where
  pub actor : ℕ
  pub clock : ℕ
