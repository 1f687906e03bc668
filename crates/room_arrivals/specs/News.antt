-- What is new of the operations that a session sends.
use Rattle.std.specs.Prelude.{ℕ, List, [], ◌∷◌, Option, Some, None}
use Rattle.room_nodes.specs.declared.nodes.Op.{Op}
use Rattle.room_arrivals.specs.declared.news.News.{News}
use Rattle.room_arrivals.specs.declared.news.News.TheVariants.{Nothing, Gap, RunOn}

-- of those beyond the last clock, and where their clocks have a gap
abbrev pub news_in : List Op → Option (ℕ × ℕ) → News
news_in [] gap = Nothing
news_in (o ∷ os) (Some gap) = Gap gap.0 gap.1
news_in (o ∷ os) None = RunOn
