-- The group that is open leads to the state shown.
use Rattle.std.proofs.Common.{◌≡◌, List, ℕ, ap, ◌∙◌}
use Rattle.std.specs.Prelude.{Option, Some}
use Rattle.room_log.specs.Log.{State, Entry}
use Rattle.room_bytes.specs.Reading.{◌>>=◌}
use Rattle.room_bytes.specs.declared.entries.Format.TheVariants.{Two}
use Rattle.room_journal.specs.Rest.{body_of}
use Rattle.room_replay.specs.Files.{taken, followed}
use Rattle.room_store.specs.Stored.{Grouped, LeadsTo}

pub open_taken : (s t : State) (g : Grouped) (bytes : List ℕ) → LeadsTo s t g → bytes ≡ g.ready → taken Two s (body_of bytes) ≡ Some t
open_taken s t g bytes led same =
    ap (λ (l : List ℕ). taken Two s (body_of l)) same ∙ ap (λ (o : Option (List Entry)). o >>= followed s) led.reads ∙ led.follows
