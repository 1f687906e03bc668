-- How the own operations are kept: all in one list, with the last clock of each issued batch.
use Rattle.std.specs.Prelude.{◌≡◌, ◌+◌, ◌-◌, ◌<◌, ◌≤◌, ℕ, Bool, true, false, if◌then◌else◌, nat_lt, List, [], ◌∷◌}
use Rattle.std.specs.Prelude.{length}
use Rattle.std.specs.Prelude.{take, drop, Option, Some, None}
use Rattle.room_json.specs.Limits.{max_whole}
use Rattle.room_nodes.specs.declared.nodes.Op.{Op}
use Rattle.room_nodes.specs.declared.nodes.Body.{Body}
use Rattle.room_nodes.specs.Shape.{Nodes}
use Rattle.room_nodes.specs.Steps.{fold}
use Rattle.room_log.specs.Log.{bodies_of, ops_from}
use Rattle.room_model.specs.Account.{Batch}
use Rattle.room_overlay.specs.Own.{Own, batch_after}

-- operations after a clock, cut at the last clocks of batches
abbrev pub cut : ℕ → List ℕ → List Body → List Batch
cut c [] bs = []
cut c (l ∷ ls) bs = batch_after c (take (l - c) bs) ∷ cut l ls (drop (l - c) bs)

-- the last of these clocks, or else c
abbrev pub last_of : ℕ → List ℕ → ℕ
last_of c [] = c
last_of c (l ∷ ls) = last_of l ls

abbrev pub Rising : ℕ → List ℕ → Type 0
Rising c [] = Unit {0}
Rising c (l ∷ ls) = (c < l) × Rising l ls

-- of rising clocks those above c
abbrev pub above : ℕ → List ℕ → List ℕ
above c [] = []
above c (l ∷ ls) = if nat_lt c l then l ∷ ls else above c ls

abbrev pub batch_in : Bool → List Body → Option (List Body)
batch_in true bs = Some bs
batch_in false bs = None

abbrev pub own_of : (actor told last : ℕ) → List ℕ → List Op → Bool → Own
own_of actor told last lasts ops open_now = record {
  actor = actor;
  told = told;
  issued = cut told lasts (bodies_of ops);
  batch = batch_in open_now (drop (last - told) (bodies_of ops));
}

-- the clocks run on; the batches end where they say, and what is behind them is the open batch's
pub record IsKept (actor told last : ℕ) (lasts : List ℕ) (ops : List Op) (open_now : Bool) : Type 0 where
  pub run : ops ≡ ops_from actor (told + 1) (bodies_of ops)
  pub rising : Rising told lasts
  pub end : last_of told lasts ≡ last
  pub within : last ≤ told + length ops
  pub bound : last ≤ max_whole
  pub closed : open_now ≡ false → told + length ops ≡ last

-- the shown tree is the fold; where there is none nothing is pending, and the confirmed one is shown
abbrev pub IsShown : Nodes → Option Nodes → List Body → Type 0
IsShown t None bs = bs ≡ []
IsShown t (Some u) bs = u ≡ fold t bs
